use Rattle.std.proofs.Common.{map}
use Rattle.wbin.specs.inside.Reading.{Reads}
use Rattle.wbin.proofs.Vectors.{vector_reads}
use Rattle.wbin.proofs.placed.read_vector.Goals as goal

pub returns-clause-read : goal.returns-clause-read
unfolding Reads
returns-clause-read g c =
    vector_reads g.P.Part.spells (λ v. map (g.P.Part.seen c.args.bytes.now) v.items) c.args.bytes.now c.args.at c.in_ok-count.count c.in_ok-count.first c.read_entries.result c.in_ok-count.ensures.read.1 c.read_entries.ensures.read
