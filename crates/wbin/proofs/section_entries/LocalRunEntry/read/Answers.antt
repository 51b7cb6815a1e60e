use Rattle.std.proofs.lemmas.Result.{err_from_is_err_and}
use Rattle.wbin.specs.inside.Reading.{Reads}
use Rattle.wbin.proofs.section_entries.LocalRunEntry.read.Goals as goal

pub returns-in_err-count : goal.returns-in_err-count
unfolding Reads
returns-in_err-count c =
    let p = err_from_is_err_and c.from_residual.result c.from_residual.ensures.1 in
    rw (p.1, p.2) c.in_err-count.ensures
