use Rattle.std.specs.Prelude.{All}
use Rattle.wbin.proofs.Vectors.{HasEach}
use Rattle.wbin.proofs.placed.read_entries.Given as goal

abbrev pub invariant-loop-i : goal.invariant-loop-i
invariant-loop-i g l = record {
  each : HasEach g.P.Part.spells (g.P.Part.seen l.bytes) l.bytes l.at l.entries.items l.place l._i;
  placed : All (g.P.Part.placed l.bytes) l.entries.items;
}
