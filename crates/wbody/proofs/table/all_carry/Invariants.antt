use Rattle.std.proofs.Common.{◌≡◌, ℕ, ◌≤◌, List, length, drop}
use Rattle.wcode.specs.Grammar.{SpellsIndices}
use Rattle.wbody.specs.Context.{at_most_one}
use Rattle.wbody.specs.inside.Scope.{labels_of}
use Rattle.wbody.proofs.TableLabels.{Passed}
use Rattle.wbody.proofs.table.all_carry.Given as goal

-- those so far carry it, and the others stand from here on
abbrev pub invariant-loop-i : goal.invariant-loop-i
invariant-loop-i l =
    (l.place ≤ length l.bytes)
    × ((labels rest : List ℕ) → l.count ≡ length labels → SpellsIndices (drop l.at l.bytes) labels rest
    → Passed (labels_of l.levels l.scope.result) (at_most_one l.wanted) labels (drop l.place l.bytes) rest l._i)
