use Rattle.std.proofs.Common.{◌≡◌, ℕ, Some, vec_len}
use Rattle.std.specs.Prelude.{slice_get}
use Rattle.wbody.specs.declared.notes.Notes.{Notes}
use Rattle.wbody.specs.BodyTyped.{BodyTyped}
use Rattle.wtype.proofs.bodies.type_bodies.Given as goal

-- there are notes for each body so far, and they are the body's
abbrev pub invariant-bodies : goal.invariant-bodies
invariant-bodies l =
    (vec_len l.notes ≡ l.place)
    × ((k : ℕ) (n : Notes) → slice_get l.notes.items k ≡ Some n → BodyTyped l.decoded k n)
