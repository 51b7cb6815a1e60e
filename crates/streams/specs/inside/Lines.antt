-- How a piece of what was read goes to a line.
use Rattle.std.specs.Prelude.{◌≡◌, ℕ, Bool, true, false, List, [], ◌∷◌, ◌++◌}

-- a piece of a line was taken off the front: up to its newline, or all that was there
abbrev pub TakesPiece : Bool → List ℕ → List ℕ → List ℕ → Type 0
TakesPiece true old new text = old ≡ text ++ 10 ∷ new
TakesPiece false old new text = (old ≡ text) × (new ≡ [])
