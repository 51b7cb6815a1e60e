-- The lines of a script.
use Rattle.std.specs.Prelude.{◌≡◌, ℕ, ◌==◌, Bool, false, List, [], ◌∷◌, ◌++◌, length, take, Option, Some, None, ⊤, if◌then◌else◌}
use Rattle.std.specs.List.{slice_split, All}

abbrev pub is_newline : ℕ → Bool
is_newline b = b == 10

-- the parts, but for a last one that is empty
abbrev pub without_empty_end : List (List ℕ) → List (List ℕ)
without_empty_end [] = []
without_empty_end (part ∷ []) = if length part == 0 then [] else part ∷ []
without_empty_end (part ∷ next ∷ parts) = part ∷ without_empty_end (next ∷ parts)

-- the lines, without their newlines: what stands between newlines, and behind the last one what is
-- there
unfoldable pub lines_of : List ℕ → List (List ℕ)
lines_of script = without_empty_end (slice_split is_newline script)

-- a line of these parts, with its newline
abbrev pub line_of : List ℕ → List ℕ
line_of text = text ++ 10 ∷ []

-- no newline is in it
abbrev pub IsLine : List ℕ → Type 0
IsLine text = All (λ b. is_newline b ≡ false) text

-- where the text is known, its first line was taken off, of which the first so many bytes are kept
-- as `line`
abbrev pub TakesFront : (most : ℕ) → Option (List ℕ) → Option (List ℕ) → List ℕ → Type 0
TakesFront most None new line = ⊤
TakesFront most (Some old) None line = ⊥
TakesFront most (Some old) (Some new) line = (text : List ℕ) × (line ≡ take most text) × (lines_of old ≡ text ∷ lines_of new)

-- the same, where what a script's line may have and one byte more is kept
abbrev pub TakesLine : Option (List ℕ) → Option (List ℕ) → List ℕ → Type 0
TakesLine old new line = TakesFront 65537 old new line
