-- Lines that begin with two spaces, and a text without them.
use Rattle.std.specs.Prelude.{◌≡◌, ℕ, ◌==◌, ◌&&◌, Bool, false, List, [], ◌∷◌, if◌then◌else◌}
use Rattle.std.specs.List.{All, flat_map}
use Rattle.streams.specs.Lines.{lines_of, IsLine, line_of}

-- whether a line begins with two spaces
abbrev pub is_indented : List ℕ → Bool
is_indented [] = false
is_indented (first ∷ []) = false
is_indented (first ∷ second ∷ line) = (first == 32) && (second == 32)

-- whole lines, each with no newline in it, that all begin with two spaces, or of which none does
abbrev pub AreLines : (indented : Bool) → List ℕ → Type 0
AreLines indented text = (lines : List (List ℕ)) × (text ≡ flat_map line_of lines) × All (λ line. IsLine line × (is_indented line ≡ indented)) lines

-- a line that stays: one that begins with two spaces doesn't
abbrev pub unless_indented : List ℕ → List ℕ
unless_indented line = if is_indented line then [] else line_of line

-- a text of whole lines without those that begin with two spaces
unfoldable pub without_indented : List ℕ → List ℕ
without_indented text = flat_map unless_indented (lines_of text)
