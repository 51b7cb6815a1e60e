-- As much of a text as a fault's line has room for.
use Rattle.std.specs.Prelude.{ℕ, ◌==◌, ◌||◌, nat_lt, List, map, take, if◌then◌else◌}

-- a question mark stands for a control character
abbrev pub shown_byte : ℕ → ℕ
shown_byte byte = if nat_lt byte 32 || byte == 127 then 63 else byte

-- its first 160 bytes
unfoldable pub excerpt_of : (text : List ℕ) → List ℕ
excerpt_of text = map shown_byte (take 160 text)
