-- Which bytes are a name or a text, and the order of names.
use Rattle.std.specs.Prelude.{ℕ, Bool, ◌&&◌, ◌||◌, ◌==◌, nat_le, List, length}
use Rattle.std.specs.List.{list_all}
use Rattle.std.specs.Ordering.{is_lt, nat_cmp}
use Rattle.std.specs.Cmp.Lexicographic.{slice_cmp}

-- the byte is one of those from low to high
abbrev pub is_between : ℕ → ℕ → ℕ → Bool
is_between low high b = nat_le low b && nat_le b high

-- an ASCII digit or letter, or one of `-`, `.`, `/` and `_`
abbrev pub is_name_byte : ℕ → Bool
is_name_byte b =
    is_between 48 57 b || is_between 65 90 b || is_between 97 122 b
    || (b == 45) || (b == 46) || (b == 47) || (b == 95)

-- a text: at most 63 such bytes
unfoldable pub is_text : List ℕ → Bool
is_text bytes = nat_le (length bytes) 63 && list_all is_name_byte bytes

-- a name: a text that has a byte
unfoldable pub is_name : List ℕ → Bool
is_name bytes = nat_le 1 (length bytes) && is_text bytes

-- a name comes before another by its bytes: the first that differs is lesser, or it is a front of
-- the other
abbrev pub is_before : List ℕ → List ℕ → Bool
is_before a b = is_lt (slice_cmp nat_cmp a b)
