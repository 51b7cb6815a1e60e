-- What is left out is named in texts of JSON: no byte in them needs an escape, and none ends a
-- line.
use Rattle.std.specs.Prelude.{◌≡◌, ℕ, ◌==◌, nat_le, Bool, true, ◌&&◌, not, List, [], ◌∷◌, ◌++◌, length, codes, flat_map}
use Rattle.std.specs.List.{list_all}
use Rattle.quant.specs.declared.version.Version.{Version}
use Rattle.objects.specs.LeftOut.{told_names}
use Rattle.objects.specs.Site.{Site}
use Rattle.objects.specs.Told.{told}

-- a byte that stands for itself in a text (RFC 8259, 7): from the space to the tilde, but for the
-- quotation mark and the backslash
abbrev pub stands_for_itself : ℕ → Bool
stands_for_itself byte = nat_le 32 byte && nat_le byte 126 && not (byte == 34) && not (byte == 92)

-- a text in quotation marks, behind a comma and a space
abbrev pub in_marks : List ℕ → List ℕ
in_marks text = codes ", " ++ 34 ∷ text ++ 34 ∷ []

-- no text has more bytes
abbrev pub is_short : List ℕ → Bool
is_short text = nat_le (length text) 381

-- such texts, one behind the other
pub record AreTexts (left_out : List ℕ) : Type 0 where
  pub texts : List (List ℕ)
  pub plain : list_all (list_all stands_for_itself) texts ≡ true
  pub short : list_all is_short texts ≡ true
  pub are : left_out ≡ flat_map in_marks texts

abbrev pub NamesAreTexts : Type 0
NamesAreTexts =
    (site : Site) (by_uid : Bool) (version : Version) (line : List ℕ) → AreTexts (told_names (told site by_uid version line).left_out)
