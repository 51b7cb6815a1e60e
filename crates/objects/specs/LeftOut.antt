-- What a line doesn't tell of an object, by name: items of an array of JSON, each behind a comma
-- and a space.
use Rattle.std.specs.Prelude.{ℕ, zero, suc, ◌==◌, nat_le, nat_lt, Bool, ◌&&◌, List, [], ◌∷◌, ◌++◌, length, codes, if◌then◌else◌}
use Rattle.std.specs.List.{list_all}
use Rattle.quant.specs.Name.{is_name_byte}
use Rattle.objects.specs.declared.fault.QuantityFault.TheVariants as amounts
use Rattle.objects.specs.declared.fault.Why.{Why}
use Rattle.objects.specs.declared.fault.Why.TheVariants.{LongLine, NotJson, UnknownEvent, IsList, BadField, BadName, Quantity, TooMany, PodResources, TooLarge}

-- a name as it stands there: names of other bytes than a script's may have aren't shown, nor any of
-- more than 317, which is the most that a key of the API has (a prefix of 253, a slash, and 63
-- more)
abbrev pub shown : List ℕ → List ℕ
shown name = if nat_le (length name) 317 && list_all is_name_byte name then name else codes "?"

-- one that is left out: what it is, and its own name
unfoldable pub left_out : (what name : List ℕ) → List ℕ
left_out what name = codes ", " ++ 34 ∷ what ++ shown name ++ 34 ∷ []

-- one that has no name
abbrev pub left_out_if : Bool → (what : List ℕ) → List ℕ
left_out_if is what = if is then left_out what [] else []

-- why something is refused, in front of the name of its field
abbrev pub why_text : Why → List ℕ
why_text LongLine = codes "a line of more than 2 MiB"
why_text NotJson = codes "no JSON"
why_text UnknownEvent = codes "an event of another type"
why_text IsList = codes "a list, whose items are to stand on lines of their own"
why_text BadField = codes "a field of another type: "
why_text BadName = codes "not a name or text of a script: "
why_text (Quantity amounts.NotAQuantity) = codes "no quantity: "
why_text (Quantity amounts.FarExponent) = codes "an exponent of more than two digits: "
why_text (Quantity amounts.Negative) = codes "an amount below 0: "
why_text (Quantity amounts.TooLarge) = codes "an amount above its limit: "
why_text TooMany = codes "too many items: "
why_text PodResources = codes "resources of the whole pod"
why_text TooLarge = codes "what it asks for in all"

-- a fault: what is refused, in the field of this name or in none; and how it is told where nothing
-- else can be
pub record Fault : Type 0 where
  pub why : Why
  pub field : List ℕ

abbrev pub refused : Why → (field : List ℕ) → Fault
refused why field = record { why = why; field = field }

unfoldable pub fault_text : Fault → List ℕ
fault_text fault = left_out (why_text fault.why) fault.field

-- names with so many quotation marks at most, of which each has two
abbrev pub up_to_marks : (marks : ℕ) → List ℕ → List ℕ
up_to_marks zero names = []
up_to_marks (suc marks) [] = []
up_to_marks (suc marks) (byte ∷ names) = byte ∷ up_to_marks (if byte == 34 then marks else suc marks) names

-- the first 256 names, and where there are more that there are others
unfoldable pub told_names : List ℕ → List ℕ
told_names names =
    up_to_marks 512 names ++ left_out_if (nat_lt (length (up_to_marks 512 names)) (length names)) (codes "others")
