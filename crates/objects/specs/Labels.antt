-- The labels that a row has of an object: first those that are told beside its own, then of its own
-- those that the site's rules read, then the others as far as there is room, each in the order of
-- their keys. One of its own gives way to one that is told under its key.
use Rattle.std.specs.Prelude.{ℕ, suc, ◌+◌, ◌==◌, Bool, true, not, ◌&&◌, ◌||◌, List, [], ◌∷◌, ◌++◌, length, nat_le, nat_lt, bytes_eq, codes, Option, Some, None, option_and_then, Result, Ok, Err, if◌then◌else◌}
use Rattle.std.specs.List.{list_any, slice_split}
use Rattle.serde_json.specs.Data.{Data, Members, no_members, member}
use Rattle.serde_json.specs.Find.{as_str}
use Rattle.quant.specs.declared.limits.TheConstants.{MAX_LABELS}
use Rattle.quant.specs.declared.objects.Label.{Label}
use Rattle.objects.specs.declared.fault.Why.TheVariants.{BadName, TooMany}
use Rattle.objects.specs.LeftOut.{Fault, left_out, refused}
use Rattle.objects.specs.Quantity.{◌>>=◌}
use Rattle.objects.specs.Reading.{members_of, has}
use Rattle.objects.specs.Sayable.{says_label}
use Rattle.objects.specs.Site.{Site}

-- what is read of an object, and the names of what is left out
pub record Kept (A : Type 0) : Type 0 where
  pub item : A
  pub left_out : List ℕ

-- one more item behind others, or the name of one that is left out
abbrev pub with_item : {A : Type 0} → (what name : List ℕ) → Kept (List A) → Option A → Kept (List A)
with_item what name kept None = record { item = kept.item; left_out = kept.left_out ++ left_out what name }
with_item what name kept (Some x) = record { item = kept.item ++ x ∷ []; left_out = kept.left_out }

-- a label, where a row can have it behind others
abbrev pub fitting : List Label → Label → Option Label
fitting before label = if nat_lt (length before) MAX_LABELS && says_label before label then Some label else None

unfoldable pub label_of : List Label → (key : List ℕ) → Data → Option Label
label_of before key value = option_and_then (λ text. fitting before (record { key = key; value = text })) (as_str value)

-- whether a text names a key: its names have commas (44) between them
abbrev pub is_comma : ℕ → Bool
is_comma byte = byte == 44

unfoldable pub is_named : (names key : List ℕ) → Bool
is_named names key = nat_le 1 (length names) && list_any (λ name. bytes_eq name key) (slice_split is_comma names)

-- labels of an object's members, behind others: each of them, or there is no row
abbrev pub behind : List Label → Option Label → Result (List Label) Fault
behind before None = Err (refused BadName (codes "labels"))
behind before (Some label) = Ok (before ++ label ∷ [])

-- whether a label is told first: each of those that are told beside an object's own, and of its own, as a site wants
-- them, those that are named
abbrev pub is_first : (own : Option Site) → (key : List ℕ) → Bool
is_first None key = true
is_first (Some site) key = is_named site.labels key && not (has site.beside key)

unfoldable pub if_first : (own : Option Site) → List Label → (key : List ℕ) → Data → Result (List Label) Fault
if_first own before key value = if is_first own key then behind before (label_of before key value) else Ok before

abbrev pub first_labels : (own : Option Site) → List Label → Members → Result (List Label) Fault
first_labels own before no_members = Ok before
first_labels own before (member key value rest) = if_first own before key value >>= λ more. first_labels own more rest

-- those that aren't named, behind others
unfoldable pub unless_named : Site → Kept (List Label) → (key : List ℕ) → Data → Kept (List Label)
unless_named site kept key value =
    if is_named site.labels key || has site.beside key then kept else with_item (codes "label ") key kept (label_of kept.item key value)

abbrev pub other_labels : Site → Kept (List Label) → Members → Kept (List Label)
other_labels site kept no_members = kept
other_labels site kept (member key value rest) = other_labels site (unless_named site kept key value) rest

-- how many members there are
abbrev pub count_members : Members → ℕ
count_members no_members = 0
count_members (member key value rest) = suc (count_members rest)

-- the labels of an object. Where there are more than a row has room for and none are named, nobody
-- knows which of them count: there is no row then
abbrev pub all_labels : Site → (left : List ℕ) → (beside found : Members) → Result (Kept (List Label)) Fault
all_labels site left beside found = do
  told ← first_labels None [] beside
  first ← first_labels (Some site) told found
  Ok (other_labels site (record { item = first; left_out = left }) found)

abbrev pub have_room : (beside found : Members) → Bool
have_room beside found = nat_le (count_members beside + count_members found) MAX_LABELS

unfoldable pub row_labels : Site → (left : List ℕ) → (found : Members) → Result (Kept (List Label)) Fault
row_labels site left found = do
  beside ← members_of (codes "labels") site.beside
  if have_room beside found || nat_le 1 (length site.labels) then all_labels site left beside found else Err (refused TooMany (codes "labels"))
