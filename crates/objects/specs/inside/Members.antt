-- The members of an object that may be absent.
use Rattle.std.specs.Prelude.{ℕ, List, Option, Some, None}
use Rattle.serde_json.specs.Data.{Members, no_members}
use Rattle.objects.specs.Labels.{Kept}

abbrev pub members_or_none : Option Members → Members
members_or_none None = no_members
members_or_none (Some members) = members

-- what a reader has put into a row and beside it
abbrev pub kept : {A : Type 0} → (item : A) → (left_out : List ℕ) → Kept A
kept item left_out = record { item = item; left_out = left_out }
