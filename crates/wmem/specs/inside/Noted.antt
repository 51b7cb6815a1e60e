-- Which pages are noted: a flag a page, and a list of the pages whose flag is set.
use Rattle.std.specs.Prelude.{◌≡◌, ℕ, ◌-◌, ◌/◌, ◌<◌, ◌≤◌, Bool, true, false, List, [], ◌++◌, length, replicate, slice_index_or, Contains, All, count_by, refl}
use Rattle.std.specs.Coded.{Coded, code_by, coded×, coded_ℕ, coded_bool, coded_list}

-- a flag a page, pages in the order in which they were noted, and how many pages there is room for
pub record Noted : Type 0 where
  pub flags : List Bool
  pub order : List ℕ
  pub room : ℕ

-- stored as the tuple of its fields
abbrev pub noted_code : Coded Noted
noted_code =
    code_by (List Bool × (List ℕ × ℕ)) (coded× (coded_list coded_bool) (coded× (coded_list coded_ℕ) coded_ℕ)) (λ n. (n.flags, (n.order, n.room))) (λ p. record { flags = p.0; order = p.1.0; room = p.1.1 }) (λ _. refl)

-- a flag as it is
abbrev pub is_set : Bool → Bool
is_set flag = flag

-- no pages yet, and room for so many
abbrev pub no_pages : ℕ → Noted
no_pages room = record { flags = []; order = []; room = room }

-- there are so many pages at least: those that are new aren't noted
abbrev pub with_pages : Noted → ℕ → Noted
with_pages n pages = record n { flags = n.flags ++ replicate (pages - length n.flags) false }

-- so many of the large pages, each of sixteen of these, have a noted one: where one hasn't, none of
-- its sixteen has its flag
pub record AreIn (flags : List Bool) (count : ℕ) : Type 0 where
  pub large : List Bool
  pub many : count_by is_set large ≡ count
  pub unset : (page : ℕ) → slice_index_or large (page / 16) false ≡ false → slice_index_or flags page false ≡ false

-- the list has each noted page, and nothing but pages; it isn't longer than there are noted pages
pub record IsListed (n : Noted) : Type 0 where
  pub covers : (page : ℕ) → slice_index_or n.flags page false ≡ true → Contains n.order page
  pub within : All (λ page. page < length n.flags) n.order
  pub few : length n.order ≤ count_by is_set n.flags
