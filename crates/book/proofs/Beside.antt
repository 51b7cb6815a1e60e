-- What stands beside the rows of nodes: a list with an amount for each name, in the order of the
-- rows.
use Rattle.std.proofs.Common.{◌≡◌, ℕ, zero, suc, ◌<◌, true, false, List, [], ◌∷◌, map, length, get_or, set, refl, sym, ap, subst, ◌∙◌, inl, inr, arith}
use Rattle.std.specs.declared.cmp.Ordering.TheVariants.{Less, Equal}
use Rattle.std.specs.Ordering.{ordering_reverse}
use Rattle.std.specs.Cmp.{tied_itself}
use Rattle.std.specs.Cmp.Lexicographic.{nat_list_cmp_total, bytes_decides}
use Rattle.std.specs.List.{insert, remove}
use Rattle.std.specs.Str.{bytes_eq}
use Rattle.std.specs.FinMap.{from_sorted, entries}
use Rattle.std.proofs.lemmas.Bool.{cases_lt}
use Rattle.std.proofs.lemmas.List.{get_or-map, set-get_or, map-set}
use Rattle.quant.specs.declared.amount.Res.{Res}
use Rattle.quant.specs.declared.objects.Node.{Node}
use Rattle.book.specs.Cluster.{name_cmp, Nodes}
use Rattle.book.specs.Rows.{Rows, named_row, named, IsRowOf, IsGapFor}
use Rattle.book.specs.inside.Rows.{IsInOrder}
use Rattle.book.specs.inside.Tables.{NodeTable, IsShown, IsAlikeBut}
use Rattle.book.proofs.Put.{both_true, earlier_less}
use Rattle.book.proofs.RowLemmas.{same_name, entries_rows}

-- an amount for each row's name
abbrev pub beside : (List ℕ → Res) → Rows → List Res
beside f rows = map (λ row. f row.name) rows

-- a table of these rows
abbrev pub table : Nodes → ℕ → List Res → NodeTable
table nodes room used = record { map = nodes; room = room; used = used }

module _ (f : List ℕ → Res) where
  -- an amount for each name
  by_name : (rows : Rows) → map (λ e. f e.0) (named rows) ≡ beside f rows
  by_name [] = refl
  by_name (row ∷ rows) = ap (λ l. f row.name ∷ l) (by_name rows)

  -- the map that rows in order stand for has the amounts in their order
  in_table : (rows : Rows) → IsInOrder rows → map (λ e. f e.0) (entries (from_sorted {R = name_cmp} (named rows))) ≡ beside f rows
  in_table rows sorted = ap (map (λ e. f e.0)) (entries_rows rows sorted []) ∙ by_name rows

  -- what a table shows stands beside its rows
  pub opened : (rows : Rows) (room : ℕ) (used : List Res) (t : NodeTable) → IsInOrder rows → table (from_sorted (named rows)) room used ≡ t → IsShown f t → used ≡ beside f rows
  opened rows room used t sorted is shown = subst (IsShown f) (sym is) shown ∙ in_table rows sorted

  -- and what stands beside the rows is shown
  pub closed : (rows : Rows) (room : ℕ) (used : List Res) → IsInOrder rows → used ≡ beside f rows → IsShown f (table (from_sorted (named rows)) room used)
  closed rows room used sorted is = is ∙ sym (in_table rows sorted)

  -- a row comes
  pub beside_come : (rows : Rows) (at : ℕ) (row : Node) → beside f (insert rows at row) ≡ insert (beside f rows) at (f row.name)
  beside_come [] zero row = refl
  beside_come [] (suc at) row = refl
  beside_come (r ∷ rows) zero row = refl
  beside_come (r ∷ rows) (suc at) row = ap (λ l. f r.name ∷ l) (beside_come rows at row)

  -- a row goes
  pub beside_gone : (rows : Rows) (at : ℕ) → beside f (remove rows at) ≡ remove (beside f rows) at
  beside_gone [] zero = refl
  beside_gone [] (suc at) = refl
  beside_gone (r ∷ rows) zero = refl
  beside_gone (r ∷ rows) (suc at) = ap (λ l. f r.name ∷ l) (beside_gone rows at)

  -- a row takes the place of one with its name
  pub beside_again : (rows : Rows) (at : ℕ) (row : Node) → IsRowOf rows row.name at → beside f (set rows at row) ≡ beside f rows
  beside_again rows at row is =
      map-set (λ (r : Node). f r.name) rows at row
      ∙ ap (set (beside f rows) at) (ap f (sym (same_name _ _ (is.same row))) ∙ sym (get_or-map (λ (r : Node). f r.name) rows at row (f row.name) is.in_range))
      ∙ set-get_or (beside f rows) at (f row.name)

-- a name that is less than another isn't it
pub apart : (a b : List ℕ) → name_cmp a b ≡ Less → bytes_eq a b ≡ false
apart a b less = elim (bytes_eq a b) as (λ v. bytes_eq a b ≡ v → v ≡ false) [
  | true ↦ λ e. let same : Equal ≡ Less = sym (tied_itself nat_list_cmp_total a) ∙ ap (name_cmp a) ((bytes_decides a b).0 e) ∙ less in absurd (cc)
  | false ↦ λ e. refl
] refl

-- and so is one that is greater
pub apart_back : (a b : List ℕ) → name_cmp b a ≡ Less → bytes_eq a b ≡ false
apart_back a b less = elim (bytes_eq a b) as (λ v. bytes_eq a b ≡ v → v ≡ false) [
  | true ↦ λ e. let same : Equal ≡ Less = sym (tied_itself nat_list_cmp_total a) ∙ ap (λ n. name_cmp n a) ((bytes_decides a b).0 e) ∙ less in absurd (cc)
  | false ↦ λ e. refl
] refl

module _ (f g : List ℕ → Res) (name : List ℕ) (alike : IsAlikeBut name f g) where
  -- the amounts of rows with other names stay
  beside_others : (rows : Rows) → ((j : ℕ) (d : Node) → j < length rows → bytes_eq name (get_or rows j d).name ≡ false) → beside f rows ≡ beside g rows
  beside_others [] none = refl
  beside_others (r ∷ rows) none =
      ap (λ a. a ∷ beside f rows) (sym (alike r.name (none 0 r (omega arith))))
      ∙ ap (λ l. g r.name ∷ l) (beside_others rows (λ j d lt. none (suc j) d (omega arith)))

  -- the amount of the one name changes
  pub beside_kept : (rows : Rows) (at : ℕ) (used : Res) → IsInOrder rows → IsRowOf rows name at → used ≡ g name → set (beside f rows) at used ≡ beside g rows
  beside_kept rows at used sorted is now = go rows at sorted is.in_range (λ d. same_name _ _ (is.same d))
    where
      go : (rows : Rows) (at : ℕ) → IsInOrder rows → at < length rows → ((d : Node) → (get_or rows at d).name ≡ name) → set (beside f rows) at used ≡ beside g rows
      go [] at sorted lt same = absurd (omega arith)
      go (r ∷ rows) zero sorted lt same =
          ap (λ a. a ∷ beside f rows) (now ∙ ap g (sym (same r)))
          ∙ ap (λ l. g r.name ∷ l) (beside_others rows (λ j d low. apart name _ (ap (λ n. name_cmp n (get_or rows j d).name) (sym (same r)) ∙ earlier_less nat_list_cmp_total named_row (r ∷ rows) sorted 0 (suc j) d (omega arith) (omega arith))))
      go (r ∷ rows) (suc at) sorted lt same =
          ap (λ a. a ∷ set (beside f rows) at used) (sym (alike r.name (apart_back name _ (ap (name_cmp r.name) (sym (same r)) ∙ earlier_less nat_list_cmp_total named_row (r ∷ rows) sorted 0 (suc at) r (omega arith) lt))))
          ∙ ap (λ l. g r.name ∷ l) (go rows at (both_true _ _ sorted).1 (omega arith) same)

  -- and nothing changes where no row has it
  pub beside_missing : (rows : Rows) (at : ℕ) → IsGapFor rows name at → beside f rows ≡ beside g rows
  beside_missing rows at gap = beside_others rows (λ j d lt. elim (cases_lt j at) [
    | inl low ↦ apart_back name _ (gap.0 j d (omega arith) low)
    | inr high ↦ apart name _ (nat_list_cmp_total.antisymm name (get_or rows j d).name ∙ ap ordering_reverse (gap.1 j d high lt))
  ])
