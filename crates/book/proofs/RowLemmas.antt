-- What a search among rows in order finds, and what an edit there does to the map that they stand
-- for.
use Rattle.std.proofs.Common.{◌≡◌, ℕ, ◌≤◌, ◌&&◌, Bool, true, false, cond, not, List, [], ◌∷◌, map, length, get_or, set, Option, None, Some, is_some, Result, Ok, Err, IfOk, IfErr, refl, sym, ap, subst, ◌∙◌, inl, inr, arith}
use Rattle.std.specs.declared.cmp.Ordering.TheVariants.{Equal}
use Rattle.std.specs.Ordering.{is_eq, eq_by_cmp, ordering_index, ordering_reverse}
use Rattle.std.specs.Cmp.Lexicographic.{nat_list_cmp_total}
use Rattle.std.specs.List.{insert, remove}
use Rattle.std.specs.List.Sorted.{IsSearchInRange, IsBinarySearchResult, IsNonDecreasingBy}
use Rattle.std.specs.FinMap.{from_sorted, entries, put, contains_key, len, get-from_sorted, entries-from_sorted, entries-insert, same_entries_map, len-entries, is_sorted, entries_sorted, slice_cmp-IsAntisymmetric, nat_cmp-IsAntisymmetric}
use Rattle.std.specs.FinMap as fin
use Rattle.std.specs.Prelude.{T}
use Rattle.std.proofs.lemmas.List.{length-map}
use Rattle.std.proofs.lemmas.Bool.{cases_lt}
use Rattle.quant.specs.declared.objects.Node.{Node}
use Rattle.book.specs.Cluster.{name_cmp}
use Rattle.book.specs.Rows.{Rows, named_row, named, rows_in, compared, IsRowOf, IsGapFor}
use Rattle.book.specs.inside.Rows.{IsInOrder}
use Rattle.book.proofs.Put.{index_rises, earlier_less, put_gap, put_here, find_absent, find_here, find_at, sorted_fewer, find_fewer}

-- names in the order of their bytes are in one order, and only equal ones tie
pub same_name : (a b : List ℕ) → name_cmp a b ≡ Equal → a ≡ b
same_name a b e = slice_cmp-IsAntisymmetric nat_cmp-IsAntisymmetric a b e

-- a test that holds is true
pub true_of : (b : Bool) → T b → b ≡ true
true_of true h = refl
true_of false h = absurd h

-- what isn't there is None
nothing_of : {X : Type 0} (o : Option X) → is_some o ≡ false → o ≡ None
nothing_of None h = refl
nothing_of (Some x) h = absurd (cc)

module _ (rows : Rows) (sorted : IsInOrder rows) (name : List ℕ) where
  -- the comparisons with a name rise along the rows, as a binary search asks
  comparisons_rise : IsNonDecreasingBy (λ row. ordering_index (compared name row)) rows
  comparisons_rise i j d le in_range = elim (cases_lt i j) [
    | inl lt ↦ index_rises nat_list_cmp_total _ _ name (earlier_less nat_list_cmp_total named_row rows sorted i j d lt in_range)
    | inr ge ↦ let e : i ≡ j = omega arith in rw e (omega arith)
  ]

  -- the finite map that the rows stand for has them as its entries
  pub entries_rows : entries (from_sorted {R = name_cmp} (named rows)) ≡ named rows
  entries_rows = entries-from_sorted name_cmp (named rows) (subst T (sym sorted) tt)

  -- and is as large
  pub len_rows : len (from_sorted {R = name_cmp} (named rows)) ≡ length rows
  len_rows = len-entries _ ∙ ap length entries_rows ∙ length-map rows named_row

  -- it has a name where a row has it
  pub has_row : (at : ℕ) → IsRowOf rows name at → contains_key (from_sorted {R = name_cmp} (named rows)) name ≡ true
  has_row at is = ap is_some (get-from_sorted name_cmp (named rows) name (subst T (sym sorted) tt)) ∙ find_here nat_list_cmp_total named_row rows at name is.in_range (λ d. same_name _ _ (is.same d))

  -- and not where there is a gap for it
  pub has_no_row : (at : ℕ) → IsGapFor rows name at → contains_key (from_sorted {R = name_cmp} (named rows)) name ≡ false
  has_no_row at gap = ap is_some (get-from_sorted name_cmp (named rows) name (subst T (sym sorted) tt)) ∙ find_absent nat_list_cmp_total named_row rows name (λ j d lt. elim (cases_lt j at) [
    | inl low ↦ ap is_eq (nat_list_cmp_total.antisymm name (get_or rows j d).name ∙ ap ordering_reverse (gap.0 j d (omega arith) low))
    | inr high ↦ ap is_eq (nat_list_cmp_total.antisymm name (get_or rows j d).name ∙ ap ordering_reverse (gap.1 j d high lt))
  ])

  -- the map has that row at the name
  pub get_row : (at : ℕ) (d : Node) → IsRowOf rows name at → fin.get (from_sorted {R = name_cmp} (named rows)) name ≡ Some (get_or rows at d)
  get_row at d is = get-from_sorted name_cmp (named rows) name (subst T (sym sorted) tt) ∙ find_at nat_list_cmp_total named_row rows at name d sorted is.in_range (same_name _ _ (is.same d))

  -- and nothing where there is a gap for it
  pub get_no_row : (at : ℕ) → IsGapFor rows name at → fin.get (from_sorted {R = name_cmp} (named rows)) name ≡ None
  get_no_row at gap = nothing_of _ (has_no_row at gap)

  -- a binary search by name ends at the row, or at the gap for it
  pub searched : (r : Result ℕ ℕ) → IsSearchInRange r (length rows) → IsBinarySearchResult (compared name) rows r → record { found : IfOk r (IsRowOf rows name); absent : IfErr r (IsGapFor rows name) }
  searched (Ok at) in_range equal = record { found = record { in_range = in_range; same = equal }; absent = tt }
  searched (Err at) in_range parted = record { found = tt; absent = parted comparisons_rise }

module _ (rows : Rows) (sorted : IsInOrder rows) where
  -- rows that list what a put leaves are in order, and stand for the map with it
  put_rows : (new : Rows) (k : List ℕ) (v : Node) → put name_cmp k v (named rows) ≡ named new → IsInOrder new × (from_sorted {R = name_cmp} (named new) ≡ fin.insert (from_sorted (named rows)) k v)
  put_rows new k v e =
      let all : entries (fin.insert (from_sorted {R = name_cmp} (named rows)) k v) ≡ named new = entries-insert nat_list_cmp_total _ k v ∙ ap (put name_cmp k v) (entries_rows rows sorted k) ∙ e in
      let order : T (is_sorted name_cmp (named new)) = subst (λ es. T (is_sorted name_cmp es)) all (entries_sorted (fin.insert (from_sorted {R = name_cmp} (named rows)) k v)) in
      (true_of _ order, same_entries_map _ _ (entries-from_sorted name_cmp (named new) order ∙ sym all))

  -- a row in place of one of its name
  pub set_row : (at : ℕ) (row : Node) → IsRowOf rows row.name at → IsInOrder (set rows at row) × (from_sorted {R = name_cmp} (named (set rows at row)) ≡ fin.insert (from_sorted (named rows)) row.name row)
  set_row at row is = put_rows _ _ _ (put_here nat_list_cmp_total named_row rows at row sorted is.in_range (λ d. same_name _ _ (is.same d)))

  -- a row in the gap for its name
  pub insert_row : (at : ℕ) (row : Node) → at ≤ length rows → IsGapFor rows row.name at → IsInOrder (insert rows at row) × (from_sorted {R = name_cmp} (named (insert rows at row)) ≡ fin.insert (from_sorted (named rows)) row.name row)
  insert_row at row le gap = put_rows _ _ _ (put_gap nat_list_cmp_total named_row rows at row le (λ j d low lt. gap.0 j d low lt) (λ j d low lt. gap.1 j d low lt))

  -- rows without the one of a name
  pub remove_row : (at : ℕ) (name : List ℕ) → IsRowOf rows name at → IsInOrder (remove rows at) × (from_sorted {R = name_cmp} (named (remove rows at)) ≡ fin.remove (from_sorted (named rows)) name)
  remove_row at name is =
      let order : is_sorted name_cmp (named (remove rows at)) ≡ true = sorted_fewer nat_list_cmp_total named_row rows at sorted in (
        order,
        fin.same_map nat_list_cmp_total same_name _ _ (λ q.
            get-from_sorted name_cmp (named (remove rows at)) q (subst T (sym order) tt)
            ∙ find_fewer nat_list_cmp_total named_row rows at name q sorted is.in_range (λ d. same_name _ _ (is.same d))
            ∙ ap (cond (eq_by_cmp name_cmp q name) None) (sym (get-from_sorted name_cmp (named rows) q (subst T (sym sorted) tt)))
            ∙ sym (fin.get-remove nat_list_cmp_total (from_sorted (named rows)) name q)),
      )

-- no rows stand for the empty map
pub no_rows : from_sorted {R = name_cmp} (named []) ≡ fin.empty
no_rows = fin.empty_of_len _ (len-entries _ ∙ ap length (entries-from_sorted name_cmp [] tt))

-- a name that is there always has room
pub no_gap : (has : Bool) (full : Bool) → has ≡ true → (not has && full) ≡ false
no_gap has full e = rw e refl

-- and a new one has room exactly where the table isn't full
pub in_gap : (has : Bool) (full : Bool) (b : Bool) → has ≡ false → full ≡ b → (not has && full) ≡ b
in_gap has full b e f = rw (e, f) refl

-- rows with their names, without these
unnamed : (rows : Rows) → map (λ e. e.1) (named rows) ≡ rows
unnamed [] = refl
unnamed (row ∷ rows) = ap (λ l. row ∷ l) (unnamed rows)

-- rows in order are those of the map that they stand for
pub rows_are : (rows : Rows) → IsInOrder rows → rows_in (from_sorted (named rows)) ≡ rows
rows_are rows sorted = ap (map (λ e. e.1)) (entries_rows rows sorted []) ∙ unnamed rows

-- and their names are its keys
pub rows_listed : (rows : Rows) → IsInOrder rows → named (rows_in (from_sorted (named rows))) ≡ entries (from_sorted {R = name_cmp} (named rows))
rows_listed rows sorted = ap named (rows_are rows sorted) ∙ sym (entries_rows rows sorted [])
