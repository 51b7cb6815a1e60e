-- How the nodes of a cluster, and what is used of each, change where one node, or where one pod is,
-- changes.
use Rattle.std.proofs.Common.{◌≡◌, ◌≢◌, ℕ, ◌<◌, ◌≤◌, Bool, true, false, cond, List, [], ◌∷◌, length, map, get_or, set, Option, None, Some, refl, sym, ap, subst, ◌∙◌, inl, inr, arith}
use Rattle.std.specs.Prelude.{nat_lt, ⊤, ◌==◌}
use Rattle.std.specs.Global.{Vec}
use Rattle.std.specs.List.{insert, remove}
use Rattle.std.specs.declared.cmp.Ordering.{Ordering}
use Rattle.std.specs.declared.cmp.Ordering.TheVariants.{Less, Equal, Greater}
use Rattle.std.specs.Ordering.{eq_by_cmp}
use Rattle.std.specs.Str.{bytes_eq}
use Rattle.std.specs.Cmp.{tied_itself}
use Rattle.std.specs.Cmp.Lexicographic.{nat_list_cmp_total, bytes_decides}
use Rattle.std.specs.FinMap as fin
use Rattle.std.specs.FinMap.{entries, from_sorted, is_sorted, entries_sorted, same_entries_map}
use Rattle.std.proofs.lemmas.Bool.{cases_eq, cases_lt}
use Rattle.std.proofs.lemmas.Bool.Decides.{nat_tests}
use Rattle.std.proofs.lemmas.List.{length-map, length-set, get_or-map, get_or-set_same, get_or-set_other, get_or_default, ext_get_or}
use Rattle.quant.specs.declared.amount.Res.{Res}
use Rattle.quant.specs.declared.objects.Node.{Node}
use Rattle.book.specs.Cluster.{name_cmp, Nodes, Places, Cluster}
use Rattle.book.specs.Rows.{named, named_row, rows_in, IsRowOf, IsGapFor}
use Rattle.book.specs.inside.Rows.{IsInOrder}
use Rattle.book.specs.Used.{used, nothing}
use Rattle.book.specs.inside.Totals.{plus}
use Rattle.book.specs.declared.place.Place.{Place}
use Rattle.book.proofs.Beside.{beside as amounts, beside_again, beside_come, beside_gone, apart, apart_back}
use Rattle.book.proofs.Put.{earlier_less}
use Rattle.book.proofs.RowLemmas.{true_of, same_name, has_no_row, entries_rows, rows_are, set_row, insert_row, remove_row}
use Rattle.book.proofs.SumLemmas.{remove_absent}
use Rattle.book.proofs.TableLemmas.{same_test, test_turned}
use Rattle.book.proofs.TotalLemmas.{used_apart, plus_nothing}
use Rattle.desk.specs.declared.change.Change.TheVariants.{Nothing, Used, AllUsed, Set, Come, Gone}
use Rattle.desk.specs.inside.Board.{used_in, with_total, total_in, can_come, nodes_after, used_after, IsChange, HasNoRow, IsRowFor, IsRowUnder}
use Rattle.desk.proofs.Rows.{beside_rows, as_many_rows}

-- rows that are there have one
some_row : (rows : List Node) (k : ℕ) → k < length rows → Node
some_row [] k lt = absurd (omega arith)
some_row (row ∷ rows) k lt = row

-- ---- one node

module _ (c : Cluster) (listed : named (rows_in c.nodes) ≡ entries c.nodes) where
  abbrev rows : List Node
  rows = rows_in c.nodes

  -- the rows are in the order of their names
  in_order : IsInOrder rows
  in_order = ap (is_sorted name_cmp) listed ∙ true_of _ (entries_sorted c.nodes)

  -- and stand for the nodes
  map_is : from_sorted (named rows) ≡ c.nodes
  map_is = same_entries_map _ _ (entries_rows rows in_order [] ∙ listed)

  -- what is used of each is that of its name
  used_is : used_in c ≡ amounts (used c.places) rows
  used_is = beside_rows rows c.nodes c.places (used_in c) listed refl

  as_many : length (used_in c) ≡ length rows
  as_many = as_many_rows rows c.nodes c.places (used_in c) listed refl

  -- rows that stand for other nodes, and what is used of them by the same places
  module _ (new : Cluster) (places : new.places ≡ c.places) (next : List Node) (order : IsInOrder next) (is : from_sorted (named next) ≡ new.nodes) where
    rows_now : rows_in new.nodes ≡ next
    rows_now = ap rows_in (sym is) ∙ rows_are next order

    used_now : used_in new ≡ amounts (used c.places) next
    used_now =
        beside_rows next new.nodes new.places (used_in new) (sym (entries_rows next order []) ∙ ap entries is) refl
        ∙ ap (λ p. amounts (used p) next) places

  -- a node's row is another
  pub set_change : (new : Cluster) (at : ℕ) (node : Node) → new.nodes ≡ fin.insert c.nodes node.name node → new.places ≡ c.places → IsRowOf rows node.name at → IsChange c (Set at node) new
  unfolding nodes_after used_after
  set_change new at node nodes places is =
      let both = set_row rows in_order at node is in
      let map : from_sorted (named (set rows at node)) ≡ new.nodes = both.1 ∙ ap (λ m. fin.insert m node.name node) map_is ∙ sym nodes in
      record {
        nodes = sym (rows_now new places (set rows at node) both.0 map);
        used = used_is ∙ sym (beside_again (used c.places) rows at node is) ∙ sym (used_now new places (set rows at node) both.0 map);
      }

  -- a node comes
  pub come_change : (new : Cluster) (at : ℕ) (node : Node) (u : Res) → new.nodes ≡ fin.insert c.nodes node.name node → new.places ≡ c.places → IsGapFor rows node.name at → at ≤ length rows
      → length rows < c.limits.nodes → u ≡ used new.places node.name → IsChange c (Come at u node) new
  unfolding nodes_after used_after
  come_change new at node u nodes places gap le room is =
      let both = insert_row rows in_order at node le gap in
      let map : from_sorted (named (insert rows at node)) ≡ new.nodes = both.1 ∙ ap (λ m. fin.insert m node.name node) map_is ∙ sym nodes in
      let comes : can_come at (length rows) c.limits.nodes ≡ true = grind (arith, nat_tests, le, room) in
      let amount : u ≡ used c.places node.name = is ∙ ap (λ p. used p node.name) places in
      record {
        nodes = ap (λ b. cond b (insert rows at node) rows) comes ∙ sym (rows_now new places (insert rows at node) both.0 map);
        used =
            ap (λ n. cond (can_come at n c.limits.nodes) (insert (used_in c) at u) (used_in c)) as_many
            ∙ ap (λ b. cond b (insert (used_in c) at u) (used_in c)) comes
            ∙ (λ i. insert (used_is i) at (amount i))
            ∙ sym (beside_come (used c.places) rows at node)
            ∙ sym (used_now new places (insert rows at node) both.0 map);
      }

  -- a node goes
  pub gone_change : (new : Cluster) (at : ℕ) (name : List ℕ) → new.nodes ≡ fin.remove c.nodes name → new.places ≡ c.places → IsRowOf rows name at → IsChange c (Gone at) new
  unfolding nodes_after used_after
  gone_change new at name nodes places is =
      let both = remove_row rows in_order at name is in
      let map : from_sorted (named (remove rows at)) ≡ new.nodes = both.1 ∙ ap (λ m. fin.remove m name) map_is ∙ sym nodes in
      let there : nat_lt at (length rows) ≡ true = grind (arith, nat_tests, is.in_range) in
      record {
        nodes = ap (λ b. cond b (remove rows at) rows) there ∙ sym (rows_now new places (remove rows at) both.0 map);
        used =
            ap (λ n. cond (nat_lt at n) (remove (used_in c) at) (used_in c)) as_many
            ∙ ap (λ b. cond b (remove (used_in c) at) (used_in c)) there
            ∙ ap (λ l. remove l at) used_is
            ∙ sym (beside_gone (used c.places) rows at)
            ∙ sym (used_now new places (remove rows at) both.0 map);
      }

  -- where there is a gap for a name, no node has it
  pub gap_absent : (name : List ℕ) (at : ℕ) → IsGapFor rows name at → fin.contains_key c.nodes name ≡ false
  gap_absent name at gap = ap (λ m. fin.contains_key m name) (sym map_is) ∙ has_no_row rows in_order name at gap

-- rows that list the nodes are theirs
pub listed_by : (rows : List Node) (m : Nodes) → named rows ≡ entries m → named (rows_in m) ≡ entries m
listed_by rows m h = ap named (ap (map (λ e. e.1)) (sym h) ∙ unnamed rows) ∙ h
  where
    unnamed : (rows : List Node) → map (λ e. e.1) (named rows) ≡ rows
    unnamed [] = refl
    unnamed (row ∷ rows) = ap (λ l. row ∷ l) (unnamed rows)

-- a gap for a name among rows is no row of it
pub no_row : (rows : List Node) (name : List ℕ) (at : ℕ) → IsGapFor rows name at → HasNoRow rows name
no_row rows name at gap k is = elim (cases_lt k at) [
  | inl low ↦ less (is.same (some_row rows k is.in_range)) (gap.0 k (some_row rows k is.in_range) (omega arith) low)
  | inr high ↦ greater (is.same (some_row rows k is.in_range)) (gap.1 k (some_row rows k is.in_range) high is.in_range)
]
  where
    less : {o : Ordering} → o ≡ Equal → o ≡ Less → ⊥
    less e f = absurd (cc)

    greater : {o : Ordering} → o ≡ Equal → o ≡ Greater → ⊥
    greater e f = absurd (cc)

-- nothing changes
pub no_change : (c new : Cluster) → new.nodes ≡ c.nodes → used_in new ≡ used_in c → IsChange c Nothing new
unfolding nodes_after used_after
no_change c new nodes same = record { nodes = ap rows_in (sym nodes); used = sym same }

-- where the places are the same, so is what is used
pub same_used : (c new : Cluster) → new.nodes ≡ c.nodes → new.places ≡ c.places → used_in new ≡ used_in c
same_used c new nodes places = λ i. map (λ e. used (places i) e.0) (entries (nodes i))

-- ---- amounts that are written

-- a place is none that is written
abbrev IsNot : Option ℕ → ℕ → Type 0
IsNot None k = ⊤
IsNot (Some at) k = k ≢ at

module _ (us new : List Res) (long : length us ≡ length new) where
  -- amounts with the new one in one place
  abbrev written : Option ℕ → List Res → List Res
  written o l = with_total (total_in new o) l

  length-written : (o : Option ℕ) (l : List Res) → length (written o l) ≡ length l
  length-written None l = refl
  length-written (Some at) l = elim (nat_lt at (length new)) as (λ b. length (with_total (cond b (Some (record { at = at; used = get_or new at nothing })) None) l) ≡ length l) [
    | true ↦ length-set l at (get_or new at nothing)
    | false ↦ refl
  ]

  -- elsewhere they stay
  written_other : (o : Option ℕ) (l : List Res) (k : ℕ) → IsNot o k → get_or (written o l) k nothing ≡ get_or l k nothing
  written_other None l k other = refl
  written_other (Some at) l k other = elim (nat_lt at (length new)) as (λ b. get_or (with_total (cond b (Some (record { at = at; used = get_or new at nothing })) None) l) k nothing ≡ get_or l k nothing) [
    | true ↦ get_or-set_other l at k (get_or new at nothing) nothing other
    | false ↦ refl
  ]

  -- and there the new one stands
  written_here : (at : ℕ) (l : List Res) → length l ≡ length new → at < length new → get_or (written (Some at) l) at nothing ≡ get_or new at nothing
  written_here at l many lt =
      let there : nat_lt at (length new) ≡ true = grind (arith, nat_tests, lt) in
      ap (λ b. get_or (with_total (cond b (Some (record { at = at; used = get_or new at nothing })) None) l) at nothing) there
      ∙ get_or-set_same l at (get_or new at nothing) nothing (omega (arith, many, lt))

  -- one amount where it is new, or is as it is to be
  one_written : (o : Option ℕ) (l : List Res) (k : ℕ) → length l ≡ length new → k < length new → (IsNot o k → get_or l k nothing ≡ get_or new k nothing) → get_or (written o l) k nothing ≡ get_or new k nothing
  one_written None l k many lt same = same tt
  one_written (Some at) l k many lt same = elim (cases_eq k at) [
    | inl e ↦ ap (λ n. get_or (written (Some at) l) n nothing) e ∙ written_here at l many (omega (arith, e, lt)) ∙ ap (λ n. get_or new n nothing) (sym e)
    | inr other ↦ written_other (Some at) l k other ∙ same other
  ]

  -- two are written, and all others are as they are to be
  pub two_written : (b n : Option ℕ) → ((k : ℕ) → k < length new → IsNot b k → IsNot n k → get_or us k nothing ≡ get_or new k nothing) → written n (written b us) ≡ new
  two_written b n same =
      let many : length (written b us) ≡ length new = length-written b us ∙ long in
      ext_get_or nothing (written n (written b us)) new (length-written n (written b us) ∙ many)
      (λ k lt.
      let low : k < length new = omega (arith, lt, length-written n (written b us), many) in
      one_written n (written b us) k many low (λ away. one_written b us k long low (λ apart. same k low apart away)))

-- ---- one pod

-- a name that no row has, or that the row of another place has, isn't this row's
other_row : (rows : List Node) → IsInOrder rows → (name : List ℕ) (o : Option ℕ) (k : ℕ) (d : Node) → IsRowFor rows name o → k < length rows → IsNot o k → bytes_eq name (get_or rows k d).name ≡ false
other_row rows sorted name None k d none lt other = by (bytes_eq name (get_or rows k d).name) refl
  where
    by : (b : Bool) → bytes_eq name (get_or rows k d).name ≡ b → b ≡ false
    by true e = absurd (none k (record { in_range = lt; same = λ (x : Node). ap (λ (r : Node). name_cmp r.name name) (here x) ∙ ap (λ n. name_cmp n name) (sym ((bytes_decides name (get_or rows k d).name).0 e)) ∙ tied_itself nat_list_cmp_total name }))
      where
        here : (x : Node) → get_or rows k x ≡ get_or rows k d
        here x = get_or_default rows k x d lt
    by false e = refl
other_row rows sorted name (Some at) k d is lt other =
    let same : (get_or rows at d).name ≡ name = same_name _ _ (is.same d) in
    elim (cases_lt k at) [
      | inl low ↦ apart_back name _ (subst (λ n. name_cmp (get_or rows k d).name n ≡ Less) same (earlier_less nat_list_cmp_total named_row rows sorted k at d low is.in_range))
      | inr high ↦ apart name _ (subst (λ n. name_cmp n (get_or rows k d).name ≡ Less) same (earlier_less nat_list_cmp_total named_row rows sorted at k d (omega (arith, high, other)) lt))
    ]

-- a place is on another node, if it is there
abbrev IsElsewhere : Option Place → List ℕ → Type 0
IsElsewhere None q = ⊤
IsElsewhere (Some place) q = bytes_eq place.node q ≡ false

elsewhere : (rows : List Node) → IsInOrder rows → (p : Option Place) (o : Option ℕ) (k : ℕ) (d : Node) → IsRowUnder rows p o → k < length rows → IsNot o k → IsElsewhere p (get_or rows k d).name
elsewhere nodes sorted None o k d is lt other = tt
elsewhere nodes sorted (Some place) o k d is lt other = other_row nodes sorted place.node o k d is lt other

-- what is used of a node doesn't depend on a place elsewhere
used_without : (m : Places) (uid : List ℕ) (q : List ℕ) (o : Option Place) → fin.get m uid ≡ o → IsElsewhere o q → used m q ≡ used (fin.remove m uid) q
used_without m uid q None e away = ap (λ p. used p q) (sym (remove_absent m uid e))
used_without m uid q (Some place) e away =
    used_apart m uid place e q
    ∙ ap (λ b. plus (used (fin.remove m uid) q) (cond b (record { cpu = place.request.cpu; mem = place.request.mem; pods = 1 }) nothing)) away
    ∙ plus_nothing (used (fin.remove m uid) q)

-- places that differ in one pod alone are the same without it
same_without : (m new : Places) (uid : List ℕ) → ((q : List ℕ) → bytes_eq uid q ≡ false → fin.get new q ≡ fin.get m q) → fin.remove new uid ≡ fin.remove m uid
same_without m new uid others = fin.same_map nat_list_cmp_total same_name _ _ (λ q.
    fin.get-remove nat_list_cmp_total new uid q ∙ by q (eq_by_cmp name_cmp q uid) refl ∙ sym (fin.get-remove nat_list_cmp_total m uid q))
  where
    by : (q : List ℕ) (b : Bool) → eq_by_cmp name_cmp q uid ≡ b → cond (eq_by_cmp name_cmp q uid) None (fin.get new q) ≡ cond (eq_by_cmp name_cmp q uid) None (fin.get m q)
    by q true e = ap (λ b. cond b None (fin.get new q)) e ∙ sym (ap (λ b. cond b None (fin.get m q)) e)
    by q false e = ap (λ v. cond (eq_by_cmp name_cmp q uid) None v) (others q (test_turned uid q ∙ sym (same_test q uid) ∙ e))

-- a pod is placed elsewhere, or nowhere: what is used of two nodes is written
pub pod_change : (c new : Cluster) (uid : List ℕ) (before now : Option ℕ) → named (rows_in c.nodes) ≡ entries c.nodes → new.nodes ≡ c.nodes
    → ((q : List ℕ) → bytes_eq uid q ≡ false → fin.get new.places q ≡ fin.get c.places q)
    → IsRowUnder (rows_in c.nodes) (fin.get c.places uid) before → IsRowUnder (rows_in new.nodes) (fin.get new.places uid) now
    → IsChange c (Used (total_in (used_in new) before) (total_in (used_in new) now)) new
unfolding nodes_after used_after
pod_change c new uid before now listed nodes others from to =
    let rows = rows_in c.nodes in
    let listed_new : named (rows_in new.nodes) ≡ entries new.nodes = subst (λ m. named (rows_in m) ≡ entries m) (sym nodes) listed in
    let was : used_in c ≡ amounts (used c.places) rows = used_is c listed in
    let is : used_in new ≡ amounts (used new.places) rows = used_is new listed_new ∙ ap (λ m. amounts (used new.places) (rows_in m)) nodes in
    let long : length (used_in c) ≡ length (used_in new) = ap length was ∙ length-map rows _ ∙ sym (length-map rows _) ∙ sym (ap length is) in
    let many : length (used_in new) ≡ length rows = ap length is ∙ length-map rows _ in
    let there : IsRowUnder rows (fin.get new.places uid) now = subst (λ m. IsRowUnder (rows_in m) (fin.get new.places uid) now) nodes to in
    record {
      nodes = ap rows_in (sym nodes);
      used = two_written (used_in c) (used_in new) long before now (λ k lt away apart.
          let low : k < length rows = omega (arith, lt, many) in
          let d : Node = some_row rows k low in
          let q = (get_or rows k d).name in
          ap (λ l. get_or l k nothing) was ∙ get_or-map (λ (r : Node). used c.places r.name) rows k d nothing low
          ∙ used_without c.places uid q (fin.get c.places uid) refl (elsewhere rows (in_order c listed) (fin.get c.places uid) before k d from low away)
          ∙ ap (λ p. used p q) (sym (same_without c.places new.places uid others))
          ∙ sym (used_without new.places uid q (fin.get new.places uid) refl (elsewhere rows (in_order c listed) (fin.get new.places uid) now k d there low apart))
          ∙ sym (get_or-map (λ (r : Node). used new.places r.name) rows k d nothing low) ∙ sym (ap (λ l. get_or l k nothing) is));
    }

-- what is used of each node is told anew
pub all_change : (c new : Cluster) (all : Vec Res) → new.nodes ≡ c.nodes → all.items ≡ used_in new → IsChange c (AllUsed all) new
unfolding nodes_after used_after
all_change c new all nodes is =
    let as_long : length all.items ≡ length (used_in c) =
    ap length is ∙ length-map (entries new.nodes) (λ e. used new.places e.0) ∙ ap (λ m. length (entries m)) nodes ∙ sym (length-map (entries c.nodes) (λ e. used c.places e.0)) in
    let same : (length all.items == length (used_in c)) ≡ true = grind (arith, nat_tests, as_long) in
    record { nodes = ap rows_in (sym nodes); used = ap (λ b. cond b all.items (used_in c)) same ∙ is }
