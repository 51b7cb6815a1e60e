-- The nodes that a look shows stand in the order of their names.
use Rattle.std.proofs.Common.{◌≡◌, ℕ, zero, suc, ◌<◌, true, List, [], ◌∷◌, map, length, Option, Some, None, unwrap_or, refl, sym, ap, subst, ◌∙◌, arith}
use Rattle.std.specs.Option.{option_or}
use Rattle.std.specs.List.{AllByRecursion}
use Rattle.std.specs.Ordering.{is_lt}
use Rattle.std.specs.FinMap as fin
use Rattle.quant.specs.declared.name.Name.{Name}
use Rattle.quant.specs.declared.objects.Node.{Node}
use Rattle.quant.specs.Name.{is_before}
use Rattle.logbook.specs.Pages.{Book}
use Rattle.book.specs.Cluster.{name_cmp, Places}
use Rattle.book.specs.Used.{used}
use Rattle.book.specs.declared.limits.Limits.{Limits}
use Rattle.book.proofs.Put.{both_true, less_of}
use Rattle.std.specs.FinMap.Entries.{below_all}
use Rattle.book.proofs.RowLemmas.{true_of}
use Rattle.desk.specs.inside.Board.{Board, IsBoard, rows_shown}
use Rattle.desk.specs.Shown.{Shown}
use Rattle.desk.specs.Order.{name_at, AreInOrder}
use Rattle.desk.proofs.Calm.{each_found}
use Rattle.desk.specs.Machine.{State, opening}
use Rattle.desk.specs.History.{Call, is_accepted, last_said, accepted, row_in, row_of}
use Rattle.desk.specs.inside.Caller.{Core}
use Rattle.desk.specs.inside.History.{Leaves}
use Rattle.desk.proofs.Readings.{row_is}
use Rattle.desk.proofs.Fair.{accepted_says, row_named}
use Rattle.desk.proofs.Sharing.{rows_snapshot}

-- ---- each node stands under its own name

-- the last row that is told of a name is of that name
last_named : (l : List Call) (q : Name) (row : Node) → row_of l q ≡ Some row → row.name ≡ q
last_named [] q row e = absurd (cc)
last_named (c ∷ l) q row e = by (last_said (accepted (row_in q)) l) (last_named l q row) e
  where
    here : (o : Option (Option Node)) → accepted (row_in q) c ≡ o → unwrap_or o None ≡ Some row → row.name ≡ q
    here None is e = absurd (cc)
    here (Some told) is e = row_named q c.step told (accepted_says (is_accepted c.reply) (row_in q c.step) told is) row e

    by : (o : Option (Option Node)) → (unwrap_or o None ≡ Some row → row.name ≡ q) → unwrap_or (option_or o (accepted (row_in q) c)) None ≡ Some row → row.name ≡ q
    by (Some told) earlier e = earlier e
    by None earlier e = here (accepted (row_in q) c) refl e

-- and so is the row that the history leaves
stands_by_name : (d : Core) (l : List Call) → Leaves l d → (q : Name) (row : Node) → fin.get d.state.cluster.nodes q ≡ Some row → row.name ≡ q
stands_by_name d l left q row is =
    let reading : fin.get d.state.cluster.nodes q ≡ row_of l q =
    ap (λ (t : State). fin.get t.cluster.nodes q) left.state ∙ row_is q (opening d.state.cluster.limits) l left.legal.history.answered
    ∙ ap (unwrap_or (last_said (accepted (row_in q)) l)) (fin.get-empty name_cmp q) in
    last_named l q row (sym reading ∙ is)

-- ---- what is shown

-- entries stand under the names of their nodes
abbrev AreNamed : List (Name × Node) → Type 0
AreNamed es = AllByRecursion (λ (e : Name × Node). e.1.name ≡ e.0) (map (λ e. e) es)

-- what a look shows of them
abbrev all_shown : Places → List (Name × Node) → List Shown
all_shown places es = map (λ e. record { node = e.1; used = used places e.0 }) es

-- a name that is below all names of entries comes before those of their nodes
before_all : (places : Places) (k : Name) (es : List (Name × Node)) → below_all name_cmp k es ≡ true → AreNamed es → (j : ℕ) → j < length (all_shown places es) → is_before k (name_at (all_shown places es) j) ≡ true
before_all places k [] below named j lt = absurd (omega (arith, lt))
before_all places k (e ∷ es) below named zero lt = ap (is_before k) named.0 ∙ ap is_lt (less_of _ (both_true _ _ below).0)
before_all places k (e ∷ es) below named (suc j) lt = before_all places k es (both_true _ _ below).1 named.1 j (omega (arith, lt))

-- entries in order are shown in order
entries_in_order : (places : Places) (es : List (Name × Node)) → fin.is_sorted name_cmp es ≡ true → AreNamed es → AreInOrder (all_shown places es)
entries_in_order places [] sorted named i j lt within = absurd (omega (arith, within))
entries_in_order places (e ∷ es) sorted named i zero lt within = absurd (omega (arith, lt))
entries_in_order places (e ∷ es) sorted named zero (suc j) lt within =
    ap (λ n. is_before n (name_at (all_shown places es) j)) named.0 ∙ before_all places e.0 es (both_true _ _ sorted).0 named.1 j (omega (arith, within))
entries_in_order places (e ∷ es) sorted named (suc i) (suc j) lt within = entries_in_order places es (both_true _ _ sorted).1 named.1 i j (omega (arith, lt)) (omega (arith, within))

-- so what is published is shown in order
pub shown_in_order : (book : Book) (limits : Limits) (b : Board) → IsBoard book limits b → AreInOrder (rows_shown b)
shown_in_order book limits b is =
    let c = is.held.desk.state.cluster in
    let named : AreNamed (fin.entries c.nodes) =
    each_found (λ (e : Name × Node). e.1.name ≡ e.0) (λ e. e) (fin.entries c.nodes) (true_of _ (fin.entries_sorted c.nodes))
    (λ e found. stands_by_name is.held.desk is.held.prefix.list is.stands.leaves e.0 e.1 (fin.get-entries c.nodes e.0 ∙ found)) in
    subst AreInOrder (sym (ap rows_shown is.is ∙ rows_snapshot is.held)) (entries_in_order c.places (fin.entries c.nodes) (true_of _ (fin.entries_sorted c.nodes)) named)
