-- What a pass keeps of its last look shows what its own calls since then leave.
use Rattle.std.proofs.Common.{◌≡◌, ℕ, ◌+◌, ◌<◌, List, [], ◌∷◌, ◌++◌, Option, None, Some, fold, get_or, set, length, map, take, refl, sym, ap, subst, ◌∙◌, arith}
use Rattle.std.specs.Prelude.{IfSome}
use mathlib.Core.List.{IsPrefix}
use Rattle.std.proofs.lemmas.List.{get_or-map, length-map, take_more, take_more_set}
use Rattle.std.proofs.lemmas.List.Sums.{fold-append}
use Rattle.quant.specs.declared.amount.Res.{Res}
use Rattle.quant.specs.declared.objects.Node.{Node}
use Rattle.logbook.specs.Pages.{Book}
use Rattle.book.specs.Cluster.{Cluster}
use Rattle.book.specs.declared.limits.Limits.{Limits}
use Rattle.desk.specs.declared.change.Change.{Change}
use Rattle.desk.specs.declared.change.Change.TheVariants.{Nothing, Used}
use Rattle.desk.specs.declared.change.Totals.{Totals}
use Rattle.desk.specs.declared.snapshot.Row.{Row}
use Rattle.desk.specs.Machine.{State, opening}
use Rattle.desk.specs.History.{Call, state_after}
use Rattle.desk.specs.Shown.{Shown, shown}
use Rattle.desk.specs.inside.Board.{Board, IsBoard, IsChange, Writes, beside, rows_shown, nodes_after, used_after, used_in, with_totals, totals_of}
use Rattle.desk.specs.inside.LastLook.{Changed, WereShown, uses_of}
use Rattle.desk.specs.inside.NodeCalls.{calls_on_nodes, nodes_in, nodes_of}
use Rattle.desk.specs.inside.Shared.{Held, Prefix, Stands}
use Rattle.desk.proofs.NodesStay.{nodes_kept, nodes_published, nodes_shown, same_nodes, used_long}

-- what is published to be used is what its history leaves
pub used_published : (book : Book) (limits : Limits) (b : Board) → IsBoard book limits b → b.used ≡ used_in (state_after (opening limits) b.prefix.list).cluster
used_published book limits b is =
    ap (λ (y : Board). y.used) is.is
    ∙ ap (λ (s : State). used_in s.cluster) is.stands.leaves.state
    ∙ ap (λ (n : Limits). used_in (state_after (opening n) is.held.prefix.list).cluster) is.stands.limits_are
    ∙ ap (λ (y : Board). used_in (state_after (opening limits) y.prefix.list).cluster) (sym is.is)

-- rows show their nodes, with what is used of them
pub shown_beside : (rows : List Row) → map shown rows ≡ beside (nodes_of rows) (uses_of rows)
shown_beside [] = refl
shown_beside (row ∷ rows) = ap (λ (l : List Shown). shown row ∷ l) (shown_beside rows)

-- rows that were shown, with what calls since then changed, are what is published, where that is of
-- the same history
pub shown_again : (book : Book) (limits : Limits) (b : Board) → IsBoard book limits b → (prefix : Prefix) (rows now : List Row) (since : List Totals) → WereShown book limits prefix rows since → b.prefix.list ≡ prefix.list
    → nodes_of now ≡ nodes_of rows → uses_of now ≡ fold with_totals (uses_of rows) since → map shown now ≡ rows_shown b
shown_again book limits b is prefix rows now since were same nodes used =
    let left = λ (l : List Call). (state_after (opening limits) l).cluster in
    let all_nodes : nodes_of now ≡ b.nodes = nodes ∙ were.nodes_are ∙ ap (λ l. nodes_in (left l)) (sym same) ∙ sym (nodes_published book limits b is) in
    let all_used : uses_of now ≡ b.used = used ∙ were.used_are ∙ ap (λ l. used_in (left l)) (sym same) ∙ sym (used_published book limits b is) in
    shown_beside now ∙ (λ i. beside (all_nodes i) (all_used i))

-- one call more is noted
pub one_noted : (book : Book) (limits : Limits) (prefix now : Prefix) (before : List Call) (rows : List Row) (since more : List Totals) (totals : Totals) → WereShown book limits prefix rows since → before ≡ prefix.list
    → now.book ≡ book → Changed limits before totals now.list → more ≡ since ++ totals ∷ [] → WereShown book limits now rows more
one_noted book limits prefix now before rows since more totals were same book_is changed is =
    let left = λ (l : List Call). (state_after (opening limits) l).cluster in
    record {
      book_is = book_is;
      nodes_are = were.nodes_are ∙ ap (λ l. nodes_in (left l)) (sym same) ∙ sym changed.nodes;
      used_are =
          ap (fold with_totals (uses_of rows)) is ∙ fold-append with_totals (uses_of rows) since (totals ∷ [])
          ∙ ap (λ (u : List Res). with_totals u totals) (were.used_are ∙ ap (λ l. used_in (left l)) (sym same))
          ∙ sym changed.used;
    }

-- a change that writes these totals and no more
pub writes : (c new : Cluster) (change : Change) (o : Option Totals) → IsChange c change new → o ≡ totals_of change → IfSome o (λ totals. Writes c totals new)
unfolding nodes_after used_after
writes c new change o is e = subst (λ (x : Option Totals). IfSome x (λ totals. Writes c totals new)) (sym e) (by change is)
  where
    by : (change : Change) → IsChange c change new → IfSome (totals_of change) (λ totals. Writes c totals new)
    by Nothing is = record { nodes = sym is.nodes; used = sym is.used }
    by (Used first second) is = record { nodes = sym is.nodes; used = sym is.used }
    by _ is = tt

-- what lies under the lock is what its history leaves
pub state_left : (book : Book) (limits : Limits) (x : Held) → Stands book limits x → x.desk.state ≡ state_after (opening limits) x.prefix.list
state_left book limits x stands = stands.leaves.state ∙ ap (λ (n : Limits). state_after (opening n) x.prefix.list) stands.limits_are

-- so what it writes is what a call changes of what its history leaves
pub changed_by : (book : Book) (limits : Limits) (x y : Held) (o : Option Totals) → Stands book limits x → Stands book limits y → IfSome o (λ totals. Writes x.desk.state.cluster totals y.desk.state.cluster)
    → IfSome o (λ totals. Changed limits x.prefix.list totals y.prefix.list)
changed_by book limits x y None stands then h = tt
changed_by book limits x y (Some totals) stands then h =
    let before = state_left book limits x stands in
    let now = state_left book limits y then in
    record {
      nodes = ap (λ (s : State). nodes_in s.cluster) (sym now) ∙ h.nodes ∙ ap (λ (s : State). nodes_in s.cluster) before;
      used = ap (λ (s : State). used_in s.cluster) (sym now) ∙ h.used ∙ ap (λ (s : State). with_totals (used_in s.cluster) totals) before;
    }

-- a row that changes, but not its node
pub node_stays : (rows : List Row) (at : ℕ) (row new : Row) → at < length rows → row ≡ get_or rows at row → new.node ≡ row.node → nodes_of (set rows at new) ≡ nodes_of rows
node_stays rows at row new lt is kept =
    nodes_kept rows (nodes_of rows) (uses_of rows) refl (length-map rows (λ (r : Row). r.used) ∙ sym (length-map rows (λ (r : Row). r.node))) at row new lt is kept

-- rows that show what is published show what is used
pub uses_shown : (rows : List Row) (nodes : List Node) (us : List Res) → length us ≡ length nodes → map shown rows ≡ beside nodes us → uses_of rows ≡ us
uses_shown rows nodes us long is = sym (each rows) ∙ ap (map (λ (s : Shown). s.used)) is ∙ ones nodes us long
  where
    each : (rows : List Row) → map (λ (s : Shown). s.used) (map shown rows) ≡ uses_of rows
    each [] = refl
    each (row ∷ rows) = ap (λ l. row.used ∷ l) (each rows)

    ones : (nodes : List Node) (us : List Res) → length us ≡ length nodes → map (λ (s : Shown). s.used) (beside nodes us) ≡ us
    ones [] [] e = refl
    ones [] (u ∷ us) e = absurd (omega (arith, e))
    ones (n ∷ nodes) [] e = absurd (omega (arith, e))
    ones (n ∷ nodes) (u ∷ us) e = ap (λ l. u ∷ l) (ones nodes us (omega (arith, e)))

-- what was just shown was shown, and nothing changed since
pub just_shown : (book : Book) (limits : Limits) (b : Board) → IsBoard book limits b → (prefix : Prefix) (rows : List Row) (since : List Totals) → prefix ≡ b.prefix → map shown rows ≡ rows_shown b → since ≡ []
    → WereShown book limits prefix rows since
just_shown book limits b is prefix rows since same shows none =
    let left = λ (l : List Call). (state_after (opening limits) l).cluster in
    record {
      book_is = ap (λ (k : Prefix). k.book) same ∙ ap (λ (y : Board). y.prefix.book) is.is ∙ is.stands.book_is;
      nodes_are = nodes_shown rows b.nodes b.used (used_long book limits b is) shows ∙ nodes_published book limits b is ∙ ap (λ (k : Prefix). nodes_in (left k.list)) (sym same);
      used_are =
          ap (fold with_totals (uses_of rows)) none
          ∙ uses_shown rows b.nodes b.used (used_long book limits b is) shows
          ∙ used_published book limits b is
          ∙ ap (λ (k : Prefix). used_in (left k.list)) (sym same);
    }

-- rows that were shown have the nodes that are published, where no call since then tells of a node
pub nodes_again : (book : Book) (limits : Limits) (b : Board) → IsBoard book limits b → (prefix : Prefix) (rows : List Row) (since : List Totals) → WereShown book limits prefix rows since → IsPrefix prefix.list b.prefix.list
    → calls_on_nodes prefix.list ≡ calls_on_nodes b.prefix.list → nodes_of rows ≡ b.nodes
nodes_again book limits b is prefix rows since were begins same = were.nodes_are ∙ sym (same_nodes limits prefix.list b.prefix.list begins same) ∙ sym (nodes_published book limits b is)

-- one row more, of which so much is used already
pub same_use : (rows : List Row) (used : List Res) (at : ℕ) (row : Row) (u : Res) → at < length rows → at < length used → row ≡ get_or rows at row → row.used ≡ get_or used at u → take at (uses_of rows) ≡ take at used
    → take (at + 1) (uses_of rows) ≡ take (at + 1) used
same_use rows used at row u lt there is same before =
    let own : get_or (uses_of rows) at u ≡ get_or used at u = get_or-map (λ (r : Row). r.used) rows at row u lt ∙ ap (λ (r : Row). r.used) (sym is) ∙ same in
    take_more (uses_of rows) at u (omega (arith, lt, length-map rows (λ (r : Row). r.used)))
    ∙ (λ i. before i ++ own i ∷ [])
    ∙ sym (take_more used at u there)

-- or is now
pub set_use : (uses used : List Res) (at : ℕ) (u : Res) → at < length uses → at < length used → u ≡ get_or used at u → take at uses ≡ take at used → take (at + 1) (set uses at u) ≡ take (at + 1) used
set_use uses used at u lt there is before =
    take_more_set uses at u lt
    ∙ (λ i. before i ++ is i ∷ [])
    ∙ sym (take_more used at u there)

-- amounts are the same where their parts are
pub amounts_same : (a b : Res) → a.cpu.0 ≡ b.cpu.0 → a.mem.0 ≡ b.mem.0 → a.pods ≡ b.pods → a ≡ b
amounts_same a b cpu mem pods = λ j. record { cpu = record { 0 = cpu j }; mem = record { 0 = mem j }; pods = pods j }
