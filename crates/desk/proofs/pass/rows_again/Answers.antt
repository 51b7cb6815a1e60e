use Rattle.std.proofs.Common.{◌≡◌, List, length, fold, map, refl, sym, ap, subst, ◌∙◌}
use Rattle.std.specs.Prelude.{IfSome}
use Rattle.std.specs.Arc.{arc_value}
use Rattle.std.specs.Global.{Vec}
use mathlib.Core.List.{IsPrefix}
use Rattle.std.proofs.lemmas.List.{length-map}
use Rattle.desk.specs.declared.pass.Last.{Last}
use Rattle.desk.specs.declared.snapshot.Row.{Row}
use Rattle.desk.specs.Shown.{Shown, shown}
use Rattle.desk.specs.inside.Board.{Board, beside, with_totals}
use Rattle.desk.specs.inside.Kept.{AreKept}
use Rattle.desk.specs.inside.LastLook.{IsWritten, WereShown, uses_of}
use Rattle.desk.specs.inside.NodeCalls.{calls_on_nodes, nodes_of}
use Rattle.desk.proofs.LastLook.{nodes_again, shown_again, shown_beside}
use Rattle.desk.proofs.NodesStay.{used_long}
use Rattle.desk.proofs.pass.rows_again.Goals as goal

-- of the same history, with what calls since then changed
pub returns-then-is_same-clause-rows : goal.returns-then-is_same-clause-rows
returns-then-is_same-clause-rows g c =
    let book = g.J.Naming.book in
    let limits = g.J.Naming.limits in
    let last : Last = c.in-Some.field-0 in
    let rows = (arc_value last.rows).items in
    let known : WereShown book limits last.prefix rows last.since.items × AreKept (map shown rows) last.kept.classes.items =
    subst (λ o. IfSome o (λ (l : Last). WereShown book limits l.prefix (arc_value l.rows).items l.since.items × AreKept (map shown (arc_value l.rows).items) l.kept.classes.items)) c.in-Some.is c.requires.last in
    let taken : c.in-Some-into_inner.rows ≡ arc_value last.rows = c.in-Some-into_inner.ensures in
    let written = subst (λ (v : Vec Row). IsWritten v.items c.as_slice.result.now c.write_since-rows.result.0.items) taken c.write_since-rows.ensures.written in
    shown_again book limits c.args.board.now c.requires.stands last.prefix rows c.write_since-rows.result.0.items last.since.items known.0
    (ap (λ (y : Board). y.prefix.list) (sym c.board.view_is) ∙ sym (c.is_same.ensures c.if-is_same.true))
    written.nodes
    (written.used ∙ ap (fold with_totals (uses_of rows)) c.as_slice.ensures.value)

-- and what is kept is what they are worth
pub returns-then-is_same-clause-kept : goal.returns-then-is_same-clause-kept
returns-then-is_same-clause-kept g c =
    let book = g.J.Naming.book in
    let limits = g.J.Naming.limits in
    let last : Last = c.in-Some.field-0 in
    let rows = (arc_value last.rows).items in
    let known : WereShown book limits last.prefix rows last.since.items × AreKept (map shown rows) last.kept.classes.items =
    subst (λ o. IfSome o (λ (l : Last). WereShown book limits l.prefix (arc_value l.rows).items l.since.items × AreKept (map shown (arc_value l.rows).items) l.kept.classes.items)) c.in-Some.is c.requires.last in
    let taken : c.in-Some-into_inner.rows ≡ arc_value last.rows = c.in-Some-into_inner.ensures in
    subst (λ (nodes : List Shown). AreKept nodes c.write_since-rows.result.1.classes.items) (returns-then-is_same-clause-rows g c)
    (c.write_since-rows.ensures.kept (subst (λ (v : Vec Row). AreKept (map shown v.items) last.kept.classes.items) (sym taken) known.1))

-- the nodes are those that are published, where no call since then tells of a node
pub write_used-rows-requires : goal.write_used-rows-requires
write_used-rows-requires g c =
    let book = g.J.Naming.book in
    let limits = g.J.Naming.limits in
    let last : Last = c.in-Some.field-0 in
    let rows = (arc_value last.rows).items in
    let known : WereShown book limits last.prefix rows last.since.items × AreKept (map shown rows) last.kept.classes.items =
    subst (λ o. IfSome o (λ (l : Last). WereShown book limits l.prefix (arc_value l.rows).items l.since.items × AreKept (map shown (arc_value l.rows).items) l.kept.classes.items)) c.in-Some.is c.requires.last in
    let taken : c.in-Some-into_inner.rows ≡ arc_value last.rows = c.in-Some-into_inner.ensures in
    let b = ap (λ (y : Board). y.prefix.list) c.board.view_is in
    let stay : nodes_of c.in-Some-into_inner.rows.items ≡ c.args.board.now.nodes =
    ap (λ (v : Vec Row). nodes_of v.items) taken
    ∙ nodes_again book limits c.args.board.now c.requires.stands last.prefix rows last.since.items known.0
    (subst (λ l. IsPrefix last.prefix.list l) b (c.if-not-has_same_nodes.ensures.begins refl))
    (c.if-not-has_same_nodes.ensures.same refl ∙ ap calls_on_nodes b) in
    ap length c.used.ensures ∙ used_long g.J.Naming.book g.J.Naming.limits c.args.board.now c.requires.stands
    ∙ ap length (sym stay) ∙ length-map c.in-Some-into_inner.rows.items (λ (r : Row). r.node)

-- what is used of them is written
pub returns-clause-rows : goal.returns-clause-rows
returns-clause-rows g c =
    let book = g.J.Naming.book in
    let limits = g.J.Naming.limits in
    let last : Last = c.in-Some.field-0 in
    let rows = (arc_value last.rows).items in
    let known : WereShown book limits last.prefix rows last.since.items × AreKept (map shown rows) last.kept.classes.items =
    subst (λ o. IfSome o (λ (l : Last). WereShown book limits l.prefix (arc_value l.rows).items l.since.items × AreKept (map shown (arc_value l.rows).items) l.kept.classes.items)) c.in-Some.is c.requires.last in
    let taken : c.in-Some-into_inner.rows ≡ arc_value last.rows = c.in-Some-into_inner.ensures in
    let b = ap (λ (y : Board). y.prefix.list) c.board.view_is in
    let stay : nodes_of c.in-Some-into_inner.rows.items ≡ c.args.board.now.nodes =
    ap (λ (v : Vec Row). nodes_of v.items) taken
    ∙ nodes_again book limits c.args.board.now c.requires.stands last.prefix rows last.since.items known.0
    (subst (λ l. IsPrefix last.prefix.list l) b (c.if-not-has_same_nodes.ensures.begins refl))
    (c.if-not-has_same_nodes.ensures.same refl ∙ ap calls_on_nodes b) in
    let new = c.write_used-rows.result.0.items in
    let nodes : nodes_of new ≡ c.args.board.now.nodes = c.write_used-rows.ensures.nodes ∙ stay in
    let used : uses_of new ≡ c.args.board.now.used = c.write_used-rows.ensures.used ∙ c.used.ensures in
    shown_beside new ∙ (λ i. beside (nodes i) (used i))

-- and what is kept is what they are worth
pub returns-clause-kept : goal.returns-clause-kept
returns-clause-kept g c =
    let book = g.J.Naming.book in
    let limits = g.J.Naming.limits in
    let last : Last = c.in-Some.field-0 in
    let rows = (arc_value last.rows).items in
    let known : WereShown book limits last.prefix rows last.since.items × AreKept (map shown rows) last.kept.classes.items =
    subst (λ o. IfSome o (λ (l : Last). WereShown book limits l.prefix (arc_value l.rows).items l.since.items × AreKept (map shown (arc_value l.rows).items) l.kept.classes.items)) c.in-Some.is c.requires.last in
    let taken : c.in-Some-into_inner.rows ≡ arc_value last.rows = c.in-Some-into_inner.ensures in
    subst (λ (nodes : List Shown). AreKept nodes c.write_used-rows.result.1.classes.items) (returns-clause-rows g c)
    (c.write_used-rows.ensures.kept (c.if_less-kept.ensures _ (subst (λ (v : Vec Row). AreKept (map shown v.items) last.kept.classes.items) (sym taken) known.1)))
