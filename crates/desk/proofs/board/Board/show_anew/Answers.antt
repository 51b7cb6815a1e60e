use Rattle.std.proofs.Common.{◌≡◌, ◌<◌, ◌++◌, ◌∷◌, [], List, get_or, is_ok, true, length, sym, ap, ◌∙◌, map, arith}
use Rattle.std.proofs.lemmas.List.{map_push, get_or_default}
use Rattle.quant.specs.declared.amount.Res.{Res}
use Rattle.quant.specs.declared.objects.Node.{Node}
use Rattle.book.specs.Used.{nothing}
use Rattle.desk.specs.inside.Board.{Board}
use Rattle.desk.specs.Shown.{Shown, shown}
use Rattle.desk.specs.declared.snapshot.Row.{Row}
use Rattle.desk.proofs.NodesStay.{shown_more, shown_whole}
use Rattle.desk.proofs.board.Board.show_anew.Goals as goal

-- one row more is shown
pub loop-at-preserved : goal.loop-at-preserved
loop-at-preserved c =
    let b = c.args.self.now in
    let at = c.loop-at.at in
    let nodes : c.deref-node-items.result.now ≡ b.nodes = c.deref-node-items.ensures.value ∙ ap (λ (y : Board). y.nodes) c.self.view_is in
    let long : length b.used ≡ length b.nodes = omega (arith, ap (λ (y : Board). length y.used) c.self.view_is, c.self.invariant.0, ap (λ (y : Board). length y.nodes) c.self.view_is) in
    let lt : at < length b.nodes = omega (arith, c.loop-at-test.true, ap length nodes) in
    let node = c.node-item.result in
    let is : node ≡ get_or b.nodes at node = c.node-item.is ∙ ap (λ l. get_or l at node) nodes in
    let total : c.index-used.result.now ≡ get_or b.used at nothing =
    c.index-used.ensures ∙ get_or_default c.self.inside.used.items at c.index-used.result.now nothing (omega (arith, lt, long, ap (λ (y : Board). length y.used) c.self.view_is)) ∙ ap (λ (y : Board). get_or y.used at nothing) c.self.view_is in
    let row : Row = c.new.result in
    let pushed : is_ok c.push.result ≡ true = ap is_ok c.in-Ok-push.is in
    let rows : c.push.new.self.items ≡ c.loop-at.rows.items ++ row ∷ [] = rw pushed at c.push.ensures.items in
    ap (map shown) rows ∙ map_push shown c.loop-at.rows.items row
    ∙ ap (λ (s : Shown). map shown c.loop-at.rows.items ++ s ∷ []) c.new.ensures
    ∙ ap (λ (n : Node). map shown c.loop-at.rows.items ++ record { node = n; used = c.index-used.result.now } ∷ []) c.in-Ok-share.ensures
    ∙ ap (λ (u : Res). map shown c.loop-at.rows.items ++ record { node = node; used = u } ∷ []) total
    ∙ ap (λ (l : List Shown). l ++ record { node = node; used = get_or b.used at nothing } ∷ []) c.loop-at.invariant
    ∙ sym (shown_more b.nodes b.used at node nothing long lt is)

-- all rows are shown
pub returns : goal.returns
returns c =
    let b = c.args.self.now in
    let nodes : c.deref-node-items.result.now ≡ b.nodes = c.deref-node-items.ensures.value ∙ ap (λ (y : Board). y.nodes) c.self.view_is in
    let long : length b.used ≡ length b.nodes = omega (arith, ap (λ (y : Board). length y.used) c.self.view_is, c.self.invariant.0, ap (λ (y : Board). length y.nodes) c.self.view_is) in
    c.loop-at.invariant ∙ shown_whole b.nodes b.used c.loop-at.at long (omega (arith, c.loop-at-test.false, ap length nodes))
