-- A node that is there goes, and what is used of it.
use Rattle.std.proofs.Common.{◌≡◌, ℕ, ◌<◌, ◌≤◌, Bool, List, length, sym, ap, ◌∙◌, arith}
use Rattle.std.specs.Prelude.{if◌then◌else◌}
use Rattle.std.specs.List.{remove}
use Rattle.std.proofs.lemmas.Bool.{lt-ltb, le-ltb}
use Rattle.quant.specs.declared.amount.Res.{Res}
use Rattle.quant.specs.declared.objects.Node.{Node}
use Rattle.desk.specs.declared.change.Change.TheVariants.{Gone}
use Rattle.desk.specs.inside.Board.{Board, nodes_after, used_after}
use Rattle.desk.proofs.board.Board.leave_out.Goals as goal

nodes_gone : (room at : ℕ) (nodes : List Node) → at < length nodes → nodes_after room (Gone at) nodes ≡ remove nodes at
unfolding nodes_after
nodes_gone room at nodes lt = ap (λ (b : Bool). if b then remove nodes at else nodes) (lt-ltb at (length nodes) lt)

used_gone : (room at : ℕ) (used : List Res) → at < length used → used_after room (Gone at) used ≡ remove used at
unfolding used_after
used_gone room at used lt = ap (λ (b : Bool). if b then remove used at else used) (lt-ltb at (length used) lt)

nodes_stay : (room at : ℕ) (nodes : List Node) → length nodes ≤ at → nodes_after room (Gone at) nodes ≡ nodes
unfolding nodes_after
nodes_stay room at nodes past = ap (λ (b : Bool). if b then remove nodes at else nodes) (le-ltb at (length nodes) past)

used_stays : (room at : ℕ) (used : List Res) → length used ≤ at → used_after room (Gone at) used ≡ used
unfolding used_after
used_stays room at used past = ap (λ (b : Bool). if b then remove used at else used) (le-ltb at (length used) past)

pub returns-then-at-len : goal.returns-then-at-len
returns-then-at-len c =
    let at = c.args.at in
    let in_nodes : at < length c.args.self.now.nodes = omega (arith, c.if-at-len.true, c.len.ensures, c.self.inside.nodes.ok.0, ap (λ (b : Board). length b.nodes) c.self.view_is) in
    let in_used : at < length c.args.self.now.used = omega (arith, c.if-at-len.true, c.len.ensures, c.self.invariant.0, c.self.inside.used.ok.0, ap (λ (b : Board). length b.used) c.self.view_is) in
    let nodes = c.remove.ensures.items ∙ ap (λ (b : Board). remove b.nodes at) c.self.view_is ∙ sym (nodes_gone c.args.self.now.room at c.args.self.now.nodes in_nodes) in
    let used = c.remove-then-at-len.ensures.items ∙ ap (λ (b : Board). remove b.used at) c.self.view_is ∙ sym (used_gone c.args.self.now.room at c.args.self.now.used in_used) in
    λ t. record (c.self.view_is t) { nodes = nodes t; used = used t }

pub returns-else-at-len : goal.returns-else-at-len
returns-else-at-len c =
    let b = c.args.self.now in
    let past_nodes : length b.nodes ≤ c.args.at = omega (arith, c.if-at-len.false, c.len.ensures, c.self.inside.nodes.ok.0, ap (λ (b : Board). length b.nodes) c.self.view_is) in
    let past_used : length b.used ≤ c.args.at = omega (arith, c.if-at-len.false, c.len.ensures, c.self.invariant.0, c.self.inside.used.ok.0, ap (λ (b : Board). length b.used) c.self.view_is) in
    λ t. record b { nodes = sym (nodes_stay b.room c.args.at b.nodes past_nodes) t; used = sym (used_stays b.room c.args.at b.used past_used) t }
