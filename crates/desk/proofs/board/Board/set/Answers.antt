-- The node's row is this one, where there is one.
use Rattle.std.proofs.Common.{◌≡◌, length, set, sym, ap, ◌∙◌, arith}
use Rattle.std.proofs.lemmas.List.{set_past}
use Rattle.desk.specs.inside.Board.{Board}
use Rattle.desk.proofs.board.Board.set.Goals as goal

pub invariant_of-self : goal.invariant_of-self
invariant_of-self c = c.self.invariant

pub returns-then-at-len-clause-set : goal.returns-then-at-len-clause-set
returns-then-at-len-clause-set c = λ t. record (c.self.view_is t) { nodes = set (c.self.view_is t).nodes c.args.at (c.in-Ok.ensures t) }

pub returns-else-at-len-clause-set : goal.returns-else-at-len-clause-set
returns-else-at-len-clause-set c =
    let nodes = c.args.self.now.nodes in
    let many : c.len.result ≡ length nodes = c.len.ensures ∙ c.self.inside.nodes.ok.0 ∙ ap (λ (b : Board). length b.nodes) c.self.view_is in
    let past = c.if-at-len.false in
    ap (λ l. record c.args.self.now { nodes = l }) (sym (set_past nodes c.args.at c.args.node.now (omega arith)))
