use Rattle.std.proofs.Common.{rules, ◌≡◌, ap, sym, subst}
use Rattle.std.specs.Arc.{arc_value}
use Rattle.choose.specs.Choice.{AreVerdicts}
use Rattle.pieces.specs.Pieces.{nodes_of}
use Rattle.pieces.proofs.message.take_verdicts.Goals as goal

pub returns-clause-are : goal.returns-clause-are
returns-clause-are g c = λ yes.
    let d = c.done.inside in
    let order = c.args.order.now in
    let same : arc_value d.order ≡ order = search rules in
    let piece : d.piece ≡ c.args.piece = search rules in
    let wrote : c.copy_from_slice.new.self ≡ d.verdicts.items = search rules in
    let kit : d.kit ≡ c.args.done.now.kit = ap (λ v. v.kit) c.done.view_is in
    subst (λ vs. AreVerdicts (g.K.Rules.answers c.args.done.now.kit) order.pod (nodes_of order.snapshot order.pieces c.args.piece 1) vs) (sym wrote)
    (subst (λ k. AreVerdicts (g.K.Rules.answers k) order.pod (nodes_of order.snapshot order.pieces c.args.piece 1) d.verdicts.items) kit
    (subst (λ p. AreVerdicts (g.K.Rules.answers d.kit) order.pod (nodes_of order.snapshot order.pieces p 1) d.verdicts.items) piece
    (subst (λ a. AreVerdicts (g.K.Rules.answers d.kit) a.pod (nodes_of a.snapshot a.pieces d.piece 1) d.verdicts.items) same c.done.invariant)))
