-- One call more is noted.
use Rattle.std.proofs.Common.{◌≡◌, cond, [], ◌∷◌, ◌++◌, refl, sym, ap, subst, ◌∙◌}
use Rattle.std.specs.Prelude.{IfSome}
use Rattle.std.specs.Arc.{arc_value}
use Rattle.desk.specs.inside.LastLook.{Changed, WereShown}
use Rattle.desk.specs.inside.Shared.{Prefix}
use Rattle.desk.proofs.LastLook.{one_noted}
use Rattle.desk.proofs.pass.note.Goals as goal

pub returns-then-is_ok-clause-shown : goal.returns-then-is_ok-clause-shown
returns-then-is_ok-clause-shown g c =
    let book = g.J.Naming.book in
    let limits = g.J.Naming.limits in
    let last = c.args.last.now in
    let before = c.args.before.now.list in
    let now = c.args.now.now in
    let since = last.since.items in
    let totals = c.in-Some.totals in
    let rows = (arc_value last.rows).items in
    let more = c.push.new.self.items in
    let same : last.prefix.list ≡ before = c.if-not-is_same.ensures refl in
    let changed : Changed limits before totals now.list = subst (λ o. IfSome o (λ totals. Changed limits before totals now.list)) c.in-Some.is c.requires.changed in
    let noted : more ≡ since ++ totals ∷ [] = c.push.ensures.items ∙ ap (λ b. cond b (since ++ totals ∷ []) since) (sym c.if-is_ok.ensures.value) in
    subst (λ (p : Prefix). WereShown book limits p rows more) (sym c.again.ensures)
    (one_noted book limits last.prefix now before rows since more totals c.requires.last (sym same) c.requires.now changed noted)
