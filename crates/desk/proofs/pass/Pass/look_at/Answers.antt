use Rattle.std.proofs.Common.{◌≡◌, List, Option, map, refl, ap, sym, subst, ◌∙◌}
use Rattle.std.specs.Prelude.{IfSome}
use Rattle.std.specs.Arc.{arc_value}
use Rattle.std.specs.Global.{Vec}
use Rattle.desk.specs.declared.pass.Last.{Last}
use Rattle.desk.specs.declared.snapshot.Row.{Row}
use Rattle.desk.specs.Caller.{Caller}
use Rattle.desk.specs.History.{Call, HasCallsOf}
use Rattle.desk.specs.inside.LastLook.{WereShown}
use Rattle.desk.specs.inside.Board.{Board}
use Rattle.desk.specs.Shared.{Pass}
use Rattle.desk.specs.Shown.{Shown, shown}
use Rattle.desk.specs.Worth.{IsSought}
use Rattle.desk.specs.Order.{AreInOrder}
use Rattle.desk.specs.inside.Kept.{AreKept}
use Rattle.desk.proofs.LastLook.{just_shown}
use Rattle.desk.proofs.Sharing.{looked_on_board}
use Rattle.desk.proofs.Order.{shown_in_order}
use Rattle.desk.proofs.pass.Pass.look_at.Goals as goal

-- what is published is shown in the order of the nodes' names
pub new-shown-requires-clause-order : goal.new-shown-requires-clause-order
new-shown-requires-clause-order g c =
    subst AreInOrder (sym (ap (λ (v : Vec Row). map shown v.items) c.in-Ok-clone.ensures.cases ∙ c.in-Ok.ensures))
    (shown_in_order g.J.Naming.book g.J.Naming.limits c.args.board.now c.requires.stands)

-- the published history's snapshot is shown, and has then been seen
pub returns-clause-looked : goal.returns-clause-looked
returns-clause-looked g c =
    let p = c.args.self.now in
    looked_on_board g.J.Naming.book g.J.Naming.limits c.args.board.now c.requires.stands c.args.handed p c.see.new.self c.new-shown.result (c.if-not-may_go_on.ensures refl)
    (c.see.ensures ∙ ap (λ (q : Pass). record q { seen = c.board.inside.prefix.list }) c.self.view_is ∙ ap (λ (y : Board). record p { seen = y.prefix.list }) c.board.view_is)
    (c.new-shown.ensures ∙ ap (λ (v : Vec Row). map shown v.items) c.in-Ok-clone.ensures.cases ∙ c.in-Ok.ensures)

-- what is kept for the next look is what was shown
pub invariant_of-self-2 : goal.invariant_of-self-2
invariant_of-self-2 g c =
    let prefix : c.again.result ≡ c.args.board.now.prefix = c.again.ensures ∙ ap (λ (y : Board). y.prefix) c.board.view_is in (
      c.self.invariant.0,
      c.self.invariant.1,
      (just_shown g.J.Naming.book g.J.Naming.limits c.args.board.now c.requires.stands c.again.result (arc_value c.in-Ok.rows).items _ prefix c.in-Ok.ensures c.no_totals.ensures, subst (λ (l : List Row). AreKept (map shown l) c.seek-sought.new.self.classes.items) (c.deref-2.ensures.value ∙ ap (λ (v : Vec Row). v.items) c.deref.ensures) c.seek-sought.ensures.kept),
    )

pub returns-clause-err : goal.returns-clause-err
returns-clause-err g c = tt

-- what was shown last is as it was kept
pub rows_again-rows-requires-clause-last : goal.rows_again-rows-requires-clause-last
rows_again-rows-requires-clause-last g c =
    subst (λ (o : Option Last). IfSome o (λ last. WereShown g.J.Naming.book g.J.Naming.limits last.prefix (arc_value last.rows).items last.since.items
    × AreKept (map shown (arc_value last.rows).items) last.kept.classes.items)) (sym c.take.ensures.value) c.self.invariant.2

-- the published history has just the pass's own calls of it
pub see-requires-clause-own : goal.see-requires-clause-own
see-requires-clause-own g c =
    let own = (c.if-not-may_go_on.ensures refl).own in
    subst (λ (l : List Call). HasCallsOf (record { number = c.self.inside.number; calls = c.self.inside.calls }) l) (sym (ap (λ (y : Board). y.prefix.list) c.board.view_is))
    (subst (λ (p : Caller). HasCallsOf p c.args.board.now.prefix.list) (sym (ap (λ (q : Pass). q.caller) c.self.view_is)) own)

pub see-requires-clause-book : goal.see-requires-clause-book
see-requires-clause-book g c =
    ap (λ (y : Board). y.prefix.book) c.board.view_is ∙ ap (λ (y : Board). y.prefix.book) c.requires.stands.is ∙ c.requires.stands.stands.book_is

pub rows_again-rows-requires-clause-stands : goal.rows_again-rows-requires-clause-stands
rows_again-rows-requires-clause-stands g c = c.requires.stands

pub show-requires : goal.show-requires
show-requires g c = c.rows_again-rows.ensures.rows

-- what is kept is what the rows are worth
pub seek-sought-requires : goal.seek-sought-requires
seek-sought-requires g c =
    subst (λ (l : List Shown). AreKept l c.rows_again-rows.result.kept.classes.items) (sym (ap (map shown) (c.deref-2.ensures.value ∙ ap (λ (v : Vec Row). v.items) c.deref.ensures) ∙ c.in-Ok.ensures))
    c.rows_again-rows.ensures.kept

pub new-shown-requires-clause-sought : goal.new-shown-requires-clause-sought
new-shown-requires-clause-sought g c =
    subst (λ (l : List Row). IfSome c.seek-sought.result (IsSought (map shown l))) (c.deref-2.ensures.value ∙ ap (λ (v : Vec Row). v.items) (c.deref.ensures ∙ sym c.in-Ok-clone.ensures.cases)) c.seek-sought.ensures.sought

-- where there is no memory, nothing is kept
pub invariant_of-self : goal.invariant_of-self
invariant_of-self g c = (c.self.invariant.0, c.self.invariant.1, rw c.take.ensures.after tt)

pub invariant_of-self-in_default-clone : goal.invariant_of-self-in_default-clone
invariant_of-self-in_default-clone g c = (c.self.invariant.0, c.self.invariant.1, rw c.take.ensures.after tt)
