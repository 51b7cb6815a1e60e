use Rattle.std.proofs.Common.{List, refl, ap, sym, subst, ◌∙◌}
use Rattle.desk.specs.History.{Call, HasCallsOf}
use Rattle.desk.specs.inside.Board.{Board}
use Rattle.desk.specs.inside.Shared.{Held}
use Rattle.desk.proofs.Sharing.{is_board}
use Rattle.desk.proofs.under_lock.UnderLock.meet.Goals as goal

-- what is published is of what is held
pub may_go_on-requires-clause-stands : goal.may_go_on-requires-clause-stands
may_go_on-requires-clause-stands g c =
    let x : Held = record { desk = c.self.inside.core.value; prefix = c.self.inside.prefix } in
    is_board g.J.Naming.book g.J.Naming.limits x c.published-board.result.now c.self.invariant.stands (c.published-board.ensures ∙ c.self.invariant.shown)

pub may_go_on-requires-else-not-may_go_on-clause-stands : goal.may_go_on-requires-else-not-may_go_on-clause-stands
may_go_on-requires-else-not-may_go_on-clause-stands g c =
    let x : Held = record { desk = c.self.inside.core.value; prefix = c.self.inside.prefix } in
    is_board g.J.Naming.book g.J.Naming.limits x c.published-board.result.now c.self.invariant.stands (c.published-board.ensures ∙ c.self.invariant.shown)

-- and both then have seen the history of what is held
pub see-requires-clause-own : goal.see-requires-clause-own
see-requires-clause-own g c =
    subst (λ (l : List Call). HasCallsOf c.args.first.now.caller l) (sym (ap (λ (y : Board). y.prefix.list) c.board.view_is)) (c.if-not-may_go_on.ensures refl).own

pub see-requires-clause-book : goal.see-requires-clause-book
see-requires-clause-book g c =
    ap (λ (y : Board). y.prefix.book) (c.board.view_is ∙ c.published-board.ensures ∙ c.self.invariant.shown) ∙ c.self.invariant.stands.book_is

pub see-requires-2-clause-own : goal.see-requires-2-clause-own
see-requires-2-clause-own g c =
    subst (λ (l : List Call). HasCallsOf c.args.second.now.caller l) (sym (ap (λ (y : Board). y.prefix.list) c.board.view_is)) (c.if-not-may_go_on-2.ensures refl).own

pub see-requires-2-clause-book : goal.see-requires-2-clause-book
see-requires-2-clause-book g c =
    ap (λ (y : Board). y.prefix.book) (c.board.view_is ∙ c.published-board.ensures ∙ c.self.invariant.shown) ∙ c.self.invariant.stands.book_is

pub returns : goal.returns
returns g c = record {
  list = c.published-board.result.now.prefix.list;
  first = c.if-not-may_go_on.ensures refl;
  second = c.if-not-may_go_on-2.ensures refl;
  first_new = c.see.ensures ∙ ap (λ (y : Board). record c.args.first.now { seen = y.prefix.list }) c.board.view_is;
  second_new = c.see-2.ensures ∙ ap (λ (y : Board). record c.args.second.now { seen = y.prefix.list }) c.board.view_is;
}
