use Rattle.std.proofs.Common.{sym, ap, subst, true≢false, ◌∙◌}
use Rattle.std.specs.Prelude.{IsSome}
use Rattle.book.specs.declared.limits.Limits.{Limits}
use Rattle.desk.specs.Machine.{State, opening}
use Rattle.desk.specs.History.{state_after}
use Rattle.desk.specs.Shared.{IsAhead}
use Rattle.desk.specs.inside.Board.{Board}
use Rattle.desk.specs.inside.Caller.{Core}
use Rattle.desk.specs.inside.Shared.{Held}
use Rattle.desk.proofs.Sharing.{is_board}
use Rattle.desk.proofs.under_lock.UnderLock.close.Goals as goal
use Rattle.desk.proofs.under_lock.UnderLock.close.Goals.{in-None, in-Some+then-may_go_on}

-- what is published is of what is held
pub may_go_on-requires-clause-stands : goal.may_go_on-requires-clause-stands
may_go_on-requires-clause-stands g c =
    let x : Held = record { desk = c.self.inside.core.value; prefix = c.self.inside.prefix } in
    is_board g.J.Naming.book g.J.Naming.limits x c.published.result.now c.self.invariant.stands (c.published.ensures ∙ c.self.invariant.shown)

pub see-requires-clause-book : goal.see-requires-clause-book
see-requires-clause-book g c = c.self.invariant.stands.book_is

-- the pass may go on to the history of what is held
pub see-requires-clause-own : goal.see-requires-clause-own
see-requires-clause-own g c = elim c.match-next.branch [
  | in-None w ↦ absurd (true≢false (sym (subst (λ o. IsSome o) w.in-None.is c.next.ensures.steps)))
  | in-Some+then-may_go_on w ↦ (
      let ahead = subst (λ (b : Board). IsAhead (record { limits = g.J.Naming.limits; handed = c.args.handed }) c.args.pass.now b.prefix.list) (w.published.ensures ∙ c.self.invariant.shown)
      (w.may_go_on.ensures w.if-may_go_on.true) in
      ahead.own)
]

-- and the book is what that history left
pub returns : goal.returns
returns g c =
    let limits = g.J.Naming.limits in
    let l = c.self.inside.prefix.list in
    let stands = c.self.invariant.stands in
    let ahead : IsAhead (record { limits = limits; handed = c.args.handed }) c.args.pass.now l = elim c.match-next.branch [
      | in-None w ↦ absurd (true≢false (sym (subst (λ o. IsSome o) w.in-None.is c.next.ensures.steps)))
      | in-Some+then-may_go_on w ↦ subst (λ (b : Board). IsAhead (record { limits = limits; handed = c.args.handed }) c.args.pass.now b.prefix.list) (w.published.ensures ∙ c.self.invariant.shown)
          (w.may_go_on.ensures w.if-may_go_on.true)
    ] in
    record {
      list = l;
      ahead = ahead;
      new = c.see.ensures;
      book_is =
          c.into_book.ensures ∙ ap (λ (d : Core). d.state.cluster) c.into_inner.ensures ∙ ap (λ (s : State). s.cluster) stands.leaves.state
          ∙ ap (λ (n : Limits). (state_after (opening n) l).cluster) stands.limits_are;
    }
