use Rattle.std.proofs.Common.{◌≡◌, ◌+◌, refl, ap, subst, ◌∙◌, arith}
use Rattle.desk.specs.Shared.{IsAhead}
use Rattle.desk.specs.inside.Board.{Board, IsSubject}
use Rattle.desk.specs.inside.Caller.{Core, handed_by}
use Rattle.desk.specs.inside.Shared.{Held, Stands, next_call, with_call}
use Rattle.desk.proofs.Sharing.{is_board}
use Rattle.desk.proofs.under_lock.UnderLock.prepare.Goals as goal

-- what is published is of what is held
pub may_go_on-requires-clause-stands : goal.may_go_on-requires-clause-stands
may_go_on-requires-clause-stands g c =
    let x : Held = record { desk = c.self.inside.core.value; prefix = c.self.inside.prefix } in
    is_board g.J.Naming.book g.J.Naming.limits x c.published.result.now c.self.invariant.stands (c.published.ensures ∙ c.self.invariant.shown)

pub with_call-requires : goal.with_call-requires
with_call-requires g c = c.self.invariant.stands.book_is

pub returns-clause-stands : goal.returns-clause-stands
returns-clause-stands g c = subst (Stands g.J.Naming.book g.J.Naming.limits) c.self.view_is c.self.invariant.stands

-- and the pass may go on to its history
pub returns-clause-ahead : goal.returns-clause-ahead
returns-clause-ahead g c =
    subst (λ (x : Held). IsAhead (record { limits = g.J.Naming.limits; handed = c.args.handed }) c.args.pass.now x.prefix.list) c.self.view_is
    (subst (λ (b : Board). IsAhead (record { limits = g.J.Naming.limits; handed = c.args.handed }) c.args.pass.now b.prefix.list) (c.published.ensures ∙ c.self.invariant.shown)
    (c.if-not-may_go_on.ensures refl))

pub overflow_add-next : goal.overflow_add-next
overflow_add-next g c =
    let calls = c.calls.ensures in
    let few = c.requires.fits in
    omega arith

-- what is ready is so of what is held
pub returns-clause-prefix : goal.returns-clause-prefix
returns-clause-prefix g c =
    let core : c.deref-3.result.now ≡ c.args.self.now.desk = c.deref-3.ensures ∙ ap (λ (x : Held). x.desk) c.self.view_is in
    rw c.in-Some.is at c.with_call.ensures
    ∙ (λ t. with_call (c.self.view_is t).prefix (next_call (core t).state (c.number.ensures t) (c.calls.ensures t + 1) c.args.step.now))

pub returns-clause-pod : goal.returns-clause-pod
returns-clause-pod g c =
    let core : c.deref.result.now ≡ c.args.self.now.desk = c.deref.ensures ∙ ap (λ (x : Held). x.desk) c.self.view_is in
    c.in-Ok.ensures.pod ∙ ap (λ (d : Core). handed_by d.state c.args.step.now) core

pub returns-clause-subject : goal.returns-clause-subject
returns-clause-subject g c =
    let core : c.deref-2.result.now ≡ c.args.self.now.desk = c.deref-2.ensures ∙ ap (λ (x : Held). x.desk) c.self.view_is in
    subst (λ (d : Core). IsSubject d.state.cluster c.args.step.now c.in-Ok-subject_of.subject) core c.in-Ok-subject_of.ensures
