-- Nothing changes until what lies under the lock is there.
use Rattle.std.proofs.Common.{◌≡◌, true, true≢false, sym, ap, subst, ◌∙◌, arith}
use Rattle.desk.specs.Shared.{Desk, Pass, Met}
use Rattle.desk.proofs.desk.Desk.meet.Goals as goal
use Rattle.desk.proofs.desk.Desk.meet.Goals.{in-Some-as_ref, in-None-as_ref}

pub meet-have_met-requires-clause-first : goal.meet-have_met-requires-clause-first
meet-have_met-requires-clause-first g c =
    let handed = ap (λ (d : Desk). d.handed) c.self.view_is in
    let same = ap (λ (p : Pass). p.caller.number) c.loop.invariant.2 in
    let of = c.requires.first in
    omega arith

pub meet-have_met-requires-clause-second : goal.meet-have_met-requires-clause-second
meet-have_met-requires-clause-second g c =
    let handed = ap (λ (d : Desk). d.handed) c.self.view_is in
    let same = ap (λ (p : Pass). p.caller.number) c.loop.invariant.3 in
    let of = c.requires.second in
    omega arith

pub meet-have_met-requires-clause-handed : goal.meet-have_met-requires-clause-handed
meet-have_met-requires-clause-handed g c = c.self.invariant.0

pub returns-then-have_met : goal.returns-then-have_met
returns-then-have_met g c =
    let first = c.args.first.now in
    let second = c.args.second.now in
    let inside : Desk = record { limits = g.J.Naming.limits; handed = c.self.inside.handed } in
    elim c.match-as_ref.branch [
      | in-Some-as_ref w ↦
          let p = w.meet-have_met.new.first in
          let q = w.meet-have_met.new.second in
          let met : w.meet-have_met.result ≡ true = sym w.have_met-is ∙ c.if-have_met.true in
          let both : Met inside c.loop.first c.loop.second p q = rw met at w.meet-have_met.ensures in
          rw (w.first-is, w.second-is)
          (
          subst (λ (d : Desk). Met d first second p q) c.self.view_is
          (subst (λ (x : Pass). Met inside x second p q) c.loop.invariant.2 (subst (λ (x : Pass). Met inside c.loop.first x p q) c.loop.invariant.3 both))
          )
      | in-None-as_ref w ↦ absurd (true≢false (sym c.if-have_met.true ∙ w.have_met-is))
    ]
