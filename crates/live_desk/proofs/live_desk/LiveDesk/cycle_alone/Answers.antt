use Rattle.std.proofs.Common.{None, refl, subst, ap}
use Rattle.choose.specs.Kits.{rules_of}
use Rattle.cycle.specs.CycleAlone.{IsCycleAlone}
use Rattle.live_desk.specs.State.{Live}
use Rattle.live_desk.specs.Turns.{with_desk}
use Rattle.live_desk.proofs.Asking.{cycled}
use Rattle.live_desk.proofs.live_desk.LiveDesk.cycle_alone.Goals as goal

pub returns-in-Ok-place-clause-cycled : goal.returns-in-Ok-place-clause-cycled
returns-in-Ok-place-clause-cycled g c =
    let rules = rules_of g.D.Kit.Rules.answers (g.D.Decider.kits c.args.decider.now) in
    let pops = rw c.in-Some.is at c.in-Ok.ensures.popped in (
      c.place.new.self,
      subst (λ (s : Live). IsCycleAlone rules s.desk c.in-Ok-place.came c.place.new.self) c.self.view_is
          (cycled rules c.self.inside.desk _ _ _ c.in-Ok-place.came pops c.in-Ok.ensures.after c.in-Ok-place.ensures.decided),
      ap (λ (s : Live). with_desk s c.place.new.self) c.self.view_is,
    )

pub returns-in_default-popped-clause-cycled : goal.returns-in_default-popped-clause-cycled
returns-in_default-popped-clause-cycled g c =
    let rules = rules_of g.D.Kit.Rules.answers (g.D.Decider.kits c.args.decider.now) in
    let pops = rw c.in_default-popped.is at c.in-Ok.ensures.popped in (
      c.pop.new.self,
      subst (λ (s : Live). IsCycleAlone rules s.desk _ c.pop.new.self) c.self.view_is
          (cycled rules c.self.inside.desk _ _ None _ pops c.in-Ok.ensures.after (refl, refl)),
      ap (λ (s : Live). with_desk s c.pop.new.self) c.self.view_is,
    )
