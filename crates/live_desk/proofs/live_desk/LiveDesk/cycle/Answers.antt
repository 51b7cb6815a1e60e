use Rattle.std.proofs.Common.{◌≡◌, true, rules, sym, subst}
use Rattle.std.proofs.lemmas.Result.{IfOk-weaker}
use Rattle.cycle.specs.declared.one_cycle.Cycled.{Cycled}
use Rattle.ledger.specs.State.{is_open}
use Rattle.choose.specs.Kits.{rules_of}
use Rattle.live_desk.specs.declared.turn.Turn.TheVariants.{Without}
use Rattle.live_desk.specs.Turns.{Leads}
use Rattle.live_desk.proofs.Asking.{led_without, turn_by}
use Rattle.live_desk.proofs.live_desk.LiveDesk.cycle.Goals as goal

pub returns-in-Assumed-clause-turn : goal.returns-in-Assumed-clause-turn
returns-in-Assumed-clause-turn g c =
    let may : is_open c.args.self.now.ledger ≡ true = search rules in
    let decided = c.in-Ok.ensures.cycled in
    IfOk-weaker c.ask.result _ _ (λ turn asked. turn_by (rules_of g.D.Kit.Rules.answers (g.D.Decider.kits c.args.decider.now)) c.args.self.now c.cycle_alone.new.self _ decided.0 c.in-Ok.came turn may decided.1 decided.2 (subst (λ (k : Cycled). Leads c.cycle_alone.new.self k turn c.ask.new.self) (sym c.in-Assumed.is) asked)) c.ask.ensures

pub returns-in_default-came-clause-turn : goal.returns-in_default-came-clause-turn
returns-in_default-came-clause-turn g c =
    let may : is_open c.args.self.now.ledger ≡ true = search rules in
    let decided = c.in-Ok.ensures.cycled in
    let now = c.cycle_alone.new.self in
    turn_by (rules_of g.D.Kit.Rules.answers (g.D.Decider.kits c.args.decider.now)) c.args.self.now now now decided.0 c.in-Ok.came (Without c.in-Ok.came) may decided.1 decided.2
    (led_without now c.in-Ok.came c.in_default-came.not-Assumed)
