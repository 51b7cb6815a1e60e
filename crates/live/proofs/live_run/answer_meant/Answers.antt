use Rattle.std.proofs.Common.{refl, ap}
use Rattle.choose.specs.Kits.{rules_of}
use Rattle.live_line.specs.Scope.{site_of}
use Rattle.live_line.specs.declared.meaning.Meaning.TheVariants as means
use Rattle.live_desk.specs.Telling.{PutAside}
use Rattle.live.specs.Answer.{aside_text, nothing_text, faulty_text, taken_text, told_text, tick_text, turn_text}
use Rattle.live.specs.Live.{manner}
use Rattle.live.proofs.Answered.{answered_by}
use Rattle.live.proofs.live_run.answer_meant.Goals as goal

pub returns-in-Ok-clause-answered : goal.returns-in-Ok-clause-answered
returns-in-Ok-clause-answered g c =
    let m = manner (site_of c.args.site.now) (rules_of g.D.Kit.Rules.answers (g.D.Decider.kits c.args.decider.now)) c.args.named.now in
    answered_by m c.args.meaning (means.Tells c.in-Tells.event) c.args.reasons.now c.args.live.now c.tell.new.self (told_text c.in-Tells.event c.in-Ok.answer c.args.reasons.now) c.told_text.result
    c.in-Tells.is (c.in-Ok.answer, c.in-Ok.ensures, refl) (rw c.is_withheld-is_withheld.ensures at c.told_text.ensures)

pub returns-in-Ok-pending-clause-answered : goal.returns-in-Ok-pending-clause-answered
returns-in-Ok-pending-clause-answered g c =
    let m = manner (site_of c.args.site.now) (rules_of g.D.Kit.Rules.answers (g.D.Decider.kits c.args.decider.now)) c.args.named.now in
    answered_by m c.args.meaning (means.Pending c.in-Pending.version c.in-Pending.pod) c.args.reasons.now c.args.live.now c.pending.new.self (taken_text c.in-Ok-pending.taken c.args.reasons.now) c.taken_text.result
    c.in-Pending.is (c.in-Ok-pending.taken, c.in-Ok-pending.ensures, refl) c.taken_text.ensures

pub returns-in-Ok-put_aside-clause-answered : goal.returns-in-Ok-put_aside-clause-answered
returns-in-Ok-put_aside-clause-answered g c =
    let m = manner (site_of c.args.site.now) (rules_of g.D.Kit.Rules.answers (g.D.Decider.kits c.args.decider.now)) c.args.named.now in
    answered_by m c.args.meaning (means.Aside c.in-Aside.uid) c.args.reasons.now c.args.live.now c.put_aside.new.self (aside_text c.in-Ok-put_aside.was_there) c.aside_text.result
    c.in-Aside.is (ap (λ (a : PutAside). aside_text a.was_there) c.in-Ok-put_aside.ensures, ap (λ (a : PutAside). a.state) c.in-Ok-put_aside.ensures) c.aside_text.ensures

pub returns-in-Ok-tick-clause-answered : goal.returns-in-Ok-tick-clause-answered
returns-in-Ok-tick-clause-answered g c =
    let m = manner (site_of c.args.site.now) (rules_of g.D.Kit.Rules.answers (g.D.Decider.kits c.args.decider.now)) c.args.named.now in
    answered_by m c.args.meaning (means.Tick c.in-Tick.now) c.args.reasons.now c.args.live.now c.tick.new.self (tick_text c.in-Ok-tick.reply) c.tick_text.result
    c.in-Tick.is (ap tick_text c.in-Ok-tick.ensures.reply, c.in-Ok-tick.ensures.after) c.tick_text.ensures

pub returns-in-Ok-cycle-clause-answered : goal.returns-in-Ok-cycle-clause-answered
returns-in-Ok-cycle-clause-answered g c =
    let m = manner (site_of c.args.site.now) (rules_of g.D.Kit.Rules.answers (g.D.Decider.kits c.args.decider.now)) c.args.named.now in
    answered_by m c.args.meaning means.Cycle c.args.reasons.now c.args.live.now c.cycle.new.self (turn_text c.args.named.now c.in-Ok-cycle.turn) c.turn_text.result
    c.in-Cycle.is (c.in-Ok-cycle.turn, c.in-Ok-cycle.ensures.turn, refl) c.turn_text.ensures

pub returns-in-Nothing-clause-answered : goal.returns-in-Nothing-clause-answered
returns-in-Nothing-clause-answered g c =
    let m = manner (site_of c.args.site.now) (rules_of g.D.Kit.Rules.answers (g.D.Decider.kits c.args.decider.now)) c.args.named.now in
    answered_by m c.args.meaning means.Nothing c.args.reasons.now c.args.live.now c.args.live.now (nothing_text c.args.reasons.now) c.nothing_text.result c.in-Nothing.is (refl, refl) c.nothing_text.ensures

pub returns-in-Faulty-clause-answered : goal.returns-in-Faulty-clause-answered
returns-in-Faulty-clause-answered g c =
    let m = manner (site_of c.args.site.now) (rules_of g.D.Kit.Rules.answers (g.D.Decider.kits c.args.decider.now)) c.args.named.now in
    answered_by m c.args.meaning (means.Faulty c.in-Faulty.field) c.args.reasons.now c.args.live.now c.args.live.now (faulty_text c.in-Faulty.field) c.faulty_text.result c.in-Faulty.is (refl, refl) c.faulty_text.ensures
