use Rattle.std.proofs.Common.{subst, sym}
use Rattle.wmach.specs.Outcome.{HasOutcome}
use Rattle.wplain.specs.Seen.{setting_of}
use Rattle.wplain.specs.Stores.{store_of}
use Rattle.wplain.specs.inside.Running.{Goes}
use Rattle.wplain.proofs.Reached.{reached_next, ends}
use Rattle.wplain.proofs.evaluation.outcome_of.Goals as goal

pub returns-in-Some : goal.returns-in-Some
returns-in-Some c =
    let setting = setting_of c.args.setting.now in
    let before = store_of c.args.store.now in
    let from = store_of c.loop-i.store in
    let went = subst (λ o. Goes setting c.args.fuel from c.loop-i.running (store_of c.advance.new.store) c.advance.new.running o) c.in-Some.is c.in_ok-outcome.ensures in
    let given = ends setting c.args.fuel before c.args.function from c.loop-i.running c.in-Some.outcome c.loop-i.invariant went.0 in
    subst (λ s. HasOutcome setting before c.args.function c.args.fuel c.in-Some.outcome s) (sym went.1) given

pub loop-i-preserved : goal.loop-i-preserved
loop-i-preserved c =
    let setting = setting_of c.args.setting.now in
    let from = store_of c.loop-i.store in
    let to = store_of c.advance.new.store in
    let went = subst (λ o. Goes setting c.args.fuel from c.loop-i.running to c.advance.new.running o) c.in_default.is c.in_ok-outcome.ensures in
    reached_next setting c.args.fuel (store_of c.args.store.now) c.args.function from to c.loop-i.running c.advance.new.running c.loop-i.invariant went
