use Rattle.std.proofs.Common.{◌+◌, ◌<◌, ◌≤◌, refl, arith}
use Rattle.wplain.specs.Seen.{setting_of}
use Rattle.wplain.specs.inside.Seen.{execution_of, reduction_of}
use Rattle.wplain.specs.Stores.{store_of}
use Rattle.wplain.specs.declared.evaluation.Running.{Running}
use Rattle.wplain.proofs.Reached.{one_more}
use Rattle.wplain.proofs.evaluation.advance.Goals as goal

pub returns-then-effect-fuel : goal.returns-then-effect-fuel
returns-then-effect-fuel c =
    let effect = c.in_ok-effect.effect in
    let reduction = reduction_of (store_of c.args.store.now) c.reduce.new.locals.items (execution_of c.reduce.new.execution) effect in
    let above : c.args.fuel < c.args.running.now.cost + effect.cost = omega arith in
    ((reduction, c.in_ok-effect.ensures, above, refl), refl)

pub returns : goal.returns
returns c =
    let effect = c.in_ok-effect.effect in
    let cost = c.args.running.now.cost + effect.cost in
    let after : Running = record { locals = c.reduce.new.locals; execution = c.reduce.new.execution; cost = cost } in
    let applied = c.apply.ensures c.if-not-apply.false in
    let within : cost ≤ c.args.fuel = omega arith in
    one_more (setting_of c.args.setting.now) c.args.fuel (store_of c.args.store.now) (store_of c.apply.new.store) c.args.running.now after effect c.in_ok-effect.ensures applied refl within
