use Rattle.std.proofs.Common.{IfOk, subst, sym}
use Rattle.wmach.specs.Reduction.{reduce}
use Rattle.wplain.specs.Seen.{setting_of}
use Rattle.wplain.specs.inside.Seen.{place_of}
use Rattle.wplain.specs.Stores.{store_of}
use Rattle.wplain.specs.inside.Done.{WentAs}
use Rattle.wplain.proofs.reduce.reduce_here.Goals as goal

pub returns-in-Call : goal.returns-in-Call
returns-in-Call c =
    let setting = setting_of c.args.setting.now in
    let store = store_of c.args.store.now in
    let locals = c.args.locals.now.items in
    let values = c.invoke.new.values.items in
    subst (λ n. IfOk c.invoke.result (WentAs (reduce setting c.args.frames store locals (place_of c.args.values.now.items n)) store locals values)) (sym c.in-Call.is) (c.invoke.ensures locals)
