use Rattle.std.proofs.Common.{◌≡◌, IfOk, subst, sym}
use Rattle.wmach.specs.Plain.{reduce_plain}
use Rattle.wplain.specs.Seen.{setting_of, body_of_code}
use Rattle.wplain.specs.inside.Seen.{moved}
use Rattle.wplain.specs.Stores.{store_of}
use Rattle.wplain.proofs.plain.reduce_plain.Goals as goal

pub returns-in-BrIf : goal.returns-in-BrIf
returns-in-BrIf c =
    let setting = setting_of c.args.setting.now in
    let store = store_of c.args.store.now in
    let locals = c.args.locals.now.items in
    subst (λ p. IfOk c.br_if.result (λ m. reduce_plain setting store locals c.args.values.now.items p (body_of_code c.args.rest.now) ≡ moved store locals c.br_if.new.values.items m)) (sym c.in-BrIf.is) (c.br_if.ensures setting store locals)

pub returns-in-Const : goal.returns-in-Const
returns-in-Const c =
    let setting = setting_of c.args.setting.now in
    let store = store_of c.args.store.now in
    let locals = c.args.locals.now.items in
    subst (λ p. IfOk c.constant.result (λ m. reduce_plain setting store locals c.args.values.now.items p (body_of_code c.args.rest.now) ≡ moved store locals c.constant.new.values.items m)) (sym c.in-Const.is) (c.constant.ensures setting store locals)

pub returns-in_default : goal.returns-in_default
returns-in_default c = c.on_operands.ensures (setting_of c.args.setting.now) (store_of c.args.store.now) c.args.locals.now.items
