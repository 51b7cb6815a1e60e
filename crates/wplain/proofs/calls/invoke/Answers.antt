use Rattle.std.proofs.Common.{◌∙◌, Option, IfOk, subst, sym}
use Rattle.wmach.specs.Configuration.{Reduction}
use Rattle.wplain.specs.Seen.{setting_of, body_of_code}
use Rattle.wplain.specs.Stores.{store_of}
use Rattle.wplain.specs.inside.Done.{WentAs}
use Rattle.wplain.proofs.Invoked.{invoked_own, invoked_import}
use Rattle.wplain.proofs.calls.invoke.Goals as goal

pub returns-then-place-imported : goal.returns-then-place-imported
returns-then-place-imported c = λ locals.
    let setting = setting_of c.args.setting.now in
    let store = store_of c.args.store.now in
    let same = invoked_import setting store locals c.args.values.now.items (body_of_code c.args.rest.now) c.args.frames c.args.function c.in_ok-imported.imported c.in_ok-imported.ensures c.if-place-imported.true in
    same ∙ c.in_ok-called.ensures locals

pub returns : goal.returns
returns c = λ locals.
    let setting = setting_of c.args.setting.now in
    let store = store_of c.args.store.now in
    let same = invoked_own setting store locals c.args.values.now.items (body_of_code c.args.rest.now) c.args.frames c.args.function c.in_ok-imported.imported c.in_ok-imported.ensures c.if-place-imported.false c.if-frames-ge256.false in
    subst (λ (given : Option Reduction). IfOk c.invoke_own.result (WentAs given store locals c.invoke_own.new.values.items)) (sym same) (c.invoke_own.ensures store locals c.invoke_own.new.values.items)
