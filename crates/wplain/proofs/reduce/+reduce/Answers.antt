use Rattle.std.proofs.Common.{◌≡◌, ◌+◌, ◌∙◌, Some, ap, subst, sym}
use Rattle.wmach.specs.Reduction.{reduce, reduce_label, reduce_frame, inside_label, inside_frame}
use Rattle.wplain.specs.Seen.{setting_of, body_of_code}
use Rattle.wplain.specs.inside.Seen.{continuation_of, place_of, execution_of, reduction_of}
use Rattle.wplain.specs.Stores.{store_of}
use Rattle.wplain.specs.inside.Done.{WentAs, LeavesLabel, LeavesFrame}
use Rattle.wplain.specs.declared.execution.Write.TheVariants.{Nothing}
use Rattle.wplain.proofs.reduce.+reduce.Goals as goal

pub returns-in-On : goal.returns-in-On
returns-in-On t c =
    let setting = setting_of c.args.setting.now in
    let store = store_of c.args.store.now in
    let locals = c.args.locals.now.items in
    let on = c.reduce_here.new.locals.items in
    let values = c.reduce_here.new.values.items in
    let given = reduce setting c.args.frames store locals (place_of c.in-Here.place.values.items c.in-Here.place.next) in
    let went = subst (λ w. WentAs given store on values w) c.in-On.is c.in_ok-m-in-Here.ensures in
    subst (λ e. reduce setting c.args.frames store locals (execution_of e) ≡ Some (reduction_of store on (place_of values c.in-On.m.next) c.in-On.m.effect)) (sym c.in-Here.is) went

pub returns-in-Into : goal.returns-in-Into
returns-in-Into t c =
    let setting = setting_of c.args.setting.now in
    let store = store_of c.args.store.now in
    let locals = c.args.locals.now.items in
    let on = c.reduce_here.new.locals.items in
    let given = reduce setting c.args.frames store locals (place_of c.in-Here.place.values.items c.in-Here.place.next) in
    let went = subst (λ w. WentAs given store on c.reduce_here.new.values.items w) c.in-Into.is c.in_ok-m-in-Here.ensures in
    subst (λ e. reduce setting c.args.frames store locals (execution_of e) ≡ Some (reduction_of store on (execution_of c.in-Into.entered) (record { cost = c.in-Into.cost; write = Nothing }))) (sym c.in-Here.is) went

pub returns-in-To : goal.returns-in-To
returns-in-To t c =
    let setting = setting_of c.args.setting.now in
    let store = store_of c.args.store.now in
    let locals = c.args.locals.now.items in
    let label = c.in-Label.label in
    let inside = execution_of label.inside.value in
    let left = subst (λ l. LeavesLabel label.below.items label.arity (continuation_of label.continuation) (body_of_code label.rest.now) inside l) c.in-To.is c.in_ok-leave_label-in-Label.ensures in
    subst (λ e. reduce setting c.args.frames store locals (execution_of e) ≡ Some (reduction_of store locals (place_of c.in-To.place.values.items c.in-To.place.next) (record { cost = c.in-To.cost; write = Nothing }))) (sym c.in-Label.is) (left store locals (reduce setting c.args.frames store locals inside))

pub returns-in-To-2 : goal.returns-in-To-2
returns-in-To-2 t c =
    let setting = setting_of c.args.setting.now in
    let store = store_of c.args.store.now in
    let outer = c.args.locals.now.items in
    let frame = c.in-Frame.frame in
    let inside = execution_of frame.inside.value in
    let left = subst (λ l. LeavesFrame frame.below.items frame.arity (body_of_code frame.rest.now) inside l) c.in-To-2.is c.in_ok-leave_frame-in-Frame.ensures in
    subst (λ e. reduce setting c.args.frames store outer (execution_of e) ≡ Some (reduction_of store outer (place_of c.in-To-2.place.values.items c.in-To-2.place.next) (record { cost = c.in-To-2.cost; write = Nothing }))) (sym c.in-Frame.is) (left store outer (reduce setting (c.args.frames + 1) store frame.locals.items inside))

pub returns-in_ok-effect-in-Open : goal.returns-in_ok-effect-in-Open
returns-in_ok-effect-in-Open t c =
    let setting = setting_of c.args.setting.now in
    let store = store_of c.args.store.now in
    let locals = c.args.locals.now.items in
    let label = c.in-Label.label in
    let below = label.below.items in
    let continuation = continuation_of label.continuation in
    let rest = body_of_code label.rest.now in
    let inside = execution_of label.inside.value in
    let reduction = reduction_of store c.reduce.new.locals.items (execution_of c.reduce.new.execution) c.in_ok-effect-in-Open.effect in
    let open_label = subst (λ l. LeavesLabel below label.arity continuation rest inside l) c.in-Open.is c.in_ok-leave_label-in-Label.ensures in
    let reduces = subst (λ e. reduce setting c.args.frames store locals (execution_of e) ≡ Some reduction) c.deref_mut.ensures.value c.in_ok-effect-in-Open.ensures in
    let gives = ap (λ on. reduce_label store locals below label.arity continuation inside rest on) reduces ∙ open_label store locals reduction in
    subst (λ e. reduce setting c.args.frames store locals (execution_of e) ≡ Some (inside_label below label.arity continuation rest reduction)) (sym c.in-Label.is) gives

pub returns-in_ok-effect-in-Open-2 : goal.returns-in_ok-effect-in-Open-2
returns-in_ok-effect-in-Open-2 t c =
    let setting = setting_of c.args.setting.now in
    let store = store_of c.args.store.now in
    let outer = c.args.locals.now.items in
    let frame = c.in-Frame.frame in
    let below = frame.below.items in
    let rest = body_of_code frame.rest.now in
    let inside = execution_of frame.inside.value in
    let reduction = reduction_of store c.reduce-in-Open-2.new.locals.items (execution_of c.reduce-in-Open-2.new.execution) c.in_ok-effect-in-Open-2.effect in
    let open_frame = subst (λ l. LeavesFrame below frame.arity rest inside l) c.in-Open-2.is c.in_ok-leave_frame-in-Frame.ensures in
    let reduces = subst (λ e. reduce setting (c.args.frames + 1) store frame.locals.items (execution_of e) ≡ Some reduction) c.deref_mut-in-Open-2.ensures.value c.in_ok-effect-in-Open-2.ensures in
    let gives = ap (λ on. reduce_frame store outer below frame.arity inside rest on) reduces ∙ open_frame store outer reduction in
    subst (λ e. reduce setting c.args.frames store outer (execution_of e) ≡ Some (inside_frame outer below frame.arity rest reduction)) (sym c.in-Frame.is) gives
