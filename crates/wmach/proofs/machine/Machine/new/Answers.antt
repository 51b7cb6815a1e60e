use Rattle.std.proofs.Common.{◌≡◌, ◌*◌, length, sym, ap, ◌∙◌, subst, rules}
use Rattle.std.specs.Arc.{arc_value}
use Rattle.wmodule.specs.Syntax.{ModuleParts, module_of}
use Rattle.wtype.specs.Accepted.{Accepted, ImportsRight, most_slots}
use Rattle.wtype.specs.CheckedModule.{CheckedModule}
use Rattle.wstore.specs.State.{StoreState, new_state}
use Rattle.wmach.specs.Call.{MachineState}
use Rattle.wmach.specs.inside.Coded.{ShapesAgree, RecordsAgree}
use Rattle.wmach.specs.Host.{imported_names}
use Rattle.wmach.specs.inside.Kept.{AllFrames}
use Rattle.wmach.specs.inside.Known.{IsChecked}
use Rattle.wmach.specs.Reduction.{most_frames}
use Rattle.wmach.specs.inside.Running.{Widest}
use Rattle.wmach.proofs.Widening.{few_frames, wide_is}
use Rattle.wmach.proofs.machine.Machine.new.Goals as goal

pub widest_frame-widest-requires-clause-few : goal.widest_frame-widest-requires-clause-few
widest_frame-widest-requires-clause-few c =
    let checked = arc_value c.args.checked in let shapes = c.in-Ok.shapes.items in
    let ok = subst IsChecked c.deref.ensures c.is_checked.ensures in
    let agree = subst (λ (p : ModuleParts). ShapesAgree p shapes) (c.module.ensures.value ∙ ap (λ (x : CheckedModule). x.content) c.deref-2.ensures) c.in-Ok.ensures in
    subst (λ l. AllFrames l c.notes.result.now most_slots) (sym c.as_slice.ensures.value)
    (subst (λ l. AllFrames shapes l most_slots) (sym (c.notes.ensures.value ∙ ap (λ (x : CheckedModule). x.notes) c.deref-4.ensures)) (few_frames checked shapes agree ok))

pub invariant_of-result : goal.invariant_of-result
invariant_of-result c =
    let checked = arc_value c.args.checked in let shapes = c.in-Ok.shapes.items in
    let same : c.in-Ok-new.store.checked ≡ checked = ap (λ (s : StoreState). s.checked) c.in-Ok-new.ensures ∙ c.in-Ok-clone.ensures.cases in
    let agree = subst (λ (p : ModuleParts). ShapesAgree p shapes) (c.module.ensures.value ∙ ap (λ (x : CheckedModule). x.content) c.deref-2.ensures) c.in-Ok.ensures in
    let records = subst (λ (p : ModuleParts). RecordsAgree (imported_names (module_of p).imports) c.in-Ok-records_of.records.items) (c.module-2.ensures.value ∙ ap (λ (x : CheckedModule). x.content) c.deref-3.ensures) c.in-Ok-records_of.ensures in
    let widest = c.widest_frame-widest.result in
    let frames = subst (λ l. AllFrames l c.notes.result.now widest) c.as_slice.ensures.value c.widest_frame-widest.ensures.widest in
    let wide = wide_is checked shapes agree widest (subst (λ l. AllFrames shapes l widest) (c.notes.ensures.value ∙ ap (λ (x : CheckedModule). x.notes) c.deref-4.ensures) frames) in
    let long : length c.in-Ok-vec.slots.items ≡ most_frames * widest = search rules in
    record {
      checked_is = same;
      shapes = subst (λ (x : CheckedModule). ShapesAgree x.content shapes) (sym same) agree;
      records = subst (λ (x : CheckedModule). RecordsAgree (imported_names (module_of x.content).imports) c.in-Ok-records_of.records.items) (sym same) records;
      slots = (widest, subst (λ x. Widest x widest) (sym same) wide, long);
      room = c.in-Ok-with_capacity.ensures.capacity;
    }

pub shapes_of-requires : goal.shapes_of-requires
shapes_of-requires c = subst (λ (p : ModuleParts). Accepted (module_of p)) (sym c.module.ensures.value) c.module.ensures.accepted

pub records_of-requires : goal.records_of-requires
records_of-requires c = subst (λ (p : ModuleParts). ImportsRight (module_of p)) (sym c.module-2.ensures.value) c.module-2.ensures.accepted.imports

pub returns : goal.returns
returns c =
    ap (λ (s : StoreState). let m : MachineState = record { content = s.checked.content; store = s.current; image = s.image } in m)
    (c.in-Ok-new.ensures ∙ ap new_state c.in-Ok-clone.ensures.cases)
