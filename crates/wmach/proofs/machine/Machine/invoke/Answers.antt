use Rattle.std.proofs.Common.{length, sym, ap, ◌∙◌, subst}
use Rattle.std.proofs.lemmas.List.{with_items_is}
use Rattle.wmodule.specs.Syntax.{module_of}
use Rattle.wtype.specs.CheckedModule.{CheckedModule}
use Rattle.wmach.specs.inside.Coded.{ShapesAgree, RecordsAgree}
use Rattle.wmach.specs.Host.{imported_names}
use Rattle.wmach.specs.Call.{MachineState, Calls, called_function}
use Rattle.wmach.specs.inside.Kept.{HasSlots}
use Rattle.wmach.specs.inside.Known.{IsChecked}
use Rattle.wmach.specs.inside.Running.{Widest}
use Rattle.wmach.proofs.machine.Machine.invoke.Goals as goal

pub invoke-requires-clause-checked : goal.invoke-requires-clause-checked
invoke-requires-clause-checked g c = subst IsChecked (c.deref.ensures ∙ sym c.self.invariant.checked_is) c.is_checked.ensures

pub invoke-requires-clause-coded : goal.invoke-requires-clause-coded
invoke-requires-clause-coded g c =
    let h = c.self.invariant in
    let m = c.self.inside in
    record {
      module_is = c.module.ensures.value ∙ ap (λ (x : CheckedModule). x.content) (c.deref-3.ensures ∙ sym h.checked_is);
      notes_are = c.notes.ensures.value ∙ ap (λ (x : CheckedModule). x.notes) (c.deref-4.ensures ∙ sym h.checked_is);
      shapes = subst (λ l. ShapesAgree m.store.checked.content l) (sym c.as_slice.ensures.value) h.shapes;
      records = subst (λ l. RecordsAgree (imported_names (module_of m.store.checked.content).imports) l) (sym c.as_slice-2.ensures.value) h.records;
    }

pub invoke-requires-clause-room : goal.invoke-requires-clause-room
invoke-requires-clause-room g c = c.self.invariant.room

pub invoke-requires-clause-slots : goal.invoke-requires-clause-slots
invoke-requires-clause-slots g c = subst (λ l. HasSlots c.self.inside.store.checked l) (sym c.as_mut_slice.ensures.value) c.self.invariant.slots

pub invoke-requires-clause-there : goal.invoke-requires-clause-there
invoke-requires-clause-there g c =
    ap (λ (x : CheckedModule). called_function (module_of x.content) c.args.export) (c.self.invariant.checked_is ∙ sym c.deref-2.ensures)
    ∙ sym c.function_of.ensures ∙ c.unwrap-function.ensures

pub returns-clause-result : goal.returns-clause-result
returns-clause-result g c = c.invoke.ensures.fits

pub returns-clause-calls : goal.returns-clause-calls
returns-clause-calls g c =
    let s = c.invoke.new.store in
    subst (λ (x : MachineState). Calls x c.args.export (g.H.Host.records c.args.host.now) c.args.fuel c.invoke.result (record { content = s.checked.content; store = s.current; image = s.image })) c.self.view_is
    (record {
      content = ap (λ (x : CheckedModule). x.content) c.invoke.ensures.checked;
      image = c.invoke.ensures.image;
      function = c.unwrap-function.result;
      function_is =
          ap (λ (x : CheckedModule). called_function (module_of x.content) c.args.export) (c.self.invariant.checked_is ∙ sym c.deref-2.ensures)
          ∙ sym c.function_of.ensures ∙ c.unwrap-function.ensures;
      ends = c.invoke.ensures.ends;
    })

pub invariant_of-self : goal.invariant_of-self
invariant_of-self g c =
    let h = c.self.invariant in
    let same = c.invoke.ensures.checked in
    let m = c.self.inside in
    record {
      checked_is = same ∙ h.checked_is;
      shapes = subst (λ (x : CheckedModule). ShapesAgree x.content m.shapes.items) (sym same) h.shapes;
      records = subst (λ (x : CheckedModule). RecordsAgree (imported_names (module_of x.content).imports) m.records.items) (sym same) h.records;
      slots = (h.slots.0, subst (λ x. Widest x h.slots.0) (sym same) h.slots.1, ap length (with_items_is m.slots c.invoke.new.slots (c.invoke.ensures.long ∙ c.as_mut_slice.ensures.len)) ∙ c.invoke.ensures.long ∙ ap length c.as_mut_slice.ensures.value ∙ h.slots.2);
      room = c.invoke.ensures.room;
    }
