use Rattle.std.proofs.Common.{◌<◌, length, sym, ap, subst}
use Rattle.wmodule.specs.Syntax.{module_of}
use Rattle.wstore.specs.State.{StoreState}
use Rattle.wmach.specs.Call.{MachineState}
use Rattle.wmach.proofs.Keeping.{still_machine}
use Rattle.wmach.proofs.OverBr.{slice_get_some}
use Rattle.wmach.proofs.machine.Machine.put_elements.Goals as goal

pub invariant_of-self : goal.invariant_of-self
invariant_of-self c =
    let m = c.self.inside in
    let s = slice_get_some (module_of m.store.checked.content).element_segments c.args.segment (subst (λ (x : MachineState). c.args.segment < length (module_of x.content).element_segments) (sym c.self.view_is) c.requires.there) in
    still_machine m c.put_elements.new.self c.self.invariant (ap (λ (x : StoreState). x.checked) (c.put_elements.ensures s.0 s.1))
