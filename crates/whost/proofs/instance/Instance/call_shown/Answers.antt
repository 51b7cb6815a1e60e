use Rattle.std.proofs.Common.{◌≡◌, sym, ap, ◌∙◌}
use Rattle.wmach.specs.Call.{MachineState}
use Rattle.whost.proofs.InstanceLemmas.{call_shown}
use Rattle.whost.proofs.instance.Instance.call_shown.Goals as goal

pub returns-clause-calls : goal.returns-clause-calls
returns-clause-calls c =
    let at_image : c.reset.new.self ≡ record c.args.self.now { store = c.args.self.now.image } =
    c.reset.ensures ∙ ap (λ (m : MachineState). record m { store = m.image }) c.self.view_is in
    call_shown c.args.self.now c.reset.new.self c.invoke-outcome.new.self c.args.shows c.args.export c.args.records.now c.args.fuel c.invoke-outcome.result c.requires.by_name at_image
    (sym c.wants_record.ensures ∙ c.if-wants_record.false) c.invoke-outcome.ensures.calls
