use Rattle.std.proofs.Common.{◌≡◌}
use Rattle.whost.proofs.InstanceLemmas.{call_from_image}
use Rattle.whost.proofs.instance.Instance.call.Goals as goal

pub returns-clause-calls : goal.returns-clause-calls
returns-clause-calls c =
    let at_image : c.self.inside.machine ≡ record c.args.self.now { store = c.args.self.now.image } = cc in
    call_from_image c.args.self.now c.self.inside.machine c.invoke.new.self c.args.export c.args.records.now c.args.fuel c.invoke.result c.requires.by_name at_image c.invoke.ensures.calls
