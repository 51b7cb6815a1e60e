use Rattle.std.proofs.Common.{◌≡◌}
use Rattle.plugin.specs.Kit.{InstanceState}
use Rattle.plugin.proofs.KitLemmas.{so_there}
use Rattle.plugin.proofs.instances.Instances.weight.Goals as goal

pub returns-clause-value : goal.returns-clause-value
returns-clause-value c =
    so_there (λ (i : InstanceState). c.weight.result ≡ i.ready.weight) c.args.place c.args.self.now c.self.inside.members.items c.index.result.now
    c.requires c.self.view_is c.index.ensures c.weight.ensures
