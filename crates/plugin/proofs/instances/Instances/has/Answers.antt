use Rattle.std.proofs.Common.{IsTrue, IsSome, ◌↔◌}
use Rattle.plugin.specs.Kit.{InstanceState, called}
use Rattle.plugin.proofs.KitLemmas.{so_there}
use Rattle.plugin.proofs.instances.Instances.has.Goals as goal

pub returns : goal.returns
returns c =
    so_there (λ (i : InstanceState). IsTrue c.has.result ↔ IsSome (called i.ready c.args.export)) c.args.place c.args.self.now c.self.inside.members.items c.index.result.now
    c.requires c.self.view_is c.index.ensures c.has.ensures
