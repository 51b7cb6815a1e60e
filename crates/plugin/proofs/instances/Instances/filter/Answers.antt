use Rattle.plugin.specs.Kit.{InstanceState, FilterSays}
use Rattle.plugin.proofs.KitLemmas.{only_its_store, so_there}
use Rattle.plugin.proofs.instances.Instances.filter.Goals as goal

pub returns-clause-says : goal.returns-clause-says
returns-clause-says c =
    so_there (λ (i : InstanceState). FilterSays i.ready c.args.records.now c.filter.result) c.args.place c.args.self.now c.self.inside.members.items c.index_mut.result.now
    c.requires c.self.view_is c.index_mut.ensures.value c.filter.ensures.says

pub returns-clause-others : goal.returns-clause-others
returns-clause-others c =
    only_its_store c.args.place c.args.self.now c.self.inside.members.items c.index_mut.result.now _ c.requires c.self.view_is c.index_mut.ensures.value c.filter.ensures.stays
