use Rattle.std.proofs.Common.{◌∙◌, sym, subst}
use Rattle.whost.specs.declared.records.Records.{Records}
use Rattle.whost.specs.Handed.{told_of}
use Rattle.plugin.specs.Kit.{InstanceState, ScoreSays}
use Rattle.plugin.specs.inside.Asked.{Reaches}
use Rattle.plugin.proofs.KitLemmas.{only_its_store, so_there}
use Rattle.plugin.proofs.instances.Instances.ask_score.Goals as goal

pub returns-clause-says : goal.returns-clause-says
returns-clause-says c =
    let told_is = c.records.ensures ∙ c.deref.ensures ∙ c.tell.ensures in
    so_there (λ (i : InstanceState). (other : Records) → Reaches c.ask_score.result.reach (told_of c.args.pod.now c.args.node.now c.args.used.now) other → ScoreSays i.ready other c.ask_score.result.said)
    c.args.place c.args.self.now c.self.inside.members.items c.index_mut.result.now c.requires.there c.self.view_is c.index_mut.ensures.value
    (λ (other : Records). λ reaches. c.ask_score.ensures.says other (subst (λ (told : Records). Reaches c.ask_score.result.reach told other) (sym told_is) reaches))

pub returns-clause-others : goal.returns-clause-others
returns-clause-others c =
    only_its_store c.args.place c.args.self.now c.self.inside.members.items c.index_mut.result.now _ c.requires.there c.self.view_is c.index_mut.ensures.value c.ask_score.ensures.stays
