use Rattle.std.proofs.Common.{List, [], ◌∷◌, ◌++◌, ◌∙◌, ap, sym, subst, arith, length}
use Rattle.plugin.specs.Plugins.{Configured, IsFuel, IsTaken, IsWeight}
use Rattle.plugin.specs.Entries.{configuration_of, configurations_of}
use Rattle.plugin.proofs.SiteLemmas.{alone, configured_at, holds_at, one_more}
use Rattle.std.proofs.lemmas.List.{length-map, length-take}
use Rattle.plugin.proofs.kits.plugins_of.Goals as goal

pub put-requires-clause-weight : goal.put-requires-clause-weight
put-requires-clause-weight c =
    holds_at (λ (p : Configured). IsWeight p.weight) (configurations_of c.args.site.now) c.loop-place.place (configuration_of c.index-site-place.result) c.requires.weights
    (configured_at configuration_of c.args.site.now c.loop-place.place c.index-site-place.result c.loop-place-test.true c.index-site-place.is)

pub put-requires-clause-fuel : goal.put-requires-clause-fuel
put-requires-clause-fuel c =
    holds_at (λ (p : Configured). IsFuel p.fuel) (configurations_of c.args.site.now) c.loop-place.place (configuration_of c.index-site-place.result) c.requires.fuels
    (configured_at configuration_of c.args.site.now c.loop-place.place c.index-site-place.result c.loop-place-test.true c.index-site-place.is)

pub put-requires-clause-alone : goal.put-requires-clause-alone
put-requires-clause-alone c = λ taken.
    alone (configurations_of c.args.site.now) c.loop-place.place (configuration_of c.index-site-place.result) c.requires.names
    (configured_at configuration_of c.args.site.now c.loop-place.place c.index-site-place.result c.loop-place-test.true c.index-site-place.is)
    (subst (λ (plugins : List Configured). IsTaken plugins c.index-site-place.result.plugin.name) c.loop-place.invariant taken)

pub loop-place-preserved : goal.loop-place-preserved
loop-place-preserved c =
    c.in-Ok.ensures.added
    ∙ ap (λ (plugins : List Configured). plugins ++ configuration_of c.index-site-place.result ∷ []) c.loop-place.invariant
    ∙ sym (one_more (configurations_of c.args.site.now) c.loop-place.place (configuration_of c.index-site-place.result)
    (configured_at configuration_of c.args.site.now c.loop-place.place c.index-site-place.result c.loop-place-test.true c.index-site-place.is))

pub put-requires-clause-room : goal.put-requires-clause-room
put-requires-clause-room c =
    omega (arith, ap length c.loop-place.invariant, length-take c.loop-place.place (configurations_of c.args.site.now), length-map c.args.site.now configuration_of, c.requires.most, c.loop-place-test.true)
