use Rattle.std.proofs.Common.{◌∙◌, List, slice_get, option_map, sym, ap}
use Rattle.std.proofs.lemmas.Option.{slice_get-map}
use Rattle.plugin.specs.Plugins.{Configured}
use Rattle.plugin.specs.inside.Entries.{configured}
use Rattle.plugin.proofs.plugins.Plugins.entry.Goals as goal

pub returns-clause-is : goal.returns-clause-is
returns-clause-is c =
    let es = c.self.inside.entries.entries in
    ap (λ (plugins : List Configured). slice_get plugins c.args.place) (sym c.self.view_is)
    ∙ (slice_get-map configured es c.args.place
    ∙ (ap (λ o. option_map configured o) (sym c.get_index.ensures.entry)
    ∙ ap (λ o. option_map configured (option_map (λ e. (e.0.now, e.1.now)) o)) c.unwrap.ensures))
