use Rattle.std.proofs.Common.{refl, sym}
use Rattle.whost.specs.Handed.{told_of}
use Rattle.plugin.specs.declared.answers.Heard.TheVariants as heard
use Rattle.plugin.specs.Kit.{ready_parts}
use Rattle.plugin.proofs.AskedLemmas.{filter_there, filter_heard, lacks_filter, reaches_itself, newly_heard}
use Rattle.plugin.proofs.KeptLemmas.{filter_known, known_of, of_all_known}
use Rattle.plugin.proofs.KitLemmas.{plugins_stay}
use Rattle.plugin.proofs.shown.Shown.ask_filter.Goals as goal

pub returns-then-not-has-clause-says : goal.returns-then-not-has-clause-says
returns-then-not-has-clause-says c =
    lacks_filter c.args.kit.now c.args.place c.requires.there (told_of c.args.pod.now c.args.node.now c.args.used.now) c.if-not-has.ensures

pub returns-in-Some-clause-says : goal.returns-in-Some-clause-says
returns-in-Some-clause-says c =
    let records = told_of c.args.pod.now c.args.node.now c.args.used.now in
    let known = of_all_known (ready_parts c.args.kit.now) records c.args.self.now.class c.args.self.now.of_all c.requires.pod c.requires.node.of_all in
    filter_there c.args.kit.now c.args.place c.requires.there records c.in-Some.said
    (known.filters c.args.place c.in-Some.said (sym c.in-Some.ensures))

pub returns-in-Some-filter-clause-says : goal.returns-in-Some-filter-clause-says
returns-in-Some-filter-clause-says c =
    let records = told_of c.args.pod.now c.args.node.now c.args.used.now in
    let plugins = ready_parts c.args.kit.now in
    let known = known_of plugins records c.args.node.now c.args.used.now c.args.self.now.known c.args.self.now.class refl c.requires.pod c.requires.node.known in
    filter_there c.args.kit.now c.args.place c.requires.there records c.in-Some-filter.said
    (filter_known plugins records c.args.self.now.known c.args.place c.in-Some-filter.said known c.in-Some-filter.ensures)

pub returns-clause-says : goal.returns-clause-says
returns-clause-says c =
    let records = told_of c.args.pod.now c.args.node.now c.args.used.now in
    let hears = filter_heard c.args.kit.now c.args.place c.requires.there c.ask_filter-said.result.reach records records c.ask_filter-said.result.said refl c.ask_filter-said.ensures.says in
    filter_there c.args.kit.now c.args.place c.requires.there records c.ask_filter-said.result.said
    (λ p there. hears records (reaches_itself c.ask_filter-said.result.reach records records refl) p there)

pub returns-clause-kit : goal.returns-clause-kit
returns-clause-kit c = plugins_stay c.args.place c.args.kit.now c.ask_filter-said.new.self c.ask_filter-said.ensures.others

pub returns-clause-kept : goal.returns-clause-kept
returns-clause-kept c = λ hold.
    let records = told_of c.args.pod.now c.args.node.now c.args.used.now in
    let plugins = ready_parts c.args.kit.now in
    let hears = filter_heard c.args.kit.now c.args.place c.requires.there c.ask_filter-said.result.reach records records c.ask_filter-said.result.said refl c.ask_filter-said.ensures.says in
    c.note.ensures plugins hold
    (newly_heard plugins records c.args.self.now.class c.args.node.now c.args.used.now c.args.place (heard.Filter c.ask_filter-said.result.said) c.ask_filter-said.result.reach refl (sym c.requires.pod) hears)
