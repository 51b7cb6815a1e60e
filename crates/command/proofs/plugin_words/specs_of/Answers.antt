use Rattle.std.proofs.Common.{◌≡◌, true, length, map, rules, arith}
use Rattle.std.proofs.lemmas.List.{length-map}
use Rattle.command.specs.Words.{have_distinct_names, syntax_of}
use Rattle.command.proofs.SpecLemmas.{each_keeps_length, names_are_distinct, specs_read}
use Rattle.command.proofs.plugin_words.specs_of.Goals as goal

pub returns-clause-within : goal.returns-clause-within
returns-clause-within c =
    let specs = c.in-Ok.specs.items in
    let many : length specs ≡ length c.args.words.now = each_keeps_length c.args.words.now specs c.in-Ok.ensures.ok in
    let own : have_distinct_names (map syntax_of specs) ≡ true = search rules in
    record { most = omega arith; limits = c.in-Ok.ensures.limits; names = names_are_distinct specs own }

pub returns-clause-ok : goal.returns-clause-ok
returns-clause-ok c =
    let specs = c.in-Ok.specs.items in
    let own : have_distinct_names (map syntax_of specs) ≡ true = search rules in
    specs_read (map (λ s. s.now) c.args.words.now) (map syntax_of specs) (omega (arith, length-map c.args.words.now (λ s. s.now), c.if-words-gt-MAX_PLUGINS.false)) c.in-Ok.ensures.ok own
