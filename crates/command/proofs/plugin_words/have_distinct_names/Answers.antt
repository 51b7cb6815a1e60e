use Rattle.std.proofs.Common.{◌∙◌, ◌+◌, ◌&&◌, drop, map, sym, ap}
use Rattle.std.specs.Prelude.{not}
use Rattle.command.specs.Words.{have_distinct_names, syntax_of}
use Rattle.command.proofs.SpecLemmas.{distinct_at}
use Rattle.command.proofs.plugin_words.have_distinct_names.Goals as goal

pub returns-then-is_named : goal.returns-then-is_named
returns-then-is_named c =
    sym (c.loop-i.invariant ∙ distinct_at c.args.specs.now c.loop-i.i c.index-specs-i.result c.loop-i-test.true (sym c.index-specs-i.is)
    ∙ ap (λ b. not b && have_distinct_names (map syntax_of (drop (c.loop-i.i + 1) c.args.specs.now))) (sym c.if-is_named.ensures))

pub loop-i-preserved : goal.loop-i-preserved
loop-i-preserved c =
    c.loop-i.invariant ∙ distinct_at c.args.specs.now c.loop-i.i c.index-specs-i.result c.loop-i-test.true (sym c.index-specs-i.is)
    ∙ ap (λ b. not b && have_distinct_names (map syntax_of (drop (c.loop-i.i + 1) c.args.specs.now))) (sym c.if-is_named.ensures)
