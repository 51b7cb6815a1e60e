use Rattle.std.proofs.Common.{◌∙◌, sym, ap, option_map}
use Rattle.command.specs.Words.{syntax_of}
use Rattle.command.proofs.SpecLemmas.{spec_of_parts, spec_of_no_name, spec_of_no_weight, spec_of_no_fuel}
use Rattle.command.proofs.plugin_words.spec_of.Goals as goal

pub returns-in_default-clause-value : goal.returns-in_default-clause-value
returns-in_default-clause-value c =
    sym (spec_of_no_name c.args.word.now c.in_default.ensures)

pub returns-in_default-cut-clause-value : goal.returns-in_default-cut-clause-value
returns-in_default-cut-clause-value c =
    sym (spec_of_no_weight c.args.word.now _ _ c.in-Some.ensures c.in_default-cut.ensures)

pub returns-in_default-cut-2-clause-value : goal.returns-in_default-cut-2-clause-value
returns-in_default-cut-2-clause-value c =
    sym (spec_of_no_fuel c.args.word.now _ _ _ _ c.in-Some.ensures c.in-Some-cut.ensures c.in_default-cut-2.ensures)

pub returns-clause-value : goal.returns-clause-value
returns-clause-value c =
    c.spec_from.ensures.value ∙ sym (spec_of_parts c.args.word.now _ _ _ _ _ _ c.in-Some.ensures c.in-Some-cut.ensures c.in-Some-cut-2.ensures)
