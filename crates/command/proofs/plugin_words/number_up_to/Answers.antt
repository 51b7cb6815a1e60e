use Rattle.std.proofs.Common.{◌∙◌, sym, ap, Some, arith}
use Rattle.std.specs.Str.Parse.{without_leading_plus}
use Rattle.command.proofs.NumberLemmas.{number_is, no_number}
use Rattle.command.proofs.plugin_words.number_up_to.Goals as goal

pub returns-in-Ok-clause-value : goal.returns-in-Ok-clause-value
returns-in-Ok-clause-value c =
    let read = c.in-Ok.ensures.value.0 in
    ap Some read.1 ∙ sym (number_is c.args.most (without_leading_plus c.args.text.now) read.0.0 (omega arith) (omega arith))

pub returns-in_default-3-clause-value : goal.returns-in_default-3-clause-value
returns-in_default-3-clause-value c =
    sym (no_number c.args.most (without_leading_plus c.args.text.now) (λ numeral least limit. c.in_default.ensures.value.0 (numeral, omega arith)))
