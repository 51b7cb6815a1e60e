use Rattle.std.proofs.Common.{◌∙◌}
use Rattle.command.proofs.MisuseLemmas.{no_name, no_weight, no_fuel, of_parts}
use Rattle.command.proofs.misuse.wrong_part.Goals as goal

pub returns-in_default : goal.returns-in_default
returns-in_default c = no_name c.args.word.now c.in_default.ensures

pub returns-in_default-cut : goal.returns-in_default-cut
returns-in_default-cut c = no_weight c.args.word.now _ _ c.in-Some.ensures c.in_default-cut.ensures

pub returns-in_default-cut-2 : goal.returns-in_default-cut-2
returns-in_default-cut-2 c = no_fuel c.args.word.now _ _ _ _ c.in-Some.ensures c.in-Some-cut.ensures c.in_default-cut-2.ensures

pub returns : goal.returns
returns c = c.part_of.ensures ∙ of_parts c.args.word.now _ _ _ _ _ _ c.in-Some.ensures c.in-Some-cut.ensures c.in-Some-cut-2.ensures
