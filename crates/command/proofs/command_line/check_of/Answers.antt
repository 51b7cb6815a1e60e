use Rattle.std.proofs.Common.{◌∙◌, codes, ap, sym, option_map}
use Rattle.clap.proofs.WalkLemmas.{first_value-rows}
use Rattle.clap.specs.Words.{found_of}
use Rattle.command.specs.Words.{check}
use Rattle.command.specs.inside.Words.{Means}
use Rattle.command.proofs.command_line.check_of.Goals as goal

pub returns-in-Some : goal.returns-in-Some
unfolding Means
returns-in-Some c = (ap (option_map check) (sym (c.in-Some.ensures ∙ first_value-rows (found_of c.args.matches.now) (codes "MODULE"))), tt)

pub returns-in-None : goal.returns-in-None
unfolding Means
returns-in-None c = ap (option_map check) (sym (c.in-None.ensures ∙ first_value-rows (found_of c.args.matches.now) (codes "MODULE")))
