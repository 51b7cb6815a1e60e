use Rattle.clap.specs.Words.{found_of, rows_of}
use Rattle.command.proofs.FoundLemmas.{plan_is}
use Rattle.command.proofs.command_line.plan_of.Goals as goal

pub returns-in-Ok-specs_behind-clause-ok : goal.returns-in-Ok-specs_behind-clause-ok
returns-in-Ok-specs_behind-clause-ok c = plan_is (rows_of (found_of c.args.matches.now)) _ _ c.in-Ok.ensures.ok c.in-Ok-specs_behind.ensures.ok
