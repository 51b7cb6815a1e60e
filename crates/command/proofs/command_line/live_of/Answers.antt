use Rattle.clap.specs.Words.{found_of, rows_of}
use Rattle.command.proofs.FoundLemmas.{live_is}
use Rattle.command.proofs.command_line.live_of.Goals as goal

pub returns-in-Ok-clause-ok : goal.returns-in-Ok-clause-ok
returns-in-Ok-clause-ok c =
    live_is (rows_of (found_of c.args.matches.now)) _ _ _ c.scheduler_behind-scheduler.ensures c.labels_behind-labels.ensures c.in-Ok.ensures.ok
