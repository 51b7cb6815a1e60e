use Rattle.command.proofs.NumberLemmas.{read_as_by_clap}
use Rattle.command.proofs.laws.counts_are_read_as_by_clap.Goals as goal

pub returns : goal.returns
returns c = read_as_by_clap
