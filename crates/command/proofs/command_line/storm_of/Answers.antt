use Rattle.std.proofs.Common.{◌∙◌, codes, ap}
use Rattle.clap.proofs.WalkLemmas.{first_value-rows}
use Rattle.clap.specs.Words.{found_of, rows_of}
use Rattle.command.specs.Words.{is_told}
use Rattle.command.proofs.FoundLemmas.{storm_is}
use Rattle.command.proofs.command_line.storm_of.Goals as goal

pub returns-in-Ok-specs_behind-clause-ok : goal.returns-in-Ok-specs_behind-clause-ok
returns-in-Ok-specs_behind-clause-ok c =
    let f = found_of c.args.matches.now in
    storm_is (rows_of f) _ _ _ _ c.in-Ok.ensures.ok c.in-Ok-number_behind.ensures.ok
    (c.is_told-is_flaky.ensures ∙ ap is_told (c.get_str.ensures ∙ first_value-rows f (codes "flaky"))) c.in-Ok-specs_behind.ensures.ok

pub returns-in-Ok-specs_behind-clause-within : goal.returns-in-Ok-specs_behind-clause-within
returns-in-Ok-specs_behind-clause-within c = record {
  least_cycles = c.in-Ok.ensures.least;
  most_cycles = c.in-Ok.ensures.most;
  least_binders = c.in-Ok-number_behind.ensures.least;
  most_binders = c.in-Ok-number_behind.ensures.most;
  specs = c.in-Ok-specs_behind.ensures.within;
}
