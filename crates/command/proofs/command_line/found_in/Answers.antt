use Rattle.std.proofs.Common.{◌∙◌, map}
use Rattle.clap.specs.Words.{app_of}
use Rattle.command.proofs.FoundLemmas.{found_rows, refused, taken}
use Rattle.command.proofs.command_line.found_in.Goals as goal

pub returns-in-Ok-try_get_matches_from-clause-taken : goal.returns-in-Ok-try_get_matches_from-clause-taken
returns-in-Ok-try_get_matches_from-clause-taken g c =
    taken (app_of c.in-Ok.command) (map g.S.AsStr.text c.args.args.now) c.try_get_matches_from.result _ c.in-Ok.ensures
    c.try_get_matches_from.ensures.kinds c.in-Ok-try_get_matches_from.is

pub returns-in-Ok-try_get_matches_from-clause-found : goal.returns-in-Ok-try_get_matches_from-clause-found
returns-in-Ok-try_get_matches_from-clause-found g c =
    found_rows (app_of c.in-Ok.command) (map g.S.AsStr.text c.args.args.now) c.in-Ok-try_get_matches_from.matches c.in-Ok.ensures
    c.in-Ok-try_get_matches_from.ensures.matches

pub returns : goal.returns
returns g c =
    let others = c.in_default-kind.not-OutOfMemory in
    record {
      taken = tt;
      found = tt;
      refused = λ _. refused (app_of c.in-Ok.command) (map g.S.AsStr.text c.args.args.now) c.try_get_matches_from.result _ c.in-Ok.ensures
          c.try_get_matches_from.ensures.kinds c.in-Err.is (λ none. others (c.kind.ensures ∙ none));
    }
