use Rattle.std.proofs.Common.{◌∙◌, codes, ap}
use Rattle.clap.proofs.WalkLemmas.{first_value-rows}
use Rattle.clap.specs.Words.{found_of, rows_of}
use Rattle.command.specs.Words.{is_told}
use Rattle.command.proofs.FoundLemmas.{translate_is}
use Rattle.command.proofs.command_line.translate_of.Goals as goal

pub returns : goal.returns
returns c =
    let f = found_of c.args.matches.now in
    translate_is (rows_of f) _ _ _ _ c.scheduler_behind.ensures c.labels_behind.ensures
    (c.is_told.ensures ∙ ap is_told (c.get_str.ensures ∙ first_value-rows f (codes "by-uid")))
    (c.is_told-2.ensures ∙ ap is_told (c.get_str-2.ensures ∙ first_value-rows f (codes "answers")))
