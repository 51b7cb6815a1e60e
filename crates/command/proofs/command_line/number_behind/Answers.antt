use Rattle.std.proofs.Common.{◌∙◌, ap, sym}
use Rattle.clap.proofs.WalkLemmas.{first_value-rows}
use Rattle.clap.specs.Words.{first_of, found_of, rows_of}
use Rattle.command.specs.Count.{number_for}
use Rattle.command.proofs.command_line.number_behind.Goals as goal

pub returns-in-Some-clause-ok : goal.returns-in-Some-clause-ok
returns-in-Some-clause-ok c =
    let f = found_of c.args.matches.now in
    sym (c.in-Some.ensures.value ∙ ap (number_for c.args.count) (c.get_str.ensures ∙ first_value-rows f c.name.result.now ∙ ap (λ id. first_of id (rows_of f)) c.name.ensures))

pub returns-in-None-clause-refused : goal.returns-in-None-clause-refused
returns-in-None-clause-refused c =
    let f = found_of c.args.matches.now in
    sym (c.in-None.ensures.value ∙ ap (number_for c.args.count) (c.get_str.ensures ∙ first_value-rows f c.name.result.now ∙ ap (λ id. first_of id (rows_of f)) c.name.ensures))
