use Rattle.std.proofs.Common.{◌∙◌, ap, sym, subst}
use Rattle.clap.specs.Words.{found_of, rows_of, subcommand_rows_of}
use Rattle.command.specs.inside.Words.{Means, found_behind}
use Rattle.command.proofs.FoundLemmas.{by_name, found_by, name_of_rows}
use Rattle.command.proofs.command_line.words_of.Goals as goal

pub returns-in-Some : goal.returns-in-Some
returns-in-Some c =
    let rows = rows_of (found_of c.in-Some.behind.now) in
    let is =
    found_by (subcommand_rows_of c.args.matches.now) c.in-Some.name.now _ (c.in-Some.ensures.name ∙ name_of_rows c.args.matches.now) c.in-Some.ensures.rows
    ∙ by_name c.in-Some.name.now rows ∙ ap (λ n. found_behind n rows) (sym c.named.ensures) in
    subst (λ meant. Means meant c.words_behind.result) (sym is) c.words_behind.ensures
