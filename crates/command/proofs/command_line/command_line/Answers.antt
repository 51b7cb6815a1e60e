use Rattle.std.proofs.Common.{◌∙◌, ap}
use Rattle.std.proofs.lemmas.Result.{IfOk-weaker}
use Rattle.std.specs.List.{fold}
use Rattle.clap.specs.Simple.{App}
use Rattle.clap.specs.Words.{with_subcommand}
use Rattle.command.specs.inside.Built.{commands}
use Rattle.command.proofs.BuiltLemmas.{with_all_below}
use Rattle.command.proofs.command_line.command_line.Goals as goal

pub returns : goal.returns
returns c =
    IfOk-weaker c.subcommands.result _ _ (λ new adds.
    with_all_below (λ (app : App). app) c.program.result new c.in-Ok.commands.items commands adds c.in-Ok.ensures
    ∙ ap (λ (app : App). fold (λ line one. with_subcommand line one.top) app commands) c.program.ensures) c.subcommands.ensures
