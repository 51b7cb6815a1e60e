use Rattle.std.proofs.Common.{◌∙◌, ap, false}
use Rattle.std.proofs.lemmas.Result.{IfOk-weaker}
use Rattle.std.specs.List.{fold}
use Rattle.clap.specs.Simple.{App}
use Rattle.clap.specs.Words.{with_rule}
use Rattle.command.specs.inside.Built.{rule_by}
use Rattle.command.proofs.BuiltLemmas.{with_all}
use Rattle.command.proofs.command_line.command_of.Goals as goal

pub returns : goal.returns
returns c =
    let takes = c.args.row.now.takes.now in
    IfOk-weaker c.args-2.result _ _ (λ new adds.
    with_all c.new.result new c.in-Ok.arguments.items takes adds c.in-Ok.ensures c.new.ensures.local
    ∙ ap (λ (app : App). ((fold (λ app one. with_rule app (rule_by one)) app takes).top, false)) c.new.ensures.app) c.args-2.ensures
