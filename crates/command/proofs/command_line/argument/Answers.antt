use Rattle.std.proofs.Common.{◌≡◌, ◌∙◌, true, false, Some, ap, sym}
use Rattle.clap.specs.declared.builder.action.ArgAction.TheVariants.{Append}
use Rattle.clap.specs.declared.builder.arg.Arg.{Arg}
use Rattle.clap.specs.Words.{Rule, rule_of}
use Rattle.command.specs.declared.command_line.Takes.{Takes}
use Rattle.command.specs.inside.Built.{rule_and_reach, rule_by}
use Rattle.command.proofs.command_line.argument.Goals as goal

told : (argument : Arg) (takes behind : Takes) → takes ≡ behind → rule_of argument ≡ rule_by behind → argument.global ≡ false → rule_and_reach argument ≡ (rule_by takes, false)
told argument takes behind is rule local = (λ i. (rule i, local i)) ∙ ap (λ t. (rule_by t, false)) (sym is)

pub returns-in-Option : goal.returns-in-Option
returns-in-Option c = told c.option.result c.args.takes _ c.in-Option.is c.option.ensures.rule c.option.ensures.local

pub returns-in-Flag : goal.returns-in-Flag
returns-in-Flag c = told c.option-in-Flag.result c.args.takes _ c.in-Flag.is c.option-in-Flag.ensures.rule c.option-in-Flag.ensures.local

pub returns-in-Plugins : goal.returns-in-Plugins
returns-in-Plugins c =
    told c.action.result c.args.takes _ c.in-Plugins.is (ap rule_of c.action.ensures ∙ ap (λ (r : Rule). record r { action = Some Append }) c.new.ensures.rule)
    (ap (λ (a : Arg). a.global) c.action.ensures ∙ c.new.ensures.optional.1)

pub returns-in-Module : goal.returns-in-Module
returns-in-Module c =
    told c.required.result c.args.takes _ c.in-Module.is (ap rule_of c.required.ensures ∙ ap (λ (r : Rule). record r { required = true }) c.new-in-Module.ensures.rule)
    (ap (λ (a : Arg). a.global) c.required.ensures ∙ c.new-in-Module.ensures.optional.1)
