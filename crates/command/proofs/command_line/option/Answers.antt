use Rattle.std.proofs.Common.{◌≡◌, ◌∙◌, false, Some, ap, Bor}
use Rattle.clap.specs.declared.builder.action.ArgAction.{ArgAction}
use Rattle.clap.specs.declared.builder.arg.Arg.{Arg}
use Rattle.clap.specs.Words.{Rule, Text, new_rule, rule_of}
use Rattle.command.specs.inside.Built.{long_rule}
use Rattle.command.proofs.command_line.option.Goals as goal

module _ (new long made : Arg) (name : Bor Text) (action : ArgAction) (named : long ≡ record new { long = Some name }) (acts : made ≡ record long { action = Some action }) where
  rule_told : rule_of new ≡ new_rule name.now → rule_of made ≡ long_rule name.now action
  rule_told rule = ap rule_of acts ∙ ap (λ (a : Arg). rule_of (record a { action = Some action })) named ∙ ap (λ (r : Rule). record r { long = Some name.now; action = Some action }) rule

  local_told : new.global ≡ false → made.global ≡ false
  local_told local = ap (λ (a : Arg). a.global) acts ∙ ap (λ (a : Arg). a.global) named ∙ local

pub returns-clause-local : goal.returns-clause-local
returns-clause-local c = local_told c.new.result c.long.result c.action.result c.args.name c.args.action c.long.ensures c.action.ensures c.new.ensures.optional.1

pub returns-clause-rule : goal.returns-clause-rule
returns-clause-rule c = rule_told c.new.result c.long.result c.action.result c.args.name c.args.action c.long.ensures c.action.ensures c.new.ensures.rule
