-- What `clap` is told of the program's commands, by what stands behind their names.
use Rattle.std.specs.Prelude.{Bool, List, [], ◌∷◌, Some, codes}
use Rattle.std.specs.List.{fold}
use Rattle.clap.specs.declared.builder.action.ArgAction.{ArgAction}
use Rattle.clap.specs.declared.builder.arg.Arg.{Arg}
use Rattle.clap.specs.declared.builder.command.Command.{Command}
use Rattle.clap.specs.Simple.{App}
use Rattle.clap.specs.declared.builder.command.Command.TheViews.{out-Command}
use Rattle.clap.specs.Words.{Rule, Shape, Text, new_app, new_rule, rule_of, shape_of, with_rule}
use Rattle.command.specs.declared.command_line.CommandRow.{CommandRow}
use Rattle.command.specs.declared.command_line.Takes.{Takes}
use Rattle.command.specs.declared.command_line.Takes.TheVariants as takes
use Rattle.command.specs.Words.{check_command, file_rule, flag_rule, live_command, option_rule, run_command, specs_rule, storm_command, translate_command, version_command}

-- an option of this name
abbrev pub long_rule : Text → ArgAction → Rule
long_rule name action = record (new_rule name) { long = Some name; action = Some action }

-- one thing that stands behind a command's name
abbrev pub rule_by : Takes → Rule
rule_by (takes.Option name) = option_rule name.now
rule_by (takes.Flag name) = flag_rule name.now
rule_by takes.Plugins = specs_rule
rule_by takes.Module = file_rule

-- what an argument is, and whether it is one of the commands below its command too
abbrev pub rule_and_reach : Arg → Rule × Bool
rule_and_reach argument = (rule_of argument, argument.global)

-- a command
abbrev pub command_by : CommandRow → App
command_by row = fold (λ app one. with_rule app (rule_by one)) (new_app row.name.now) row.takes.now

-- what a command is, and whether one of its arguments is one of the commands below it too
abbrev pub shape_and_reach : Command → Shape × Bool
shape_and_reach command = (shape_of command, (out-Command command).has_globals)

-- the program's commands
abbrev pub commands : List App
commands =
    run_command (codes "run") ∷ run_command (codes "explain") ∷ storm_command ∷ check_command ∷ translate_command ∷ live_command ∷ version_command ∷ []
