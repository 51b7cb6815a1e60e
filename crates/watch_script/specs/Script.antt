-- The script of a storm: what the watch tells, and how time goes on.
use Rattle.std.specs.Prelude.{ℕ, List, Option, Result, Ok, Err}
use Rattle.manifest.specs.declared.command.Command.{Command}
use Rattle.manifest.specs.declared.command.Command.TheVariants as commands
use Rattle.manifest.specs.declared.fault.LineFault.{LineFault}
use Rattle.manifest.specs.declared.fault.LineFault.TheVariants.{BadField}
use Rattle.manifest.specs.declared.field.Field.TheVariants.{Op}
use Rattle.desk.specs.declared.step.Step.{Step}
use Rattle.desk.specs.declared.step.Step.TheVariants as steps
use Rattle.streams.specs.Lines.{lines_of}
use Rattle.streams.specs.Script.{asked_in, fault_from}

-- the step that a command asks for; what the watch doesn't tell is a bad operation
abbrev pub watched : Command → Result Step LineFault
watched (commands.Event event) = Ok (steps.Event event)
watched (commands.Tick now) = Ok (steps.Tick now)
watched _ = Err (BadField Op)

-- the steps of a storm's script, which each of its feeders makes
unfoldable pub script_steps : List ℕ → List Step
script_steps script = asked_in watched (lines_of script)

-- the first faulty line of a storm's script, counted from 1, and its fault
unfoldable pub first_storm_fault : List ℕ → Option (ℕ × LineFault)
first_storm_fault script = fault_from watched 1 (lines_of script)
