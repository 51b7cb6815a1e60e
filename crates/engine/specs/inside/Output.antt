-- What one line is answered, and which answers tell its fault.
use Rattle.std.specs.Prelude.{◌≡◌, ℕ, List, ◌++◌, Option, Some, None, Result, Ok, Err}
use Rattle.manifest.specs.declared.fault.LineFault.{LineFault}
use Rattle.output_lines.specs.Telling.{Telling}
use Rattle.rules.specs.RuleSet.{RuleSet}
use Rattle.manifest.specs.declared.command.Command.{Command}
use Rattle.streams.specs.declared.fault.RunFault.{RunFault}
use Rattle.streams.specs.declared.fault.RunFault.TheVariants.{Line, NoMemory}
use Rattle.session.specs.Answers.{State, Answered}

-- what a line asks for is done and answered: nothing, where it is empty
abbrev pub IsAnswered : RuleSet → (telling : Telling) → Result (Option Command) LineFault → State → State → List ℕ → List ℕ → Type 0
IsAnswered rules telling (Ok None) old new waits later = (new ≡ old) × (later ≡ waits)
IsAnswered rules telling (Ok (Some asked)) old new waits later = (text : List ℕ) × Answered rules telling old asked new text × (later ≡ waits ++ text)
IsAnswered rules telling (Err fault) old new waits later = ⊥

-- a run ends at this line by its fault, or for want of memory
abbrev pub IsLineFault : ℕ → Result (Option Command) LineFault → RunFault → Type 0
IsLineFault number asked (Line n fault) = (n ≡ number) × (asked ≡ Err fault)
IsLineFault number asked NoMemory = Unit {0}
IsLineFault number asked _ = ⊥
