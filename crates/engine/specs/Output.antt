-- The output of a script.
use Rattle.std.specs.Prelude.{◌≡◌, ℕ, List, ◌++◌, Option}
use Rattle.output_lines.specs.Telling.{Telling}
use Rattle.rules.specs.RuleSet.{RuleSet}
use Rattle.manifest.specs.declared.command.Command.{Command}
use Rattle.streams.specs.Script.{asked_in, taken}
use Rattle.streams.specs.Lines.{lines_of}
use Rattle.session.specs.Answers.{State, opening, AllAnswered}
use Rattle.std.specs.Io.KnownBytes.{Appends}

-- the output of a script for these rules, which have these names: the answers to its lines in
-- order, up to the first faulty one
pub record IsOutput (rules : RuleSet) (telling : Telling) (script text : List ℕ) : Type 0 where
  pub end : State
  pub answered : AllAnswered rules telling opening (asked_in taken (lines_of script)) end text

-- a beginning of the output: it begins the answers to the first lines, which may be all
pub record BeginsOutput (rules : RuleSet) (telling : Telling) (script front : List ℕ) : Type 0 where
  pub asked : List Command
  pub later : List Command
  pub cut : asked_in taken (lines_of script) ≡ asked ++ later
  pub end : State
  pub text : List ℕ
  pub answered : AllAnswered rules telling opening asked end text
  pub rest : List ℕ
  pub begins : text ≡ front ++ rest

-- the output of a script is written
abbrev pub WritesOutput : RuleSet → (telling : Telling) → (script : List ℕ) → (old new : Option (List ℕ)) → Type 0
WritesOutput rules telling script old new = (text : List ℕ) × IsOutput rules telling script text × Appends old new text

-- a beginning of it is written
abbrev pub WritesFront : RuleSet → (telling : Telling) → (script : List ℕ) → (old new : Option (List ℕ)) → Type 0
WritesFront rules telling script old new = (text : List ℕ) × BeginsOutput rules telling script text × Appends old new text
