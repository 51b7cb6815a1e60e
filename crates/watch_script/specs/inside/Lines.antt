-- What several lines of a storm's script ask for.
use Rattle.std.specs.Prelude.{◌≡◌, ◌≢◌, ℕ, ◌<◌, List, [], ◌++◌, map, length, take, Option, Some, None, ⊤, MatchOption}
use Rattle.std.specs.List.{All}
use Rattle.std.specs.Io.KnownBytes.{Consumes, IsAtEnd, prepend_known}
use Rattle.manifest.specs.declared.fault.LineFault.TheVariants.{NoMemory}
use Rattle.desk.specs.Caller.{IsTimely}
use Rattle.desk.specs.declared.step.Step.{Step}
use Rattle.streams.specs.Lines.{lines_of}
use Rattle.streams.specs.Script.{asked_in, fault_from}
use Rattle.watch_script.specs.Script.{watched}
use Rattle.watch_script.specs.declared.batch.Faulty.{Faulty}

-- No line is faulty, and the lines ask for these steps. Lines are counted from 0 here.
pub record AreSteps (lines : List (List ℕ)) (steps : List Step) : Type 0 where
  pub none_faulty : fault_from watched 0 lines ≡ None
  pub asked : steps ≡ asked_in watched lines

-- the first faulty line is the one behind so many; want of memory says nothing of the lines
pub record IsFaulty (lines : List (List ℕ)) (faulty : Faulty) : Type 0 where
  pub there : faulty.before < length lines
  pub first : faulty.fault ≢ NoMemory → fault_from watched 0 lines ≡ Some (faulty.before, faulty.fault)

-- lines were read: these are the steps that they ask for, or this one is faulty
pub record AreRead (lines : List (List ℕ)) (steps : List Step) (fault : Option Faulty) : Type 0 where
  pub timely : All IsTimely steps
  pub read : MatchOption fault (AreSteps lines steps) (IsFaulty lines)

-- the first 65,537 bytes: of a longer line no more is kept
abbrev pub kept : List ℕ → List ℕ
kept text = take 65537 text

-- where the text is known, its first lines were taken off, and are kept as these
abbrev pub TakesLines : Option (List ℕ) → Option (List ℕ) → List (List ℕ) → Type 0
TakesLines None new lines = ⊤
TakesLines (Some old) None lines = ⊥
TakesLines (Some old) (Some new) lines = (texts : List (List ℕ)) × (lines ≡ map kept texts) × (lines_of old ≡ texts ++ lines_of new)

-- the same, and nothing is left behind them: a reader of the source has no more, and the source is
-- at its end
abbrev pub TakesLast : Option (List ℕ) → (reader : List ℕ) → (source : Option (List ℕ)) → List (List ℕ) → Type 0
TakesLast old reader source lines =
    (left : Option (List ℕ)) × TakesLines old left lines × (reader ≡ []) × IsAtEnd source × Consumes left (prepend_known reader source) []
