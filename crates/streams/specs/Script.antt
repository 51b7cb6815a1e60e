-- What a script's lines ask for, in order and up to the first faulty one. `taken` is what a command
-- is taken as: itself by a run; a storm takes the commands that the watch tells, and has a fault
-- for others.
use Rattle.std.specs.Prelude.{ℕ, ◌+◌, ◌==◌, List, [], ◌∷◌, length, Option, Some, None, Result, Ok, Err, if◌then◌else◌}
use Rattle.manifest.specs.declared.command.Command.{Command}
use Rattle.manifest.specs.declared.fault.LineFault.{LineFault}
use Rattle.manifest.specs.Line.{meaning}
use Rattle.manifest.specs.Reading.{◌>>=◌}
use Rattle.streams.specs.Lines.{lines_of}

-- what a line asks for: nothing, where it is empty
unfoldable pub asked_by : {A : Type 0} → (taken : Command → Result A LineFault) → List ℕ → Result (Option A) LineFault
asked_by taken line = if length line == 0 then Ok None else (meaning line >>= λ command. taken command >>= λ asked. Ok (Some asked))

-- what a line asks for, and then what the later ones do; a fault ends it
abbrev pub asked_then : {A : Type 0} → Result (Option A) LineFault → List A → List A
asked_then (Ok None) later = later
asked_then (Ok (Some asked)) later = asked ∷ later
asked_then (Err fault) later = []

-- what the lines ask for, up to the first faulty one
abbrev pub asked_in : {A : Type 0} → (taken : Command → Result A LineFault) → List (List ℕ) → List A
asked_in taken [] = []
asked_in taken (line ∷ lines) = asked_then (asked_by taken line) (asked_in taken lines)

-- this line and its fault, where it has one
abbrev pub fault_or : {A : Type 0} → ℕ → Result (Option A) LineFault → Option (ℕ × LineFault) → Option (ℕ × LineFault)
fault_or number (Ok asked) later = later
fault_or number (Err fault) later = Some (number, fault)

-- the first faulty line and its fault, where the lines are counted from this number on
abbrev pub fault_from : {A : Type 0} → (taken : Command → Result A LineFault) → ℕ → List (List ℕ) → Option (ℕ × LineFault)
fault_from taken number [] = None
fault_from taken number (line ∷ lines) = fault_or number (asked_by taken line) (fault_from taken (number + 1) lines)

-- a run takes a command as it is
abbrev pub taken : Command → Result Command LineFault
taken command = Ok command

-- the first faulty line of a script, counted from 1, and its fault
unfoldable pub first_fault : List ℕ → Option (ℕ × LineFault)
first_fault script = fault_from taken 1 (lines_of script)
