-- The line by which the program tells a fault.
use Rattle.std.specs.Prelude.{◌≡◌, ℕ, List, [], ◌++◌, codes, decimal, Option, Some, None}
use Rattle.std.specs.Io.KnownBytes.{Appends}
use Rattle.manifest.specs.Field.{key}
use Rattle.manifest.specs.Fault as line
use Rattle.manifest.specs.declared.field.Field.{Field}
use Rattle.manifest.specs.declared.fault.LineFault.{LineFault}
use Rattle.streams.specs.Device.{AppendsFront}
use Rattle.streams.specs.Fault as run
use Rattle.streams.specs.declared.fault.RunFault.{RunFault}
use Rattle.streams.specs.declared.fault.RunFault.TheVariants.{Line, NoMemory, Read, Write, NoPlace}
use Rattle.command.specs.Fault.{number_of, name_of}
use Rattle.fault_line.specs.Text.{fault_text}
use Rattle.fault_line.specs.Unread.{file_text, object_or_it}
use Rattle.fault_line.specs.Refusal.{refusal_text}
use Rattle.fault_line.specs.declared.fault.Fault.{Fault}
use Rattle.command.specs.declared.fault.WordFault.TheVariants.{BadWords}
use Rattle.command.specs.declared.misuse.Misuse.{Misuse}
use Rattle.command.specs.declared.misuse.Misuse.TheVariants as misuse
use Rattle.command.specs.declared.misuse.Part.{Part}
use Rattle.command.specs.declared.count.Count.{Count}
use Rattle.command.specs.declared.count.Count.TheVariants as count
use Rattle.command.specs.declared.misuse.Part.TheVariants as part
use Rattle.fault_line.specs.declared.fault.Fault.TheVariants.{Words, Misused, Plugin, Unread, UnreadModule, Run, Uncounted}

-- the field in which a fault stands, where there is one
abbrev pub field_text : Option Field → List ℕ
field_text None = []
field_text (Some field) = codes " " ++ key field

-- the fault of a line, with its field
unfoldable pub line_fault_text : LineFault → List ℕ
line_fault_text fault = fault_text (line.number_of fault) (line.name_of fault) ++ field_text (line.field_of fault)

-- why a run ended early: at a faulty line, the line's number and its fault
unfoldable pub run_text : RunFault → List ℕ
run_text (Line number fault) = codes "line " ++ decimal number ++ codes ": " ++ line_fault_text fault
run_text NoMemory = fault_text (run.number_of NoMemory) (run.name_of NoMemory)
run_text Read = fault_text (run.number_of Read) (run.name_of Read)
run_text Write = fault_text (run.number_of Write) (run.name_of Write)
run_text NoPlace = fault_text (run.number_of NoPlace) (run.name_of NoPlace)

-- the parts of a plugin, as the usage names them
abbrev pub part_name : Part → List ℕ
part_name part.Spec = codes "SPEC"
part_name part.Name = codes "NAME"
part_name part.Weight = codes "WEIGHT"
part_name part.Fuel = codes "FUEL"

-- the number that an option asks for, as the usage names it
abbrev pub count_letter : Count → List ℕ
count_letter count.Workers = codes "N"
count_letter count.Cycles = codes "C"
count_letter count.Binders = codes "B"

-- what is wrong with words, behind the fault's name
unfoldable pub misuse_text : Misuse → List ℕ
misuse_text misuse.Command = codes " COMMAND"
misuse_text (misuse.Number count number) = codes " " ++ count_letter count ++ codes " of word " ++ decimal number
misuse_text (misuse.Plugin part number) = codes " " ++ part_name part ++ codes " of word " ++ decimal number
misuse_text (misuse.Scheduler number) = codes " NAME of word " ++ decimal number
misuse_text (misuse.Unknown number) = codes " OPTION of word " ++ decimal number
misuse_text misuse.Together = []

-- what the words may be, a command a line
abbrev pub usage : List ℕ
usage = codes "\nusage: wsched run [--workers N] [SPEC]...\n       wsched explain [--workers N] [SPEC]...\n       wsched storm [--cycles C] [--binders B] [--flaky] [SPEC]...\n       wsched check MODULE\n       wsched translate [--scheduler NAME] [--labels KEY,..] [--by-uid] [--answers]\n       wsched live [--scheduler NAME] [--labels KEY,..] [--workers N] [SPEC]...\n       wsched version\na SPEC is NAME:WEIGHT:FUEL:FILE"

-- what is to be done about a line that may be a pod on a node that can't be counted
abbrev pub count_it : List ℕ
count_it = codes " may be a pod on a node, and no script line can count it: --answers says why, and kubectl get .. -o json | jq -c '.items[]' gives one object a line"

-- why the program ended early
abbrev pub text_of : Fault → List ℕ
text_of (Words fault) = fault_text (number_of fault) (name_of fault)
text_of (Misused misuse) = fault_text (number_of BadWords) (name_of BadWords) ++ misuse_text misuse ++ usage
text_of (Plugin name refusal) = codes "plugin " ++ name ++ codes ": " ++ refusal_text refusal
text_of (Unread unread) =
    codes "plugin " ++ unread.plugin ++ codes ": " ++ fault_text (run.number_of Read) (run.name_of Read) ++ file_text unread.fault
text_of (UnreadModule fault) = fault_text (run.number_of Read) (run.name_of Read) ++ file_text fault
text_of (Run fault) = run_text fault
text_of (Uncounted line) = codes "line " ++ decimal line.number ++ codes ": 6 Uncounted; " ++ object_or_it line.object.items ++ count_it

-- the line that tells it
unfoldable pub message_of : Fault → List ℕ
message_of fault = codes "wsched: " ++ text_of fault ++ codes "\n"

-- known bytes grow by the text, or by a beginning of it where a write failed meanwhile
abbrev pub Tells : Option (List ℕ) → Option (List ℕ) → ℕ → ℕ → List ℕ → Type 0
Tells old new failures later text = AppendsFront old new text × (later ≡ failures → Appends old new text)
