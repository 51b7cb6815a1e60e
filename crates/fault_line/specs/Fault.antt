-- The faults that end the program, and the exit statuses.
use Rattle.std.specs.Prelude.{ℕ}
use Rattle.streams.specs.declared.fault.RunFault.TheVariants.{Line, NoMemory, Read, Write, NoPlace}
use Rattle.fault_line.specs.declared.fault.Fault.{Fault}
use Rattle.fault_line.specs.declared.fault.Fault.TheVariants.{Words, Misused, Plugin, Unread, UnreadModule, Run, Uncounted}
use Rattle.command.specs.declared.fault.WordFault.TheVariants as words

-- the exit status of the program, where a fault ends it
abbrev pub status_of : Fault → ℕ
status_of (Words words.BadWords) = 2
status_of (Words words.NoMemory) = 3
status_of (Misused misuse) = 2
status_of (Plugin name refusal) = 1
status_of (Unread unread) = 4
status_of (UnreadModule fault) = 4
status_of (Run (Line number fault)) = 1
status_of (Run NoMemory) = 3
status_of (Run Read) = 4
status_of (Run Write) = 4
status_of (Run NoPlace) = 3
status_of (Uncounted line) = 1
