-- Why a file couldn't be opened or read, as a fault's line tells it.
use Rattle.std.specs.Prelude.{ℕ, List, [], ◌∷◌, ◌++◌, codes}
use Rattle.fault_line.specs.declared.unread.Cause.{Cause}
use Rattle.fault_line.specs.declared.unread.Cause.TheVariants.{Missing, Denied, BadName, Unreadable, Other}
use Rattle.fault_line.specs.declared.unread.FileFault.{FileFault}

abbrev pub cause_words : Cause → List ℕ
cause_words Missing = codes "no such file or directory"
cause_words Denied = codes "permission denied"
cause_words BadName = codes "not the name of a file"
cause_words Unreadable = codes "opened, but it can't be read, as a directory"
cause_words Other = codes "it can't be opened"

-- which file, and why, behind the fault's number and name
unfoldable pub file_text : FileFault → List ℕ
file_text fault = codes "; " ++ fault.file.items ++ codes ": " ++ cause_words fault.cause

-- what can't be counted, as people know it
abbrev pub object_or_it : (object : List ℕ) → List ℕ
object_or_it [] = codes "it"
object_or_it (x ∷ more) = x ∷ more
