-- The faults of words: their numbers and their names.
use Rattle.std.specs.Prelude.{ℕ, List, codes}
use Rattle.command.specs.declared.fault.WordFault.{WordFault}
use Rattle.command.specs.declared.fault.WordFault.TheVariants.{BadWords, NoMemory}

-- the number that messages tell
abbrev pub number_of : WordFault → ℕ
number_of BadWords = 1
number_of NoMemory = 2

-- the name that messages tell
abbrev pub name_of : WordFault → List ℕ
name_of BadWords = codes "BadWords"
name_of NoMemory = codes "NoMemory"
