-- A fault, as messages tell it.
use Rattle.std.specs.Prelude.{ℕ, List, ◌++◌, codes, decimal}

-- a fault's number and name
abbrev pub fault_text : ℕ → List ℕ → List ℕ
fault_text number name = decimal number ++ codes " " ++ name
