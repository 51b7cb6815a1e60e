-- What the code finds, as the reading of a number.
use Rattle.std.specs.Prelude.{◌≡◌, ℕ, ◌≤◌, List, length, drop, ℤ, pos, negsuc, Bool, true, false, if◌then◌else◌, Result, Ok, Err}
use Rattle.leb.specs.Number.{Sign, unsigned, signed}
use Rattle.leb.specs.declared.Spelled.{Spelled}
use Rattle.leb.specs.declared.LebFault.{LebFault}
use Rattle.leb.specs.Reading.{Found}

-- the number that the code's reader has found
abbrev pub value_of : Spelled → ℤ
value_of x = if x.negative then negsuc x.low else pos x.low

-- a number without a sign, or with one
abbrev pub sign_of : Bool → Sign
sign_of true = signed
sign_of false = unsigned

-- what the code gives for a last byte is that
abbrev pub GivesLast : Result (Bool × ℕ) LebFault → Result ℤ LebFault → Type 0
GivesLast (Ok x) read = read ≡ Ok (if x.0 then negsuc x.1 else pos x.1)
GivesLast (Err e) read = read ≡ Err e

-- what the code's reader gives is what is read
abbrev pub Gives : List ℕ → Result Spelled LebFault → Result Found LebFault → Type 0
Gives bytes (Ok x) read = (x.next ≤ length bytes) × (read ≡ Ok (value_of x, drop x.next bytes))
Gives bytes (Err e) read = read ≡ Err e
