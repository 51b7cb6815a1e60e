-- The numbers and names of this crate's refusals.
use Rattle.std.specs.Prelude.{ℕ, List, codes}
use Rattle.quant.specs.declared.fault.QuantFault.{QuantFault}
use Rattle.quant.specs.declared.fault.QuantFault.TheVariants.{BadQuantity, TooLarge, BadName}

-- the number that messages and statuses tell
abbrev pub number_of : QuantFault → ℕ
number_of BadQuantity = 1
number_of TooLarge = 2
number_of BadName = 3

-- the name that messages tell
abbrev pub name_of : QuantFault → List ℕ
name_of BadQuantity = codes "BadQuantity"
name_of TooLarge = codes "TooLarge"
name_of BadName = codes "BadName"
