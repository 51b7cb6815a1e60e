-- The names of refusals.
use Rattle.std.specs.Prelude.{ℕ, List, codes}
use Rattle.queue.specs.declared.refusal.Refusal.{Refusal}
use Rattle.queue.specs.declared.refusal.Refusal.TheVariants.{Known, Full, NotInFlight}

-- the name that an output line tells
abbrev pub name_of : Refusal → List ℕ
name_of Known = codes "Known"
name_of Full = codes "Full"
name_of NotInFlight = codes "NotInFlight"
