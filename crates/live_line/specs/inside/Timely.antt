-- What a line means, where it is a moment, is one that clocks have.
use Rattle.std.specs.Prelude.{◌≤◌, ⊤}
use Rattle.quant.specs.declared.limits.TheConstants.{LATEST_MOMENT}
use Rattle.live_line.specs.declared.meaning.Meaning.{Meaning}
use Rattle.live_line.specs.declared.meaning.Meaning.TheVariants.{Tick}

abbrev pub IsTimely : Meaning → Type 0
IsTimely (Tick now) = now.0 ≤ LATEST_MOMENT
IsTimely _ = ⊤
