-- Which events are told: those that a line can say.
use Rattle.std.specs.Prelude.{Option, Some, None}
use Rattle.quant.specs.declared.event.Event.{Event}
use Rattle.objects.specs.inside.Events.{IsSayable}

abbrev pub IsSaid : Option Event → Type 0
IsSaid None = Unit {0}
IsSaid (Some event) = IsSayable event
