use Rattle.std.proofs.Common.{refl}
use Rattle.objects.proofs.demands.asks_spread.Goals as goal

pub returns-in_default : goal.returns-in_default
returns-in_default c = rw (← c.in_default.ensures) refl

pub returns-in-Some-as_array : goal.returns-in-Some-as_array
returns-in-Some-as_array c = rw (← c.in-Some.ensures, ← c.in-Some-as_array.ensures, c.has_spread.ensures, c.as_slice.ensures.value) refl

pub returns-in-None : goal.returns-in-None
returns-in-None c = rw (← c.in-Some.ensures, ← c.in-None.ensures) refl
