use Rattle.std.proofs.Common.{refl}
use Rattle.objects.proofs.containers.goes_on.Goals as goal

pub returns-in_default : goal.returns-in_default
returns-in_default c = rw (← c.in_default.ensures) refl

pub returns-in-Some-as_str : goal.returns-in-Some-as_str
returns-in-Some-as_str c = rw (← c.in-Some.ensures, ← c.in-Some-as_str.ensures, c.eq.ensures) refl

pub returns-in-None : goal.returns-in-None
returns-in-None c = rw (← c.in-Some.ensures, ← c.in-None.ensures, c.if-stands.true) refl

pub returns-in-None-2 : goal.returns-in-None-2
returns-in-None-2 c = rw (← c.in-Some.ensures, ← c.in-None.ensures, c.if-stands.false) refl
