-- What each kit of several says.
use Rattle.std.specs.Prelude.{List}
use Rattle.std.specs.List.{AllZip}
use Rattle.quant.specs.declared.objects.Pod.{Pod}
use Rattle.desk.specs.Shown.{Shown}
use Rattle.choose.specs.declared.decision.Verdict.{Verdict}

-- these are said of the nodes, in order
abbrev pub AreSaid : (Says : Pod → Shown → Verdict → Type 0) → Pod → List Shown → List Verdict → Type 0
AreSaid Says pod nodes verdicts = AllZip (Says pod) nodes verdicts
