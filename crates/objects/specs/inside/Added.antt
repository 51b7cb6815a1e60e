-- What the writers of a line's parts add to it.
use Rattle.std.specs.Prelude.{◌≡◌, ◌++◌, List, Result, OnOk}
use Rattle.json.specs.Token.{Token}
use Rattle.json.specs.Written.{Written}

-- all of these tokens, unless memory ran out; what stands in front of the line stays
abbrev pub Adds : {E : Type 0} → Result (Unit {0}) E → Written → Written → List Token → Type 0
Adds result old new ts = OnOk result ((new.tokens ≡ old.tokens ++ ts) × (new.before ≡ old.before))
