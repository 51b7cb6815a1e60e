-- What follows from both outcomes of a call.
use Rattle.std.specs.Prelude.{Result, Ok, Err, IfOk, OnErr}

-- what holds where a call succeeded and where it failed holds
pub either_way : {T E Q X : Type 0} {P : T → Type 0} (r : Result T E) → ((x : T) → P x → Q) → (X → Q) → IfOk r P → OnErr r X → Q
either_way (Ok x) with_ok with_err ok err = with_ok x ok
either_way (Err e) with_ok with_err ok err = with_err err
