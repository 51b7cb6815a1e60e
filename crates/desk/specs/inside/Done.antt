-- What the desk's own calls do.
use Rattle.std.specs.Prelude.{◌≡◌, ℕ, Bool, true, false}
use Rattle.desk.specs.declared.step.Reply.{Reply}
use Rattle.desk.specs.declared.step.Reply.TheVariants.{Refused}
use Rattle.desk.specs.declared.step.Step.{Step}
use Rattle.desk.specs.Machine.{step, reply}
use Rattle.desk.specs.inside.Caller.{Core, with_state}

-- a step was done or refused, which was said, and no call was counted
abbrev pub IsSaid : Core → ℕ → Step → Reply → Core → Type 0
IsSaid old pass e said new = (said ≡ reply old.state pass e) × ((step old.state pass e).state ≡ new.state) × (new ≡ with_state old new.state)

-- whether an answer is a refusal
abbrev pub is_refused : Reply → Bool
is_refused (Refused why) = true
is_refused _ = false
