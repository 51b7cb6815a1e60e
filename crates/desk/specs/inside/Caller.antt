-- A desk with one owner.
use Rattle.std.specs.Prelude.{◌≡◌, ℕ, ◌≤◌, List, slice_index, Option, None}
use Rattle.quant.specs.declared.objects.Pod.{Pod}
use Rattle.book.specs.declared.limits.Limits.{Limits}
use Rattle.desk.specs.declared.step.Step.{Step}
use Rattle.desk.specs.declared.step.Step.TheVariants.{Pop}
use Rattle.desk.specs.Machine.{State, opening, first_pod}

-- a desk with one owner: its state
pub record Core : Type 0 where
  pub state : State

-- one that has answered no call
abbrev pub new_core : Limits → Core
new_core limits = record { state = opening limits }

-- one with another state
abbrev pub with_state : Core → State → Core
with_state desk s = record desk { state = s }

-- no call was answered of passes that weren't handed out
abbrev pub HasNoCalls : ℕ → List ℕ → Type 0
HasNoCalls handed calls = (pass : ℕ) → handed ≤ pass → slice_index calls pass ≡ 0

-- the pod that a step hands out, of which the desk then is one owner more
abbrev pub handed_by : State → Step → Option Pod
handed_by s Pop = first_pod s.queue
handed_by s e = None
