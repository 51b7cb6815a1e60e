-- What passes made in a history, and between two moments of it.
use Rattle.std.specs.Prelude.{◌≡◌, ℕ, ◌==◌, List, [], ◌++◌, map, filter, ⊤}
use Rattle.desk.specs.declared.step.Step.{Step}
use Rattle.desk.specs.History.{Call, GoesOn}
use Rattle.desk.specs.Shared.{Pass}
use Rattle.desk.specs.declared.step.Step.TheVariants as steps

-- a history begins with another
abbrev pub BeginsWith : List Call → List Call → Type 0
BeginsWith l front = (later : List Call) × (l ≡ front ++ later)

-- the calls of a pass, in the order in which it made them
abbrev pub calls_by : ℕ → List Call → List Call
calls_by pass l = filter (λ c. c.pass == pass) l

-- their steps
abbrev pub steps_of : ℕ → List Call → List Step
steps_of pass l = map (λ c. c.step) (calls_by pass l)

-- a step that reports a bind, or asks for the desk's numbers
abbrev pub IsReportOrCount : Step → Type 0
IsReportOrCount (steps.BindDone uid ticket) = ⊤
IsReportOrCount (steps.Forget uid ticket) = ⊤
IsReportOrCount steps.Count = ⊤
IsReportOrCount _ = ⊥

-- ---- what a pass knows

-- a pass that has made no call and seen nothing
abbrev pub newcomer : ℕ → Pass
newcomer number = record { caller = record { number = number; calls = 0 }; seen = [] }

-- a pass knows more than before, and made no call between: it looked, or met another
abbrev pub IsInformed : Pass → Pass → Type 0
IsInformed p q = (q.caller ≡ p.caller) × GoesOn p.caller.number p.seen q.seen

-- ---- what a pass made

-- a pass made these steps, in this order, and no others; it may have been told of calls of other
-- passes
pub record Makes (p : Pass) (made : List Step) (p' : Pass) : Type 0 where
  pub number : p'.caller.number ≡ p.caller.number
  pub begins : BeginsWith p'.seen p.seen
  pub steps : steps_of p.caller.number p'.seen ≡ steps_of p.caller.number p.seen ++ made

-- a step that reports a bind
abbrev pub IsReport : Step → Type 0
IsReport (steps.BindDone uid ticket) = ⊤
IsReport (steps.Forget uid ticket) = ⊤
IsReport _ = ⊥
