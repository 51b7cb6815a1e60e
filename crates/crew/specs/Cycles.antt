-- The cycles that a pass made in a history, and between two moments of it.
use Rattle.std.specs.Prelude.{◌≡◌, ℕ, List, [], ◌∷◌, ◌++◌}
use Rattle.desk.specs.History.{Call, GoesOn}
use Rattle.desk.specs.Shared.{Pass, Desk}
use Rattle.rules.specs.RuleSet.{RuleSet}
use Rattle.cycle.specs.declared.one_cycle.Cycled.{Cycled}
use Rattle.cycle.specs.Cycle.{IsCycle}
use Rattle.crew.specs.Made.{BeginsWith, newcomer, IsInformed}
use Rattle.cycle.specs.declared.one_cycle.Cycled.TheVariants as outcomes

-- one cycle of a pass: what it came to, and what the pass was before and after it
pub record OneCycle : Type 0 where
  pub before : Pass
  pub came : Cycled
  pub after : Pass

-- A pass that was so made these cycles one after the other, and no other call, in this history:
-- each is a cycle over beginnings of it.
abbrev pub MakesCycles : RuleSet → Desk → (l : List Call) → Pass → List OneCycle → Type 0
MakesCycles rules desk l p [] = GoesOn p.caller.number p.seen l
MakesCycles rules desk l p (c ∷ later) =
    IsInformed p c.before × IsCycle rules desk c.before c.came c.after × BeginsWith l c.after.seen × MakesCycles rules desk l c.after later

-- the calls of a pass in a history are those of these cycles
abbrev pub Cycles : RuleSet → Desk → (l : List Call) → (pass : ℕ) → List OneCycle → Type 0
Cycles rules desk l pass made = MakesCycles rules desk l (newcomer pass) made

-- a cycle that found no pod, and began when its pass had seen this history
abbrev pub IsIdleAfter : List Call → OneCycle → Type 0
IsIdleAfter l c = (c.came ≡ outcomes.Idle) × BeginsWith c.before.seen l

-- ---- between two moments of a pass

-- these cycles took a pass from one moment to another
abbrev pub HasCycled : RuleSet → Desk → Pass → List OneCycle → Pass → Type 0
HasCycled rules desk p [] p' = IsInformed p p'
HasCycled rules desk p (c ∷ later) p' = IsInformed p c.before × IsCycle rules desk c.before c.came c.after × HasCycled rules desk c.after later p'

-- and the last of them found no pod
pub record EndsIdle (rules : RuleSet) (desk : Desk) (p : Pass) (made : List OneCycle) (last : OneCycle) (p' : Pass) : Type 0 where
  pub cycled : HasCycled rules desk p (made ++ last ∷ []) p'
  pub idle : last.came ≡ outcomes.Idle
