-- What the only pass of a desk knows: nobody else makes a call.
use Rattle.std.specs.Prelude.{◌≡◌, List}
use Rattle.desk.specs.declared.step.Step.{Step}
use Rattle.desk.specs.declared.step.Reply.{Reply}
use Rattle.desk.specs.Machine.{State, opening, reply, after, snapshot}
use Rattle.desk.specs.Shown.{Shown}
use Rattle.desk.specs.History.{state_after}
use Rattle.desk.specs.Shared.{Pass, Desk, IsPassOf, IsApplied, IsLooked}

-- the state that a pass has seen
abbrev pub state_seen : Desk → Pass → State
state_seen desk p = state_after (opening desk.limits) p.seen

-- its step is answered by the state that it has seen, and done on that state
abbrev pub AnswersAlone : Type 0
AnswersAlone =
    (desk : Desk) (p p' : Pass) (e : Step) (answer : Reply) → desk.handed ≡ 1 → IsPassOf p desk → IsApplied desk p e answer p'
    → (answer ≡ reply (state_seen desk p) 0 e) × (state_seen desk p' ≡ after (state_seen desk p) 0 e)

-- and a look shows the state that it has seen, and nothing has changed
abbrev pub LooksAlone : Type 0
LooksAlone =
    (desk : Desk) (p p' : Pass) (rows : List Shown) → desk.handed ≡ 1 → IsPassOf p desk → IsLooked desk p rows p'
    → (rows ≡ snapshot (state_seen desk p).cluster) × (state_seen desk p' ≡ state_seen desk p)
