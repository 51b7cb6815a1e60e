-- A cycle, and what is asked of the ledger then.
use Rattle.std.specs.Prelude.{◌≡◌, ℕ, Bool, true, false, Some}
use Rattle.quant.specs.declared.name.Name.{Name}
use Rattle.quant.specs.declared.version.Ticket.{Ticket}
use Rattle.desk.specs.Machine as machine
use Rattle.desk.specs.declared.step.Step.TheVariants.{Forget}
use Rattle.rules.specs.RuleSet.{RuleSet}
use Rattle.cycle.specs.declared.one_cycle.Cycled.{Cycled}
use Rattle.cycle.specs.declared.one_cycle.Cycled.TheVariants.{Assumed}
use Rattle.cycle.specs.CycleAlone.{IsCycleAlone}
use Rattle.ledger.specs.declared.event.Answer.{Answer}
use Rattle.ledger.specs.declared.event.Answer.TheVariants.{Granted}
use Rattle.ledger.specs.declared.event.Event.TheVariants.{Bind}
use Rattle.ledger.specs.State as ledger
use Rattle.ledger.specs.State.{is_open}
use Rattle.ledger.specs.Told.{IsTold}
use Rattle.live_desk.specs.declared.turn.Turn.{Turn}
use Rattle.live_desk.specs.declared.turn.Turn.TheVariants as turns
use Rattle.live_desk.specs.State.{Live, steps, with_ticket}
use Rattle.live_desk.specs.Telling.{with_ledger}

-- what a cycle came to, and what is known then
pub record Turned : Type 0 where
  pub turn : Turn
  pub state : Live

abbrev pub turned : Turn → Live → Turned
turned turn state = record { turn = turn; state = state }

-- what a choice comes to by the ledger's answer: a bind that isn't granted is given back
abbrev pub asked_by : Answer → Live → (uid node : Name) → (total : ℕ) → (ticket : Ticket) → Turned
asked_by (Granted bind) s uid node total ticket = turned (turns.Granted uid node total bind) (with_ticket s uid (Some ticket))
asked_by answer s uid node total ticket = turned (turns.Denied uid node answer) (steps s (Forget uid ticket))

-- a place is assumed: the ledger is asked whether the bind may be asked for
pub record IsAsked (s : Live) (uid node : Name) (total : ℕ) (ticket : Ticket) (turn : Turn) (after : Live) : Type 0 where
  pub answer : Answer
  pub known : ledger.State
  pub tells : IsTold s.ledger (Bind uid node) answer known
  pub is : turned turn after ≡ asked_by answer (with_ledger s known) uid node total ticket

-- what a cycle leads to
abbrev pub Leads : Live → Cycled → Turn → Live → Type 0
Leads s (Assumed uid node total ticket) turn after = IsAsked s uid node total ticket turn after
Leads s came turn after = (turn ≡ turns.Without came) × (after ≡ s)

abbrev pub with_desk : Live → machine.State → Live
with_desk s desk = record s { desk = desk }

-- a cycle of the desk, and what it leads to
pub record IsDecided (rules : RuleSet) (s : Live) (turn : Turn) (after : Live) : Type 0 where
  pub came : Cycled
  pub desk : machine.State
  pub cycled : IsCycleAlone rules s.desk came desk
  pub leads : Leads (with_desk s desk) came turn after

-- none is decided of where no bind may be asked for
abbrev pub IsTurnIf : Bool → RuleSet → Live → Turn → Live → Type 0
IsTurnIf true rules s turn after = IsDecided rules s turn after
IsTurnIf false rules s turn after = (turn ≡ turns.Shut) × (after ≡ s)

abbrev pub IsTurn : RuleSet → Live → Turn → Live → Type 0
IsTurn rules s turn after = IsTurnIf (is_open s.ledger) rules s turn after
