-- What holds whatever is told, in whatever order.
use Rattle.std.specs.Prelude.{◌≡◌, ℕ, true, false, List, [], ◌∷◌, Option, None, Some, is_ok}
use Rattle.std.specs.FinMap.{get}
use Rattle.quant.specs.declared.amount.Request.{Request}
use Rattle.quant.specs.declared.name.Name.{Name}
use Rattle.quant.specs.declared.objects.Node.{Node}
use Rattle.quant.specs.declared.version.Ticket.{Ticket}
use Rattle.fit.specs.Fit.{fit_of}
use Rattle.book.specs.Step.{are_tickets_gone}
use Rattle.book.specs.Tables.{is_full_for}
use Rattle.book.specs.Used.{used}
use Rattle.book.specs.declared.limits.Limits.{Limits}
use Rattle.book.specs.declared.place.Place.{Place}
use Rattle.book.specs.declared.place.Status.TheVariants.{Assumed, Bound}
use Rattle.ledger.specs.declared.event.Answer.{Answer}
use Rattle.ledger.specs.declared.event.Answer.TheVariants.{Granted}
use Rattle.ledger.specs.declared.event.Event.{Event}
use Rattle.ledger.specs.declared.event.Event.TheVariants.{Bind}
use Rattle.ledger.specs.declared.known.Known.{Known}
use Rattle.ledger.specs.declared.known.Stage.{Stage}
use Rattle.ledger.specs.declared.known.Stage.TheVariants.{Waits, Asked, Stands}
use Rattle.ledger.specs.State.{State, opening, is_open}
use Rattle.ledger.specs.Told.{IsTold}

-- an event and what was answered
pub record Line : Type 0 where
  pub event : Event
  pub answer : Answer

-- lines that lead from one state to another, the oldest first
abbrev pub Follows : State → List Line → State → Type 0
Follows s [] s' = s ≡ s'
Follows s (line ∷ lines) s' = (next : State) × IsTold s line.event line.answer next × Follows next lines s'

-- what counts for a pod at a stage: nothing where it waits, what it asks for where a bind was asked
-- for, and what it takes where it stands
abbrev pub IsPlacedAt : Stage → Option Place → Type 0
IsPlacedAt (Waits request) place = place ≡ None
IsPlacedAt (Asked request ticket asking) place = (node : Name) × (place ≡ Some (record { node = node; request = request; status = Assumed ticket None }))
IsPlacedAt Stands place = (node : Name) × (request : Request) × (place ≡ Some (record { node = node; request = request; status = Bound }))

-- and nothing for a pod of which nothing is known
abbrev pub IsPlacedAs : Option Known → Option Place → Type 0
IsPlacedAs None place = place ≡ None
IsPlacedAs (Some known) place = IsPlacedAt known.stage place

-- each pod counts as it was last told or as a bind of it was asked for, once, and no other counts
abbrev pub EachCountsOnce : State → Type 0
EachCountsOnce s = (uid : Name) → IsPlacedAs (get s.pods uid) (get s.cluster.places uid)

abbrev pub AlwaysCountsOnce : Type 0
AlwaysCountsOnce = (limits : Limits) (room : ℕ) (lines : List Line) (s : State) → Follows (opening limits room) lines s → EachCountsOnce s

-- a pod may be bound to a node: it was last told to wait, no bind of it is open, nodes and pods are
-- heard, and the node is there and has room beside all that counts on it
pub record MayBind (s : State) (uid node : Name) (request : Request) : Type 0 where
  pub opened : is_open s ≡ true
  pub waits : (known : Known) × (get s.pods uid ≡ Some known) × (known.stage ≡ Waits request)
  pub fits : (row : Node) × (get s.cluster.nodes node ≡ Some row) × (is_ok (fit_of row.allocatable (used s.cluster.places node) request) ≡ true)
  pub room : is_full_for s.cluster.places s.cluster.limits.placed uid ≡ false
  pub tickets : are_tickets_gone s.cluster ≡ false

-- a bind is granted where it may be asked for, and nowhere else
pub record IsGrantRight (s : State) (uid node : Name) (answer : Answer) : Type 0 where
  pub only : (ticket : Ticket) → answer ≡ Granted ticket → (request : Request) × MayBind s uid node request
  pub where_it_may : (request : Request) → MayBind s uid node request → (ticket : Ticket) × (answer ≡ Granted ticket)

abbrev pub GrantsAreRight : Type 0
GrantsAreRight = (s s' : State) (uid node : Name) (answer : Answer) → EachCountsOnce s → IsTold s (Bind uid node) answer s' → IsGrantRight s uid node answer

-- each event has one answer, and there is one state after it
abbrev pub OneAnswer : Type 0
OneAnswer = (s one other : State) (event : Event) (answer also : Answer) → IsTold s event answer one → IsTold s event also other → (answer ≡ also) × (one ≡ other)
