-- The API server, and the ledger of the only one who binds pods to some of its nodes: what may
-- happen there, what may be told of it, and when, and that none of these nodes is ever overfull.
use Rattle.std.specs.Prelude.{◌≡◌, ◌≤◌, ℕ, true, false, ◌&&◌, ◌==◌, List, [], ◌∷◌, None, Some}
use Rattle.std.specs.FinMap.{get, insert, remove}
use Rattle.quant.specs.declared.amount.Request.{Request}
use Rattle.quant.specs.declared.amount.Res.{Res}
use Rattle.quant.specs.declared.name.Name.{Name}
use Rattle.quant.specs.declared.version.Ticket.{Ticket}
use Rattle.book.specs.Cluster.{Places}
use Rattle.book.specs.Totals.{IsWithin}
use Rattle.book.specs.Used.{used}
use Rattle.book.specs.declared.limits.Limits.{Limits}
use Rattle.book.specs.declared.place.Place.{Place}
use Rattle.ledger.specs.declared.event.Answer.{Answer}
use Rattle.ledger.specs.declared.event.Answer.TheVariants.{Granted}
use Rattle.ledger.specs.declared.event.Event.{Event}
use Rattle.ledger.specs.declared.event.Event.TheVariants.{ListEnds, Node, Stands as PodStands, Gone as PodGone, Bind, Read}
use Rattle.ledger.specs.declared.event.Kind.TheVariants.{Pods}
use Rattle.ledger.specs.declared.event.Said.{Said}
use Rattle.ledger.specs.declared.event.Said.TheVariants.{Waits as SaidWaits, Stands as SaidStands, Gone as SaidGone}
use Rattle.ledger.specs.declared.known.Asking.TheVariants.{InDoubt}
use Rattle.ledger.specs.declared.known.Known.{Known}
use Rattle.ledger.specs.declared.known.Stage.TheVariants.{Asked}
use Rattle.ledger.specs.Lists.{has_place}
use Rattle.ledger.specs.State.{State, opening}
use Rattle.ledger.specs.Told.{IsTold}

-- the server and the ledger, at a moment. Pods on other nodes are none of its business
pub record World : Type 0 where
  pub known : State  -- what the ledger knows
  pub standing : Places  -- the pods that stand on these nodes at the server, and what each takes there
  pub expected : Places  -- these, and the pods that a bind which was asked for may still put on a node
  pub room : List ℕ → Res  -- what each node has

-- what happens
pub data Move : Type 0 where
  -- the ledger is told this, and answers that
  Tells : Event → Answer → Move
  -- the server does what a bind asked for
  Lands : Name → Move
  -- a pod ends
  Ends : Name → Move
  -- what a bind asked for can't be done any more: the server refused, or its time is over
  Lapses : Name → Move
  -- nodes have more than before
  Grows : (List ℕ → Res) → Move
  -- the ledger is lost, and another is made
  Restarts : Limits → ℕ → Move

-- ---- what is owed to the ledger, by who tells it

-- a request asks for no more than another
pub record IsNoMore (a b : Request) : Type 0 where
  pub cpu : a.cpu.0 ≤ b.cpu.0
  pub mem : a.mem.0 ≤ b.mem.0

-- a pod that is told to stand on a node, and to take so much there, stands or comes to stand there
-- and nowhere else, and takes no more, or has ended
abbrev pub IsWhere : World → Name → Name → Request → Type 0
IsWhere w uid node request = (p : Place) → get w.expected uid ≡ Some p → (p.node ≡ node) × IsNoMore p.request request

-- a pod neither stands nor can come to stand
abbrev pub IsOff : World → Name → Type 0
IsOff w uid = get w.expected uid ≡ None

-- a bind of a pod is in doubt
abbrev pub IsInDoubt : World → Name → Ticket → Type 0
IsInDoubt w uid ticket = (k : Known) × (request : Request) × (get w.known.pods uid ≡ Some k) × (k.stage ≡ Asked request ticket InDoubt)

-- what a read says of a pod whose bind is in doubt: the read began once the server had refused, or
-- could do nothing any more
abbrev pub IsReadRight : World → Name → Said → Type 0
IsReadRight w uid SaidWaits = IsOff w uid
IsReadRight w uid (SaidStands version node request) = IsWhere w uid node request
IsReadRight w uid SaidGone = IsOff w uid

-- a pod that is known was told since the last list began
abbrev pub IsNamed : World → Name → Type 0
IsNamed w uid = (k : Known) → get w.known.pods uid ≡ Some k → k.list ≡ w.known.of_pods.lists

-- and it was told to have a node, or a bind of it was asked for
abbrev pub HasPlace : World → Name → Type 0
HasPlace w uid = (k : Known) × (get w.known.pods uid ≡ Some k) × (has_place k.stage ≡ true)

-- a list of pods names each that the server has
pub record IsWholeList (w : World) : Type 0 where
  -- a pod that is there was told since the list began
  pub named : (uid : Name) (p : Place) → get w.expected uid ≡ Some p → IsNamed w uid
  -- and, where the list began once nothing was on its way from before and none was left out since,
  -- it was told with its node, or its bind was asked for
  pub placed : w.known.of_pods.fresh ≡ true → (w.known.left_out.any && (w.known.left_out.list == w.known.of_pods.lists)) ≡ false
      → (uid : Name) (p : Place) → get w.expected uid ≡ Some p → HasPlace w uid

-- what is told is so
abbrev pub IsOwed : World → Event → Type 0
IsOwed w (PodStands version uid node request) = IsWhere w uid node request
IsOwed w (PodGone uid) = IsOff w uid
IsOwed w (Read uid ticket said) = IsInDoubt w uid ticket → IsReadRight w uid said
IsOwed w (ListEnds Pods) = IsWholeList w
IsOwed w (Node version node) = IsWithin node.allocatable (w.room node.name)
IsOwed w event = Unit {0}

-- ---- what happens

-- a bind that may be asked for is asked for: it may put its pod where the ledger counts it
abbrev pub IsExpected : Event → Answer → Places → World → Type 0
IsExpected (Bind uid node) (Granted ticket) expected w =
    (p : Place) × (get w.known.cluster.places uid ≡ Some p) × (w.expected ≡ insert expected uid p)
IsExpected event answer expected w = w.expected ≡ expected

-- the ledger is told something
pub record IsToldIn (w : World) (event : Event) (answer : Answer) (w' : World) : Type 0 where
  pub told : IsTold w.known event answer w'.known
  pub owed : IsOwed w event
  pub expected : IsExpected event answer w.expected w'
  pub standing : w'.standing ≡ w.standing
  pub room : w'.room ≡ w.room

-- a bind lands: the server puts a pod that has no node on the one that was asked for
pub record IsLanded (w : World) (uid : Name) (w' : World) : Type 0 where
  pub place : Place
  pub expected : get w.expected uid ≡ Some place
  pub free : get w.standing uid ≡ None
  pub after : w' ≡ record w { standing = insert w.standing uid place }

-- what may happen to a world, and what it is then
abbrev pub IsMove : World → Move → World → Type 0
IsMove w (Tells event answer) w' = IsToldIn w event answer w'
IsMove w (Lands uid) w' = IsLanded w uid w'
IsMove w (Ends uid) w' = w' ≡ record w { standing = remove w.standing uid; expected = remove w.expected uid }
IsMove w (Lapses uid) w' = (get w.standing uid ≡ None) × (w' ≡ record w { expected = remove w.expected uid })
IsMove w (Grows room) w' = ((node : Name) → IsWithin (w.room node) (room node)) × (w' ≡ record w { room = room })
IsMove w (Restarts limits room) w' = w' ≡ record w { known = opening limits room }

-- ---- histories

-- no node has less than the pods that stand there take, and those that may come to
abbrev pub IsRoomy : World → Type 0
IsRoomy w = (node : Name) → IsWithin (used w.expected node) (w.room node)

-- the world at first: a ledger to which nothing was told, on a server that is within its room
pub record IsBegin (w : World) : Type 0 where
  pub limits : Limits
  pub pods : ℕ
  pub known : w.known ≡ opening limits pods
  pub within : (uid : Name) (p : Place) → get w.standing uid ≡ Some p → get w.expected uid ≡ Some p
  pub roomy : IsRoomy w

-- a history that leads from one world to another, the oldest move first
abbrev pub Leads : World → List Move → World → Type 0
Leads w [] w' = w ≡ w'
Leads w (move ∷ moves) w' = (next : World) × IsMove w move next × Leads next moves w'

-- whatever happens, and however late it is told: the pods that stand on a node never take more than
-- it has
abbrev pub NeverOverfull : Type 0
NeverOverfull = (w : World) (moves : List Move) (w' : World) → IsBegin w → Leads w moves w' → (node : Name) → IsWithin (used w'.standing node) (w'.room node)
