-- What becomes of a pod that is known: it stays known until it ends, and goes from stage to stage by
-- these events alone.
use Rattle.std.specs.Prelude.{◌≡◌, ◌≢◌, ◌⊎◌, true, Some}
use Rattle.std.specs.FinMap.{get}
use Rattle.quant.specs.declared.amount.Request.{Request}
use Rattle.quant.specs.declared.name.Name.{Name}
use Rattle.ledger.specs.declared.event.Answer.{Answer}
use Rattle.ledger.specs.declared.event.Answer.TheVariants.{Full}
use Rattle.ledger.specs.declared.event.Event.{Event}
use Rattle.ledger.specs.declared.event.Event.TheVariants as events
use Rattle.ledger.specs.declared.event.Kind.TheVariants.{Pods}
use Rattle.ledger.specs.declared.event.Said.TheVariants as said
use Rattle.ledger.specs.declared.known.Known.{Known}
use Rattle.ledger.specs.declared.known.Stage.{Stage}
use Rattle.ledger.specs.declared.known.Stage.TheVariants.{Waits, Asked, Stands}
use Rattle.ledger.specs.State.{State}
use Rattle.ledger.specs.Told.{IsTold}

-- a pod that was known needn't be after this event: it is gone; it waits, and isn't to be bound; a
-- read of its bind finds that it is gone, or that it waits, where it isn't to be bound once more; or
-- a list of pods ends that hasn't named it
abbrev pub IsEndOf : State → Event → (uid : Name) → Known → Type 0
IsEndOf s (events.Gone other) uid known = other ≡ uid
IsEndOf s (events.Withheld version other) uid known = (other ≡ uid) × (request : Request) × (known.stage ≡ Waits request)
IsEndOf s (events.Read other ticket said.Gone) uid known = other ≡ uid
IsEndOf s (events.Read other ticket said.Waits) uid known = (other ≡ uid) × (known.withheld ≡ true)
IsEndOf s (events.ListEnds Pods) uid known = known.list ≢ s.of_pods.lists
IsEndOf s event uid known = ⊥

-- an event says that the pod has a node
abbrev pub StandsBy : Event → (uid : Name) → Type 0
StandsBy (events.Stands version other node request) uid = other ≡ uid
StandsBy (events.Read other ticket (said.Stands version node request)) uid = other ≡ uid
StandsBy event uid = ⊥

-- An event leads from one stage to another. A pod that waits is bound by a grant alone; a bind of it
-- is over once it has a node, or once a read of that bind finds that it has none; and nothing takes
-- its node from it.
abbrev pub MovesBy : Event → (uid : Name) → Stage → Stage → Type 0
MovesBy event uid (Waits before) (Waits request) = Unit {0}
MovesBy event uid (Waits before) (Asked request ticket asking) = (node : Name) × (event ≡ events.Bind uid node)
MovesBy event uid (Waits before) Stands = StandsBy event uid
MovesBy event uid (Asked before given was) (Waits request) = event ≡ events.Read uid given said.Waits
MovesBy event uid (Asked before given was) (Asked request ticket asking) = ticket ≡ given
MovesBy event uid (Asked before given was) Stands = StandsBy event uid
MovesBy event uid Stands (Waits request) = ⊥
MovesBy event uid Stands (Asked request ticket asking) = ⊥
MovesBy event uid Stands Stands = Unit {0}

-- a pod that was known is known after an event, at a stage to which that leads; or that was its end
abbrev pub StaysKnown : State → Event → (uid : Name) → Known → State → Type 0
StaysKnown s event uid known s' =
    ((next : Known) × (get s'.pods uid ≡ Some next) × MovesBy event uid known.stage next.stage) ⊎ IsEndOf s event uid known

-- a pod is known
abbrev pub IsKnown : State → (uid : Name) → Type 0
IsKnown s uid = (known : Known) × (get s.pods uid ≡ Some known)

-- a pod that is told is known then, unless it is answered that there is no room for it; and where it
-- has a node, nothing is bound from then on
abbrev pub IsKnownOnceTold : Event → Answer → State → Type 0
IsKnownOnceTold (events.Waits version uid request) answer s' = (answer ≡ Full) ⊎ IsKnown s' uid
IsKnownOnceTold (events.Stands version uid node request) answer s' = ((answer ≡ Full) × (s'.left_out.any ≡ true)) ⊎ IsKnown s' uid
IsKnownOnceTold event answer s' = Unit {0}

pub record KeepsEach (s : State) (event : Event) (answer : Answer) (s' : State) : Type 0 where
  pub stays : (uid : Name) (known : Known) → get s.pods uid ≡ Some known → StaysKnown s event uid known s'
  pub told : IsKnownOnceTold event answer s'

abbrev pub EachIsKept : Type 0
EachIsKept = (s s' : State) (event : Event) (answer : Answer) → IsTold s event answer s' → KeepsEach s event answer s'
