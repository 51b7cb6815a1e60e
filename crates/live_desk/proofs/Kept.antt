-- What is told goes by a few changes: what each of them keeps, all that is told keeps.
use Rattle.std.proofs.Common.{Bool, true, false, List, [], ◌∷◌, Option, Some, None}
use Rattle.std.specs.FinMap.{get}
use Rattle.quant.specs.declared.amount.Request.{Request}
use Rattle.quant.specs.declared.name.Name.{Name}
use Rattle.quant.specs.declared.objects.Node.{Node as Row}
use Rattle.quant.specs.declared.version.Ticket.{Ticket}
use Rattle.ledger.specs.declared.event.Event.{Event as LedgerEvent}
use Rattle.ledger.specs.declared.event.Event.TheVariants.{ListBegins, ListEnds, Deaf, Hears, Node, NodeGone, Waits, Withheld, Stands, Unread, Gone, Rested, Bind, Answered, Read}
use Rattle.ledger.specs.declared.event.Kind.{Kind}
use Rattle.ledger.specs.declared.event.Kind.TheVariants.{Nodes, Pods}
use Rattle.ledger.specs.declared.known.Known.{Known}
use Rattle.ledger.specs.declared.known.Stage.{Stage}
use Rattle.ledger.specs.declared.known.Stage.TheVariants.{Waits as IsWaiting, Asked, Stands as IsStanding}
use Rattle.live_desk.specs.declared.offered.Offered.{Offered}
use Rattle.live_desk.specs.State.{Live, given_back, node_gone, node_set, pod_bound, pod_gone}
use Rattle.live_desk.specs.Telling.{all_gone, bound_as, bound_of, if_unknown, left_out, place_of, put_aside, put_aside_by, put_aside_of, settled, settled_as, stands_at, told, told_if}

-- A relation that each change keeps: nothing, one after another, and what a desk is told of a node or
-- a pod.
pub record Keeps (R : Live → Live → Type 0) : Type 0 where
  pub nothing : (s : Live) → R s s
  pub later : (a b c : Live) → R a b → R b c → R a c
  pub set_node : (s : Live) (node : Row) → R s (node_set s node)
  pub drop_node : (s : Live) (name : Name) → R s (node_gone s name)
  pub drop_pod : (s : Live) (uid : Name) → R s (pod_gone s uid)
  pub bind_pod : (s : Live) (uid node : Name) (request : Request) → R s (pod_bound s uid node request)
  pub give_back : (s : Live) (uid : Name) → R s (given_back s uid)

module _ (R : Live → Live → Type 0) (m : Keeps R) where
  -- ---- what a list left out

  all_go : (gone : Live → Name → Live) → ((s : Live) (name : Name) → R s (gone s name)) → (s : Live) (names : List Name) → R s (all_gone s gone names)
  all_go gone one s [] = m.nothing s
  all_go gone one s (name ∷ names) = m.later s (gone s name) _ (one s name) (all_go gone one (gone s name) names)

  pub leave_out : (s : Live) (kind : Kind) (names : List Name) → R s (left_out s kind names)
  leave_out s Nodes names = all_go node_gone m.drop_node s names
  leave_out s Pods names = all_go pod_gone m.drop_pod s names

  -- ---- a pod whose stage may have changed

  unless_known : (s : Live) (uid : Name) (known : Option Known) → R s (if_unknown s uid known)
  unless_known s uid None = m.drop_pod s uid
  unless_known s uid (Some known) = m.nothing s

  stand_at : (s : Live) (uid : Name) (place : Option (Name × Request)) → R s (stands_at s uid place)
  stand_at s uid None = m.nothing s
  stand_at s uid (Some place) = m.bind_pod s uid place.0 place.1

  settle_as : (s : Live) (uid : Name) (place : Option (Name × Request)) (stage : Stage) → R s (settled_as s uid place stage)
  settle_as s uid place (IsWaiting request) = m.give_back s uid
  settle_as s uid place (Asked request ticket asking) = m.nothing s
  settle_as s uid place IsStanding = stand_at s uid place

  settle : (s : Live) (uid : Name) (place : Option (Name × Request)) (known : Option Known) → R s (settled s uid place known)
  settle s uid place None = m.drop_pod s uid
  settle s uid place (Some known) = settle_as s uid place known.stage

  count_as : (s : Live) (uid node : Name) (stage : Stage) → R s (bound_as s uid node stage)
  count_as s uid node (IsWaiting request) = m.nothing s
  count_as s uid node (Asked request ticket asking) = m.bind_pod s uid node request
  count_as s uid node IsStanding = m.nothing s

  count_bound : (s : Live) (uid node : Name) (known : Option Known) → R s (bound_of s uid node known)
  count_bound s uid node None = m.nothing s
  count_bound s uid node (Some known) = count_as s uid node known.stage

  -- ---- an event

  tell : (s : Live) (event : LedgerEvent) (names : List Name) → R s (told s event names)
  tell s (ListEnds kind) names = leave_out s kind names
  tell s (Node version node) names = m.set_node s node
  tell s (NodeGone name) names = m.drop_node s name
  tell s (Withheld version uid) names = unless_known s uid (get s.ledger.pods uid)
  tell s (Stands version uid node request) names = m.bind_pod s uid node request
  tell s (Gone uid) names = m.drop_pod s uid
  tell s (Read uid ticket said) names = settle s uid (place_of said) (get s.ledger.pods uid)
  tell s (ListBegins kind) names = m.nothing s
  tell s (Deaf kind) names = m.nothing s
  tell s (Hears kind) names = m.nothing s
  tell s (Waits version uid request) names = m.nothing s
  tell s Unread names = m.nothing s
  tell s Rested names = m.nothing s
  tell s (Bind uid node) names = count_bound s uid node (get s.ledger.pods uid)
  tell s (Answered uid ticket outcome) names = m.nothing s

  pub tell_if : (taken : Bool) (s : Live) (event : LedgerEvent) (names : List Name) → R s (told_if taken s event names)
  tell_if true s event names = tell s event names
  tell_if false s event names = m.nothing s

  -- ---- a pod that is put aside

  aside_by : (s : Live) (uid : Name) (ticket : Option Ticket) → R s (put_aside_by s uid ticket).state
  aside_by s uid None = m.drop_pod s uid
  aside_by s uid (Some ticket) = m.nothing s

  aside_any : (s : Live) (uid : Name) (it : Option Offered) → R s (put_aside_of s uid it).state
  aside_any s uid None = m.nothing s
  aside_any s uid (Some it) = aside_by s uid it.ticket

  pub an_aside : (s : Live) (uid : Name) → R s (put_aside s uid).state
  an_aside s uid = aside_any s uid (get s.offered uid)
