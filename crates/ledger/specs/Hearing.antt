-- What is heard of each kind, and what ends with a list.
use Rattle.std.specs.Prelude.{◌≡◌, ℕ, ◌≤◌, ◌<◌, ◌+◌, Bool, true, false, not, ◌&&◌, ◌||◌, ◌==◌, List, if◌then◌else◌}
use Rattle.quant.specs.declared.name.Name.{Name}
use Rattle.ledger.specs.declared.event.Answer.{Answer}
use Rattle.ledger.specs.declared.event.Answer.TheVariants.{Told, Old, Full}
use Rattle.ledger.specs.declared.event.Kind.{Kind}
use Rattle.ledger.specs.declared.event.Kind.TheVariants.{Nodes, Pods}
use Rattle.ledger.specs.declared.known.Heard.{Heard}
use Rattle.ledger.specs.State.{State}
use Rattle.ledger.specs.Lists.{of_pods as pods_side, of_nodes as nodes_side, unnamed_in, IsSwept}
use Rattle.ledger.specs.Telling.{Became, became}

-- what is heard of a kind
abbrev pub heard : State → Kind → Heard
heard s Nodes = s.of_nodes
heard s Pods = s.of_pods

abbrev pub with_heard : State → Kind → Heard → State
with_heard s Nodes h = record s { of_nodes = h }
with_heard s Pods h = record s { of_pods = h }

-- no further list can be told from those before
abbrev pub is_last : Heard → Bool
is_last h = h.lists == 18446744073709551615

-- a list that begins now shows all that was asked of the server before the ledger was made: nobody
-- who binds pods changes nodes
abbrev pub is_at_rest : State → Kind → Bool
is_at_rest s Nodes = true
is_at_rest s Pods = s.rested

-- a list begins
abbrev pub list_begins : State → Kind → Became
list_begins s kind =
    if is_last (heard s kind)
    then became Full s
    else became Told (with_heard s kind (record (heard s kind) { lists = (heard s kind).lists + 1; listing = true; fresh = is_at_rest s kind }))

-- no watch is open
abbrev pub deaf : State → Kind → Became
deaf s kind = became Told (with_heard s kind (record (heard s kind) { hears = false }))

-- a watch is open
abbrev pub hears : State → Kind → Became
hears s kind = became Told (with_heard s kind (record (heard s kind) { hears = true }))

-- a list ended
abbrev pub ended : Heard → Heard
ended h = record { lists = h.lists; listing = false; fresh = h.fresh; listed = h.listed || h.fresh; hears = true }

-- the names of the objects of a kind that weren't told since its last list began, in the order of
-- their bytes: they go where the list ends now
abbrev pub unnamed : State → Kind → List Name
unnamed s Nodes = unnamed_in nodes_side.list s.of_nodes.lists s.nodes
unnamed s Pods = unnamed_in pods_side.list s.of_pods.lists s.pods

-- what the end of a list of nodes makes of what is known
pub record NodesEnd (old new : State) : Type 0 where
  pub swept : IsSwept nodes_side old.of_nodes.lists old.nodes new.nodes old.cluster new.cluster
  pub of_nodes : new.of_nodes ≡ ended old.of_nodes
  pub pods : new.pods ≡ old.pods
  pub room : new.room ≡ old.room
  pub of_pods : new.of_pods ≡ old.of_pods
  pub rested : new.rested ≡ old.rested
  pub left_out : new.left_out ≡ old.left_out

-- some pod on a node is left out still, once a list of pods ended: one was since it began, or it
-- doesn't show all
abbrev pub are_left_out : State → Bool
are_left_out s = s.left_out.any && (not s.of_pods.fresh || (s.left_out.list == s.of_pods.lists))

-- and of pods: one that was left out before the list began has been told again, or is gone
pub record PodsEnd (old new : State) : Type 0 where
  pub swept : IsSwept pods_side old.of_pods.lists old.pods new.pods old.cluster new.cluster
  pub of_pods : new.of_pods ≡ ended old.of_pods
  pub nodes : new.nodes ≡ old.nodes
  pub room : new.room ≡ old.room
  pub of_nodes : new.of_nodes ≡ old.of_nodes
  pub rested : new.rested ≡ old.rested
  pub left_out : new.left_out ≡ record { any = are_left_out old; list = old.left_out.list }

-- a list ended, and what it left
abbrev pub HasEnded : Kind → State → State → Type 0
HasEnded Nodes old new = NodesEnd old new
HasEnded Pods old new = PodsEnd old new

-- there was none that could end
pub record NoneEnds (kind : Kind) (old new : State) : Type 0 where
  pub none : (heard old kind).listing ≡ false
  pub same : new ≡ old

-- the last version of the book at which a list may end: there are fewer objects than versions behind
abbrev pub last_end : ℕ
last_end = 18446744073707551615

-- the book has no versions left for what it would take away
pub record NoneLeft (kind : Kind) (old new : State) : Type 0 where
  pub listing : (heard old kind).listing ≡ true
  pub late : last_end < old.cluster.version
  pub same : new ≡ old

pub record EndsList (kind : Kind) (old new : State) : Type 0 where
  pub listing : (heard old kind).listing ≡ true
  pub early : old.cluster.version ≤ last_end
  pub ended : HasEnded kind old new

-- a list ends
abbrev pub IsListEnd : Kind → State → Answer → State → Type 0
IsListEnd kind old Told new = EndsList kind old new
IsListEnd kind old Old new = NoneEnds kind old new
IsListEnd kind old Full new = NoneLeft kind old new
IsListEnd kind old answer new = ⊥
