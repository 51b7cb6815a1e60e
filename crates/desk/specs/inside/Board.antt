-- What is published of a desk for looks: its nodes with what is used of each; and how a call
-- changes that.
use Rattle.std.specs.Prelude.{◌≡◌, ℕ, ◌<◌, ◌≤◌, ◌&&◌, Bool, List, [], ◌∷◌, Option, None, Some, if◌then◌else◌, fold, length, map, nat_le, nat_lt, slice_index, slice_index_or, slice_set, ◌==◌, vec_capacity}
use Rattle.std.specs.List.{insert, remove}
use Rattle.std.specs.FinMap.{entries}
use Rattle.logbook.specs.Pages.{Book}
use Rattle.quant.specs.declared.amount.Moment.{Moment}
use Rattle.quant.specs.declared.amount.Res.{Res}
use Rattle.quant.specs.declared.event.Event.TheVariants.{NodeSet, NodeGone, PodBound, PodGone}
use Rattle.quant.specs.declared.objects.Node.{Node}
use Rattle.quant.specs.declared.objects.Pod.{Pod}
use Rattle.book.specs.Cluster.{Cluster}
use Rattle.book.specs.Expiry.{NoneExpired}
use Rattle.book.specs.Rows.{rows_in, IsRowOf}
use Rattle.book.specs.Used.{used, nothing}
use Rattle.book.specs.declared.limits.Limits.{Limits}
use Rattle.book.specs.declared.place.Place.{Place}
use Rattle.desk.specs.declared.change.Change.{Change}
use Rattle.desk.specs.declared.change.Change.TheVariants.{Nothing, Used, AllUsed, Set, Come, Gone}
use Rattle.desk.specs.declared.change.Total.{Total}
use Rattle.desk.specs.declared.change.Totals.{Totals}
use Rattle.desk.specs.declared.board.Order.{Order}
use Rattle.desk.specs.declared.subject.Subject.{Subject}
use Rattle.desk.specs.declared.subject.Subject.TheVariants as subject
use Rattle.desk.specs.declared.step.Step.{Step}
use Rattle.desk.specs.declared.step.Step.TheVariants.{Event, Assume, BindDone, Forget, Tick}
use Rattle.desk.specs.declared.step.Reply.{Reply}
use Rattle.desk.specs.declared.limits.TheConstants.{MAX_PASSES, MAX_CALLS}
use Rattle.desk.specs.Caller.{IsTimely}
use Rattle.desk.specs.Machine.{reply, after}
use Rattle.desk.specs.inside.Caller.{Core, with_state, handed_by}
use Rattle.desk.specs.inside.Shared.{Prefix, Held, Stands}
use Rattle.desk.specs.Shown.{Shown}

-- ---- what is published

-- the nodes in the order of their names' bytes, what is used of each, how many nodes there may be,
-- how many calls of each pass were answered, and the history that left it so
pub record Board : Type 0 where
  pub nodes : List Node
  pub used : List Res
  pub room : ℕ
  pub calls : List ℕ
  pub prefix : Prefix

-- what is used of each node of a cluster, in the order of the nodes' names
abbrev pub used_in : Cluster → List Res
used_in c = map (λ e. used c.places e.0) (entries c.nodes)

-- what is published of what lies under the lock
abbrev pub board_of : Held → Board
board_of x = record { nodes = rows_in x.desk.state.cluster.nodes; used = used_in x.desk.state.cluster; room = x.desk.state.cluster.limits.nodes; calls = x.desk.state.calls; prefix = x.prefix }

-- the rule of what is published: it is that of a desk which its history left so
pub record IsBoard (book : Book) (limits : Limits) (b : Board) : Type 0 where
  pub held : Held
  pub stands : Stands book limits held
  pub is : b ≡ board_of held

-- each node with the amount beside it
abbrev pub beside : List Node → List Res → List Shown
beside [] used = []
beside (node ∷ nodes) [] = []
beside (node ∷ nodes) (u ∷ us) = record { node = node; used = u } ∷ beside nodes us

-- what a look shows of it
abbrev pub rows_shown : Board → List Shown
rows_shown b = beside b.nodes b.used

-- ---- how it changes

-- amounts with one of them written, if there is one to write
abbrev pub with_total : Option Total → List Res → List Res
with_total None used = used
with_total (Some t) used = slice_set used t.at t.used

-- amounts with what a call changed of them, in its order
abbrev pub with_totals : List Res → Totals → List Res
with_totals used totals = with_total totals.second (with_total totals.first used)

-- what a change writes, where that is all
abbrev pub totals_of : Change → Option Totals
totals_of Nothing = Some (record { first = None; second = None })
totals_of (Used first second) = Some (record { first = first; second = second })
totals_of _ = None

-- what is used of a row's node, if it is one
abbrev pub total_in : List Res → Option ℕ → Option Total
total_in used None = None
total_in used (Some at) = if nat_lt at (length used) then Some (record { at = at; used = slice_index_or used at nothing }) else None

-- whether a node can come at a place, where there are so many and may be so many
abbrev pub can_come : ℕ → ℕ → ℕ → Bool
can_come at many room = nat_le at many && nat_lt many room

-- the nodes after a change, where there may be so many
unfoldable pub nodes_after : ℕ → Change → List Node → List Node
nodes_after room (Set at node) nodes = slice_set nodes at node
nodes_after room (Come at used node) nodes = if can_come at (length nodes) room then insert nodes at node else nodes
nodes_after room (Gone at) nodes = if nat_lt at (length nodes) then remove nodes at else nodes
nodes_after room _ nodes = nodes

-- and what is used of each
unfoldable pub used_after : ℕ → Change → List Res → List Res
used_after room Nothing used = used
used_after room (Used first second) used = with_total second (with_total first used)
used_after room (AllUsed all) used = if length all.items == length used then all.items else used
used_after room (Set at node) used = used
used_after room (Come at amount node) used = if can_come at (length used) room then insert used at amount else used
used_after room (Gone at) used = if nat_lt at (length used) then remove used at else used

-- what is published after a call
abbrev pub board_after : Board → Order → Board
board_after b o =
    record {
      nodes = nodes_after b.room o.change b.nodes;
      used = used_after b.room o.change b.used;
      room = b.room;
      calls = slice_set b.calls o.pass o.calls;
      prefix = o.prefix;
    }

-- what lies under the lock stands, it is published, and what waits to be published changes nothing
pub record IsPublished (book : Book) (limits : Limits) (x : Held) (b : Board) (waiting : List Order) : Type 0 where
  pub stands : Stands book limits x
  pub shown : b ≡ board_of x
  pub idle : fold board_after b waiting ≡ b

-- a change makes of one cluster's nodes, and of what is used of each, those of another
pub record IsChange (c : Cluster) (change : Change) (new : Cluster) : Type 0 where
  pub nodes : nodes_after c.limits.nodes change (rows_in c.nodes) ≡ rows_in new.nodes
  pub used : used_after c.limits.nodes change (used_in c) ≡ used_in new

-- what is used of one cluster's nodes is, with these totals, what is used of those of another,
-- which has the same nodes
pub record Writes (c : Cluster) (totals : Totals) (new : Cluster) : Type 0 where
  pub nodes : rows_in new.nodes ≡ rows_in c.nodes
  pub used : used_in new ≡ with_totals (used_in c) totals

-- ---- whose rows a step may change

-- none, where no place expires at this moment; else any, and there is room for what is used of each
abbrev pub IsSubjectAt : Cluster → Moment → Subject → Type 0
IsSubjectAt c now subject.Nothing = NoneExpired c.places now
IsSubjectAt c now (subject.All used) = (used.items ≡ []) × (length (entries c.nodes) ≤ vec_capacity used)
IsSubjectAt c now other = ⊥

abbrev pub IsSubject : Cluster → Step → Subject → Type 0
IsSubject c (Event (NodeSet version node)) t = t ≡ subject.Set node
IsSubject c (Event (NodeGone version name)) t = t ≡ subject.Gone name
IsSubject c (Event (PodBound version uid node request)) t = t ≡ subject.Pod uid
IsSubject c (Event (PodGone version uid)) t = t ≡ subject.Pod uid
IsSubject c (Assume uid node) t = t ≡ subject.Pod uid
IsSubject c (BindDone uid ticket) t = t ≡ subject.Pod uid
IsSubject c (Forget uid ticket) t = t ≡ subject.Pod uid
IsSubject c (Tick now) t = IsSubjectAt c now t
IsSubject c _ t = t ≡ subject.Nothing

-- a step can be taken for a pass, which was handed out and has a call left: this is the pod that it
-- hands out, and these are whose rows it may change
pub record IsReady (desk : Core) (pass : ℕ) (e : Step) (first : Option Pod) (t : Subject) : Type 0 where
  pub handed : pass < MAX_PASSES
  pub fits : slice_index desk.state.calls pass < MAX_CALLS
  pub timely : IsTimely e
  pub first_is : first ≡ handed_by desk.state e
  pub subject : IsSubject desk.state.cluster e t

-- it was taken and counted, answered so, and changed so much of the rows
pub record IsNoted (old : Core) (pass : ℕ) (e : Step) (said : Reply) (change : Change) (new : Core) : Type 0 where
  pub said_is : said ≡ reply old.state pass e
  pub after_is : new ≡ with_state old (after old.state pass e)
  pub changed : IsChange old.state.cluster change new.state.cluster

-- no row has this name
abbrev pub HasNoRow : List Node → List ℕ → Type 0
HasNoRow rows name = (at : ℕ) → IsRowOf rows name at → ⊥

-- the row of a node, if it is there
abbrev pub IsRowFor : List Node → List ℕ → Option ℕ → Type 0
IsRowFor rows name None = HasNoRow rows name
IsRowFor rows name (Some at) = IsRowOf rows name at

-- the row of the node where a place is, if there is a place, and the node is there
abbrev pub IsRowUnder : List Node → Option Place → Option ℕ → Type 0
IsRowUnder rows None o = o ≡ None
IsRowUnder rows (Some place) o = IsRowFor rows place.node o
