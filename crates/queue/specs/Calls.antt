-- Whole runs of calls, and what holds of all of them.
use Rattle.std.specs.Prelude.{◌≡◌, Bool, true, false, not, ◌&&◌, ◌==◌, List, [], ◌∷◌, ◌++◌, Contains, Option, Some, None, option_map, option_to_list, IsTrue, MatchOption}
use Rattle.std.specs.List.{list_all}
use Rattle.std.specs.Ordering.{nat_cmp, eq_by_cmp}
use Rattle.std.specs.Cmp.Lexicographic.{slice_cmp}
use Rattle.quant.specs.declared.amount.Moment.{Moment}
use Rattle.quant.specs.declared.name.Name.{Name}
use Rattle.quant.specs.declared.objects.Pod.{Pod}
use Rattle.queued.specs.declared.state.PassNumber.{PassNumber}
use Rattle.queued.specs.declared.state.Failure.{Failure}
use Rattle.queued.specs.Entry.{is_active}
use Rattle.queue.specs.Order.{Item, comes_before}
use Rattle.queue.specs.Queue.{QueueState, entry_of, has_entry, next_of, after_add, after_pop, after_fail, after_forget, after_tick, after_move, after_remove}

-- a call that may change the queue
pub data Call : Type 0 where
  Add : Pod → Moment → Call
  Pop : PassNumber → Call
  Fail : Name → PassNumber → Failure → Moment → Call
  ForgetBack : Name → Moment → Call
  Tick : Moment → Call
  MoveAll : Moment → Call
  Remove : Name → Call

-- the queue after a call
abbrev pub after : QueueState → Call → QueueState
after q (Add pod now) = after_add q pod now
after q (Pop pass) = after_pop q pass
after q (Fail uid pass how now) = after_fail q uid pass how now
after q (ForgetBack uid now) = after_forget q uid now
after q (Tick now) = after_tick q now
after q (MoveAll now) = after_move q now
after q (Remove uid) = after_remove q uid

-- the queue after several calls, in their order
abbrev pub after_all : QueueState → List Call → QueueState
after_all q [] = q
after_all q (call ∷ calls) = after_all (after q call) calls

-- the uid that a call pops, if it pops one
abbrev pub popped_by : QueueState → Call → Option Name
popped_by q (Pop pass) = option_map (λ item. item.0) (next_of q)
popped_by q _ = None

-- the uids that several calls pop, in their order
abbrev pub all_popped : QueueState → List Call → List Name
all_popped q [] = []
all_popped q (call ∷ calls) = option_to_list (popped_by q call) ++ all_popped (after q call) calls

-- two uids are the same
abbrev pub same_uid : Name → Name → Bool
same_uid a b = eq_by_cmp (slice_cmp nat_cmp) a b

-- the call gives back the pod of this uid, which this pass holds, or takes it out of the queue
abbrev pub gives_back : PassNumber → Name → Call → Bool
gives_back holder uid (Fail other pass how now) = same_uid uid other && (pass.0 == holder.0)
gives_back holder uid (ForgetBack other now) = same_uid uid other
gives_back holder uid (Remove other) = same_uid uid other
gives_back holder uid _ = false

-- the call takes the pod of this uid out of the queue
abbrev pub takes_out : Name → Call → Bool
takes_out uid (Remove other) = same_uid uid other
takes_out uid _ = false

-- no entry is active
abbrev pub NoneActive : QueueState → Type 0
NoneActive q = (uid : Name) → MatchOption (entry_of q uid) (Unit {0}) (λ entry. is_active entry.state ≡ false)

-- the item is in the queue, active, and no other active one comes before it
pub record IsNext (q : QueueState) (item : Item) : Type 0 where
  pub there : entry_of q item.0 ≡ Some item.1
  pub active : is_active item.1.state ≡ true
  pub first : (other : Item) → entry_of q other.0 ≡ Some other.1 → is_active other.1.state ≡ true → comes_before other item ≡ false

-- what is popped next is the one active entry before which no other active entry comes, and nothing
-- is popped only where none is active
abbrev pub PopsTheFirst : Type 0
PopsTheFirst = (q : QueueState) → MatchOption (next_of q) (NoneActive q) (IsNext q)

-- there is one such entry at most
abbrev pub OnlyOneIsNext : Type 0
OnlyOneIsNext = (q : QueueState) (item : Item) → IsNext q item → next_of q ≡ Some item

-- once a pass has popped a pod, no call pops it again until it is given back or taken out
abbrev pub PopsOnce : Type 0
PopsOnce =
    (q : QueueState) (pass : PassNumber) (uid : Name) (calls : List Call)
    → popped_by q (Pop pass) ≡ Some uid
    → IsTrue (list_all (λ call. not (gives_back pass uid call)) calls)
    → Contains (all_popped (after q (Pop pass)) calls) uid → ⊥

-- a second tick to the same moment changes nothing
abbrev pub TicksOnce : Type 0
TicksOnce = (q : QueueState) (now : Moment) → after (after q (Tick now)) (Tick now) ≡ after q (Tick now)

-- no call loses an entry, but one that takes it out
abbrev pub LosesNone : Type 0
LosesNone =
    (q : QueueState) (uid : Name) (calls : List Call)
    → IsTrue (has_entry q uid)
    → IsTrue (list_all (λ call. not (takes_out uid call)) calls)
    → IsTrue (has_entry (after_all q calls) uid)
