-- What holds through every run of calls.
use Rattle.std.proofs.Common.{◌≡◌, ℕ, zero, suc, ◌+◌, leb, Bool, true, false, cond, not, ◌&&◌, ⊎_elim, List, [], ◌∷◌, arith, refl, sym, ap, ◌∙◌, subst}
use Rattle.std.specs.Prelude.{◌==◌, Option, Some, None, is_some, option_map, option_to_list, MatchOption, Contains}
use Rattle.std.specs.List.{list_all}
use Rattle.std.specs.FinMap as table
use Rattle.std.specs.Cmp.Lexicographic.{nat_list_cmp_total}
use Rattle.std.proofs.lemmas.List.Elements.{Contains-append_cases}
use Rattle.std.proofs.lemmas.Bool.Decides.{nat_tests}
use Rattle.quant.specs.declared.amount.Moment.{Moment}
use Rattle.quant.specs.declared.name.Name.{Name}
use Rattle.queued.specs.declared.state.PassNumber.{PassNumber}
use Rattle.queued.specs.declared.state.State.{State}
use Rattle.queued.specs.declared.state.State.TheVariants.{Active, Backoff, Unschedulable, InFlight}
use Rattle.queue.specs.declared.refusal.Refusal.{Refusal}
use Rattle.queue.specs.declared.refusal.Refusal.TheVariants.{Known, NotInFlight}
use Rattle.queued.specs.Entry.{Entry, new_entry, is_active, is_in_flight_for, popped, sent_back, failed, ticked, moved_on, state_after_tick, state_after_move}
use Rattle.queue.specs.Order.{Item}
use Rattle.queue.specs.Queue.{after_move, after_tick, after_forget, after_fail, after_pop, after_add, QueueState, Entries, entry_of, has_entry, stands, holds_in_flight, next_of, with_entry, with_change, changed_at, with_popped, all_changed, unless_refused, refusal_to_add, refusal_to_fail, refusal_to_forget, after_remove}
use Rattle.queue.specs.Calls.{Call, Add, Pop, Fail, ForgetBack, Tick, MoveAll, Remove, after, after_all, popped_by, all_popped, gives_back, takes_out, NoneActive, IsNext, PopsOnce, TicksOnce, LosesNone}
use Rattle.queue.proofs.Uids.{same, same_laws, same_is, left_part, right_part}
use Rattle.queue.proofs.Members.{differ}
use Rattle.queue.proofs.Tables.{same_entries, get-each_changed}
use Rattle.queue.proofs.States.{known_to_add}
use Rattle.queue.proofs.Next.{pops_the_first}

-- what stands under a uid with one entry more
pub get-with : (q : QueueState) (u : Name) (e : Entry) (uid : Name) → entry_of (with_entry q u e) uid ≡ cond (same uid u) (Some e) (entry_of q uid)
get-with q u e uid = table.get-insert nat_list_cmp_total q.entries u e uid

-- and without one
pub get-without : (q : QueueState) (u uid : Name) → entry_of (after_remove q u) uid ≡ cond (same uid u) None (entry_of q uid)
unfolding after_remove
get-without q u uid = table.get-remove nat_list_cmp_total q.entries u uid

-- and with each one changed
pub get-all : (q : QueueState) (f : Entry → Entry) (uid : Name) → entry_of (all_changed q f) uid ≡ option_map f (entry_of q uid)
get-all q f uid = get-each_changed f q.entries uid

-- a test that is turned round passes where the test fails
not_so : (b : Bool) → not b ≡ true → b ≡ false
not_so true h = cc
not_so false h = refl

-- A call keeps what it does not take out.
has-with : (q : QueueState) (u : Name) (e : Entry) (uid : Name) → has_entry q uid ≡ true → has_entry (with_entry q u e) uid ≡ true
has-with q u e uid h =
    ap is_some (get-with q u e uid) ∙ elim (same uid u) as (λ b. is_some (cond b (Some e) (entry_of q uid)) ≡ true) [ true ↦ refl | false ↦ h ]

-- nor does a change at a uid lose an entry
has-change : (q : QueueState) (u : Name) (f : Entry → Entry) (o : Option Entry) (uid : Name) → has_entry q uid ≡ true → has_entry (with_change q u f o) uid ≡ true
has-change q u f None uid h = h
has-change q u f (Some e) uid h = has-with q u (f e) uid h

-- nor does a pop
has-popped : (q : QueueState) (pass : PassNumber) (o : Option Item) (uid : Name) → has_entry q uid ≡ true → has_entry (with_popped q pass o) uid ≡ true
has-popped q pass None uid h = h
has-popped q pass (Some x) uid h = has-with q x.0 (popped pass x.1) uid h

-- nor does a call that may be refused
has-unless : (r : Option Refusal) (old new : QueueState) (uid : Name) → has_entry old uid ≡ true → has_entry new uid ≡ true → has_entry (unless_refused r old new) uid ≡ true
has-unless None old new uid h k = k
has-unless (Some why) old new uid h k = h

-- a change of what is there leaves it there
is_some-map : (f : Entry → Entry) (o : Option Entry) → is_some (option_map f o) ≡ is_some o
is_some-map f None = refl
is_some-map f (Some e) = refl

-- nor does a change of each entry
has-all : (q : QueueState) (f : Entry → Entry) (uid : Name) → has_entry q uid ≡ true → has_entry (all_changed q f) uid ≡ true
has-all q f uid h = ap is_some (get-all q f uid) ∙ is_some-map f (entry_of q uid) ∙ h

-- one call keeps it
pub has-after : (q : QueueState) (call : Call) (uid : Name) → has_entry q uid ≡ true → takes_out uid call ≡ false → has_entry (after q call) uid ≡ true
unfolding after_add after_pop after_fail after_forget after_tick after_move after_remove
has-after q (Add pod now) uid h kept = has-unless (refusal_to_add q pod.uid) q (with_entry q pod.uid (new_entry pod now)) uid h (has-with q pod.uid (new_entry pod now) uid h)
has-after q (Pop pass) uid h kept = has-popped q pass (next_of q) uid h
has-after q (Fail u pass how now) uid h kept = has-unless (refusal_to_fail q u pass) q (changed_at q u (failed how now)) uid h (has-change q u (failed how now) (entry_of q u) uid h)
has-after q (ForgetBack u now) uid h kept = has-unless (refusal_to_forget q u) q (changed_at q u (sent_back now)) uid h (has-change q u (sent_back now) (entry_of q u) uid h)
has-after q (Tick now) uid h kept = has-all q (ticked now) uid h
has-after q (MoveAll now) uid h kept = has-all q (moved_on now) uid h
has-after q (Remove u) uid h kept = ap is_some (get-without q u uid ∙ ap (λ b. cond b None (entry_of q uid)) kept) ∙ h

-- and so does any run
keeps_all : (q : QueueState) (uid : Name) (calls : List Call) → has_entry q uid ≡ true → list_all (λ call. not (takes_out uid call)) calls ≡ true → has_entry (after_all q calls) uid ≡ true
keeps_all q uid [] h kept = h
keeps_all q uid (call ∷ calls) h kept = keeps_all (after q call) uid calls (has-after q call uid h (not_so _ (left_part _ _ kept))) (right_part _ _ kept)

-- no run loses an entry that it does not take out
pub loses_none : LosesNone
loses_none q uid calls h kept = keeps_all q uid calls h kept

-- A second tick to the same moment changes nothing.
tick_again : (now : Moment) (s : State) → state_after_tick now (state_after_tick now s) ≡ state_after_tick now s
tick_again now Active = refl
tick_again now (Backoff until) =
    elim (leb until.0 now.0) as (λ b. leb until.0 now.0 ≡ b → state_after_tick now (cond b Active (Backoff until)) ≡ cond b Active (Backoff until)) [
      | true ↦ λ h. refl
      | false ↦ λ h. ap (λ b. cond b Active (Backoff until)) h
    ] refl
tick_again now (Unschedulable since) =
    elim (leb (since.0 + 300000) now.0) as (λ b. leb (since.0 + 300000) now.0 ≡ b → state_after_tick now (cond b Active (Unschedulable since)) ≡ cond b Active (Unschedulable since)) [
      | true ↦ λ h. refl
      | false ↦ λ h. ap (λ b. cond b Active (Unschedulable since)) h
    ] refl
tick_again now (InFlight pass moved) = refl

-- the entry, in another state
abbrev in_state : Entry → State → Entry
in_state e s = record e { state = s }

-- the same of an entry, if there is one
ticked_again : (now : Moment) (o : Option Entry) → option_map (ticked now) (option_map (ticked now) o) ≡ option_map (ticked now) o
ticked_again now None = refl
ticked_again now (Some e) = ap (λ (s : State). Some (in_state e s)) (tick_again now e.state)

-- the entries under a limit
with_entries : ℕ → Entries → QueueState
with_entries limit entries = record { limit = limit; entries = entries }

-- so a second tick changes nothing
pub ticks_once : TicksOnce
unfolding with_entries after_tick
ticks_once q now = ap (with_entries q.limit) (same_entries _ _ (λ uid.
    get-all (all_changed q (ticked now)) (ticked now) uid
    ∙ ap (option_map (ticked now)) (get-all q (ticked now) uid)
    ∙ ticked_again now (entry_of q uid)
    ∙ sym (get-all q (ticked now) uid)))

-- What a pass holds in flight it holds until it gives it back.
abbrev flies : PassNumber → Entry → Bool
flies pass e = is_in_flight_for pass e.state

-- a write at another uid keeps it in flight
holds-with : (q : QueueState) (u : Name) (e : Entry) (pass : PassNumber) (uid : Name) → same uid u ≡ false → holds_in_flight q pass uid ≡ true → holds_in_flight (with_entry q u e) pass uid ≡ true
holds-with q u e pass uid other h = ap (stands (flies pass)) (get-with q u e uid ∙ ap (λ b. cond b (Some e) (entry_of q uid)) other) ∙ h

-- so does a change at another uid
holds-change : (q : QueueState) (u : Name) (f : Entry → Entry) (o : Option Entry) (pass : PassNumber) (uid : Name) → same uid u ≡ false → holds_in_flight q pass uid ≡ true → holds_in_flight (with_change q u f o) pass uid ≡ true
holds-change q u f None pass uid other h = h
holds-change q u f (Some e) pass uid other h = holds-with q u (f e) pass uid other h

-- so does a call that may be refused, if its effect does
holds-unless : (r : Option Refusal) (old new : QueueState) (pass : PassNumber) (uid : Name) → holds_in_flight old pass uid ≡ true → holds_in_flight new pass uid ≡ true → holds_in_flight (unless_refused r old new) pass uid ≡ true
holds-unless None old new pass uid h k = k
holds-unless (Some why) old new pass uid h k = h

-- so does a call that is refused
holds-refused : (r : Option Refusal) (why : Refusal) (old new : QueueState) (pass : PassNumber) (uid : Name) → r ≡ Some why → holds_in_flight old pass uid ≡ true → holds_in_flight (unless_refused r old new) pass uid ≡ true
holds-refused r why old new pass uid is h = subst (λ o. holds_in_flight (unless_refused o old new) pass uid ≡ true) (sym is) h

-- what is held is there
there_if_held : (test : Entry → Bool) (o : Option Entry) → stands test o ≡ true → is_some o ≡ true
there_if_held test None h = h
there_if_held test (Some e) h = refl

-- and stays in flight through a change that leaves it there
held-map : (f : Entry → Entry) (pass : PassNumber) → ((e : Entry) → flies pass e ≡ true → flies pass (f e) ≡ true) → (o : Option Entry) → stands (flies pass) o ≡ true → stands (flies pass) (option_map f o) ≡ true
held-map f pass keeps None h = h
held-map f pass keeps (Some e) h = keeps e h

-- so does a change of each entry that keeps each in flight
holds-all : (q : QueueState) (f : Entry → Entry) (pass : PassNumber) (uid : Name) → ((e : Entry) → flies pass e ≡ true → flies pass (f e) ≡ true) → holds_in_flight q pass uid ≡ true → holds_in_flight (all_changed q f) pass uid ≡ true
holds-all q f pass uid keeps h = ap (stands (flies pass)) (get-all q f uid) ∙ held-map f pass keeps (entry_of q uid) h

-- a tick keeps each in flight
flies-tick : (now : Moment) (pass : PassNumber) (s : State) → is_in_flight_for pass s ≡ true → is_in_flight_for pass (state_after_tick now s) ≡ true
flies-tick now pass Active h = h
flies-tick now pass (Backoff until) h = cc
flies-tick now pass (Unschedulable since) h = cc
flies-tick now pass (InFlight p moved) h = h

-- a move does too
flies-move : (now : Moment) (attempts : ℕ) (pass : PassNumber) (s : State) → is_in_flight_for pass s ≡ true → is_in_flight_for pass (state_after_move now attempts s) ≡ true
flies-move now attempts pass Active h = h
flies-move now attempts pass (Backoff until) h = h
flies-move now attempts pass (Unschedulable since) h = cc
flies-move now attempts pass (InFlight p moved) h = h

-- a pod in flight is not active
not_both : (pass : PassNumber) (s : State) → is_active s ≡ true → is_in_flight_for pass s ≡ true → ⊥
not_both pass Active act h = cc
not_both pass (Backoff until) act h = cc
not_both pass (Unschedulable since) act h = cc
not_both pass (InFlight p moved) act h = cc

-- one pass holds it alone
other_number : (a b c : ℕ) → (a == b) ≡ true → (c == b) ≡ false → (a == c) ≡ false
other_number a b c h k = grind (arith, nat_tests)

-- where one pass holds a pod, another does not
alone_in : (mine other : PassNumber) (s : State) → (other.0 == mine.0) ≡ false → is_in_flight_for mine s ≡ true → is_in_flight_for other s ≡ false
alone_in mine other Active apart h = refl
alone_in mine other (Backoff until) apart h = refl
alone_in mine other (Unschedulable since) apart h = refl
alone_in mine other (InFlight p moved) apart h = other_number p.0 mine.0 other.0 h apart

-- the same of an entry, if there is one
held_alone : (mine other : PassNumber) (o : Option Entry) → (other.0 == mine.0) ≡ false → stands (flies mine) o ≡ true → stands (flies other) o ≡ false
held_alone mine other None apart h = refl
held_alone mine other (Some e) apart h = alone_in mine other e.state apart h

-- what is next is not in flight
pub next_not_held : (q : QueueState) (x : Item) (pass : PassNumber) (uid : Name) → next_of q ≡ Some x → holds_in_flight q pass uid ≡ true → same uid x.0 ≡ false
next_not_held q x pass uid is h =
    elim (same uid x.0) as (λ b. same uid x.0 ≡ b → b ≡ false) [
      | true ↦ λ here.
          let next : IsNext q x = subst (λ o. MatchOption o (NoneActive q) (IsNext q)) is (pops_the_first q) in
          let found : entry_of q uid ≡ Some x.1 = ap (entry_of q) (same_is uid x.0 here) ∙ next.there in
          absurd (not_both pass x.1.state next.active (sym (ap (stands (flies pass)) found) ∙ h))
      | false ↦ λ other. refl
    ] refl

-- a pop keeps it in flight
holds-popped : (q : QueueState) (by pass : PassNumber) (o : Option Item) (uid : Name) → next_of q ≡ o → holds_in_flight q pass uid ≡ true → holds_in_flight (with_popped q by o) pass uid ≡ true
holds-popped q by pass None uid is h = h
holds-popped q by pass (Some x) uid is h = holds-with q x.0 (popped by x.1) pass uid (next_not_held q x pass uid is h) h

-- an add does too
holds-add : (q : QueueState) (call_uid : Name) (new : QueueState) (pass : PassNumber) (uid : Name) → (same uid call_uid ≡ false → holds_in_flight new pass uid ≡ true) → holds_in_flight q pass uid ≡ true → holds_in_flight (unless_refused (refusal_to_add q call_uid) q new) pass uid ≡ true
holds-add q u new pass uid kept h =
    elim (same uid u) as (λ b. same uid u ≡ b → holds_in_flight (unless_refused (refusal_to_add q u) q new) pass uid ≡ true) [
      | true ↦ λ is. holds-refused (refusal_to_add q u) Known q new pass uid
          (known_to_add q u (sym (ap (has_entry q) (same_is uid u is)) ∙ there_if_held (flies pass) (entry_of q uid) h)) h
      | false ↦ λ other. holds-unless (refusal_to_add q u) q new pass uid h (kept other)
    ] refl

-- so does a failure at another uid, or by another pass
holds-fail : (q : QueueState) (u : Name) (by : PassNumber) (f : Entry → Entry) (pass : PassNumber) (uid : Name) → (same uid u && (by.0 == pass.0)) ≡ false → holds_in_flight q pass uid ≡ true → holds_in_flight (unless_refused (refusal_to_fail q u by) q (changed_at q u f)) pass uid ≡ true
unfolding refusal_to_fail
holds-fail q u by f pass uid kept h =
    elim (same uid u) as (λ b. same uid u ≡ b → (b && (by.0 == pass.0)) ≡ false → holds_in_flight (unless_refused (refusal_to_fail q u by) q (changed_at q u f)) pass uid ≡ true) [
      | true ↦ λ is other.
          let held : holds_in_flight q pass u ≡ true = sym (ap (holds_in_flight q pass) (same_is uid u is)) ∙ h in
          holds-refused (refusal_to_fail q u by) NotInFlight q (changed_at q u f) pass uid
          (ap (λ b. cond b None (Some NotInFlight)) (held_alone pass by (entry_of q u) other held)) h
      | false ↦ λ apart other. holds-unless (refusal_to_fail q u by) q (changed_at q u f) pass uid h (holds-change q u f (entry_of q u) pass uid apart h)
    ] refl kept

-- one call keeps it
pub holds-after : (q : QueueState) (call : Call) (pass : PassNumber) (uid : Name) → holds_in_flight q pass uid ≡ true → gives_back pass uid call ≡ false → holds_in_flight (after q call) pass uid ≡ true
unfolding after_add after_pop after_fail after_forget after_tick after_move after_remove
holds-after q (Add pod now) pass uid h kept = holds-add q pod.uid (with_entry q pod.uid (new_entry pod now)) pass uid (λ other. holds-with q pod.uid (new_entry pod now) pass uid other h) h
holds-after q (Pop by) pass uid h kept = holds-popped q by pass (next_of q) uid refl h
holds-after q (Fail u by how now) pass uid h kept = holds-fail q u by (failed how now) pass uid kept h
holds-after q (ForgetBack u now) pass uid h kept = holds-unless (refusal_to_forget q u) q (changed_at q u (sent_back now)) pass uid h (holds-change q u (sent_back now) (entry_of q u) pass uid kept h)
holds-after q (Tick now) pass uid h kept = holds-all q (ticked now) pass uid (λ e. flies-tick now pass e.state) h
holds-after q (MoveAll now) pass uid h kept = holds-all q (moved_on now) pass uid (λ e. flies-move now e.attempts pass e.state) h
holds-after q (Remove u) pass uid h kept = ap (stands (flies pass)) (get-without q u uid ∙ ap (λ b. cond b None (entry_of q uid)) kept) ∙ h

-- a list of one contains that one
only_one : (v uid : Name) → Contains (v ∷ []) uid → v ≡ uid
only_one v uid (zero, below, is) = is
only_one v uid (suc k, below, is) = absurd (omega arith)

-- a list of none contains none
none_there : (uid : Name) → Contains [] uid → ⊥
none_there uid h = absurd (omega (arith, h.1))

-- no call pops what is held
not_next : (q : QueueState) (o : Option Item) (pass : PassNumber) (uid : Name) → next_of q ≡ o → holds_in_flight q pass uid ≡ true → Contains (option_to_list (option_map (λ (item : Item). item.0) o)) uid → ⊥
not_next q None pass uid is h there = none_there uid there
not_next q (Some x) pass uid is h there =
    differ (sym (next_not_held q x pass uid is h) ∙ ap (same uid) (only_one x.0 uid there) ∙ same_laws.refl uid)

-- so no call pops it
not_popped : (q : QueueState) (call : Call) (pass : PassNumber) (uid : Name) → holds_in_flight q pass uid ≡ true → Contains (option_to_list (popped_by q call)) uid → ⊥
not_popped q (Add pod now) pass uid h there = none_there uid there
not_popped q (Pop by) pass uid h there = not_next q (next_of q) pass uid refl h there
not_popped q (Fail u by how now) pass uid h there = none_there uid there
not_popped q (ForgetBack u now) pass uid h there = none_there uid there
not_popped q (Tick now) pass uid h there = none_there uid there
not_popped q (MoveAll now) pass uid h there = none_there uid there
not_popped q (Remove u) pass uid h there = none_there uid there

-- nor does any run of calls
never_popped : (q : QueueState) (calls : List Call) (pass : PassNumber) (uid : Name) → holds_in_flight q pass uid ≡ true → list_all (λ call. not (gives_back pass uid call)) calls ≡ true → Contains (all_popped q calls) uid → ⊥
never_popped q [] pass uid h kept there = none_there uid there
never_popped q (call ∷ calls) pass uid h kept there =
    ⊎_elim
    (λ (here : Contains (option_to_list (popped_by q call)) uid). not_popped q call pass uid h here)
    (λ (later : Contains (all_popped (after q call) calls) uid). never_popped (after q call) calls pass uid (holds-after q call pass uid h (not_so _ (left_part _ _ kept))) (right_part _ _ kept) later)
    (Contains-append_cases (option_to_list (popped_by q call)) (all_popped (after q call) calls) uid there)

-- what a pass pops it holds
equal_numbers : (n : ℕ) → (n == n) ≡ true
equal_numbers n = grind (arith, nat_tests)

-- nothing is no uid
no_name : (uid : Name) → None ≡ Some uid → ⊥
no_name uid h = cc

-- what is there is one uid
same_name : (a b : Name) → Some a ≡ Some b → a ≡ b
same_name a b h = cc

-- a pop leaves the pod in flight for its pass
held_once_popped : (q : QueueState) (pass : PassNumber) (uid : Name) (o : Option Item) → option_map (λ (item : Item). item.0) o ≡ Some uid → holds_in_flight (with_popped q pass o) pass uid ≡ true
held_once_popped q pass uid None is = absurd (no_name uid is)
held_once_popped q pass uid (Some x) is =
    ap (stands (flies pass)) (get-with q x.0 (popped pass x.1) uid ∙ ap (λ b. cond b (Some (popped pass x.1)) (entry_of q uid)) (ap (same uid) (same_name x.0 uid is) ∙ same_laws.refl uid))
    ∙ equal_numbers pass.0

-- so nothing is popped twice
pub pops_once : PopsOnce
unfolding after_pop
pops_once q pass uid calls is kept there = never_popped (after q (Pop pass)) calls pass uid (held_once_popped q pass uid (next_of q) is) kept there
