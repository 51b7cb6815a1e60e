-- What the queue's calls do to the pods that its entries have.
use Rattle.std.proofs.Common.{◌≡◌, Bool, true, false, cond, ◌&&◌, if◌then◌else◌, Option, None, Some, refl, sym, ap, subst, ◌∙◌}
use Rattle.std.specs.Option.{option_map}
use Rattle.quant.specs.declared.amount.Moment.{Moment}
use Rattle.quant.specs.declared.name.Name.{Name}
use Rattle.quant.specs.declared.objects.Pod.{Pod}
use Rattle.queued.specs.declared.state.PassNumber.{PassNumber}
use Rattle.queued.specs.declared.state.Failure.{Failure}
use Rattle.queue.specs.declared.refusal.Refusal.{Refusal}
use Rattle.queued.specs.Entry.{Entry, new_entry, is_in_flight, failed, sent_back, popped, ticked, moved_on}
use Rattle.queue.specs.Order.{Item}
use Rattle.queue.specs.Queue.{QueueState, entry_of, has_entry, is_full_queue, all_changed, with_entry, with_change, changed_at, with_popped, unless_refused, refusal_to_add, refusal_to_fail, refusal_to_forget, next_of, after_add, after_fail, after_forget, after_tick, after_move, after_remove}
use Rattle.queue.specs.Calls.{IsNext, NoneActive}
use Rattle.std.specs.Prelude.{MatchOption}
use Rattle.queue.proofs.Next.{pops_the_first}
use Rattle.queue.proofs.Runs.{get-with, get-without, get-all}
use Rattle.std.specs.Ordering.{eq_by_cmp}
use Rattle.std.specs.Cmp.Lexicographic.{bytes_decides}
use Rattle.std.specs.Str.{bytes_eq}
use Rattle.book.specs.Cluster.{name_cmp, Places}
use Rattle.book.specs.Expiry.{is_expired}
use Rattle.book.proofs.TableLemmas.{same_test, test_turned}
use Rattle.desk.specs.Machine.{after_expiry, sent_back_if_expired}
use Rattle.desk.proofs.Expiring.{entry_after_expiry}

-- the pod of an entry, if there is one
abbrev pub pod_of : Option Entry → Option Pod
pod_of o = option_map (λ (entry : Entry). entry.pod) o

-- the pod that waits under a uid
abbrev pub pod_at : QueueState → Name → Option Pod
pod_at q uid = pod_of (entry_of q uid)

-- the test of a map's order is the test of a name
pub turned : (q k : Name) → eq_by_cmp name_cmp q k ≡ bytes_eq k q
turned q k = same_test q k ∙ test_turned q k

-- names that pass the test are the same
pub same_of : (k q : Name) → bytes_eq k q ≡ true → k ≡ q
same_of k q e = (bytes_decides k q).0 e

module _ (q : QueueState) (uid : Name) where
  -- an entry under a name
  pub pod_with : (u : Name) (e : Entry) → pod_at (with_entry q u e) uid ≡ cond (bytes_eq u uid) (Some e.pod) (pod_at q uid)
  pod_with u e =
      ap pod_of (get-with q u e uid ∙ ap (λ b. cond b (Some e) (entry_of q uid)) (turned uid u))
      ∙ elim (bytes_eq u uid) as (λ b. pod_of (cond b (Some e) (entry_of q uid)) ≡ cond b (Some e.pod) (pod_at q uid)) [ true ↦ refl | false ↦ refl ]

  -- an entry in place of one with the same pod
  pub pod_over : (u : Name) (e d : Entry) → entry_of q u ≡ Some d → e.pod ≡ d.pod → pod_at (with_entry q u e) uid ≡ pod_at q uid
  pod_over u e d there same = pod_with u e ∙ by (bytes_eq u uid) refl
    where
      by : (b : Bool) → bytes_eq u uid ≡ b → cond b (Some e.pod) (pod_at q uid) ≡ pod_at q uid
      by true is = ap Some same ∙ sym (ap pod_of (ap (entry_of q) (sym (same_of u uid is)) ∙ there))
      by false is = refl

  -- a change of what is under a name, if anything is, that keeps its pod
  pub pod_change : (u : Name) (f : Entry → Entry) → ((e : Entry) → (f e).pod ≡ e.pod) → pod_at (changed_at q u f) uid ≡ pod_at q uid
  pod_change u f keeps = by (entry_of q u) refl
    where
      by : (o : Option Entry) → entry_of q u ≡ o → pod_at (with_change q u f o) uid ≡ pod_at q uid
      by None is = refl
      by (Some e) is = pod_over u (f e) e is (keeps e)

  -- a change of each
  pub pod_all : (f : Entry → Entry) → ((e : Entry) → (f e).pod ≡ e.pod) → pod_at (all_changed q f) uid ≡ pod_at q uid
  pod_all f keeps = ap pod_of (get-all q f uid) ∙ by (entry_of q uid)
    where
      by : (o : Option Entry) → pod_of (option_map f o) ≡ pod_of o
      by None = refl
      by (Some e) = ap Some (keeps e)

  -- what may be refused
  pub pod_unless : (o : Option Refusal) (new : QueueState) → pod_at new uid ≡ pod_at q uid → pod_at (unless_refused o q new) uid ≡ pod_at q uid
  pod_unless None new e = e
  pod_unless (Some why) new e = refl

  pub pod_moved : (now : Moment) → pod_at (after_move q now) uid ≡ pod_at q uid
  unfolding after_move
  pod_moved now = pod_all (moved_on now) (λ e. refl)

  pub pod_ticked : (now : Moment) → pod_at (after_tick q now) uid ≡ pod_at q uid
  unfolding after_tick
  pod_ticked now = pod_all (ticked now) (λ e. refl)

  pub pod_expired : (places : Places) (now : Moment) → pod_at (after_expiry q places now) uid ≡ pod_at q uid
  pod_expired places now = ap pod_of (entry_after_expiry q places now uid) ∙ by (entry_of q uid)
    where
      by : (o : Option Entry) → pod_of (option_map (sent_back_if_expired places now uid) o) ≡ pod_of o
      by None = refl
      by (Some e) = elim (is_expired places now uid && is_in_flight e.state) as (λ b. Some (if b then sent_back now e else e).pod ≡ Some e.pod) [ true ↦ refl | false ↦ refl ]

  pub pod_failed : (u : Name) (pass : PassNumber) (how : Failure) (now : Moment) → pod_at (after_fail q u pass how now) uid ≡ pod_at q uid
  unfolding after_fail
  pod_failed u pass how now = pod_unless (refusal_to_fail q u pass) (changed_at q u (failed how now)) (pod_change u (failed how now) (λ e. refl))

  pub pod_forgotten : (u : Name) (now : Moment) → pod_at (after_forget q u now) uid ≡ pod_at q uid
  unfolding after_forget
  pod_forgotten u now = pod_unless (refusal_to_forget q u) (changed_at q u (sent_back now)) (pod_change u (sent_back now) (λ e. refl))

  pub pod_removed : (u : Name) → pod_at (after_remove q u) uid ≡ cond (bytes_eq u uid) None (pod_at q uid)
  pod_removed u =
      ap pod_of (get-without q u uid ∙ ap (λ b. cond b None (entry_of q uid)) (turned uid u))
      ∙ elim (bytes_eq u uid) as (λ b. pod_of (cond b None (entry_of q uid)) ≡ cond b None (pod_at q uid)) [ true ↦ refl | false ↦ refl ]

  pub pod_added : (pod : Pod) (now : Moment) → has_entry q pod.uid ≡ false → is_full_queue q ≡ false → pod_at (after_add q pod now) uid ≡ cond (bytes_eq pod.uid uid) (Some pod) (pod_at q uid)
  unfolding after_add refusal_to_add
  pod_added pod now new room = rw (new, room) (pod_with pod.uid (new_entry pod now))

  pub pod_popped : (pass : PassNumber) (o : Option Item) → next_of q ≡ o → pod_at (with_popped q pass o) uid ≡ pod_at q uid
  pod_popped pass None is = refl
  pod_popped pass (Some item) is =
      let next : IsNext q item = subst (λ o. MatchOption o (NoneActive q) (IsNext q)) is (pops_the_first q) in
      pod_over item.0 (popped pass item.1) item.1 next.there refl
