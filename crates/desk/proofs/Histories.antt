-- What one more call does to a history.
use Rattle.std.proofs.Common.{◌≡◌, ℕ, ◌+◌, ◌<◌, Bool, true, false, cond, eqb, List, [], ◌∷◌, ◌++◌, map, filter, length, refl, sym, ap, subst, ◌∙◌, arith, length-append, add-zero, Option, None, Some}
use Rattle.std.specs.List.{AllByRecursion, range_with_len}
use Rattle.std.proofs.lemmas.Bool.{eqb-true, eq-eqb}
use Rattle.std.proofs.lemmas.List.{map-append, map-id}
use Rattle.std.proofs.lemmas.List.FromFn.{map-range_with_len_more}
use Rattle.quant.specs.declared.event.Event.TheVariants.{NodeSet, NodeGone, PodPending, PodBound, PodGone}
use Rattle.quant.specs.declared.amount.Moment.{Moment}
use Rattle.quant.specs.declared.name.Name.{Name}
use Rattle.book.specs.Cluster.{Cluster}
use Rattle.book.specs.Step as book_step
use Rattle.book.specs.declared.limits.Limits.{Limits}
use Rattle.book.specs.declared.place.Place.{Place}
use Rattle.book.specs.declared.refusal.Refusal.{Refusal}
use Rattle.book.specs.declared.entry.Entry.TheVariants.{Missing, Elsewhere, Held}
use Rattle.book.specs.declared.step.ClusterStep.{ClusterStep}
use Rattle.book.specs.declared.step.ClusterStep.TheVariants as cluster
use Rattle.queue.specs.Queue.{QueueState, has_entry, after_add, after_remove, after_forget, after_fail}
use Rattle.desk.specs.declared.step.Step.{Step}
use Rattle.desk.specs.declared.step.Step.TheVariants.{Event, Pop, Assume, BindDone, Forget, Fail, Tick, Count}
use Rattle.desk.specs.declared.step.Reply.{Reply}
use Rattle.desk.specs.Caller.{Caller}
use Rattle.desk.specs.inside.Caller.{Core, with_state}
use Rattle.desk.specs.declared.step.Reply.TheVariants as replies
use Rattle.desk.specs.Machine.{State, Outcome, opening, both, unless, reply, after, told, of_node, of_pod, moved, moved_if_placed, entry_at, pass_number, refusal_to_fail, refusal_to_tick, ticked_to}
use Rattle.desk.specs.History.{Call, AreAnswered, state_after, numbers_of, one_to, calls_of, Legal, HasCallsOf, call}
use Rattle.desk.specs.inside.History.{Leaves}

-- an empty list at the end changes nothing
pub append_nil : {A : Type 0} (xs : List A) → xs ++ [] ≡ xs
append_nil [] = refl
append_nil (x ∷ xs) = ap (λ r. x ∷ r) (append_nil xs)

-- ---- one more call

-- the state after one more call is what the call makes of the state before it
pub state_more : (s : State) (l : List Call) (c : Call) → state_after s (l ++ c ∷ []) ≡ after (state_after s l) c.pass c.step
state_more s [] c = refl
state_more s (d ∷ l) c = state_more (after s d.pass d.step) l c

-- and where that call got the machine's answer, each call did
answered_more : (s : State) (l : List Call) (c : Call) → AreAnswered s l → c.reply ≡ reply (state_after s l) c.pass c.step → AreAnswered s (l ++ c ∷ [])
answered_more s [] c all e = (e, tt)
answered_more s (d ∷ l) c all e = (all.0, answered_more (after s d.pass d.step) l c all.1 e)

-- where its pass was handed out, each call's was
pub handed_more : (n : ℕ) (l : List Call) (c : Call) → AllByRecursion (λ d. d.pass < n) l → c.pass < n → AllByRecursion (λ d. d.pass < n) (l ++ c ∷ [])
handed_more n [] c all lt = (lt, tt)
handed_more n (d ∷ l) c all lt = (all.0, handed_more n l c all.1 lt)

-- one more item is kept at the end, or not at all
filter_more : (p : Call → Bool) (l : List Call) (c : Call) → filter p (l ++ c ∷ []) ≡ filter p l ++ cond (p c) (c ∷ []) []
filter_more p [] c = refl
filter_more p (d ∷ l) c = elim (p d) as (λ b. cond b (d ∷ filter p (l ++ c ∷ [])) (filter p (l ++ c ∷ [])) ≡ cond b (d ∷ filter p l) (filter p l) ++ cond (p c) (c ∷ []) []) [
  | true ↦ ap (λ r. d ∷ r) (filter_more p l c)
  | false ↦ filter_more p l c
]

-- 1, 2, 3, .. goes one further
one_to_more : (n : ℕ) → one_to (n + 1) ≡ one_to n ++ (n + 1) ∷ []
one_to_more n = sym (map-id (range_with_len 1 (n + 1))) ∙ map-range_with_len_more (λ k. k) 1 n (n + 1) (omega arith) ∙ ap (λ r. r ++ (n + 1) ∷ []) (map-id (range_with_len 1 n))

module _ (l : List Call) (c : Call) where
  -- the pass that makes a call has one call more, and no other pass has
  pub calls_more : (pass : ℕ) → calls_of pass (l ++ c ∷ []) ≡ calls_of pass l + cond (eqb c.pass pass) 1 0
  calls_more pass =
      ap length (filter_more (λ d. eqb d.pass pass) l c) ∙ length-append (filter (λ d. eqb d.pass pass) l) (cond (eqb c.pass pass) (c ∷ []) [])
      ∙ ap (λ n. calls_of pass l + n) (elim (eqb c.pass pass) as (λ b. length (cond b (c ∷ []) []) ≡ cond b 1 0) [ true ↦ refl | false ↦ refl ])

  -- the pass that makes a call has its number at the end, and no other pass has
  numbers_more : (pass : ℕ) → numbers_of pass (l ++ c ∷ []) ≡ numbers_of pass l ++ cond (eqb c.pass pass) (c.number ∷ []) []
  numbers_more pass =
      ap (map (λ d. d.number)) (filter_more (λ d. eqb d.pass pass) l c) ∙ map-append (λ d. d.number) (filter (λ d. eqb d.pass pass) l) (cond (eqb c.pass pass) (c ∷ []) [])
      ∙ ap (λ n. numbers_of pass l ++ n) (elim (eqb c.pass pass) as (λ b. map (λ (d : Call). d.number) (cond b (c ∷ []) []) ≡ cond b (c.number ∷ []) []) [ true ↦ refl | false ↦ refl ])

  -- where the new call has the next number of its pass, the numbers stay in order
  numbered_more : ((pass : ℕ) → numbers_of pass l ≡ one_to (calls_of pass l)) → c.number ≡ calls_of c.pass l + 1 → (pass : ℕ) → numbers_of pass (l ++ c ∷ []) ≡ one_to (calls_of pass (l ++ c ∷ []))
  numbered_more all next pass = numbers_more pass ∙ by (eqb c.pass pass) refl ∙ ap one_to (sym (calls_more pass))
    where
      by : (b : Bool) → eqb c.pass pass ≡ b → numbers_of pass l ++ cond (eqb c.pass pass) (c.number ∷ []) [] ≡ one_to (calls_of pass l + cond (eqb c.pass pass) 1 0)
      by true e =
          let same : c.pass ≡ pass = eqb-true c.pass pass e in
          let count : c.number ≡ calls_of pass l + 1 = next ∙ ap (λ p. calls_of p l + 1) same in
          rw e (rw (all pass, count) (sym (one_to_more (calls_of pass l))))
      by false e = rw e (append_nil (numbers_of pass l) ∙ all pass ∙ ap one_to (sym (add-zero (calls_of pass l))))

-- ---- what no call changes

-- the limits of a state
abbrev pub limits_of : State → Limits
limits_of s = s.cluster.limits

-- no step of the book changes its limits
effect_limits : (c : Cluster) (e : ClusterStep) → (book_step.effect c e).limits ≡ c.limits
effect_limits c (cluster.Event (NodeSet version node) queued full) = refl
effect_limits c (cluster.Event (NodeGone version name) queued full) = refl
effect_limits c (cluster.Event (PodPending version pod) queued full) = refl
effect_limits c (cluster.Event (PodBound version uid node request) queued full) = refl
effect_limits c (cluster.Event (PodGone version uid) queued full) = refl
effect_limits c (cluster.Assume uid node Missing) = refl
effect_limits c (cluster.Assume uid node Elsewhere) = refl
effect_limits c (cluster.Assume uid node (Held request)) = refl
effect_limits c (cluster.BindDone uid ticket at queued) = finished_limits c uid at (Rattle.std.specs.FinMap.get c.places uid)
  where
    finished_limits : (c : Cluster) (uid : Name) (at : Moment) (o : Option Place) → (book_step.with_finished c uid at o).limits ≡ c.limits
    finished_limits c uid at None = refl
    finished_limits c uid at (Some place) = refl
effect_limits c (cluster.Forget uid ticket queued) = refl

-- what is refused or done keeps the limits, where what is done does
unless_limits : (o : Option Refusal) (s : State) (done : Outcome) → limits_of done.state ≡ limits_of s → limits_of (unless o s done).state ≡ limits_of s
unless_limits None s done e = e
unless_limits (Some why) s done e = refl

both_limits : (s : State) (part : ClusterStep) (queue : QueueState) → limits_of (both s part queue).state ≡ limits_of s
both_limits s part queue = unless_limits (book_step.refusal s.cluster part) s (record { state = record s { cluster = book_step.effect s.cluster part; queue = queue }; reply = told s.cluster part }) (effect_limits s.cluster part)

-- nor does a step of the desk
pub limits_after : (s : State) (pass : ℕ) (e : Step) → limits_of (after s pass e) ≡ limits_of s
limits_after s pass (Event (NodeSet version node)) = both_limits s (of_node s (NodeSet version node)) (moved s s.queue)
limits_after s pass (Event (NodeGone version name)) = both_limits s (of_node s (NodeGone version name)) s.queue
limits_after s pass (Event (PodPending version pod)) = both_limits s (of_pod s pod.uid (PodPending version pod)) (after_add s.queue pod s.clock)
limits_after s pass (Event (PodBound version uid node request)) = both_limits s (of_pod s uid (PodBound version uid node request)) (after_remove s.queue uid)
limits_after s pass (Event (PodGone version uid)) = both_limits s (of_pod s uid (PodGone version uid)) (moved_if_placed s uid (after_remove s.queue uid))
limits_after s pass Pop = refl
limits_after s pass (Assume uid node) = both_limits s (cluster.Assume uid node (entry_at s pass uid)) s.queue
limits_after s pass (BindDone uid ticket) = both_limits s (cluster.BindDone uid ticket s.clock (has_entry s.queue uid)) s.queue
limits_after s pass (Forget uid ticket) = both_limits s (cluster.Forget uid ticket (has_entry s.queue uid)) (moved s (after_forget s.queue uid s.clock))
limits_after s pass (Fail uid how) = unless_limits (refusal_to_fail s pass uid) s (record { state = record s { queue = after_fail s.queue uid (pass_number pass) how s.clock }; reply = replies.Done }) refl
limits_after s pass (Tick now) = unless_limits (refusal_to_tick s now) s (record { state = ticked_to s now; reply = replies.Done }) refl
limits_after s pass Count = refl

-- ---- the whole of one more call

module _ (l : List Call) (d : Core) (p : Caller) (e : Step) (answer : Reply) where
  -- the history with the call
  abbrev more : List Call
  more = l ++ call p e answer ∷ []

  -- a legal history and an answered call are legal
  pub legal_more : Leaves l d → p.number < 64 → HasCallsOf p l → answer ≡ reply d.state p.number e → Legal d.state.cluster.limits 64 (l ++ call p e answer ∷ [])
  legal_more left handed calls told = record {
    history = record {
      answered = answered_more _ l (call p e answer) left.legal.history.answered (told ∙ ap (λ s. reply s p.number e) left.state);
      numbered = numbered_more l (call p e answer) left.legal.history.numbered (ap (λ n. n + 1) (sym calls));
    };
    handed = handed_more 64 l (call p e answer) left.legal.handed handed;
  }

  -- and leave the desk after the call
  pub leaves_more : Leaves l d → p.number < 64 → HasCallsOf p l → answer ≡ reply d.state p.number e → Leaves (l ++ call p e answer ∷ []) (with_state d (after d.state p.number e))
  leaves_more left handed calls told =
      let limits : limits_of (after d.state p.number e) ≡ limits_of d.state = limits_after d.state p.number e in
      record {
        legal = subst (λ n. Legal n 64 (l ++ call p e answer ∷ [])) (sym limits) (legal_more left handed calls told);
        state = ap (λ t. after t p.number e) left.state ∙ sym (state_more (opening d.state.cluster.limits) l (call p e answer)) ∙ ap (λ n. state_after (opening n) (l ++ call p e answer ∷ [])) (sym limits);
      }

  -- and the pass has made one call more
  pub calls_made : HasCallsOf p l → HasCallsOf (record p { calls = p.calls + 1 }) (l ++ call p e answer ∷ [])
  calls_made calls = calls_more l (call p e answer) p.number ∙ ap (λ b. calls_of p.number l + cond b 1 0) (eq-eqb p.number p.number refl) ∙ ap (λ n. n + 1) calls
