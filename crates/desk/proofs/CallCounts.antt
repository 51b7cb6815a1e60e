-- What the counts of calls in a state say of the history that left it.
use Rattle.std.proofs.Common.{◌≡◌, ℕ, zero, suc, ◌+◌, ◌<◌, ◌≤◌, Bool, true, false, cond, eqb, List, [], ◌∷◌, ◌++◌, filter, length, refl, sym, ap, subst, ◌∙◌, arith, length-set, add-zero, nat_lt, Option, None, Some, slice_index}
use Rattle.std.specs.Prelude.{replicate}
use Rattle.std.proofs.lemmas.Bool.{eqb-true, eq-eqb}
use Rattle.std.proofs.lemmas.Bool.Decides.{nat_tests}
use Rattle.std.proofs.lemmas.List.{get_or-set_same, get_or-set_other}
use Rattle.quant.specs.declared.event.Event.TheVariants.{NodeSet, NodeGone, PodPending, PodBound, PodGone}
use Rattle.book.specs.Step as book_step
use Rattle.book.specs.declared.refusal.Refusal.{Refusal}
use Rattle.book.specs.declared.step.ClusterStep.{ClusterStep}
use Rattle.book.specs.declared.step.ClusterStep.TheVariants as cluster
use Rattle.queue.specs.Queue.{QueueState, has_entry, after_add, after_remove, after_forget, after_fail}
use Rattle.desk.specs.declared.step.Step.{Step}
use Rattle.desk.specs.declared.step.Step.TheVariants.{Event, Pop, Assume, BindDone, Forget, Fail, Tick, Count}
use Rattle.desk.specs.declared.step.Reply.TheVariants as replies
use Rattle.desk.specs.Machine.{State, Outcome, opening, both, unless, step, after, told, of_node, of_pod, moved, moved_if_placed, entry_at, pass_number, refusal_to_fail, refusal_to_tick, ticked_to}
use Rattle.desk.specs.inside.Caller.{Core}
use Rattle.desk.specs.History.{Call, AreHanded, AreOthers, calls_of, state_after}
use Rattle.desk.specs.inside.History.{Leaves}

-- ---- no step changes the counts before its call is counted

unless_calls : (o : Option Refusal) (s : State) (done : Outcome) → done.state.calls ≡ s.calls → (unless o s done).state.calls ≡ s.calls
unless_calls None s done e = e
unless_calls (Some why) s done e = refl

both_calls : (s : State) (part : ClusterStep) (queue : QueueState) → (both s part queue).state.calls ≡ s.calls
both_calls s part queue = unless_calls (book_step.refusal s.cluster part) s (record { state = record s { cluster = book_step.effect s.cluster part; queue = queue }; reply = told s.cluster part }) refl

pub calls_kept : (s : State) (pass : ℕ) (e : Step) → (step s pass e).state.calls ≡ s.calls
calls_kept s pass (Event (NodeSet version node)) = both_calls s (of_node s (NodeSet version node)) (moved s s.queue)
calls_kept s pass (Event (NodeGone version name)) = both_calls s (of_node s (NodeGone version name)) s.queue
calls_kept s pass (Event (PodPending version pod)) = both_calls s (of_pod s pod.uid (PodPending version pod)) (after_add s.queue pod s.clock)
calls_kept s pass (Event (PodBound version uid node request)) = both_calls s (of_pod s uid (PodBound version uid node request)) (after_remove s.queue uid)
calls_kept s pass (Event (PodGone version uid)) = both_calls s (of_pod s uid (PodGone version uid)) (moved_if_placed s uid (after_remove s.queue uid))
calls_kept s pass Pop = refl
calls_kept s pass (Assume uid node) = both_calls s (cluster.Assume uid node (entry_at s pass uid)) s.queue
calls_kept s pass (BindDone uid ticket) = both_calls s (cluster.BindDone uid ticket s.clock (has_entry s.queue uid)) s.queue
calls_kept s pass (Forget uid ticket) = both_calls s (cluster.Forget uid ticket (has_entry s.queue uid)) (moved s (after_forget s.queue uid s.clock))
calls_kept s pass (Fail uid how) = unless_calls (refusal_to_fail s pass uid) s (record { state = record s { queue = after_fail s.queue uid (pass_number pass) how s.clock }; reply = replies.Done }) refl
calls_kept s pass (Tick now) = unless_calls (refusal_to_tick s now) s (record { state = ticked_to s now; reply = replies.Done }) refl
calls_kept s pass Count = refl

-- ---- the counts of a history

true-not_false : true ≡ false → ⊥
true-not_false e = absurd cc

-- the first call counts for its pass
calls_first : (pass : ℕ) (c : Call) (l : List Call) → calls_of pass (c ∷ l) ≡ cond (eqb c.pass pass) 1 0 + calls_of pass l
calls_first pass c l = elim (eqb c.pass pass) as (λ b. length (cond b (c ∷ filter (λ d. eqb d.pass pass) l) (filter (λ d. eqb d.pass pass) l)) ≡ cond b 1 0 + length (filter (λ d. eqb d.pass pass) l)) [ true ↦ omega arith | false ↦ omega arith ]

-- a state has a count for each pass that may be handed out
abbrev pub IsWide : State → Type 0
IsWide s = length s.calls ≡ 64

wide_after : (s : State) (pass : ℕ) (e : Step) → IsWide s → IsWide (after s pass e)
wide_after s pass e wide = length-set (step s pass e).state.calls pass (slice_index (step s pass e).state.calls pass + 1) ∙ ap length (calls_kept s pass e) ∙ wide

-- a call is counted once, for its pass
counted_after : (s : State) (pass : ℕ) (e : Step) (k : ℕ) → IsWide s → pass < 64 → slice_index (after s pass e).calls k ≡ slice_index s.calls k + cond (eqb pass k) 1 0
counted_after s pass e k wide lt = by (eqb pass k) refl
  where
    by : (b : Bool) → eqb pass k ≡ b → slice_index (after s pass e).calls k ≡ slice_index s.calls k + cond b 1 0
    by true is =
        let same : pass ≡ k = eqb-true pass k is in
        let within : pass < length (step s pass e).state.calls = omega (arith, lt, wide, ap length (calls_kept s pass e)) in
        subst (λ j. slice_index (after s pass e).calls j ≡ slice_index s.calls j + 1) same
        (get_or-set_same (step s pass e).state.calls pass (slice_index (step s pass e).state.calls pass + 1) 0 within ∙ ap (λ calls. slice_index calls pass + 1) (calls_kept s pass e))
    by false is =
        get_or-set_other (step s pass e).state.calls pass k (slice_index (step s pass e).state.calls pass + 1) 0 (λ (same : k ≡ pass). true-not_false (sym (eq-eqb pass k (sym same)) ∙ is))
        ∙ ap (λ calls. slice_index calls k) (calls_kept s pass e) ∙ sym (add-zero (slice_index s.calls k))

-- a history's calls are counted
all_counted : (s : State) (l : List Call) → IsWide s → AreHanded 64 l → (k : ℕ) → slice_index (state_after s l).calls k ≡ slice_index s.calls k + calls_of k l
all_counted s [] wide handed k = sym (add-zero (slice_index s.calls k))
all_counted s (c ∷ l) wide handed k =
    let rest = all_counted (after s c.pass c.step) l (wide_after s c.pass c.step wide) handed.1 k in
    let one = counted_after s c.pass c.step k wide handed.0 in
    let more = calls_first k c l in
    omega (arith, rest, one, more)

zeros : (n k : ℕ) → slice_index (replicate {A = ℕ} n 0) k ≡ 0
zeros zero k = refl
zeros (suc n) zero = refl
zeros (suc n) (suc k) = zeros n k

-- what a state says of each pass's calls is how many the history has
pub leaves_counts : (l : List Call) (d : Core) → Leaves l d → (k : ℕ) → slice_index d.state.calls k ≡ calls_of k l
leaves_counts l d left k =
    let first = opening d.state.cluster.limits in
    ap (λ (s : State). slice_index s.calls k) left.state ∙ all_counted first l refl left.legal.handed k ∙ add_zeros (slice_index first.calls k) (calls_of k l) (zeros 64 k)
  where
    add_zeros : (m n : ℕ) → m ≡ 0 → m + n ≡ n
    add_zeros m n e = omega (arith, e)

-- ---- what is said by counts alone

-- calls of which none is the pass's are others'
pub none_own : (pass : ℕ) (l : List Call) → calls_of pass l ≡ 0 → AreOthers pass l
none_own pass [] none = tt
none_own pass (c ∷ l) none = (not_first pass c l none (eqb c.pass pass) refl, none_own pass l (omega (arith, none, calls_first pass c l)))
  where
    not_first : (pass : ℕ) (c : Call) (l : List Call) → calls_of pass (c ∷ l) ≡ 0 → (b : Bool) → eqb c.pass pass ≡ b → eqb c.pass pass ≡ false
    not_first pass c l none true is = let one : cond true 1 0 + calls_of pass l ≡ 0 = subst (λ t. cond t 1 0 + calls_of pass l ≡ 0) is (sym (calls_first pass c l) ∙ none) in absurd (omega (arith, one))
    not_first pass c l none false is = is

-- passes of which no call is there needn't have been handed out
pub handed_fewer : (n handed : ℕ) (l : List Call) → AreHanded n l → ((k : ℕ) → handed ≤ k → calls_of k l ≡ 0) → AreHanded handed l
handed_fewer n handed [] all none = tt
handed_fewer n handed (c ∷ l) all none =
    let few : c.pass < handed = by (nat_lt c.pass handed) refl in
    (few, handed_fewer n handed l all.1 (λ (k : ℕ) (le : handed ≤ k). omega (arith, none k le, calls_first k c l)))
  where
    by : (b : Bool) → nat_lt c.pass handed ≡ b → c.pass < handed
    by true is = grind (arith, nat_tests)
    by false is =
        let le : handed ≤ c.pass = grind (arith, nat_tests) in
        let own : eqb c.pass c.pass ≡ true = eq-eqb c.pass c.pass refl in
        let one : cond true 1 0 + calls_of c.pass l ≡ 0 = subst (λ t. cond t 1 0 + calls_of c.pass l ≡ 0) own (sym (calls_first c.pass c l) ∙ none c.pass le) in absurd (omega (arith, one))

-- the calls of a pass in two parts
pub calls_parts : (pass : ℕ) (a b : List Call) → calls_of pass (a ++ b) ≡ calls_of pass a + calls_of pass b
calls_parts pass [] b = omega arith
calls_parts pass (c ∷ a) b = omega (arith, calls_first pass c (a ++ b), calls_first pass c a, calls_parts pass a b)
