-- The reductions of a call one after the other, by computing: where it comes to is its outcome.
use Rattle.std.proofs.Common.{◌≡◌, ℕ, suc, zero, ◌+◌, ◌<◌, ◌≤◌, List, [], ◌∷◌, Bool, true, false, Option, Some, None, refl, ap, subst, arith}
use Rattle.std.specs.Prelude.{nat_lt, option_map}
use Rattle.std.proofs.lemmas.Bool.{ltb-true, ltb-false}
use Rattle.wcode.specs.declared.value.Value.{Value}
use Rattle.wcode.specs.Syntax.{done}
use Rattle.wmach.specs.declared.outcome.Outcome.{Outcome}
use Rattle.wmach.specs.declared.outcome.Outcome.TheVariants as outcome
use Rattle.wmach.specs.Configuration.{Store, Setting, Execution, instructions, trap, Configuration, Reduction}
use Rattle.wmach.specs.Outcome.{next, Chain, values_of, call_of, cost_of, HasOutcome}

-- the end of a call at this cost, if it is one
abbrev pub ended_as : List Value → Execution → (cost : ℕ) → Option Outcome
ended_as (l ∷ ls) e cost = None
ended_as [] (instructions [] done) cost = Some (outcome.Value None cost)
ended_as [] (instructions (v ∷ []) done) cost = Some (outcome.Value (Some v) cost)
ended_as [] (trap t) cost = Some (outcome.Trap t cost)
ended_as [] _ cost = None

-- an outcome, and the store that is left
pub record Ran : Type 0 where
  pub outcome : Outcome
  pub store : Store

abbrev pub or_exhausted : Bool → (cost : ℕ) → Store → Option Ran → Option Ran
or_exhausted true cost store others = Some (record { outcome = outcome.Exhausted cost; store = store })
or_exhausted false cost store others = others

-- what comes of the next reduction, where the others come to this
abbrev pub after_next : (fuel cost : ℕ) → Configuration → (ℕ → Configuration → Option Ran) → Option Reduction → Option Ran
after_next fuel cost c others None = option_map (λ o. record { outcome = o; store = c.store }) (ended_as c.locals c.execution cost)
after_next fuel cost c others (Some r) = or_exhausted (nat_lt fuel (cost + r.cost)) cost c.store (others (cost + r.cost) r.to)

-- how a call ends with so much fuel, after at most so many reductions, where it has cost so much
abbrev pub run : Setting → (steps fuel cost : ℕ) → Configuration → Option Ran
run setting zero fuel cost c = None
run setting (suc n) fuel cost c = after_next fuel cost c (λ k d. run setting n fuel k d) (next setting c)

module _ (setting : Setting) (fuel : ℕ) where
  -- where the call stands at this outcome
  abbrev Final : Outcome → Store → Configuration → Type 0
  Final (outcome.Value result cost) after c = c ≡ record { store = after; locals = []; execution = instructions (values_of result) done }
  Final (outcome.Trap name cost) after c = c ≡ record { store = after; locals = []; execution = trap name }
  Final (outcome.Exhausted cost) after c = (r : Reduction) × (next setting c ≡ Some r) × (fuel < cost + r.cost) × (c.store ≡ after)

  record Comes (cost : ℕ) (c : Configuration) (o : Outcome) (after : Store) : Type 0 where
    count : ℕ
    others : ℕ
    at : Configuration
    chain : Chain setting count c others at
    sum : cost_of o ≡ cost + others
    within : cost_of o ≤ fuel
    stands : Final o after at

  here : (cost : ℕ) (c : Configuration) (o : Outcome) (after : Store) → cost_of o ≡ cost → cost ≤ fuel → Final o after c → Comes cost c o after
  here cost c o after same within f = record { count = 0; others = 0; at = c; chain = (refl, refl); sum = omega (arith, same); within = omega (arith, same, within); stands = f }

  abbrev at : Store → List Value → Execution → Configuration
  at store locals e = record { store = store; locals = locals; execution = e }

  -- what is told of the end is so
  told : (cost : ℕ) (store : Store) (locals : List Value) (e : Execution) (o : Outcome) → cost ≤ fuel → ended_as locals e cost ≡ Some o → Comes cost (at store locals e) o store
  told cost store (l ∷ ls) e o within is = absurd (cc)
  told cost store [] (instructions [] done) o within is =
      let same : outcome.Value None cost ≡ o = cc in subst (λ p. Comes cost (at store [] (instructions [] done)) p store) same (here cost _ (outcome.Value None cost) store refl within refl)
  told cost store [] (instructions (v ∷ []) done) o within is =
      let same : outcome.Value (Some v) cost ≡ o = cc in subst (λ p. Comes cost (at store [] (instructions (v ∷ []) done)) p store) same (here cost _ (outcome.Value (Some v) cost) store refl within refl)
  told cost store [] (trap t) o within is =
      let same : outcome.Trap t cost ≡ o = cc in subst (λ p. Comes cost (at store [] (trap t)) p store) same (here cost _ (outcome.Trap t cost) store refl within refl)
  told cost store [] _ o within is = absurd (cc)

  none_told : (o : Option Outcome) (store : Store) (x : Ran) → option_map (λ p. record { outcome = p; store = store }) o ≡ Some x → (o ≡ Some x.outcome) × (store ≡ x.store)
  none_told None store x e = absurd (cc)
  none_told (Some p) store x e = let same : record { outcome = p; store = store } ≡ x = cc in (ap (λ (y : Ran). Some y.outcome) same, ap (λ (y : Ran). y.store) same)

  first_then : (cost : ℕ) (c : Configuration) (r : Reduction) (o : Outcome) (after : Store) → next setting c ≡ Some r → Comes (cost + r.cost) r.to o after → Comes cost c o after
  first_then cost c r o after is k = record {
    count = suc k.count;
    others = r.cost + k.others;
    at = k.at;
    chain = (r, is, (k.others, refl, k.chain));
    sum = omega (arith, k.sum);
    within = k.within;
    stands = k.stands;
  }

  decided : (cost : ℕ) (c : Configuration) (x : Ran) (r : Reduction) (others : Option Ran) → cost ≤ fuel → next setting c ≡ Some r → (cost + r.cost ≤ fuel → others ≡ Some x → Comes (cost + r.cost) r.to x.outcome x.store) → (b : Bool) → nat_lt fuel (cost + r.cost) ≡ b → or_exhausted b cost c.store others ≡ Some x → Comes cost c x.outcome x.store
  decided cost c x r others within is later true over e =
      let same : record { outcome = outcome.Exhausted cost; store = c.store } ≡ x = cc in
      let stopped = here cost c (outcome.Exhausted cost) c.store refl within (r, is, ltb-true fuel (cost + r.cost) over, refl) in
      subst (λ (y : Ran). Comes cost c y.outcome y.store) same stopped
  decided cost c x r others within is later false over e = first_then cost c r x.outcome x.store is (later (ltb-false fuel (cost + r.cost) over) e)

  goes_on : (cost : ℕ) (c : Configuration) (x : Ran) (others : ℕ → Configuration → Option Ran) → cost ≤ fuel → ((k : ℕ) (d : Configuration) → k ≤ fuel → others k d ≡ Some x → Comes k d x.outcome x.store) → (on : Option Reduction) → next setting c ≡ on → after_next fuel cost c others on ≡ Some x → Comes cost c x.outcome x.store
  goes_on cost c x others within later None is e =
      let t = none_told (ended_as c.locals c.execution cost) c.store x e in
      subst (λ s. Comes cost c x.outcome s) t.1 (told cost c.store c.locals c.execution x.outcome within t.0)
  goes_on cost c x others within later (Some r) is e =
      decided cost c x r (others (cost + r.cost) r.to) within is (later (cost + r.cost) r.to) (nat_lt fuel (cost + r.cost)) refl e

  comes : (n cost : ℕ) (c : Configuration) (x : Ran) → cost ≤ fuel → run setting n fuel cost c ≡ Some x → Comes cost c x.outcome x.store
  comes zero cost c x within e = absurd (cc)
  comes (suc n) cost c x within e =
      goes_on cost c x (λ k d. run setting n fuel k d) within (λ k d less is. comes n k d x less is) (next setting c) refl e

  outcome_of : (before : Store) (function : ℕ) (o : Outcome) (after : Store) → Comes 0 (call_of before function) o after → HasOutcome setting before function fuel o after
  outcome_of before function (outcome.Value result cost) after k =
      let spent : k.others ≡ cost = omega (arith, k.sum) in
      (k.count, k.within, subst (λ n. Chain setting k.count (call_of before function) n _) spent (subst (λ d. Chain setting k.count (call_of before function) k.others d) k.stands k.chain))
  outcome_of before function (outcome.Trap name cost) after k =
      let spent : k.others ≡ cost = omega (arith, k.sum) in
      (k.count, k.within, subst (λ n. Chain setting k.count (call_of before function) n _) spent (subst (λ d. Chain setting k.count (call_of before function) k.others d) k.stands k.chain))
  outcome_of before function (outcome.Exhausted cost) after k =
      let spent : k.others ≡ cost = omega (arith, k.sum) in
      (k.count, k.at, k.stands.0, k.within, subst (λ n. Chain setting k.count (call_of before function) n k.at) spent k.chain, k.stands.1, k.stands.2, k.stands.3)

  -- what is computed is the call's outcome
  pub ran : (steps : ℕ) (before : Store) (function : ℕ) (o : Outcome) (after : Store) → run setting steps fuel 0 (call_of before function) ≡ Some (record { outcome = o; store = after }) → HasOutcome setting before function fuel o after
  ran steps before function o after e = outcome_of before function o after (comes steps 0 (call_of before function) (record { outcome = o; store = after }) (omega arith) e)

-- a call's outcome, found by computing it
pub record Row (setting : Setting) (before : Store) (function fuel : ℕ) (o : Outcome) (after : Store) : Type 0 where
  pub is : HasOutcome setting before function fuel o after

pub row : {setting : Setting} {before : Store} {function fuel : ℕ} {o : Outcome} {after : Store} (steps : ℕ) → run setting steps fuel 0 (call_of before function) ≡ Some (record { outcome = o; store = after }) → Row setting before function fuel o after
row {setting = setting} {before = before} {function = function} {fuel = fuel} {o = o} {after = after} steps e = record { is = ran setting fuel steps before function o after e }

-- the same with all of it written out, which computes faster
pub row_of : (setting : Setting) (before : Store) (function fuel : ℕ) (o : Outcome) (after : Store) (steps : ℕ) → run setting steps fuel 0 (call_of before function) ≡ Some (record { outcome = o; store = after }) → Row setting before function fuel o after
row_of setting before function fuel o after steps e = record { is = ran setting fuel steps before function o after e }
