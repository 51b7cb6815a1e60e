-- Where a call has come to, and the outcome when it goes no further.
use Rattle.std.proofs.Common.{◌≡◌, ℕ, suc, zero, ◌+◌, ◌≤◌, Some, refl, sym, ap, ◌∙◌, subst, arith}
use Rattle.wmach.specs.declared.outcome.Outcome.{Outcome}
use Rattle.wmach.specs.declared.outcome.Outcome.TheVariants as outcome
use Rattle.wmach.specs.Configuration.{Setting, Store, Configuration, Reduction}
use Rattle.wmach.specs.Outcome.{next, Chain, call_of, HasOutcome}
use Rattle.wplain.specs.declared.evaluation.Running.{Running}
use Rattle.wplain.specs.inside.Running.{configuration_of, EndsAs, EndsFor, Reduces}
use Rattle.wplain.specs.inside.Seen.{execution_of, reduction_of, written}
use Rattle.wplain.specs.declared.execution.Effect.{Effect}
use Rattle.wcode.specs.Syntax.{done}
use Rattle.wmach.specs.Configuration.{instructions, trap}
use Rattle.wmach.specs.Outcome.{values_of}
use Rattle.std.proofs.Common.{[], Option}
use Rattle.wcode.specs.declared.value.Value.{Value}
use Rattle.rules.specs.declared.trap.Trap.{Trap}

-- a chain, and one reduction more
chain_on : (setting : Setting) (n cost : ℕ) (from c : Configuration) (r : Reduction) → Chain setting n from cost c → next setting c ≡ Some r → Chain setting (suc n) from (cost + r.cost) r.to
chain_on setting zero cost from c r ch is =
    (r, subst (λ d. next setting d ≡ Some r) (sym ch.0) is, (0, omega (arith, ch.1), (refl, refl)))
chain_on setting (suc n) cost from c r ch is =
    (ch.0, ch.1, (ch.2.0 + r.cost, omega (arith, ch.2.1), chain_on setting n (ch.2.0) (ch.0.to) c r ch.2.2 is))

-- a call has come there at what it has cost, within the fuel
pub record Reached (setting : Setting) (fuel : ℕ) (before : Store) (function : ℕ) (store : Store) (r : Running) : Type 0 where
  pub count : ℕ
  pub chain : Chain setting count (call_of before function) r.cost (configuration_of store r)
  pub within : r.cost ≤ fuel

pub reached_first : (setting : Setting) (fuel : ℕ) (before : Store) (function : ℕ) (r : Running) → ((store : Store) → configuration_of store r ≡ call_of store function) → r.cost ≡ 0 → Reached setting fuel before function before r
reached_first setting fuel before function r place cost = record { count = 0; chain = (sym (place before), cost); within = omega (arith, cost) }

pub reached_next : (setting : Setting) (fuel : ℕ) (before : Store) (function : ℕ) (store after : Store) (r s : Running) → Reached setting fuel before function store r → Reduces setting fuel store r after s → Reached setting fuel before function after s
reached_next setting fuel before function store after r s k n = record {
  count = suc k.count;
  chain =
      let on = chain_on setting k.count (r.cost) (call_of before function) (configuration_of store r) n.reduction k.chain n.is in
      subst (λ x. Chain setting (suc k.count) (call_of before function) x (configuration_of after s)) (sym n.cost)
      (subst (λ c. Chain setting (suc k.count) (call_of before function) (r.cost + n.reduction.cost) c) n.leads_there on);
  within = n.within;
}

-- the same configuration, by its parts
same_place : (store : Store) (r : Running) (c : Configuration) → store ≡ c.store → r.locals.items ≡ c.locals → execution_of r.execution ≡ c.execution → configuration_of store r ≡ c
same_place store r c a b d = ap (λ s. record { store = s; locals = r.locals.items; execution = execution_of r.execution }) a ∙ ap (λ l. record { store = c.store; locals = l; execution = execution_of r.execution }) b ∙ ap (λ e. record { store = c.store; locals = c.locals; execution = e }) d

abbrev value_place : Store → Option Value → Configuration
value_place store result = record { store = store; locals = []; execution = instructions (values_of result) done }

abbrev trap_place : Store → Trap → Configuration
trap_place store name = record { store = store; locals = []; execution = trap name }

pub ends : (setting : Setting) (fuel : ℕ) (before : Store) (function : ℕ) (store : Store) (r : Running) (o : Outcome) → Reached setting fuel before function store r → EndsFor setting fuel store r o → HasOutcome setting before function fuel o store
ends setting fuel before function store r (outcome.Value result cost) k e = (
  k.count,
  subst (λ x. x ≤ fuel) (sym e.2) k.within,
  subst (λ x. Chain setting k.count (call_of before function) x (value_place store result)) (sym e.2)
      (subst (λ c. Chain setting k.count (call_of before function) (r.cost) c) (same_place store r (value_place store result) refl e.0 e.1) k.chain),
)
ends setting fuel before function store r (outcome.Trap name cost) k e = (
  k.count,
  subst (λ x. x ≤ fuel) (sym e.2) k.within,
  subst (λ x. Chain setting k.count (call_of before function) x (trap_place store name)) (sym e.2)
      (subst (λ c. Chain setting k.count (call_of before function) (r.cost) c) (same_place store r (trap_place store name) refl e.0 e.1) k.chain),
)
ends setting fuel before function store r (outcome.Exhausted cost) k e = (
  k.count,
  configuration_of store r,
  e.0,
  subst (λ x. x ≤ fuel) (sym e.3) k.within,
  subst (λ x. Chain setting k.count (call_of before function) x (configuration_of store r)) (sym e.3) k.chain,
  e.1,
  e.2,
  refl,
)

-- a reduction that is taken, with what it writes
pub one_more : (setting : Setting) (fuel : ℕ) (before after : Store) (from to : Running) (e : Effect) → next setting (configuration_of before from) ≡ Some (reduction_of before to.locals.items (execution_of to.execution) e) → after ≡ written before e.write → to.cost ≡ from.cost + e.cost → to.cost ≤ fuel → Reduces setting fuel before from after to
one_more setting fuel before after from to e is applied cost within = record {
  reduction = reduction_of before to.locals.items (execution_of to.execution) e;
  is = is;
  leads_there = ap (λ x. record { store = x; locals = to.locals.items; execution = execution_of to.execution }) (sym applied);
  cost = cost;
  within = within;
}

-- a call that has ended, whatever the fuel
pub ends_now : (setting : Setting) (fuel : ℕ) (store : Store) (r : Running) (o : Outcome) → EndsAs r o → EndsFor setting fuel store r o
ends_now setting fuel store r (outcome.Value result cost) e = e
ends_now setting fuel store r (outcome.Trap name cost) e = e
ends_now setting fuel store r (outcome.Exhausted cost) e = absurd e
