use Rattle.std.proofs.Common.{◌-◌, sym, subst}
use Rattle.wmach.specs.declared.outcome.Outcome.TheVariants as outcome
use Rattle.wmach.specs.Call.{result_type}
use Rattle.wmach.specs.inside.Kept.{HoldsResult}
use Rattle.wmach.specs.Outcome.{HasOutcome}
use Rattle.wmach.specs.inside.Running.{Stops}
use Rattle.wmach.proofs.Invocations.{exhausted_outcome, trap_outcome, held, value_outcome, result_fits}
use Rattle.wmach.proofs.invocation.outcome_of.Goals as goal

pub result_of-requires : goal.result_of-requires
result_of-requires c =
    let q = c.requires in
    let s = subst (λ x. Stops q.0 x c.args.slots.now q.3) c.in-Ended.is q.5 in
    (s.2, held q.0 q.1 c.args.export q.2 c.args.fuel q.4 c.args.slots.now q.3 c.in-Ended.left s)

pub returns-in-Exhausted-clause-outcome : goal.returns-in-Exhausted-clause-outcome
returns-in-Exhausted-clause-outcome c r before function store call stops =
    exhausted_outcome r before c.args.export function c.args.fuel call c.args.slots.now store c.in-Exhausted.left (subst (λ x. Stops r x c.args.slots.now store) c.in-Exhausted.is stops)

pub returns-in-Trap-clause-outcome : goal.returns-in-Trap-clause-outcome
returns-in-Trap-clause-outcome c r before function store call stops =
    trap_outcome r before c.args.export function c.args.fuel call c.args.slots.now store c.in-Trap.trap c.in-Trap.left (subst (λ x. Stops r x c.args.slots.now store) c.in-Trap.is stops)

pub returns-in-Ended-clause-outcome : goal.returns-in-Ended-clause-outcome
returns-in-Ended-clause-outcome c r before function store call stops =
    let s = subst (λ x. Stops r x c.args.slots.now store) c.in-Ended.is stops in
    let same = c.result_of.ensures s.2 (held r before c.args.export function c.args.fuel call c.args.slots.now store c.in-Ended.left s) in
    subst (λ v. HasOutcome r.setting before function c.args.fuel (outcome.Value v (c.args.fuel - c.in-Ended.left)) store.current) (sym same)
    (value_outcome r before c.args.export function c.args.fuel call c.args.slots.now store c.in-Ended.left s)

pub returns-in-Ended-clause-fits : goal.returns-in-Ended-clause-fits
returns-in-Ended-clause-fits c =
    let q = c.requires in
    let s = subst (λ x. Stops q.0 x c.args.slots.now q.3) c.in-Ended.is q.5 in
    let h = held q.0 q.1 c.args.export q.2 c.args.fuel q.4 c.args.slots.now q.3 c.in-Ended.left s in
    let same = c.result_of.ensures s.2 h in
    result_fits c.args.slots.now (result_type c.args.export) c.result_of.result (subst (λ v. HoldsResult c.args.slots.now (result_type c.args.export) v) (sym same) h)
