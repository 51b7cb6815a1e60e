use Rattle.std.proofs.Common.{rules, ◌^◌, ◌≤◌, ℕ, Some, sym, ap, subst, refl, length, ◌-◌, ◌∙◌, arith}
use Rattle.std.specs.Prelude.{nat_le, option_map}
use Rattle.std.proofs.lemmas.Option.{slice_get-get_or, slice_get_past}
use Rattle.std.proofs.lemmas.List.Sorted.{IsPartitionPoint-from_clause, IsPartitionedBy-leb}
use Rattle.std.specs.List.Sorted.{IsNonDecreasingBy}
use Rattle.wmodule.specs.declared.module.LocalRun.{LocalRun}
use Rattle.wmodule.specs.Syntax.{locals_of}
use Rattle.wbody.proofs.RunEnds.{ends_rise, local_at, parameter_at}
use Rattle.wbody.proofs.scope.Scope.local.Goals as goal

pub returns-in-Some-get : goal.returns-in-Some-get
returns-in-Some-get c =
    let self = c.args.self.now in
    let ends = self.ends.now in
    let runs = self.locals.now in
    let run = c.partition_point-run.result in
    let past = c.args.index - length self.parameters.now in
    let from : 0 ≤ 2 ^ 32 = omega arith in
    let rise : IsNonDecreasingBy (λ (e : ℕ). e) ends = subst (IsNonDecreasingBy (λ (e : ℕ). e)) (sym self.counted) (ends_rise 0 runs from) in
    let parts = IsPartitionPoint-from_clause (λ (e : ℕ). nat_le e past) ends run c.partition_point-run.ensures.partitioned (IsPartitionedBy-leb (λ (e : ℕ). e) ends past rise) (λ a r f' k. search rules) in
    sym (local_at self.parameters.now runs ends c.args.index past run self.counted c.in_default.ensures.lookup.3 c.ranges.index.fits refl c.partition_point-run.ensures.bound parts
    ∙ ap (option_map (λ (r : LocalRun). r.value)) (slice_get-get_or runs run c.in-Some-get.found.now c.in-Some-get.ensures.lookup.3.0 ∙ ap Some (sym c.in-Some-get.ensures.lookup.1)))

pub returns-in-None : goal.returns-in-None
returns-in-None c =
    let self = c.args.self.now in
    let ends = self.ends.now in
    let runs = self.locals.now in
    let run = c.partition_point-run.result in
    let past = c.args.index - length self.parameters.now in
    let from : 0 ≤ 2 ^ 32 = omega arith in
    let rise : IsNonDecreasingBy (λ (e : ℕ). e) ends = subst (IsNonDecreasingBy (λ (e : ℕ). e)) (sym self.counted) (ends_rise 0 runs from) in
    let parts = IsPartitionPoint-from_clause (λ (e : ℕ). nat_le e past) ends run c.partition_point-run.ensures.partitioned (IsPartitionedBy-leb (λ (e : ℕ). e) ends past rise) (λ a r f' k. search rules) in
    sym (local_at self.parameters.now runs ends c.args.index past run self.counted c.in_default.ensures.lookup.3 c.ranges.index.fits refl c.partition_point-run.ensures.bound parts
    ∙ ap (option_map (λ (r : LocalRun). r.value)) (slice_get_past runs run c.in-None.ensures.lookup.3))

pub returns-in-Some : goal.returns-in-Some
returns-in-Some c =
    let self = c.args.self.now in
    parameter_at self.parameters.now (locals_of self.locals.now) c.args.index c.in-Some.t.now c.in-Some.ensures.lookup.3.0 c.in-Some.ensures.lookup.1
