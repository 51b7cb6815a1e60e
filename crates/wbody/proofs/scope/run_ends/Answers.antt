use Rattle.std.proofs.Common.{◌≡◌, ◌∙◌, ℕ, ◌+◌, List, [], ◌∷◌, ◌++◌, drop, get_or, ap, arith}
use Rattle.wmodule.specs.declared.module.LocalRun.{LocalRun}
use Rattle.wbody.specs.inside.LocalEnds.{ends_from, end_of}
use Rattle.wbody.proofs.RunEnds.{ends_more, ends_done}
use Rattle.wbody.proofs.scope.run_ends.Goals as goal

pub loop-run-preserved : goal.loop-run-preserved
loop-run-preserved c =
    let i = c.loop-run.run-index in
    let start = c.loop-run.end in
    let rest = drop (i + 1) c.args.runs.now in (
      omega (arith, c.min-end.ensures),
      ap (λ (l : List ℕ). l ++ ends_from c.min-end.result rest) c.in-Ok-push.ensures.items
          ∙ ap (λ (n : ℕ). (c.loop-run.ends.items ++ n ∷ []) ++ ends_from n rest) c.min-end.ensures
          ∙ ends_more c.loop-run.ends.items start c.args.runs.now i _ c.loop-run-test.true ∙ c.loop-run.invariant.1,
    )

pub overflow_add-end : goal.overflow_add-end
overflow_add-end c = let low = c.loop-run.invariant.0 in omega (arith, low)

pub returns : goal.returns
returns c = ends_done c.loop-run.ends.items c.loop-run.end c.args.runs.now c.loop-run.run-index c.loop-run-test.false c.loop-run.invariant.1
