use Rattle.std.proofs.Common.{◌≡◌, ℕ, suc, ◌+◌, subst, sym, ap, ◌∙◌, List, ◌++◌, ◌∷◌, [], take, arith}
use Rattle.std.proofs.Math.Seq.{take-suc}
use Rattle.desk.specs.declared.step.Step.{Step}
use Rattle.crew.specs.Made.{Makes}
use Rattle.crew.proofs.Going.{makes_more}
use Rattle.crew.proofs.feeder.tell_all.Goals as goal

-- one more step was made
pub loop-step-preserved : goal.loop-step-preserved
loop-step-preserved g c =
    let k = c.loop-step.step-index in
    let steps = c.args.steps.now in
    let more = makes_more c.args.desk.now c.args.pass.now c.loop-step.pass c.apply.new.pass (take k steps) c.in_ok-share.field-0 c.in_ok-reply.reply c.loop-step.invariant c.in_ok-reply.ensures.applied in
    let next : k + 1 ≡ suc k = omega arith in
    subst (λ (made : List Step). Makes c.args.pass.now made c.apply.new.pass)
    (ap (λ (e : Step). take k steps ++ e ∷ []) (c.in_ok-share.ensures ∙ c.step-item.is) ∙ sym (ap (λ (n : ℕ). take n steps) next ∙ take-suc steps k c.step-item.result c.loop-step-test.true))
    more
