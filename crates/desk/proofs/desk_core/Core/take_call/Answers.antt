use Rattle.std.proofs.Common.{◌≡◌, ◌+◌, ◌<◌, length, slice_index, subst, sym, ap, ◌∙◌, arith}
use Rattle.std.proofs.lemmas.List.{get_or-set_same}
use Rattle.desk.specs.inside.Caller.{Core}
use Rattle.desk.proofs.CallCounts.{calls_kept}
use Rattle.desk.proofs.desk_core.Core.take_call.Goals as goal

-- the step left the counts as they were
pub overflow_add-self : goal.overflow_add-self
overflow_add-self c =
    let s = c.args.self.now.state in
    let same : c.self-2.inside.calls ≡ s.calls = ap (λ (d : Core). d.state.calls) c.self-2.view_is ∙ sym (ap (λ t. t.calls) c.do_step-said.ensures.1) ∙ calls_kept s c.args.pass c.args.step in
    let few : slice_index c.self-2.inside.calls c.args.pass < 1000000000000000000 = subst (λ calls. slice_index calls c.args.pass < 1000000000000000000) (sym same) c.requires.fits in
    omega (arith, few)

pub returns-clause-counted : goal.returns-clause-counted
returns-clause-counted c =
    let s = c.args.self.now.state in
    let same : c.self-2.inside.calls ≡ s.calls = ap (λ (d : Core). d.state.calls) c.self-2.view_is ∙ sym (ap (λ t. t.calls) c.do_step-said.ensures.1) ∙ calls_kept s c.args.pass c.args.step in
    let within : c.args.pass < length c.self-2.inside.calls = omega (arith, c.requires.handed, c.self-2.told) in
    get_or-set_same c.self-2.inside.calls c.args.pass _ 0 within ∙ ap (λ calls. slice_index calls c.args.pass + 1) same
