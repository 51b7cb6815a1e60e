use Rattle.std.proofs.Common.{reverse, refl, sym, ap, ◌∙◌, subst}
use Rattle.wcode.specs.Grammar.{SpellsWord}
use Rattle.wbody.specs.Typing.{PlainType}
use Rattle.wbody.specs.inside.Pass.{pass_type}
use Rattle.wbody.specs.inside.Effect.{effect_type}
use Rattle.wbody.specs.inside.OperandStack.{stack_of}
use Rattle.wbody.specs.inside.Standing.{inner_context}
use Rattle.wbody.proofs.Inside.{scope_inside, base_labels}
use Rattle.wbody.proofs.LevelLists.{on_ok_3}
use Rattle.wbody.proofs.Steps.{plain_step, plain_stop}
use Rattle.wbody.proofs.NotedPass.{plain_moves}
use Rattle.wbody.proofs.words.pass_plain.Goals as goal

pub returns : goal.returns
returns c bytes =
    let a = c.apply.ensures in
    let s = c.args.stack.now in
    record {
      over = on_ok_3 c.apply.result a.ok a.same a.greatest (λ ok same greatest. λ w shown c' total peak final front more base st spelled.
          plain_step c' total peak final front more (reverse c.args.levels.now) s c.apply.new.self c.args.plain st (subst (λ v. SpellsWord front v more) shown spelled)
          (λ os layers.
          ap (λ (t : PlainType). pass_type t (stack_of s)) (sym (c.effect_of.ensures (inner_context c' os) (scope_inside c.args.scope.now c' os base.0) (base_labels c.args.scope.now c' c.args.levels.now os _ base layers)))
          ∙ ok) same greatest);
      moves = on_ok_3 c.apply.result a.ok a.same a.greatest (λ ok same greatest.
          (refl, same.floor, plain_moves c.args.scope.now c.args.levels.now c.args.plain s c.apply.new.self c.effect_of.result ok same c.effect_of.ensures));
      err = λ e w shown c' total peak final front more base st spelled.
          plain_stop c' total peak final front more (reverse c.args.levels.now) s c.args.plain st (subst (λ v. SpellsWord front v more) shown spelled)
          (λ os layers.
          ap (λ (t : PlainType). pass_type t (stack_of s)) (sym (c.effect_of.ensures (inner_context c' os) (scope_inside c.args.scope.now c' os base.0) (base_labels c.args.scope.now c' c.args.levels.now os _ base layers)))
          ∙ a.err e);
    }
