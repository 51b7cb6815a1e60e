use Rattle.std.proofs.Common.{[], false, None, reverse, refl, sym, ap, ◌∙◌, subst}
use Rattle.wcode.specs.Grammar.{SpellsWord}
use Rattle.wbody.specs.Typing.{PlainType}
use Rattle.wbody.specs.inside.Pass.{pass_type}
use Rattle.wbody.specs.inside.OperandStack.{stack_of}
use Rattle.wbody.specs.inside.Standing.{inner_context}
use Rattle.wbody.proofs.Inside.{base_labels}
use Rattle.wbody.proofs.LevelLists.{on_ok_3}
use Rattle.wbody.specs.Context.{Context}
use Rattle.wbody.specs.inside.Scope.{labels_of}
use Rattle.wbody.proofs.TableLabels.{shows_table, table_unreached}
use Rattle.wbody.proofs.Steps.{table_step, table_stop}
use Rattle.wbody.proofs.NotedMoves.{cut_height}
use Rattle.wbody.proofs.words.pass_table.Goals as goal

pub returns : goal.returns
returns c =
    let a = c.apply.ensures in
    let s = c.args.stack.now in
    let inside : Context = record { types = []; functions = []; has_table = false; has_memory = false; globals = []; locals = []; labels = labels_of c.args.levels.now c.args.scope.now.result; result = None } in
    record {
      over = on_ok_3 c.apply.result a.ok a.same a.greatest (λ ok same greatest. λ w h c' total peak final front more base st spelled.
          let t = shows_table c.args.bytes.now c.args.count c.args.labels_at w h in
          table_step c' total peak final front more (reverse c.args.levels.now) s c.apply.new.self t.labels t.default st (subst (λ x. SpellsWord front x more) t.is spelled)
          (λ os layers.
          ap (λ (x : PlainType). pass_type x (stack_of s)) (sym (c.table_effect.ensures (inner_context c' os) t.labels t.default t.shown (base_labels c.args.scope.now c' c.args.levels.now os _ base layers)))
          ∙ ok) same greatest);
      moves = on_ok_3 c.apply.result a.ok a.same a.greatest (λ ok same greatest. (
        refl,
        same.floor,
        (let t = shows_table c.args.bytes.now c.args.count c.args.labels_at c.requires.0 c.requires.1 in
            cut_height s c.apply.new.self
            (table_unreached inside t.labels t.default (stack_of s) (stack_of c.apply.new.self) (ap (λ (x : PlainType). pass_type x (stack_of s)) (sym (c.table_effect.ensures inside t.labels t.default t.shown refl)) ∙ ok)) same),
      ));
      err = λ e w h c' total peak final front more base st spelled.
          let t = shows_table c.args.bytes.now c.args.count c.args.labels_at w h in
          table_stop c' total peak final front more (reverse c.args.levels.now) s t.labels t.default st (subst (λ x. SpellsWord front x more) t.is spelled)
          (λ os layers.
          ap (λ (x : PlainType). pass_type x (stack_of s)) (sym (c.table_effect.ensures (inner_context c' os) t.labels t.default t.shown (base_labels c.args.scope.now c' c.args.levels.now os _ base layers)))
          ∙ a.err e);
    }
