use Rattle.std.proofs.Common.{List, reverse, refl, subst}
use Rattle.wcode.specs.Grammar.{SpellsWord}
use Rattle.wbody.specs.declared.scope.Level.{Level}
use Rattle.wbody.specs.inside.Standing.{Stands}
use Rattle.wbody.proofs.LevelLists.{reverse-last, on_ok_4}
use Rattle.wbody.proofs.Steps.{end_step, end_stop, missing_stop}
use Rattle.wbody.proofs.NotedMoves.{closed_height}
use Rattle.wbody.proofs.words.pass_end.Goals as goal

pub returns-then-lacks_else : goal.returns-then-lacks_else
returns-then-lacks_else c scope bytes levels =
    let v = c.args.level in
    let lacks = c.if-lacks_else.ensures in
    record {
      over = tt;
      moves = tt;
      err = λ x w shown c' total peak final front more base st spelled.
          missing_stop c' total peak final front more v (reverse levels) c.args.stack.now lacks.0 (subst (λ (l : List Level). Stands c' total peak final front l c.args.stack.now) (reverse-last levels v) st)
          (subst (λ x. SpellsWord front x more) shown spelled) lacks.1 lacks.2;
    }

pub returns : goal.returns
returns c scope bytes levels =
    let a = c.close.ensures in
    let v = c.args.level in
    record {
      over = on_ok_4 c.close.result a.ok a.floor a.below a.greatest (λ ok floor below greatest. λ w shown c' total peak final front more base st spelled.
          end_step c' total peak final front more v (reverse levels) c.args.stack.now c.close.new.self (subst (λ (l : List Level). Stands c' total peak final front l c.args.stack.now) (reverse-last levels v) st)
          (subst (λ x. SpellsWord front x more) shown spelled) c.if-lacks_else.ensures ok floor below greatest);
      moves = on_ok_4 c.close.result a.ok a.floor a.below a.greatest (λ ok floor below greatest.
          (v, refl, floor, closed_height c.args.stack.now c.close.new.self v.block_type v.floor v.reached c.requires ok floor));
      err = λ e w shown c' total peak final front more base st spelled.
          end_stop c' total peak final front more v (reverse levels) c.args.stack.now (subst (λ (l : List Level). Stands c' total peak final front l c.args.stack.now) (reverse-last levels v) st)
          (subst (λ x. SpellsWord front x more) shown spelled) (a.err e);
    }
