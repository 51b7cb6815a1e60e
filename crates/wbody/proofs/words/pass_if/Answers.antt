use Rattle.std.proofs.Common.{List, reverse, sym, ap, ◌∙◌, subst}
use Rattle.wcode.specs.Grammar.{opens, SpellsWord}
use Rattle.wcode.specs.declared.opcode.Opening.TheVariants as openings
use Rattle.wbody.specs.declared.scope.Level.{Level}
use Rattle.wbody.specs.inside.Standing.{Stands}
use Rattle.wbody.proofs.LevelLists.{reverse-last, on_ok}
use Rattle.wbody.proofs.Steps.{if_step, if_stop}
use Rattle.wbody.proofs.NotedMoves.{if_entered}
use Rattle.wbody.proofs.words.pass_if.Goals as goal

pub returns-then-not-take : goal.returns-then-not-take
returns-then-not-take c scope bytes =
    record {
      over = tt;
      moves = tt;
      err = λ x w shown c' total peak final front more base st spelled.
          if_stop c' total peak final front more (reverse c.args.levels.now.items) c.args.stack.now c.args.block_type st (subst (λ v. SpellsWord front v more) shown spelled) (c.take.ensures.missing c.if-not-take.true);
    }

pub returns : goal.returns
returns c scope bytes =
    let old = c.args.levels.now.items in
    let low = c.take.new.self in
    let n = c.enter.new.stack in
    let taken_is = c.take.ensures.done c.if-not-take.false in
    let same = c.take.ensures.same c.if-not-take.false in
    record {
      over = on_ok c.enter.result c.enter.ensures.ok (λ e w shown c' total peak final front more base st spelled.
          let levels_are = ap (λ (l : List Level). reverse l) e.new_is ∙ reverse-last old e.level in
          let spelled_is = subst (λ v. SpellsWord front v more) shown spelled in
          subst (λ (l : List Level). Stands c' total peak final more l n) (sym levels_are)
          (if_step c' total peak final front more (reverse old) c.args.stack.now low n e.level st (subst (λ t. SpellsWord front (opens openings.If t) more) (sym e.type_is) spelled_is) e.kind_is taken_is same c.take.ensures.greatest e.opens));
      moves = on_ok c.enter.result c.enter.ensures.ok (λ e. if_entered c.args.block_type old c.enter.new.levels.items c.args.stack.now low n taken_is same e);
      err = λ e. absurd (c.enter.ensures.err e);
    }
