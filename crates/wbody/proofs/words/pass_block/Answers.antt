use Rattle.std.proofs.Common.{List, reverse, sym, ap, ◌∙◌, subst}
use Rattle.wcode.specs.Grammar.{opens, SpellsWord}
use Rattle.wcode.specs.declared.opcode.Opening.TheVariants as openings
use Rattle.wbody.specs.declared.scope.Level.{Level}
use Rattle.wbody.specs.inside.Standing.{Stands}
use Rattle.wbody.proofs.LevelLists.{reverse-last, on_ok}
use Rattle.wbody.proofs.Steps.{block_step}
use Rattle.wbody.specs.declared.scope.Opened.TheVariants as opened
use Rattle.wbody.proofs.NotedMoves.{entered}
use Rattle.wbody.proofs.words.pass_block.Goals as goal

pub returns : goal.returns
returns c scope bytes =
    let old = c.args.levels.now.items in
    let n = c.enter.new.stack in
    record {
      over = on_ok c.enter.result c.enter.ensures.ok (λ e w shown c' total peak final front more base st spelled.
          let levels_are = ap (λ (l : List Level). reverse l) e.new_is ∙ reverse-last old e.level in
          let spelled_is = subst (λ v. SpellsWord front v more) shown spelled in
          subst (λ (l : List Level). Stands c' total peak final more l n) (sym levels_are)
          (block_step c' total peak final front more (reverse old) c.args.stack.now n e.level st (subst (λ t. SpellsWord front (opens openings.Block t) more) (sym e.type_is) spelled_is) e.kind_is e.opens));
      moves = on_ok c.enter.result c.enter.ensures.ok (λ e. entered opened.Block c.args.block_type old c.enter.new.levels.items c.args.stack.now n e);
      err = λ e. absurd (c.enter.ensures.err e);
    }
