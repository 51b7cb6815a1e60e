use Rattle.std.proofs.Common.{List, reverse, refl, sym, ap, ◌∙◌, subst}
use Rattle.wcode.specs.Grammar.{SpellsWord}
use Rattle.wbody.specs.declared.stop.Stop.TheVariants as stops
use Rattle.wbody.specs.declared.scope.Level.{Level}
use Rattle.wbody.specs.declared.scope.Opened.TheVariants as opened
use Rattle.wbody.specs.inside.Standing.{Stands}
use Rattle.wbody.proofs.LevelLists.{reverse-last, empty_of, not_err}
use Rattle.wbody.proofs.Steps.{else_step, else_stop, no_else}
use Rattle.wbody.proofs.words.pass_else.Goals as goal

pub returns-in_default : goal.returns-in_default
returns-in_default c scope bytes =
    let none = empty_of c.args.levels.now.items (sym c.in_default.ensures.value) in
    record {
      over = tt;
      moves = tt;
      err = λ x w shown c' total peak final front more base st spelled.
          absurd (no_else c' total peak final front more c.args.stack.now (subst (λ (l : List Level). Stands c' total peak final front (reverse l) c.args.stack.now) none st) (subst (λ v. SpellsWord front v more) shown spelled));
    }

pub returns-then-not-has_results : goal.returns-then-not-has_results
returns-then-not-has_results c scope bytes =
    let v = c.in-Some.level in
    let rest = c.pop.new.self.items in
    let is = ap (λ (l : List Level). reverse l) c.in-Some.ensures.items ∙ reverse-last rest v in
    record {
      over = tt;
      moves = tt;
      err = λ x w shown c' total peak final front more base st spelled.
          else_stop c' total peak final front more v (reverse rest) c.args.stack.now (subst (λ (l : List Level). Stands c' total peak final front l c.args.stack.now) is st) (subst (λ v. SpellsWord front v more) shown spelled)
          (sym c.has_results.ensures ∙ c.if-not-has_results.true);
    }

pub returns-in-Ok : goal.returns-in-Ok
returns-in-Ok c scope bytes =
    let v = c.in-Some.level in
    let v' : Level = record { kind = opened.Second; block_type = v.block_type; floor = v.floor; reached = v.reached } in
    let rest = c.pop.new.self.items in
    let s = c.args.stack.now in
    let n = c.restart.new.self in
    let r = c.restart.ensures in
    record {
      over = λ w shown c' total peak final front more base st spelled.
          let is = ap (λ (l : List Level). reverse l) c.in-Some.ensures.items ∙ reverse-last rest v in
          let new_is = ap (λ (l : List Level). reverse l) c.in-Ok.ensures.ok ∙ reverse-last rest v' in
          subst (λ (l : List Level). Stands c' total peak final more l n) (sym new_is)
          ((else_step c' total peak final front more v v' (reverse rest) s n (subst (λ (l : List Level). Stands c' total peak final front l s) is st) (subst (λ v. SpellsWord front v more) shown spelled) refl refl refl refl
          (sym c.has_results.ensures ∙ c.if-not-has_results.false) r.stack r.same r.len r.greatest).1);
      moves = (v, rest, c.in-Some.ensures.items, c.in-Ok.ensures.ok, r.same.floor, n.items.ok.0 ∙ r.len ∙ r.same.floor);
      err = λ e. absurd (not_err tt stops.Untyped e);
    }
