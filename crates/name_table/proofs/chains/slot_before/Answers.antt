-- The chain ends, and the slot is still to come until the link is found.
use Rattle.std.proofs.Common.{◌≡◌, [], ◌∷◌, ◌++◌, length, get_or, refl, sym, ap, subst, ◌∙◌, arith, append_assoc}
use Rattle.name_table.specs.inside.Woven.{times, chain, Ends}
use Rattle.name_table.proofs.ChainLemmas.{begins, in_rest, ends_step}
use Rattle.name_table.proofs.chains.slot_before.Goals as goal

pub loop-at-init : goal.loop-at-init
loop-at-init c = record {
  ends = c.requires.ends;
  within = begins c.args.links.now.nexts c.args.first c.args.slot c.requires.there;
  later = c.requires.later;
  there = c.requires.there;
  from = ([], refl);
}

pub loop-at-smaller : goal.loop-at-smaller
loop-at-smaller c =
    let links = c.args.links.now.nexts in
    let step = ends_step links c.loop-at.at c.loop-at.invariant.ends c.loop-at.invariant.within in
    omega (arith, ap length step.1, ap (λ s. length (chain links s)) c.next-at.ensures)

pub loop-at-preserved : goal.loop-at-preserved
loop-at-preserved c =
    let links = c.args.links.now.nexts in
    let at = c.loop-at.at in
    let slot = c.args.slot in
    let next = c.next-at.result in
    let is : next ≡ get_or links at 0 = c.next-at.ensures in
    let old = c.loop-at.invariant in
    let step = ends_step links at old.ends old.within in
    let there : times slot (chain links next) ≡ 1 = ap (λ s. times slot (chain links s)) is ∙ sym (in_rest links at slot old.ends old.within (λ e. old.later (sym e))) ∙ old.there in
    record {
      ends = subst (Ends links) (sym is) step.0;
      within = begins links next slot there;
      later = λ e. c.loop-at-test.true (c.next.ensures ∙ sym is ∙ e);
      there = there;
      from = (
        old.from.0 ++ at ∷ [],
        old.from.1 ∙ ap (λ xs. old.from.0 ++ xs) (step.1 ∙ ap (λ s. at ∷ chain links s) (sym is)) ∙ sym (append_assoc old.from.0 (at ∷ []) (chain links next)),
      );
    }

pub returns-clause-linked : goal.returns-clause-linked
returns-clause-linked c =
    let links = c.args.links.now.nexts in
    let at = c.loop-at.at in
    let old = c.loop-at.invariant in
    let step = ends_step links at old.ends old.within in
    let found : get_or links at 0 ≡ c.args.slot = sym c.next.ensures ∙ c.loop-at-test.false in
    let there : times c.args.slot (chain links (get_or links at 0)) ≡ 1 = sym (in_rest links at c.args.slot old.ends old.within (λ e. old.later (sym e))) ∙ old.there in
    let here : times c.args.slot (chain links c.args.slot) ≡ 1 = ap (λ s. times c.args.slot (chain links s)) (sym found) ∙ there in
    let next = ends_step links c.args.slot (subst (Ends links) found step.0) (begins links c.args.slot c.args.slot here) in (
      old.from.0,
      chain links (get_or links c.args.slot 0),
      old.from.1 ∙ ap (λ xs. old.from.0 ++ xs) (step.1 ∙ ap (λ xs. at ∷ xs) (ap (chain links) found ∙ next.1)),
    )
