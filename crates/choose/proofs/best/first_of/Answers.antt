use Rattle.std.proofs.Common.{◌≡◌, ◌+◌, ◌<◌, length, map, take, Some, sym, ap, subst, ◌∙◌, arith, refl}
use Rattle.std.proofs.lemmas.List.{length-map}
use Rattle.desk.specs.Shown.{shown}
use Rattle.choose.specs.declared.decision.Reason.TheVariants.{Marked}
use Rattle.choose.specs.declared.decision.Verdict.TheVariants.{Rejected}
use Rattle.choose.specs.Choice.{judged}
use Rattle.choose.specs.inside.Finding.{worth_of, StandsFirst}
use Rattle.choose.proofs.First.{judged_length, judged_verdict, found_is_there, stands_over_none, stands_over_some, stands_over_all}
use Rattle.choose.proofs.best.first_of.Goals as goal
use Rattle.choose.proofs.best.first_of.Goals.{in-Some, in_default}

pub first_of_two-requires-clause-first : goal.first_of_two-requires-clause-first
first_of_two-requires-clause-first c =
    let same : length c.args.verdicts.now ≡ length (map shown c.args.rows.now) = c.requires.all ∙ sym (length-map c.args.rows.now shown) in
    found_is_there c.args.by _ _ c.loop-at.first _ (judged_length (map shown c.args.rows.now) c.args.verdicts.now same ∙ length-map c.args.rows.now shown) c.loop-at.invariant.first

pub loop-at-preserved : goal.loop-at-preserved
loop-at-preserved c =
    let same : length c.args.verdicts.now ≡ length (map shown c.args.rows.now) = c.requires.all ∙ sym (length-map c.args.rows.now shown) in
    let below : c.loop-at.at < length (map shown c.args.rows.now) = omega (arith, same) in
    let all : length (judged (map shown c.args.rows.now) c.args.verdicts.now) ≡ length (map shown c.args.rows.now) = judged_length (map shown c.args.rows.now) c.args.verdicts.now same in
    let read = ap (worth_of c.args.by) (judged_verdict (map shown c.args.rows.now) c.args.verdicts.now c.loop-at.at (Rejected Marked) same below) in
    record {
      last = refl;
      first = elim c.match-of.branch [
        | in-Some w ↦
            subst (λ first. StandsFirst c.args.by (judged (map shown c.args.rows.now) c.args.verdicts.now) (take (c.loop-at.at + 1) (judged (map shown c.args.rows.now) c.args.verdicts.now)) first)
            (sym (w.first-is ∙ ap (λ found. Some found) w.first_of_two.ensures))
            (stands_over_some c.args.by (map shown c.args.rows.now) c.args.verdicts.now c.loop-at.at w.in-Some.worth c.loop-at.first same below c.loop-at.invariant.first (read ∙ (sym c.of.ensures ∙ w.in-Some.is)))
        | in_default w ↦
            subst (λ first. StandsFirst c.args.by (judged (map shown c.args.rows.now) c.args.verdicts.now) (take (c.loop-at.at + 1) (judged (map shown c.args.rows.now) c.args.verdicts.now)) first)
            (sym w.first-is)
            (stands_over_none c.args.by (judged (map shown c.args.rows.now) c.args.verdicts.now) c.loop-at.at c.loop-at.first (omega (arith, all, below)) c.loop-at.invariant.first (read ∙ (sym c.of.ensures ∙ w.in_default.is)))
      ];
    }

pub returns-clause-first : goal.returns-clause-first
returns-clause-first c =
    let same : length c.args.verdicts.now ≡ length (map shown c.args.rows.now) = c.requires.all ∙ sym (length-map c.args.rows.now shown) in
    let all : length (judged (map shown c.args.rows.now) c.args.verdicts.now) ≡ length (map shown c.args.rows.now) = judged_length (map shown c.args.rows.now) c.args.verdicts.now same in
    stands_over_all c.args.by _ c.loop-at.at c.loop-at.first (omega (arith, all, same)) c.loop-at.invariant.first

pub returns-clause-there : goal.returns-clause-there
returns-clause-there c =
    let same : length c.args.verdicts.now ≡ length (map shown c.args.rows.now) = c.requires.all ∙ sym (length-map c.args.rows.now shown) in
    found_is_there c.args.by _ _ c.loop-at.first _ (judged_length (map shown c.args.rows.now) c.args.verdicts.now same ∙ length-map c.args.rows.now shown) c.loop-at.invariant.first
