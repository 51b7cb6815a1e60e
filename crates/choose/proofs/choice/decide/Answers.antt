use Rattle.std.proofs.Common.{◌≡◌, ◌<◌, length, map, sym, ◌∙◌, arith}
use Rattle.std.proofs.lemmas.List.{length-map}
use Rattle.desk.specs.Shown.{shown}
use Rattle.choose.specs.Choice.{judged, most_of}
use Rattle.choose.specs.inside.Finding.{node_at}
use Rattle.choose.proofs.First.{judged_name}
use Rattle.choose.proofs.Deciding.{all_bounded, most_judged, none_errs, best_is, none_passes, counts_judged}
use Rattle.choose.proofs.choice.decide.Goals as goal

pub first_of-requires-2-clause-bounded : goal.first_of-requires-2-clause-bounded
first_of-requires-2-clause-bounded c = all_bounded c.args.verdicts.now c.most_taints-most.result c.most_taints-most.ensures

pub returns-in-Some-first_of : goal.returns-in-Some-first_of
returns-in-Some-first_of c =
    let same : length c.args.verdicts.now ≡ length (map shown c.args.rows.now) = c.requires ∙ sym (length-map c.args.rows.now shown) in
    let most : c.most_taints-most.result ≡ most_of (judged (map shown c.args.rows.now) c.args.verdicts.now) = c.most_taints-most.ensures ∙ most_judged (map shown c.args.rows.now) c.args.verdicts.now same in
    let there : c.in-Some-first_of.best.at < length c.args.rows.now = c.in-Some-first_of.ensures.there in
    let below : c.in-Some-first_of.best.at < length (map shown c.args.rows.now) = omega (arith, there, length-map c.args.rows.now shown) in (
      none_errs (judged (map shown c.args.rows.now) c.args.verdicts.now) c.in_default.ensures.first,
      best_is (judged (map shown c.args.rows.now) c.args.verdicts.now) (node_at (judged (map shown c.args.rows.now) c.args.verdicts.now) c.in-Some-first_of.best.at) c.name_of.result c.most_taints-most.result c.in-Some-first_of.best.worth most
          (judged_name (map shown c.args.rows.now) c.args.verdicts.now c.in-Some-first_of.best.at same below ∙ sym c.name_of.ensures)
          c.in-Some-first_of.ensures.first.1,
    )

pub returns-in-None : goal.returns-in-None
returns-in-None c =
    let same : length c.args.verdicts.now ≡ length (map shown c.args.rows.now) = c.requires ∙ sym (length-map c.args.rows.now shown) in
    let most : c.most_taints-most.result ≡ most_of (judged (map shown c.args.rows.now) c.args.verdicts.now) = c.most_taints-most.ensures ∙ most_judged (map shown c.args.rows.now) c.args.verdicts.now same in (
      none_errs (judged (map shown c.args.rows.now) c.args.verdicts.now) c.in_default.ensures.first,
      none_passes (judged (map shown c.args.rows.now) c.args.verdicts.now) c.most_taints-most.result most c.in-None.ensures.first,
      c.counts.ensures ∙ counts_judged (map shown c.args.rows.now) c.args.verdicts.now same,
    )
