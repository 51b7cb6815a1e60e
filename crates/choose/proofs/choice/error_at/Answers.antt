use Rattle.std.proofs.Common.{◌≡◌, ◌<◌, true, length, map, get_or, sym, subst, ◌∙◌, arith}
use Rattle.std.proofs.lemmas.List.{length-map}
use Rattle.desk.specs.Shown.{shown}
use Rattle.choose.specs.declared.decision.Reason.TheVariants.{Marked}
use Rattle.choose.specs.declared.decision.Verdict.TheVariants.{Rejected, Errs}
use Rattle.choose.specs.Choice.{judged, errs, LeastErring}
use Rattle.choose.specs.inside.Finding.{node_at}
use Rattle.choose.proofs.First.{judged_name, judged_verdict}
use Rattle.choose.proofs.Deciding.{least_erring, node_is, is_erring}
use Rattle.choose.proofs.choice.error_at.Goals as goal

pub unreachable-requires : goal.unreachable-requires
unreachable-requires c =
    let same : length c.args.verdicts.now ≡ length (map shown c.args.rows.now) = c.requires.all ∙ sym (length-map c.args.rows.now shown) in
    let below : c.args.found.at < length (map shown c.args.rows.now) = omega (arith, c.requires.there, length-map c.args.rows.now shown) in
    let least = least_erring _ _ _ c.requires.found.1 in
    let told : errs (get_or c.args.verdicts.now c.args.found.at (Rejected Marked)) ≡ true =
    subst (λ v. errs v ≡ true) (judged_verdict (map shown c.args.rows.now) c.args.verdicts.now c.args.found.at (Rejected Marked) same below) least.says_nothing in
    let is = is_erring _ told in
    c.in_default.not-Errs is.0 is.1 is.2

pub returns : goal.returns
returns c =
    let same : length c.args.verdicts.now ≡ length (map shown c.args.rows.now) = c.requires.all ∙ sym (length-map c.args.rows.now shown) in
    let below : c.args.found.at < length (map shown c.args.rows.now) = omega (arith, c.requires.there, length-map c.args.rows.now shown) in
    subst (λ node. LeastErring (judged (map shown c.args.rows.now) c.args.verdicts.now) node)
    (node_is (node_at (judged (map shown c.args.rows.now) c.args.verdicts.now) c.args.found.at) c.name_of-name.result (Errs c.in-Errs.place c.in-Errs.why)
    (judged_name (map shown c.args.rows.now) c.args.verdicts.now c.args.found.at same below ∙ sym c.name_of-name.ensures)
    (judged_verdict (map shown c.args.rows.now) c.args.verdicts.now c.args.found.at (Rejected Marked) same below ∙ c.in-Errs.is))
    (least_erring _ _ _ c.requires.found.1)
