use Rattle.std.proofs.Common.{◌<◌, length, map, Option, IfSome, refl, sym, subst, ◌∙◌, arith}
use Rattle.std.proofs.lemmas.List.{length-map}
use Rattle.desk.specs.Shown.{shown}
use Rattle.choose.specs.Choice.{most_of}
use Rattle.choose.specs.inside.Alone.{verdicts_alone, judged_alone}
use Rattle.choose.specs.declared.best.Found.{Found}
use Rattle.choose.specs.declared.best.Worth.TheVariants.{Total}
use Rattle.choose.specs.inside.Finding.{StandsFirst, node_at}
use Rattle.choose.proofs.First.{judged_name}
use Rattle.choose.proofs.Deciding.{best_is, none_passes, counts_judged}
use Rattle.choose.proofs.OnePass.{many_alone, none_alone_errs}
use Rattle.choose.proofs.alone.decide_by.Goals as goal

pub returns-in-Some : goal.returns-in-Some
returns-in-Some c =
    let pod = c.args.pod.now in
    let rows = map shown c.args.rows.now in
    let nodes = judged_alone pod rows in
    let there : c.in-Some.best.at < length c.args.rows.now = subst (λ (o : Option Found). IfSome o (λ found. found.at < length c.args.rows.now)) c.in-Some.is c.requires.there in
    let first = subst (StandsFirst (Total (most_of nodes)) nodes nodes) c.in-Some.is c.requires.first in
    let below : c.in-Some.best.at < length rows = omega (arith, there, length-map c.args.rows.now shown) in (
      none_alone_errs pod rows,
      best_is nodes (node_at nodes c.in-Some.best.at) c.name_of.result (most_of nodes) c.in-Some.best.worth refl
          (judged_name rows (verdicts_alone pod rows) c.in-Some.best.at (many_alone pod rows) below ∙ sym c.name_of.ensures)
          first.1,
    )

pub returns-in-None : goal.returns-in-None
returns-in-None c =
    let pod = c.args.pod.now in
    let rows = map shown c.args.rows.now in
    let nodes = judged_alone pod rows in (
      none_alone_errs pod rows,
      none_passes nodes (most_of nodes) refl (subst (StandsFirst (Total (most_of nodes)) nodes nodes) c.in-None.is c.requires.first),
      c.counts_alone.ensures ∙ counts_judged rows (verdicts_alone pod rows) (many_alone pod rows),
    )
