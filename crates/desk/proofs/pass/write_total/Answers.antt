use Rattle.std.proofs.Common.{◌<◌, get_or, length, refl, sym, ap, ◌∙◌, arith}
use Rattle.std.proofs.lemmas.List.{get_or_default, map-set}
use Rattle.desk.specs.declared.snapshot.Row.{Row}
use Rattle.desk.specs.inside.Board.{with_total}
use Rattle.desk.specs.inside.LastLook.{uses_of}
use Rattle.desk.proofs.LastLook.{node_stays}
use Rattle.desk.proofs.Worths.{kept_written}
use Rattle.desk.proofs.pass.write_total.Goals as goal

-- the node stays
pub returns-then-at-rows-clause-nodes : goal.returns-then-at-rows-clause-nodes
returns-then-at-rows-clause-nodes c =
    let rows = c.args.rows.now in
    let at = c.in-Some.field-0.at in
    let lt : at < length rows = omega (arith, c.if-at-rows.true) in
    node_stays rows at (get_or rows at c.index-rows-at.result) _ lt (get_or_default rows at c.index-rows-at.result _ lt) refl

-- and so much is used of it
pub returns-then-at-rows-clause-used : goal.returns-then-at-rows-clause-used
returns-then-at-rows-clause-used c =
    map-set (λ (r : Row). r.used) c.args.rows.now c.in-Some.field-0.at _
    ∙ ap (λ o. with_total o (uses_of c.args.rows.now)) (sym c.in-Some.is)

-- and what is kept is what the rows are worth with that
pub returns-then-at-rows-clause-kept : goal.returns-then-at-rows-clause-kept
returns-then-at-rows-clause-kept c =
    let rows = c.args.rows.now in
    let at = c.in-Some.field-0.at in
    let lt : at < length rows = omega (arith, c.if-at-rows.true) in
    kept_written rows at (get_or rows at c.index-rows-at.result) _ c.index-rows-at-then-at-rows.result c.args.classes.now c.renew_all.new.classes lt (get_or_default rows at c.index-rows-at.result _ lt) refl c.renew_all.ensures
