use Rattle.std.proofs.Common.{◌≡◌, ◌<◌, ◌≤◌, true≢false, length, map, sym, ap, ◌∙◌, arith}
use Rattle.std.proofs.lemmas.List.{length-map, take_all}
use Rattle.desk.specs.Shown.{shown}
use Rattle.desk.specs.Worth.{worth}
use Rattle.desk.proofs.Worths.{plain_more, worths_more}
use Rattle.desk.proofs.class.Class.of.Goals as goal
use Rattle.desk.proofs.class.Class.of.Goals.{then-all_plain, else-all_plain}

-- one row more is judged
pub loop-row-preserved : goal.loop-row-preserved
loop-row-preserved c =
    let rows = c.args.rows.now in
    let i = c.loop-row.row-index in
    let row = c.row-item.result in
    let lt : i < length rows = omega (arith, c.loop-row-test.true) in
    record {
      worths = worths_more c.args.request rows i row lt c.row-item.is c.loop-row.worths.items _ c.worth.result c.loop-row.invariant.worths c.worth.ensures c.in-Ok-push.ensures.items;
      plain = elim c.if-all_plain.branch [
        | then-all_plain w ↦ λ e. plain_more rows i row lt c.row-item.is (c.loop-row.invariant.plain w.if-all_plain.true) (sym w.is_plain-all_plain.ensures ∙ sym w.all_plain-is ∙ e)
        | else-all_plain w ↦ λ e. absurd (true≢false (sym e ∙ w.all_plain-is ∙ w.if-all_plain.false))
      ];
    }

-- and all are, in the end
pub returns : goal.returns
returns c =
    let rows = c.args.rows.now in
    let end : length rows ≤ c.loop-row.row-index = c.loop-row-test.false in
    record {
      worths = c.loop-row.invariant.worths ∙ ap (λ l. map (worth c.args.request) (map shown l)) (take_all c.loop-row.row-index rows end);
      plain = λ all k d lt. c.loop-row.invariant.plain all k d (omega arith) (let many : length (map shown rows) ≡ length rows = length-map rows shown in omega arith);
    }
