use Rattle.std.proofs.Common.{◌≡◌, ◌∙◌, ◌+◌, ◌-◌, ◌==◌, ◌++◌, cond, take, drop, get_or, ap, sym, arith, eq-eqb, ne_eqb}
use Rattle.objects.specs.LeftOut.{up_to_marks}
use Rattle.objects.proofs.Marks.{further}
use Rattle.objects.proofs.left_out.end_of_first.Goals as goal
use Rattle.objects.proofs.left_out.end_of_first.Goals.{then-names-at-eq34, else-names-at-eq34}

pub loop-at-preserved : goal.loop-at-preserved
loop-at-preserved c =
    let names = c.args.names.now in
    let at = c.loop-at.at in
    let left : cond (get_or names at 0 == 34) (c.loop-at.marks - 1) c.loop-at.marks ≡ c.if-names-at-eq34.marks =
    elim c.if-names-at-eq34.branch [
      | then-names-at-eq34 w ↦ rw (eq-eqb (get_or names at 0) 34 w.if-names-at-eq34.true) (sym w.marks-is)
      | else-names-at-eq34 w ↦ rw (ne_eqb (get_or names at 0) 34 w.if-names-at-eq34.false) (sym w.marks-is)
    ] in (
      omega (arith, c.loop-at-test.true),
      c.loop-at.invariant.1 ∙ further c.loop-at.marks at names c.if-marks-gt0.true c.loop-at-test.true
          ∙ ap (λ m. take (at + 1) names ++ up_to_marks m (drop (at + 1) names)) left,
    )
