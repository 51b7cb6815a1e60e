use Rattle.std.proofs.Common.{◌+◌, Ok, Err, OnErr, length, refl, subst, ap, ◌∙◌, arith}
use Rattle.std.proofs.lemmas.Result.{err_from_is_err_and, on_err_weaker}
use Rattle.streams.specs.declared.fault.RunFault.TheVariants.{NoMemory}
use Rattle.fault_line.specs.declared.fault.Fault.TheVariants.{Run}
use Rattle.translator.specs.declared.waiting.Stopped.TheVariants.{By}
use Rattle.translator.proofs.Translating.{going_answered, going_flushed, going_partly, going_start}
use Rattle.translator.proofs.Translated.{at_end, at_line, front_flushed, front_now, front_of_nothing, line_now, not_read, on_ok_both, unread, unwritten, wanting_room, whole_now}
use Rattle.translator.proofs.translate_run.translate_lines.Goals as goal
use Rattle.translator.proofs.translate_run.translate_lines.Goals.{in-Ok-flush, in-Err-flush}

pub lines-init : goal.lines-init
lines-init g c = record {
  going = going_start _ _ _ _ _ _ _ c.in-Ok.ensures c.new-waits.ensures.answers c.new-waits.ensures.left_out;
  reads = refl;
  writes = refl;
  tells = refl;
  count = omega (arith, ap length c.in-Ok.ensures);
  least = omega arith;
}

-- ---- memory was wanting before a line was read

pub returns-in_default : goal.returns-in_default
returns-in_default g c = wanting_room _ _ _ _ _ (By (Run NoMemory)) refl refl (refl, refl, refl) (front_of_nothing _ _ _ _)

pub returns-in_default-with_capacity : goal.returns-in_default-with_capacity
returns-in_default-with_capacity g c = wanting_room _ _ _ _ _ (By (Run NoMemory)) refl refl (refl, refl, refl) (front_of_nothing _ _ _ _)

-- ---- what waited couldn't be written

pub returns-in_err-flush_if : goal.returns-in_err-flush_if
returns-in_err-flush_if g c =
    let p = err_from_is_err_and c.from_residual.result c.from_residual.ensures.1 in
    let at = c.lines.invariant in
    unwritten _ _ _ _ _ _ p.1 _ _ (rw p.2 c.in_err-flush_if.ensures.stopped) at.writes at.tells at.reads
    (front_flushed _ _ _ _ _ _ _ _ _ _ _ _ _ c.in_err-flush_if.ensures.fronts.0 c.in_err-flush_if.ensures.fronts.1 at.going)

-- ---- a line couldn't be read

pub returns-in-Err : goal.returns-in-Err
returns-in-Err g c =
    let at = c.lines.invariant in
    let so_far = going_partly _ _ _ _ _ _ _ _ _ _ _ _ _ _ _ c.in_ok-flush_if.ensures.written c.in_ok-flush_if.ensures.told at.going in
    unread _ _ _ _ _ _ c.in-Err.fault refl refl c.in-Err.ensures.faults
    (λ what. omega (arith, c.in-Err.ensures.failed (ap Err what), at.reads))
    (λ what. c.in-Err.ensures.kept (not_read what) ∙ at.reads)
    (c.in_ok-flush_if.ensures.counts.0 ∙ at.writes) (c.in_ok-flush_if.ensures.counts.1 ∙ at.tells)
    (front_now _ _ _ _ _ _ _ _ _ _ _ so_far)

-- ---- the input was read to its end

pub returns-in-Ok-false : goal.returns-in-Ok-false
returns-in-Ok-false g c =
    let at = c.lines.invariant in
    let so_far = going_partly _ _ _ _ _ _ _ _ _ _ _ _ _ _ _ c.in_ok-flush_if.ensures.written c.in_ok-flush_if.ensures.told at.going in
    at_end _ _ _ _ c.flush.result _ _
    (on_ok_both c.flush.result (λ wrote said. whole_now _ _ _ _ _ _ _ _ _ _ _ (c.in-Ok-false.ensures.ended (ap Ok c.in-Ok-false.field-0-test))
    (going_flushed _ _ _ _ _ _ _ _ _ _ _ _ _ wrote said so_far)) c.flush.ensures.written c.flush.ensures.told)
    (on_err_weaker c.flush.result (λ fronts. front_flushed _ _ _ _ _ _ _ _ _ _ _ _ _ fronts.0 fronts.1 so_far) c.flush.ensures.fronts)
    c.flush.ensures.counts c.flush.ensures.stopped (c.in_ok-flush_if.ensures.counts.0 ∙ at.writes) (c.in_ok-flush_if.ensures.counts.1 ∙ at.tells)
    (c.in-Ok-false.ensures.kept (λ eq. subst (λ r. OnErr r ⊥) eq tt) ∙ at.reads)

-- ---- a line can't be answered

pub returns-in-Err-answer_line : goal.returns-in-Err-answer_line
returns-in-Err-answer_line g c =
    let at = c.lines.invariant in
    let so_far = going_partly _ _ _ _ _ _ _ _ _ _ _ _ _ _ _ c.in_ok-flush_if.ensures.written c.in_ok-flush_if.ensures.told at.going in
    let kept = c.in-Err-answer_line.ensures.kept in
    let writes = c.in_ok-flush_if.ensures.counts.0 ∙ at.writes in
    let tells = c.in_ok-flush_if.ensures.counts.1 ∙ at.tells in
    let reads = c.in-Ok-true.ensures.kept (λ eq. subst (λ r. OnErr r ⊥) eq tt) ∙ at.reads in
    elim c.match-flush.branch [
      | in-Ok-flush w ↦
          let wrote = rw kept.0 at w.in-Ok-flush.ensures.written in
          let said = rw kept.1 at w.in-Ok-flush.ensures.told in
          let took = c.in-Ok-true.ensures.found (ap Ok c.in-Ok-true.field-0-test) in
          rw w.result-is
          (at_line _ _ _ _ c.in-Err-answer_line.fault (c.lines.number + 1) _ _ (rw c.deref-in-lines.ensures.value at c.in-Err-answer_line.ensures.ends) (
            reads,
            w.in-Ok-flush.ensures.counts.0 ∙ writes,
            w.in-Ok-flush.ensures.counts.1 ∙ tells,
          )
          (line_now _ _ _ _ _ _ _ _ _ _ _ took (going_flushed _ _ _ _ _ _ _ _ _ _ _ _ _ wrote said so_far)))
      | in-Err-flush w ↦
          let wrote = rw kept.0 at w.in-Err-flush.ensures.fronts.0 in
          let said = rw kept.1 at w.in-Err-flush.ensures.fronts.1 in
          unwritten _ _ _ _ _ _ w.result-is _ _ w.in-Err-flush.ensures.stopped writes tells reads
          (front_flushed _ _ _ _ _ _ _ _ _ _ _ _ _ wrote said so_far)
    ]

-- ---- it is answered

pub lines-preserved : goal.lines-preserved
lines-preserved g c =
    let at = c.lines.invariant in
    let so_far = going_partly _ _ _ _ _ _ _ _ _ _ _ _ _ _ _ c.in_ok-flush_if.ensures.written c.in_ok-flush_if.ensures.told at.going in
    let took = c.in-Ok-true.ensures.found (ap Ok c.in-Ok-true.field-0-test) in
    let answered = rw c.deref-in-lines.ensures.value at c.in_default-answer_line.ensures.answered in record {
      going = going_answered _ _ _ _ _ _ _ _ _ _ _ _ _ _ took answered so_far;
      reads = c.in-Ok-true.ensures.kept (λ eq. subst (λ r. OnErr r ⊥) eq tt) ∙ at.reads;
      writes = c.in_ok-flush_if.ensures.counts.0 ∙ at.writes;
      tells = c.in_ok-flush_if.ensures.counts.1 ∙ at.tells;
      count = omega (arith, at.count, c.in-Ok-true.ensures.less (ap Ok c.in-Ok-true.field-0-test));
      least = omega (arith, at.least, c.answer_line.ensures.next);
    }
