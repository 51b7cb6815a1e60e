use Rattle.std.proofs.Common.{◌∙◌, Ok, Err, OnErr, refl, subst, ap, arith}
use Rattle.std.specs.Io.KnownBytes.{prepend_known}
use Rattle.std.proofs.lemmas.Result.{on_err_weaker}
use Rattle.choose.specs.Kits.{rules_of}
use Rattle.live_line.specs.Scope.{site_of}
use Rattle.live.specs.Live.{manner}
use Rattle.live.proofs.Going.{going_answered, going_partly, going_start}
use Rattle.live.proofs.Lived.{at_end, front_flushed, front_now, not_read, on_ok_both, unread, unwritten, wanting_room, whole_now}
use Rattle.live.proofs.live_run.answer_lines.Goals as goal

pub lines-init : goal.lines-init
lines-init g c = record {
  going = going_start _ _ _ _ _ _ c.requires.none c.requires.nothing c.requires.first;
  kits = refl;
  reads = refl;
  writes = refl;
}

-- ---- what waited couldn't be written

pub returns-in-Err : goal.returns-in-Err
returns-in-Err g c =
    let at = c.lines.invariant in
    let failed = c.in-Err.ensures.failed in
    unwritten _ _ _ _ _ refl failed.0 at.reads (omega (arith, failed.1, at.writes))
    (front_flushed _ _ _ _ _ _ _ _ c.in-Err.ensures.front at.going)

-- ---- a line couldn't be read

pub returns-in-Err-next_front : goal.returns-in-Err-next_front
returns-in-Err-next_front g c =
    let at = c.lines.invariant in
    let m = manner (site_of c.args.site.now) (rules_of g.D.Kit.Rules.answers (g.D.Decider.kits c.args.decider.now)) c.args.named.now in
    let input = g.R.Source.remaining c.args.source.now in
    let rest = prepend_known c.lines.reader (g.R.Source.remaining c.lines.source) in
    let so_far = going_partly m input rest (g.W.Sink.written c.args.out.now) (g.W.Sink.written c.lines.out) (g.W.Sink.written c.flush_if.new.out) c.lines.waits.items c.flush_if.new.waits.items c.lines.live c.in-Ok.ensures.written at.going in
    unread _ _ _ _ _ _ refl refl c.in-Err-next_front.ensures.faults
    (λ what. omega (arith, c.in-Err-next_front.ensures.failed (ap Err what), at.reads))
    (λ what. c.in-Err-next_front.ensures.kept (not_read what) ∙ at.reads)
    (c.in-Ok.ensures.count ∙ at.writes)
    (front_now m input rest (g.W.Sink.written c.args.out.now) (g.W.Sink.written c.flush_if.new.out) c.flush_if.new.waits.items c.lines.live so_far)

-- ---- the input was read to its end

pub returns-in-Ok-false : goal.returns-in-Ok-false
returns-in-Ok-false g c =
    let at = c.lines.invariant in
    let m = manner (site_of c.args.site.now) (rules_of g.D.Kit.Rules.answers (g.D.Decider.kits c.args.decider.now)) c.args.named.now in
    let input = g.R.Source.remaining c.args.source.now in
    let rest = prepend_known c.lines.reader (g.R.Source.remaining c.lines.source) in
    let so_far = going_partly m input rest (g.W.Sink.written c.args.out.now) (g.W.Sink.written c.lines.out) (g.W.Sink.written c.flush_if.new.out) c.lines.waits.items c.flush_if.new.waits.items c.lines.live c.in-Ok.ensures.written at.going in
    at_end _ _ _ c.flush_if-in-Ok-false.result _
    (on_ok_both c.flush_if-in-Ok-false.result (λ due wrote. whole_now _ _ _ _ _ _ _ _ _ (c.in-Ok-false.ensures.ended (ap Ok c.in-Ok-false.field-0-test)) (due refl)
    (going_partly _ _ _ _ _ _ _ _ _ wrote so_far)) c.flush_if-in-Ok-false.ensures.due c.flush_if-in-Ok-false.ensures.written)
    (on_err_weaker c.flush_if-in-Ok-false.result (λ front. front_flushed _ _ _ _ _ _ _ _ front so_far) c.flush_if-in-Ok-false.ensures.front)
    c.flush_if-in-Ok-false.ensures.count c.flush_if-in-Ok-false.ensures.failed (c.in-Ok.ensures.count ∙ at.writes)
    (c.in-Ok-false.ensures.kept (λ eq. subst (λ r. OnErr r ⊥) eq tt) ∙ at.reads)

-- ---- a line can't be answered

pub returns-in_default : goal.returns-in_default
returns-in_default g c =
    let at = c.lines.invariant in
    let m = manner (site_of c.args.site.now) (rules_of g.D.Kit.Rules.answers (g.D.Decider.kits c.args.decider.now)) c.args.named.now in
    let input = g.R.Source.remaining c.args.source.now in
    let rest = prepend_known c.lines.reader (g.R.Source.remaining c.lines.source) in
    let so_far = going_partly m input rest (g.W.Sink.written c.args.out.now) (g.W.Sink.written c.lines.out) (g.W.Sink.written c.flush_if.new.out) c.lines.waits.items c.flush_if.new.waits.items c.lines.live c.in-Ok.ensures.written at.going in
    wanting_room _ _ _ _ _ refl refl
    (c.in-Ok-true.ensures.kept (λ eq. subst (λ r. OnErr r ⊥) eq tt) ∙ at.reads) (c.in-Ok.ensures.count ∙ at.writes)
    (front_now m input rest (g.W.Sink.written c.args.out.now) (g.W.Sink.written c.flush_if.new.out) c.flush_if.new.waits.items c.lines.live so_far)

-- ---- it is answered

pub lines-preserved : goal.lines-preserved
lines-preserved g c =
    let at = c.lines.invariant in
    let m = manner (site_of c.args.site.now) (rules_of g.D.Kit.Rules.answers (g.D.Decider.kits c.args.decider.now)) c.args.named.now in
    let input = g.R.Source.remaining c.args.source.now in
    let rest = prepend_known c.lines.reader (g.R.Source.remaining c.lines.source) in
    let so_far = going_partly m input rest (g.W.Sink.written c.args.out.now) (g.W.Sink.written c.lines.out) (g.W.Sink.written c.flush_if.new.out) c.lines.waits.items c.flush_if.new.waits.items c.lines.live c.in-Ok.ensures.written at.going in
    let took = c.in-Ok-true.ensures.found (ap Ok c.in-Ok-true.field-0-test) in
    let told = rw at.kits at c.in-Ok-answer_line.ensures.answered in
    let answered = rw c.deref-in-lines.ensures.value at told in record {
      going = going_answered m _ _ _ _ _ _ _ _ _ _ took answered so_far;
      kits = c.in-Ok-answer_line.ensures.kits ∙ at.kits;
      reads = c.in-Ok-true.ensures.kept (λ eq. subst (λ r. OnErr r ⊥) eq tt) ∙ at.reads;
      writes = c.in-Ok.ensures.count ∙ at.writes;
    }

-- there is less to read
pub lines-smaller : goal.lines-smaller
lines-smaller g c = c.in-Ok-true.ensures.less (ap Ok c.in-Ok-true.field-0-test)
