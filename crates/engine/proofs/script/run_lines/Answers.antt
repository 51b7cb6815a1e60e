use Rattle.std.proofs.Common.{◌≡◌, ◌≢◌, ℕ, ◌+◌, ◌^◌, ◌<◌, ◌≤◌, Ok, Err, Result, List, [], length, refl, ap, sym, subst, ◌∙◌, arith}
use Rattle.std.proofs.lemmas.Result.{err_from_is_err_and, on_ok_weaker, on_err_weaker}
use Rattle.streams.specs.declared.fault.RunFault.{RunFault}
use Rattle.streams.specs.declared.fault.RunFault.TheVariants.{NoMemory, Read}
use Rattle.streams.specs.Device.{AppendsFront}
use Rattle.streams.specs.Script.{asked_by}
use Rattle.streams.specs.Script.{taken}
use Rattle.engine.proofs.Ends.{no_memory, write_failed, unread, at_end, at_line, placed-line, placed-no_memory, placed-by_write, placed-unread, placed-write}
use Rattle.engine.proofs.Progress.{nothing-written, IsRunning-begin, IsRunning-partly, IsRunning-flushed, IsRunning-answered, front-now, front-flushed, fault-flushed, end-flushed}
use Rattle.engine.proofs.script.run_lines.Goals as goal

-- ---- what would be searched for at each end

-- a call that answered has not failed
ok-not_err : {T E : Type 0} (x : T) (e : E) → Ok x ≢ Err e
ok-not_err x e eq = cc

-- want of memory is no failed read
no_memory-not_read : {T : Type 0} (result : Result T RunFault) (e : RunFault) → result ≡ Err e → e ≡ NoMemory → result ≢ Err Read
no_memory-not_read result e is what eq = cc

-- a new reader has no bytes
none_read : (left : ℕ) (reader : List ℕ) → reader ≡ [] → 0 + (left + length reader) ≤ left
none_read left reader none = omega (arith, ap length none)

-- a line that was counted had a byte
one_counted : (number left now most : ℕ) → number + left ≤ most → now < left → number + 1 + now ≤ most
one_counted number left now most counted fewer = omega arith

-- ---- the answers

pub lines-init : goal.lines-init
lines-init g c = (
  IsRunning-begin _ _ _ _ _ _ _ c.in_ok-reader.ensures c.new-pending.ensures.items c.requires.opening,
  refl,
  refl,
  refl,
  none_read _ _ c.in_ok-reader.ensures,
)

pub returns-in_err-reader-clause-run : goal.returns-in_err-reader-clause-run
returns-in_err-reader-clause-run g c =
    let p = err_from_is_err_and c.from_residual.result c.from_residual.ensures.1 in
    no_memory _ _ _ _ _ _ p.1 p.2 refl refl (nothing-written _ _ _ _)

pub returns-in_err-flush_if-clause-run : goal.returns-in_err-flush_if-clause-run
returns-in_err-flush_if-clause-run g c =
    let p = err_from_is_err_and c.from_residual-in_err-flush_if.result c.from_residual-in_err-flush_if.ensures.1 in
    write_failed _ _ _ _ _ _ p.1 (p.2 ∙ c.in_err-flush_if.ensures.faults) c.lines.invariant.2 (c.in_err-flush_if.ensures.failed ∙ ap (λ n. n + 1) c.lines.invariant.3)
    (front-flushed _ _ _ _ _ _ _ _ _ _ c.in_err-flush_if.ensures.front c.lines.invariant.0)

pub returns-in_err-next_line-clause-run : goal.returns-in_err-next_line-clause-run
returns-in_err-next_line-clause-run g c =
    let p = err_from_is_err_and c.from_residual-in_err-next_line.result c.from_residual-in_err-next_line.ensures.1 in
    unread _ _ _ _ _ _ (p.1 ∙ ap Err p.2) c.in_err-next_line.ensures.faults
    (λ what. subst (λ n. n < g.R.Source.failure_count c.next_line.new.source) c.lines.invariant.2 (c.in_err-next_line.ensures.failed (ap Err what)))
    (λ what. c.in_err-next_line.ensures.kept (no_memory-not_read _ _ refl what) ∙ c.lines.invariant.2)
    (c.in_ok-flush_if.ensures.failed ∙ c.lines.invariant.3)
    (front-now _ _ _ _ _ _ _ _ _ (IsRunning-partly _ _ _ _ _ _ _ _ _ _ _ c.in_ok-flush_if.ensures.written c.lines.invariant.0))

pub returns-then-not-branch-clause-run : goal.returns-then-not-branch-clause-run
returns-then-not-branch-clause-run g c =
    let so_far = IsRunning-partly _ _ _ _ _ _ _ _ _ _ _ c.in_ok-flush_if.ensures.written c.lines.invariant.0 in
    at_end _ _ _ _ c.flush.result
    (on_ok_weaker c.flush.result (λ wrote. end-flushed _ _ _ _ _ _ _ _ _ _ (c.in_ok-next_line.ensures.ended (ap Ok c.if-not-branch.true)) (IsRunning-flushed _ _ _ _ _ _ _ _ _ _ wrote so_far)) c.flush.ensures.written)
    (on_err_weaker c.flush.result (λ front. front-flushed _ _ _ _ _ _ _ _ _ _ front so_far) c.flush.ensures.front)
    _ (c.in_ok-flush_if.ensures.failed ∙ c.lines.invariant.3) c.flush.ensures.failed
    c.flush.ensures.faults (c.in_ok-next_line.ensures.kept (ok-not_err _ _) ∙ c.lines.invariant.2)

pub returns-in_err-flush-clause-run : goal.returns-in_err-flush-clause-run
returns-in_err-flush-clause-run g c =
    let p = err_from_is_err_and c.from_residual-in_err-flush.result c.from_residual-in_err-flush.ensures.1 in
    write_failed _ _ _ _ _ _ p.1 (p.2 ∙ c.in_err-flush.ensures.faults) (c.in_ok-next_line.ensures.kept (ok-not_err _ _) ∙ c.lines.invariant.2)
    (c.in_err-flush.ensures.failed ∙ ap (λ n. n + 1) (c.in_ok-flush_if.ensures.failed ∙ c.lines.invariant.3))
    (front-flushed _ _ _ _ _ _ _ _ _ _ (subst (AppendsFront _ _) c.in-Err.ensures.kept c.in_err-flush.ensures.front)
    (IsRunning-partly _ _ _ _ _ _ _ _ _ _ _ c.in_ok-flush_if.ensures.written c.lines.invariant.0))

pub returns-in-Err-clause-run : goal.returns-in-Err-clause-run
returns-in-Err-clause-run g c =
    let wrote = rw c.in-Err.ensures.kept at c.in_ok-flush.ensures.written in
    let so_far = IsRunning-flushed _ _ _ _ _ _ _ _ _ _ wrote (IsRunning-partly _ _ _ _ _ _ _ _ _ _ _ c.in_ok-flush_if.ensures.written c.lines.invariant.0) in
    let took = c.in_ok-next_line.ensures.found (ap Ok c.if-not-branch.false) in
    let says = ap (asked_by taken) (sym c.deref-in-lines.ensures.value) in
    at_line _ _ _ _ c.in-Err.fault (c.lines.number + 1) _ c.in-Err.ensures.faults (c.in_ok-next_line.ensures.kept (ok-not_err _ _) ∙ c.lines.invariant.2)
    (c.in_ok-flush.ensures.failed ∙ c.in_ok-flush_if.ensures.failed ∙ c.lines.invariant.3)
    (front-now _ _ _ _ _ _ _ _ _ so_far)
    (λ fault told. fault-flushed _ _ _ _ _ _ _ _ _ _ _ took (says ∙ told) so_far)

pub lines-preserved : goal.lines-preserved
lines-preserved g c =
    let so_far = IsRunning-partly _ _ _ _ _ _ _ _ _ _ _ c.in_ok-flush_if.ensures.written c.lines.invariant.0 in
    let took = c.in_ok-next_line.ensures.found (ap Ok c.if-not-branch.false) in
    let says = ap (asked_by taken) (sym c.deref-in-lines.ensures.value) in
    let answered = rw c.lines.invariant.1 at c.in_default.ensures.answered in (
      IsRunning-answered _ _ _ _ _ _ _ _ _ _ _ _ _ _ says took answered so_far,
      c.in_default.ensures.kits ∙ c.lines.invariant.1,
      c.in_ok-next_line.ensures.kept (ok-not_err _ _) ∙ c.lines.invariant.2,
      c.in_ok-flush_if.ensures.failed ∙ c.lines.invariant.3,
      one_counted _ _ _ _ c.lines.invariant.4 (c.in_ok-next_line.ensures.less (ap Ok c.if-not-branch.false)),
    )

-- ---- the kits are the same, and want of a place is no end

pub returns-in_err-reader-clause-placed : goal.returns-in_err-reader-clause-placed
returns-in_err-reader-clause-placed g c =
    let p = err_from_is_err_and c.from_residual.result c.from_residual.ensures.1 in
    placed-no_memory _ _ p.1 p.2

pub returns-in_err-flush_if-clause-placed : goal.returns-in_err-flush_if-clause-placed
returns-in_err-flush_if-clause-placed g c =
    let p = err_from_is_err_and c.from_residual-in_err-flush_if.result c.from_residual-in_err-flush_if.ensures.1 in
    placed-by_write _ _ p.1 (p.2 ∙ c.in_err-flush_if.ensures.faults)

pub returns-in_err-flush_if-clause-kits : goal.returns-in_err-flush_if-clause-kits
returns-in_err-flush_if-clause-kits g c = c.lines.invariant.1

pub returns-in_err-next_line-clause-placed : goal.returns-in_err-next_line-clause-placed
returns-in_err-next_line-clause-placed g c =
    let p = err_from_is_err_and c.from_residual-in_err-next_line.result c.from_residual-in_err-next_line.ensures.1 in
    placed-unread _ _ (p.1 ∙ ap Err p.2) c.in_err-next_line.ensures.faults

pub returns-in_err-next_line-clause-kits : goal.returns-in_err-next_line-clause-kits
returns-in_err-next_line-clause-kits g c = c.lines.invariant.1

pub returns-then-not-branch-clause-placed : goal.returns-then-not-branch-clause-placed
returns-then-not-branch-clause-placed g c = placed-write c.flush.result c.flush.ensures.faults

pub returns-then-not-branch-clause-kits : goal.returns-then-not-branch-clause-kits
returns-then-not-branch-clause-kits g c = c.lines.invariant.1

pub returns-in_err-flush-clause-placed : goal.returns-in_err-flush-clause-placed
returns-in_err-flush-clause-placed g c =
    let p = err_from_is_err_and c.from_residual-in_err-flush.result c.from_residual-in_err-flush.ensures.1 in
    placed-by_write _ _ p.1 (p.2 ∙ c.in_err-flush.ensures.faults)

pub returns-in_err-flush-clause-kits : goal.returns-in_err-flush-clause-kits
returns-in_err-flush-clause-kits g c = c.in-Err.ensures.kits ∙ c.lines.invariant.1

pub returns-in-Err-clause-placed : goal.returns-in-Err-clause-placed
returns-in-Err-clause-placed g c = placed-line _ c.in-Err.fault _ _ refl c.in-Err.ensures.faults

pub returns-in-Err-clause-kits : goal.returns-in-Err-clause-kits
returns-in-Err-clause-kits g c = c.in-Err.ensures.kits ∙ c.lines.invariant.1

-- ---- what is asked before a call: no device has failed

pub flush_if-requires : goal.flush_if-requires
flush_if-requires g c = subst (λ n. n < 10 ^ 18) (sym c.lines.invariant.3) c.requires.writes

pub next_line-requires-clause-reads : goal.next_line-requires-clause-reads
next_line-requires-clause-reads g c = subst (λ n. n < 10 ^ 18) (sym c.lines.invariant.2) c.requires.reads

pub flush-requires : goal.flush-requires
flush-requires g c = subst (λ n. n < 10 ^ 18) (sym (c.in_ok-flush_if.ensures.failed ∙ c.lines.invariant.3)) c.requires.writes

pub flush-requires-in-Err : goal.flush-requires-in-Err
flush-requires-in-Err g c = subst (λ n. n < 10 ^ 18) (sym (c.in_ok-flush_if.ensures.failed ∙ c.lines.invariant.3)) c.requires.writes

-- a line that is taken had a byte
pub overflow_add-number : goal.overflow_add-number
overflow_add-number g c = omega (arith, c.lines.invariant.4, c.in_ok-next_line.ensures.less (ap Ok c.if-not-branch.false), c.requires.finite)

pub lines-smaller : goal.lines-smaller
lines-smaller g c = c.in_ok-next_line.ensures.less (ap Ok c.if-not-branch.false)
