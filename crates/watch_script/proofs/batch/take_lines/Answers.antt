use Rattle.std.proofs.Common.{◌≡◌, ◌+◌, ◌<◌, ◌∷◌, [], ◌++◌, Bool, List, ℕ, Result, Ok, Err, OnErr, ap, map, sym, subst, ◌∙◌, arith, vec_len}
use Rattle.std.proofs.lemmas.Bool.{true≢false, false≢true}
use Rattle.std.proofs.lemmas.List.{map-append}
use Rattle.std.proofs.lemmas.List.Sums.{sum_by-append}
use Rattle.std.specs.Result.{OnOk}
use Rattle.std.specs.List.{sum_by}
use Rattle.std.specs.Io.KnownBytes.{prepend_known}
use Rattle.streams.specs.declared.fault.RunFault.{RunFault}
use Rattle.streams.specs.declared.fault.RunFault.TheVariants.{NoMemory, Read}
use Rattle.watch_script.specs.inside.Lines.{TakesLines}
use Rattle.watch_script.proofs.Batches.{one_taken}
use Rattle.watch_script.proofs.batch.take_lines.Goals as goal

-- what two results hold is the same, where they are
same_Ok : (x y : Bool) → ◌≡◌ {A = Result Bool RunFault} (Ok x) (Ok y) → x ≡ y
same_Ok x y eq = cc

-- a failed call has not answered, and want of memory is no failed read
no_ok : (e : RunFault) (x : Bool) → ◌≡◌ {A = Result Bool RunFault} (Err e) (Ok x) → ⊥
no_ok e x eq = subst (λ (r : Result Bool RunFault). OnOk r ⊥) eq tt

no_read : ◌≡◌ {A = Result Bool RunFault} (Err NoMemory) (Err Read) → ⊥
no_read eq = cc

-- one line more was taken, and there is room for another
pub loop-preserved : goal.loop-preserved
loop-preserved g c =
    let took = c.in-Ok.ensures.found (ap Ok c.if-not-found.false) in
    let grown : map (λ x. x.items) c.put.new.lines.items ≡ map (λ x. x.items) c.loop.lines.items ++ c.next_line.new.line.items ∷ [] =
    ap (map (λ x. x.items)) c.in-Ok-put.ensures.put ∙ map-append (λ x. x.items) c.loop.lines.items (c.next_line.new.line ∷ []) in
    let bytes : sum_by (λ x. vec_len x) c.put.new.lines.items ≡ sum_by (λ x. vec_len x) c.loop.lines.items + vec_len c.next_line.new.line =
    ap (sum_by (λ x. vec_len x)) c.in-Ok-put.ensures.put ∙ (sum_by-append (λ x. vec_len x) c.loop.lines.items (c.next_line.new.line ∷ []) ∙ omega arith) in (
      subst (λ (t : List (List ℕ)). TakesLines (prepend_known c.args.reader.now (g.R.Source.remaining c.args.source.now)) (prepend_known c.next_line.new.self (g.R.Source.remaining c.next_line.new.source)) t) (sym grown)
          (one_taken _ _ _ _ _ c.loop.invariant.0 took),
      c.in-Ok.ensures.kept (λ eq. subst (λ r. OnErr r ⊥) eq tt) ∙ c.loop.invariant.1,
      omega (arith, c.loop.invariant.2, c.in-Ok.ensures.less (ap Ok c.if-not-found.false), c.in-Ok-put.ensures.many),
      omega (arith, c.loop.invariant.3, c.in-Ok-put.ensures.many),
      omega (arith, bytes, c.loop.invariant.4, c.len.ensures, c.saturating_sub-room.ensures, c.if-room-eq0.false),
      omega (arith, c.if-room-eq0.false),
    )

-- one line more was taken, and there is no room for another
pub returns-then-room-eq0-clause-more : goal.returns-then-room-eq0-clause-more
returns-then-room-eq0-clause-more g c = λ _.
    let took = c.in-Ok.ensures.found (ap Ok c.if-not-found.false) in
    let grown : map (λ x. x.items) c.put.new.lines.items ≡ map (λ x. x.items) c.loop.lines.items ++ c.next_line.new.line.items ∷ [] =
    ap (map (λ x. x.items)) c.in-Ok-put.ensures.put ∙ map-append (λ x. x.items) c.loop.lines.items (c.next_line.new.line ∷ []) in
    subst (λ (t : List (List ℕ)). TakesLines (prepend_known c.args.reader.now (g.R.Source.remaining c.args.source.now)) (prepend_known c.next_line.new.self (g.R.Source.remaining c.next_line.new.source)) t) (sym grown)
    (one_taken _ _ _ _ _ c.loop.invariant.0 took)

-- at either end of the batch more lines may be, and their count and bytes are as the loop has them
pub returns-then-room-eq0-clause-some : goal.returns-then-room-eq0-clause-some
returns-then-room-eq0-clause-some g c = λ _. omega (arith, c.in-Ok-put.ensures.many)

pub returns-then-room-eq0-clause-ended : goal.returns-then-room-eq0-clause-ended
returns-then-room-eq0-clause-ended g c = λ eq. absurd (true≢false (same_Ok _ _ eq))

pub returns-then-room-eq0-clause-few : goal.returns-then-room-eq0-clause-few
returns-then-room-eq0-clause-few g c =
    omega (arith, c.loop.invariant.2, c.in-Ok.ensures.less (ap Ok c.if-not-found.false), c.in-Ok-put.ensures.many)

pub returns-then-room-eq0-clause-short : goal.returns-then-room-eq0-clause-short
returns-then-room-eq0-clause-short g c =
    let bytes : sum_by (λ x. vec_len x) c.put.new.lines.items ≡ sum_by (λ x. vec_len x) c.loop.lines.items + vec_len c.next_line.new.line =
    ap (sum_by (λ x. vec_len x)) c.in-Ok-put.ensures.put ∙ (sum_by-append (λ x. vec_len x) c.loop.lines.items (c.next_line.new.line ∷ []) ∙ omega arith) in
    omega (arith, bytes, c.loop.invariant.4, c.in-Ok.ensures.short)

pub returns-then-room-eq0-clause-less : goal.returns-then-room-eq0-clause-less
returns-then-room-eq0-clause-less g c = λ _.
    omega (arith, c.loop.invariant.2, c.in-Ok.ensures.less (ap Ok c.if-not-found.false), c.in-Ok-put.ensures.many)

pub returns-then-room-eq0-clause-kept : goal.returns-then-room-eq0-clause-kept
returns-then-room-eq0-clause-kept g c = λ _. c.in-Ok.ensures.kept (λ eq. subst (λ r. OnErr r ⊥) eq tt) ∙ c.loop.invariant.1

-- there was no line left
pub returns-then-not-found-clause-more : goal.returns-then-not-found-clause-more
returns-then-not-found-clause-more g c = λ eq. absurd (false≢true (same_Ok _ _ eq))

pub returns-then-not-found-clause-some : goal.returns-then-not-found-clause-some
returns-then-not-found-clause-some g c = λ eq. absurd (false≢true (same_Ok _ _ eq))

pub returns-then-not-found-clause-ended : goal.returns-then-not-found-clause-ended
returns-then-not-found-clause-ended g c = λ _.
    let ended = c.in-Ok.ensures.ended (ap Ok c.if-not-found.true) in
    (prepend_known c.loop.reader (g.R.Source.remaining c.loop.source), c.loop.invariant.0, ended.0, ended.1, ended.2)

pub returns-then-not-found-clause-few : goal.returns-then-not-found-clause-few
returns-then-not-found-clause-few g c = omega (arith, c.loop.invariant.2)

pub returns-then-not-found-clause-short : goal.returns-then-not-found-clause-short
returns-then-not-found-clause-short g c = omega (arith, c.loop.invariant.4)

pub returns-then-not-found-clause-less : goal.returns-then-not-found-clause-less
returns-then-not-found-clause-less g c = λ eq. absurd (false≢true (same_Ok _ _ eq))

pub returns-then-not-found-clause-kept : goal.returns-then-not-found-clause-kept
returns-then-not-found-clause-kept g c = λ _. c.in-Ok.ensures.kept (λ eq. subst (λ r. OnErr r ⊥) eq tt) ∙ c.loop.invariant.1

-- as many as are read at once
pub returns-clause-more : goal.returns-clause-more
returns-clause-more g c = λ _. c.loop.invariant.0

pub returns-clause-some : goal.returns-clause-some
returns-clause-some g c = λ _. omega (arith, c.loop.invariant.3, c.loop-test.false)

pub returns-clause-ended : goal.returns-clause-ended
returns-clause-ended g c = λ eq. absurd (true≢false (same_Ok _ _ eq))

pub returns-clause-few : goal.returns-clause-few
returns-clause-few g c = omega (arith, c.loop.invariant.2)

pub returns-clause-short : goal.returns-clause-short
returns-clause-short g c = omega (arith, c.loop.invariant.4)

pub returns-clause-less : goal.returns-clause-less
returns-clause-less g c = λ _. c.loop.invariant.2

pub returns-clause-kept : goal.returns-clause-kept
returns-clause-kept g c = λ _. c.loop.invariant.1

pub returns-then-room-eq0-clause-failed : goal.returns-then-room-eq0-clause-failed
returns-then-room-eq0-clause-failed g c = λ eq. absurd (subst (λ r. OnErr r ⊥) eq tt)

pub returns-then-not-found-clause-failed : goal.returns-then-not-found-clause-failed
returns-then-not-found-clause-failed g c = λ eq. absurd (subst (λ r. OnErr r ⊥) eq tt)

pub returns-clause-failed : goal.returns-clause-failed
returns-clause-failed g c = λ eq. absurd (subst (λ r. OnErr r ⊥) eq tt)

-- a line could not be taken
pub returns-in-Err-clause-more : goal.returns-in-Err-clause-more
returns-in-Err-clause-more g c = λ eq. absurd (no_ok _ _ eq)

pub returns-in-Err-clause-some : goal.returns-in-Err-clause-some
returns-in-Err-clause-some g c = λ eq. absurd (no_ok _ _ eq)

pub returns-in-Err-clause-ended : goal.returns-in-Err-clause-ended
returns-in-Err-clause-ended g c = λ eq. absurd (no_ok _ _ eq)

pub returns-in-Err-clause-less : goal.returns-in-Err-clause-less
returns-in-Err-clause-less g c = λ eq. absurd (no_ok _ _ eq)

pub returns-in-Err-clause-failed : goal.returns-in-Err-clause-failed
returns-in-Err-clause-failed g c = λ eq. subst (λ n. n < g.R.Source.failure_count c.next_line.new.source) c.loop.invariant.1 (c.in-Err.ensures.failed eq)

pub returns-in-Err-clause-kept : goal.returns-in-Err-clause-kept
returns-in-Err-clause-kept g c = λ other. c.in-Err.ensures.kept other ∙ c.loop.invariant.1

-- there was no memory for one
pub returns-in_default-clause-more : goal.returns-in_default-clause-more
returns-in_default-clause-more g c = λ eq. absurd (no_ok _ _ eq)

pub returns-in_default-clause-some : goal.returns-in_default-clause-some
returns-in_default-clause-some g c = λ eq. absurd (no_ok _ _ eq)

pub returns-in_default-clause-ended : goal.returns-in_default-clause-ended
returns-in_default-clause-ended g c = λ eq. absurd (no_ok _ _ eq)

pub returns-in_default-clause-less : goal.returns-in_default-clause-less
returns-in_default-clause-less g c = λ eq. absurd (no_ok _ _ eq)

pub returns-in_default-clause-failed : goal.returns-in_default-clause-failed
returns-in_default-clause-failed g c = λ eq. absurd (no_read eq)

pub returns-in_default-clause-kept : goal.returns-in_default-clause-kept
returns-in_default-clause-kept g c = λ _. c.in-Ok.ensures.kept (λ eq. subst (λ r. OnErr r ⊥) eq tt) ∙ c.loop.invariant.1
