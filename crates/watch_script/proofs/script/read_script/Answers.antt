use Rattle.std.proofs.Common.{◌≡◌, ◌⊎◌, inl, inr, true, false, List, ℕ, Option, Result, Ok, Err, OnErr, length, map, refl, ap, subst, ◌∙◌, arith}
use Rattle.std.proofs.lemmas.List.{length-map}
use Rattle.std.proofs.lemmas.List.Elements.{All-nil, All-same}
use Rattle.std.specs.Io.KnownBytes.{prepend_known}
use Rattle.desk.specs.Caller.{IsTimely}
use Rattle.manifest.specs.declared.fault.LineFault.{LineFault}
use Rattle.streams.specs.declared.fault.RunFault.{RunFault}
use Rattle.streams.specs.declared.fault.RunFault.TheVariants.{Line, NoMemory, Read, Write, NoPlace}
use Rattle.watch_script.specs.inside.Lines.{TakesLines}
use Rattle.watch_script.proofs.Reading.{reading-begin, reading-end, read-more, read-fault, read-there, read-timely}
use Rattle.watch_script.proofs.script.read_script.Goals as goal

-- what a faulty line ends a storm by is no fault but the line's and want of memory
module _ {T : Type 0} where
  same_Err : (x y : RunFault) → ◌≡◌ {A = Result T RunFault} (Err x) (Err y) → x ≡ y
  same_Err x y eq = cc

  told-not_read : (r : RunFault) (n : ℕ) (f : LineFault) → (r ≡ NoMemory) ⊎ (r ≡ Line n f) → ◌≡◌ {A = Result T RunFault} (Err r) (Err Read) → ⊥
  told-not_read r n f (inl none) eq = cc
  told-not_read r n f (inr told) eq = cc

  told-not_write : (r : RunFault) (n : ℕ) (f : LineFault) → (r ≡ NoMemory) ⊎ (r ≡ Line n f) → ◌≡◌ {A = Result T RunFault} (Err r) (Err Write) → ⊥
  told-not_write r n f (inl none) eq = cc
  told-not_write r n f (inr told) eq = cc

  told-not_place : (r : RunFault) (n : ℕ) (f : LineFault) → (r ≡ NoMemory) ⊎ (r ≡ Line n f) → ◌≡◌ {A = Result T RunFault} (Err r) (Err NoPlace) → ⊥
  told-not_place r n f (inl none) eq = cc
  told-not_place r n f (inr told) eq = cc

  none-not_read : ◌≡◌ {A = Result T RunFault} (Err NoMemory) (Err Read) → ⊥
  none-not_read eq = cc

  none-not_write : ◌≡◌ {A = Result T RunFault} (Err NoMemory) (Err Write) → ⊥
  none-not_write eq = cc

  none-not_place : ◌≡◌ {A = Result T RunFault} (Err NoMemory) (Err NoPlace) → ⊥
  none-not_place eq = cc

pub lines-init : goal.lines-init
lines-init g c = (
  reading-begin _ _ _ c.in-Ok.ensures c.new-steps.ensures.items,
  All-same IsTimely _ _ c.new-steps.ensures.items (All-nil IsTimely),
  refl,
  omega (arith, ap length c.in-Ok.ensures),
)

-- one of these lines is faulty
pub returns-in-Some-clause-line : goal.returns-in-Some-clause-line
returns-in-Some-clause-line g c = λ number fault eq.
    let told = c.told_at.ensures.line number fault (same_Err _ _ eq) in
    let read = rw c.deref.ensures.value at c.read_in_four-part.ensures in
    let took : (later : Option (List ℕ)) × TakesLines (prepend_known c.lines.reader (g.R.Source.remaining c.lines.source)) later (map (λ l. l.items) c.take_lines.new.lines.items) =
    elim c.in-Ok-take_lines.more as (λ b. c.in-Ok-take_lines.more ≡ b → (later : Option (List ℕ)) × TakesLines (prepend_known c.lines.reader (g.R.Source.remaining c.lines.source)) later (map (λ l. l.items) c.take_lines.new.lines.items)) [
      | true ↦ λ yes. (prepend_known c.take_lines.new.reader (g.R.Source.remaining c.take_lines.new.source), c.in-Ok-take_lines.ensures.more (ap Ok yes))
      | false ↦ λ no. let ended = c.in-Ok-take_lines.ensures.ended (ap Ok no) in (ended.0, ended.1)
    ] refl in
    read-fault _ _ took.0 _ _ _ _ c.in-Some.faulty _ number fault read c.in-Some.is took.1 told.2 (omega (arith, told.0)) told.1 c.lines.invariant.0

pub returns-in-Some-clause-read : goal.returns-in-Some-clause-read
returns-in-Some-clause-read g c = tt

pub returns-in-Some-clause-timely : goal.returns-in-Some-clause-timely
returns-in-Some-clause-timely g c = tt

pub returns-in-Some-clause-failed : goal.returns-in-Some-clause-failed
returns-in-Some-clause-failed g c = λ eq. absurd (told-not_read _ _ _ c.told_at.ensures.faults eq)

pub returns-in-Some-clause-told : goal.returns-in-Some-clause-told
returns-in-Some-clause-told g c = λ _. c.in-Ok-take_lines.ensures.kept (λ eq. subst (λ r. OnErr r ⊥) eq tt) ∙ c.lines.invariant.2

pub returns-in-Some-clause-no_write : goal.returns-in-Some-clause-no_write
returns-in-Some-clause-no_write g c = λ eq. told-not_write _ _ _ c.told_at.ensures.faults eq

pub returns-in-Some-clause-placed : goal.returns-in-Some-clause-placed
returns-in-Some-clause-placed g c = λ eq. told-not_place _ _ _ c.told_at.ensures.faults eq

-- no more lines are counted than the source has bytes
pub overflow_add-number : goal.overflow_add-number
overflow_add-number g c =
    let there = read-there _ _ _ c.in-Some.faulty c.read_in_four-part.ensures c.in-Some.is in
    omega (arith, there, length-map c.deref.result.now (λ l. l.items), c.deref.ensures.len, c.in-Ok-take_lines.ensures.few, c.lines.invariant.3, c.requires.finite)

pub overflow_add-number-in-Some : goal.overflow_add-number-in-Some
overflow_add-number-in-Some g c =
    let there = read-there _ _ _ c.in-Some.faulty c.read_in_four-part.ensures c.in-Some.is in
    omega (arith, there, length-map c.deref.result.now (λ l. l.items), c.deref.ensures.len, c.in-Ok-take_lines.ensures.few, c.lines.invariant.3, c.requires.finite)

pub overflow_add-number-in-lines : goal.overflow_add-number-in-lines
overflow_add-number-in-lines g c = omega (arith, c.len.ensures, c.in-Ok-take_lines.ensures.few, c.lines.invariant.3, c.requires.finite)

pub lines-smaller : goal.lines-smaller
lines-smaller g c = omega (arith, c.in-Ok-take_lines.ensures.less (ap Ok c.if-not-more.false), c.in-Ok-take_lines.ensures.some (ap Ok c.if-not-more.false))

-- all of the script is read
pub returns-then-not-more-clause-read : goal.returns-then-not-more-clause-read
returns-then-not-more-clause-read g c =
    let ended = c.in-Ok-take_lines.ensures.ended (ap Ok c.if-not-more.true) in
    let read = rw c.deref.ensures.value at c.read_in_four-part.ensures in
    reading-end _ ended.0 _ _ _ _ (ended.2, ended.3, ended.4) (read-more _ _ ended.0 _ _ _ _ _ _ _ read c.in-None.is ended.1 c.in-Ok-add_all.ensures.added refl c.lines.invariant.0)

pub returns-then-not-more-clause-timely : goal.returns-then-not-more-clause-timely
returns-then-not-more-clause-timely g c = read-timely _ _ _ _ _ c.read_in_four-part.ensures c.in-Ok-add_all.ensures.added c.lines.invariant.1

pub returns-then-not-more-clause-line : goal.returns-then-not-more-clause-line
returns-then-not-more-clause-line g c = λ number fault eq. absurd (subst (λ r. OnErr r ⊥) eq tt)

pub returns-then-not-more-clause-failed : goal.returns-then-not-more-clause-failed
returns-then-not-more-clause-failed g c = λ eq. absurd (subst (λ r. OnErr r ⊥) eq tt)

pub returns-then-not-more-clause-told : goal.returns-then-not-more-clause-told
returns-then-not-more-clause-told g c = λ _. c.in-Ok-take_lines.ensures.kept (λ eq. subst (λ r. OnErr r ⊥) eq tt) ∙ c.lines.invariant.2

pub returns-then-not-more-clause-no_write : goal.returns-then-not-more-clause-no_write
returns-then-not-more-clause-no_write g c = λ eq. subst (λ r. OnErr r ⊥) eq tt

pub returns-then-not-more-clause-placed : goal.returns-then-not-more-clause-placed
returns-then-not-more-clause-placed g c = λ eq. subst (λ r. OnErr r ⊥) eq tt

-- these lines were read
pub lines-preserved : goal.lines-preserved
lines-preserved g c =
    let took = c.in-Ok-take_lines.ensures.more (ap Ok c.if-not-more.false) in
    let read = rw c.deref.ensures.value at c.read_in_four-part.ensures in
    let many : length (map (λ l. l.items) c.take_lines.new.lines.items) ≡ c.len.result = omega (arith, length-map c.take_lines.new.lines.items (λ l. l.items), c.len.ensures, c.take_lines.new.lines.ok) in (
      read-more _ _ _ _ _ _ _ _ _ _ read c.in-None.is took c.in-Ok-add_all.ensures.added (omega (arith, many)) c.lines.invariant.0,
      read-timely _ _ _ _ _ read c.in-Ok-add_all.ensures.added c.lines.invariant.1,
      c.in-Ok-take_lines.ensures.kept (λ eq. subst (λ r. OnErr r ⊥) eq tt) ∙ c.lines.invariant.2,
      omega (arith, c.lines.invariant.3, c.in-Ok-take_lines.ensures.less (ap Ok c.if-not-more.false), c.len.ensures),
    )

-- there was no memory for their steps
pub returns-in_default-add_all-clause-failed : goal.returns-in_default-add_all-clause-failed
returns-in_default-add_all-clause-failed g c = λ eq. absurd (none-not_read eq)

pub returns-in_default-add_all-clause-told : goal.returns-in_default-add_all-clause-told
returns-in_default-add_all-clause-told g c = λ _. c.in-Ok-take_lines.ensures.kept (λ eq. subst (λ r. OnErr r ⊥) eq tt) ∙ c.lines.invariant.2

pub returns-in_default-add_all-clause-no_write : goal.returns-in_default-add_all-clause-no_write
returns-in_default-add_all-clause-no_write g c = λ eq. none-not_write eq

pub returns-in_default-add_all-clause-placed : goal.returns-in_default-add_all-clause-placed
returns-in_default-add_all-clause-placed g c = λ eq. none-not_place eq
