-- Images are single, and refusals are of modules without one.
use Rattle.std.proofs.Common.{◌≡◌, ℕ, All, Any, List, Option, Some, None, refl, sym, ◌∙◌, subst}
use Rattle.wmodule.specs.Syntax.{ModuleSyntax}
use Rattle.wstore.specs.Store.{first_store}
use Rattle.wstore.specs.Segments.{ElementsFit, DataFits}
use Rattle.wmach.specs.declared.outcome.Outcome.{Outcome}
use Rattle.wmach.specs.declared.outcome.Outcome.TheVariants as outcome
use Rattle.wmach.specs.Call.{OneOutcome}
use Rattle.wmach.specs.Configuration.{Store}
use Rattle.whost.specs.declared.fault.InstanceFault.{InstanceFault}
use Rattle.whost.specs.declared.fault.InstanceFault.TheVariants.{DataOutOfBounds, ElementOutOfBounds, StartTrap, StartExhausted, NoMemory}
use Rattle.whost.specs.Image.{with_segments, Started, StartEnds, IsImage}
use Rattle.whost.specs.Refused.{WhyRefused}

-- what a start function leaves
one_start : OneOutcome → (m : ModuleSyntax) (start : Option ℕ) (before : Store) (fuel : ℕ) (after other : Store) → Started m start before fuel after → Started m start before fuel other → after ≡ other
one_start one m None before fuel after other a b = a ∙ sym b
one_start one m (Some function) before fuel after other a b =
    (one (record { module_syntax = m; records = λ import. None }) before function fuel (outcome.Value None a.0) (outcome.Value None b.0) after other a.1 b.1).1

pub same_image : OneOutcome → (m : ModuleSyntax) (fuel : ℕ) (image other : Store) → IsImage m fuel image → IsImage m fuel other → image ≡ other
same_image one m fuel image other a b = one_start one m m.start (with_segments m (first_store m)) fuel image other a.started b.started

-- all are so, and some isn't
not_both : {X : Type 0} (P : X → Type 0) (xs : List X) → All P xs → Any (λ x. ¬ (P x)) xs → ⊥
not_both P xs all (k, x, less, is, fails) = fails (subst P is (all k x less))

-- a start function that returned ended in no other way
no_other_end : OneOutcome → (m : ModuleSyntax) (before : Store) (fuel : ℕ) (after : Store) (ends : ℕ → Outcome) → ((cost other : ℕ) → outcome.Value None cost ≡ ends other → ⊥) → Started m m.start before fuel after → StartEnds m before fuel ends → ⊥
no_other_end one m before fuel after ends apart started (function, cost, left, there, ended) =
    let s = subst (λ start. Started m start before fuel after) there started in
    apart s.0 cost (one (record { module_syntax = m; records = λ import. None }) before function fuel (outcome.Value None s.0) (ends cost) after left s.1 ended).0

pub no_refusal : OneOutcome → (m : ModuleSyntax) (fuel : ℕ) (image : Store) (fault : InstanceFault) → IsImage m fuel image → WhyRefused m fuel fault → fault ≡ NoMemory
no_refusal one m fuel image DataOutOfBounds is why = absurd (not_both (λ s. DataFits s (first_store m)) m.data_segments is.in_bounds.data_segments why.1)
no_refusal one m fuel image ElementOutOfBounds is why = absurd (not_both (λ s. ElementsFit s (first_store m)) m.element_segments is.in_bounds.elements why)
no_refusal one m fuel image (StartTrap trap) is why = absurd (no_other_end one m (with_segments m (first_store m)) fuel image (outcome.Trap trap) (λ cost other same. cc) is.started why.1)
no_refusal one m fuel image StartExhausted is why = absurd (no_other_end one m (with_segments m (first_store m)) fuel image outcome.Exhausted (λ cost other same. cc) is.started why.1)
no_refusal one m fuel image NoMemory is why = refl
