-- What the reader's clauses say, from what it gives.
use Rattle.std.proofs.Common.{ℕ, ◌+◌, ◌<◌, ◌≤◌, List, get_or, drop, ℤ, Ok, Err, Result, get_or-drop}
use Rattle.std.specs.Prelude.{◌↔◌, IfOk, OnErr, IsErrOf}
use Rattle.leb.specs.Number.{Sign, Spells}
use Rattle.leb.specs.inside.Number.{InRange}
use Rattle.leb.specs.Reading.{reading}
use Rattle.leb.specs.inside.Reading.{value_of, Gives}
use Rattle.leb.specs.declared.Spelled.{Spelled}
use Rattle.leb.specs.declared.LebFault.{LebFault}
use Rattle.leb.proofs.Grammar.{spelled, reads}
use Rattle.leb.proofs.Faults.{Stands, fault_iff, no_fault}
use Rattle.leb.proofs.Range.{in_range}

-- No number is a fault, and a fault stays the same one, whatever type the numbers have.
pub still_no_fault : {A B E P : Type 0} {a : A} {e : E} (b : B) → IsErrOf (Ok a) e ↔ P → IsErrOf (Ok b) e ↔ P
still_no_fault b h = ((λ k. cc k), (λ p. let k = h.1 p in cc k))

pub same_fault : {A B E P : Type 0} {d e : E} → IsErrOf {T = A} (Err d) e ↔ P → IsErrOf {T = B} (Err d) e ↔ P
same_fault h = ((λ k. h.0 (cc k)), (λ p. let k = h.1 p in cc k))

module _ (s : Sign) (bits at : ℕ) (bytes : List ℕ) where
  pub spelled_at : (r : Result Spelled LebFault) → ((i : ℕ) → get_or bytes i 0 < 256) → Gives bytes r (reading s bits (drop at bytes))
      → IfOk r (λ x. Spells s bits (drop at bytes) (value_of x) (drop x.next bytes))
  spelled_at (Ok x) fits g =
      let below : (i : ℕ) → get_or (drop at bytes) i 0 < 256 = λ i. rw get_or-drop (fits (at + i)) in
      spelled s bits (drop at bytes) (value_of x) (drop x.next bytes) below g.1
  spelled_at (Err e) fits g = tt

  pub range_at : (r : Result Spelled LebFault) → ((i : ℕ) → get_or bytes i 0 < 256) → Gives bytes r (reading s bits (drop at bytes)) → IfOk r (λ x. InRange s bits (value_of x))
  range_at (Ok x) fits g = in_range s bits (drop at bytes) (value_of x) (drop x.next bytes) (spelled_at (Ok x) fits g)
  range_at (Err e) fits g = tt

  pub none_at : (r : Result Spelled LebFault) → Gives bytes r (reading s bits (drop at bytes)) → OnErr r ((v : ℤ) (rest : List ℕ) → Spells s bits (drop at bytes) v rest → ⊥)
  none_at (Ok x) g = tt
  none_at (Err e) g = λ v rest h. let k = reads s bits (drop at bytes) v rest h in cc (g, k)

  pub fault_at : (r : Result Spelled LebFault) (f : LebFault) → 1 ≤ bits → Gives bytes r (reading s bits (drop at bytes)) → IsErrOf r f ↔ Stands f s bits (drop at bytes)
  fault_at (Ok x) f some g = ((λ e. cc e), (λ p. absurd (no_fault s bits (drop at bytes) _ f some g.1 p)))
  fault_at (Err e) f some g =
      let k = fault_iff s bits (drop at bytes) e f some g in ((λ h. k.0 (cc h)), (λ p. let h = k.1 p in cc h))
