-- What reading and writing do to the bytes of a device and to the count of its failures.
use Rattle.std.specs.Prelude.{◌≡◌, ℕ, ◌+◌, List, ◌++◌, Option, Result, MatchResult}
use Rattle.std.specs.Io.KnownBytes.{Appends}

-- the count of failures grows by one at a failure, and else stays
abbrev pub CountsFailure : {T E : Type 0} → ℕ → ℕ → Result T E → Type 0
CountsFailure old new r = MatchResult r (λ _. new ≡ old) (λ _. new ≡ old + 1)

-- known bytes grow by a beginning of the text
abbrev pub AppendsFront : Option (List ℕ) → Option (List ℕ) → List ℕ → Type 0
AppendsFront old new text = (front rest : List ℕ) × (text ≡ front ++ rest) × Appends old new front

-- What a call makes of a device: its bytes, where they are known, and how many reads or writes of
-- it have failed, before the call and after.
pub record DeviceUse : Type 1 where
  pub old : Option (List ℕ)
  pub new : Option (List ℕ)
  pub failures_old : ℕ
  pub failures_new : ℕ
  -- it is as it was
  pub IsUntouched : Type 0

-- the same, of a device that was this before the call and is this after it
abbrev pub use_of : {D : Type 0} → (bytes : D → Option (List ℕ)) → (failures : D → ℕ) → (old new : D) → DeviceUse
use_of bytes failures old new = record { old = bytes old; new = bytes new; failures_old = failures old; failures_new = failures new; IsUntouched = new ≡ old }
