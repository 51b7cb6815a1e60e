-- What a call makes of the files.
use Rattle.std.specs.Prelude.{◌≡◌, ℕ, List, Option}

-- What a call makes of the files: what each has before it, where that is known, and how many
-- couldn't be opened or read, before and after.
pub record FilesUse : Type 1 where
  pub contents : List ℕ → Option (List ℕ)
  pub failures_old : ℕ
  pub failures_new : ℕ
  -- they are as they were
  pub IsUntouched : Type 0

-- the same, of files that were this before the call and are this after it
abbrev pub files_of : {F : Type 0} → (contents : F → List ℕ → Option (List ℕ)) → (failures : F → ℕ) → (old new : F) → FilesUse
files_of contents failures old new = record { contents = contents old; failures_old = failures old; failures_new = failures new; IsUntouched = new ≡ old }
