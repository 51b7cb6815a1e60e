-- What one write gives a device.
use Rattle.std.specs.Prelude.{◌≡◌, ℕ, List, ◌++◌, Option}
use Rattle.std.specs.Io.KnownBytes.{Appends}

-- known bytes grow by a beginning of what waits, and the rest of it waits on
abbrev pub WritesSome : Option (List ℕ) → Option (List ℕ) → List ℕ → List ℕ → Type 0
WritesSome old new waits later = (front : List ℕ) × (waits ≡ front ++ later) × Appends old new front
