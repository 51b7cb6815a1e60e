-- What the definitions of loading and storing say together.
use Rattle.std.specs.Prelude.{◌≡◌, ℕ, ◌+◌, ◌*◌, ◌%◌, ◌^◌, ◌≤◌, List, length, slice_range}
use Rattle.wmem.specs.Bytes.{number_in, bytes_of}
use Rattle.wmem.specs.Access.{with_bytes}

-- what is stored is what is loaded there: the number, cut to its bytes
abbrev pub StoresAreLoaded : Type 0
StoresAreLoaded = (bytes : List ℕ) (address count number : ℕ) → address + count ≤ length bytes
    → number_in (slice_range (with_bytes bytes address (bytes_of count number)) address (address + count)) ≡ number % 2 ^ (8 * count)

-- a write leaves what lies before it and behind it, and the size
pub record WritesStayInPlace : Type 0 where
  pub before : (bytes new : List ℕ) (address from to : ℕ) → address + length new ≤ length bytes → from ≤ to → to ≤ address
      → slice_range (with_bytes bytes address new) from to ≡ slice_range bytes from to
  pub behind : (bytes new : List ℕ) (address from to : ℕ) → address + length new ≤ length bytes → address + length new ≤ from
      → slice_range (with_bytes bytes address new) from to ≡ slice_range bytes from to
  pub size : (bytes new : List ℕ) (address : ℕ) → address + length new ≤ length bytes → length (with_bytes bytes address new) ≡ length bytes
