-- Two buffers of one length, of which one is written: what is not noted is alike in both.
use Rattle.std.specs.Prelude.{◌≡◌, ℕ, ◌-◌, ◌*◌, ◌/◌, false, List, ◌++◌, length, slice_index, slice_index_or, refl}
use Rattle.std.specs.Coded.{Coded, code_by, coded×, coded_ℕ, coded_list}
use Rattle.wmem.specs.Memory.{zeros}
use Rattle.wmem.specs.inside.Noted.{Noted, noted_code}

-- how many bytes are noted together
abbrev pub stretch : ℕ
stretch = 256

-- the bytes that are written, the bytes to go back to, and which pages were written since
pub record TrackedBytes : Type 0 where
  pub bytes : List ℕ
  pub image : List ℕ
  pub noted : Noted

-- stored as the tuple of its fields
abbrev pub tracked_code : Coded TrackedBytes
tracked_code =
    code_by (List ℕ × (List ℕ × Noted)) (coded× (coded_list coded_ℕ) (coded× (coded_list coded_ℕ) noted_code)) (λ t. (t.bytes, (t.image, t.noted))) (λ p. record { bytes = p.0; image = p.1.0; noted = p.1.1 }) (λ _. refl)

-- a buffer with so many pages at least: those that are new are zeros
abbrev pub extended : List ℕ → ℕ → List ℕ
extended buffer pages = buffer ++ zeros (stretch * pages - length buffer)

-- each byte of a page that isn't noted is the image's
abbrev pub AgreesElsewhere : List ℕ → List ℕ → Noted → Type 0
AgreesElsewhere bytes image noted =
    (k : ℕ) → slice_index_or noted.flags (k / stretch) false ≡ false → slice_index bytes k ≡ slice_index image k

-- both have the pages that have a flag, and differ in noted ones alone
pub record IsTracked (t : TrackedBytes) : Type 0 where
  pub whole : length t.bytes ≡ stretch * length t.noted.flags
  pub same : length t.image ≡ length t.bytes
  pub agrees : AgreesElsewhere t.bytes t.image t.noted
