-- What writes and copies of pages do to buffers that agree on each page that isn't noted.
use Rattle.std.proofs.Common.{◌≡◌, ℕ, ◌+◌, ◌-◌, ◌*◌, ◌/◌, ◌≤◌, ◌<◌, Bool, true, false, List, [], ◌++◌, length, get_or, take, drop, set, sym, ap, ◌∙◌, inl, inr, arith, length-append, length-set, length-drop, get_or-set_other, get_or-set_same}
use Rattle.std.proofs.lemmas.List.{get_or_append_left, get_or-append_right, get_or-take, get_or-drop, length-take-le, ext_get_or}
use Rattle.std.proofs.lemmas.Bool.{cases_eq, cases_lt}
use Rattle.wmem.specs.declared.access.Width.{Width}
use Rattle.wmem.specs.declared.access.Width.TheVariants.{One, Two, Four, Eight}
use Rattle.wmem.specs.Access.{with_bytes, byte_count}
use Rattle.wmem.specs.inside.Noted.{Noted}
use Rattle.wmem.specs.inside.Tracked.{AgreesElsewhere, stretch, TrackedBytes, IsTracked}
use Rattle.wmem.proofs.Buffers.{length-with_bytes}

-- a byte before a write is left
pub byte_before : (buffer : List ℕ) (at : ℕ) (new : List ℕ) (k : ℕ) → at + length new ≤ length buffer → k < at
    → get_or (with_bytes buffer at new) k 0 ≡ get_or buffer k 0
byte_before buffer at new k within before =
    let front : length (take at buffer) ≡ at = length-take-le at buffer (omega arith) in
    let joined : length (take at buffer ++ new) ≡ at + length new = length-append (take at buffer) new ∙ ap (λ (n : ℕ). n + length new) front in
    get_or_append_left (take at buffer ++ new) (drop (at + length new) buffer) 0 k (omega arith)
    ∙ get_or_append_left (take at buffer) new 0 k (omega arith)
    ∙ get_or-take at buffer k 0 before

-- a byte behind a write is left
pub byte_behind : (buffer : List ℕ) (at : ℕ) (new : List ℕ) (k : ℕ) → at + length new ≤ length buffer → at + length new ≤ k
    → get_or (with_bytes buffer at new) k 0 ≡ get_or buffer k 0
byte_behind buffer at new k within behind =
    let front : length (take at buffer) ≡ at = length-take-le at buffer (omega arith) in
    let joined : length (take at buffer ++ new) ≡ at + length new = length-append (take at buffer) new ∙ ap (λ (n : ℕ). n + length new) front in
    let back : (at + length new) + (k - (at + length new)) ≡ k = omega arith in
    get_or-append_right (take at buffer ++ new) (drop (at + length new) buffer) (at + length new) k 0 joined behind
    ∙ get_or-drop (at + length new) buffer (k - (at + length new)) 0
    ∙ ap (λ (n : ℕ). get_or buffer n 0) back

-- a byte within a write is written
pub byte_within : (buffer : List ℕ) (at : ℕ) (new : List ℕ) (k : ℕ) → at + length new ≤ length buffer → at ≤ k → k < at + length new
    → get_or (with_bytes buffer at new) k 0 ≡ get_or new (k - at) 0
byte_within buffer at new k within low high =
    let front : length (take at buffer) ≡ at = length-take-le at buffer (omega arith) in
    let joined : length (take at buffer ++ new) ≡ at + length new = length-append (take at buffer) new ∙ ap (λ (n : ℕ). n + length new) front in
    get_or_append_left (take at buffer ++ new) (drop (at + length new) buffer) 0 k (omega arith)
    ∙ get_or-append_right (take at buffer) new at k 0 front low

-- a set flag stays one, and the flag that was set is one
pub unset_before : (flags : List Bool) (page other : ℕ) → get_or (set flags page true) other false ≡ false → page < length flags
    → get_or flags other false ≡ false
unset_before flags page other unset within = elim (cases_eq page other) [
  | inl e ↦ (
      let is : get_or (set flags page true) other false ≡ true = ap (λ (p : ℕ). get_or (set flags page true) p false) (sym e) ∙ get_or-set_same flags page true false within in
      cc)
  | inr ne ↦ sym (get_or-set_other flags page other true false (λ e. ne (sym e))) ∙ unset
]

pub set_now : (flags : List Bool) (page : ℕ) → page < length flags → get_or (set flags page true) page false ≡ true
set_now flags page within = get_or-set_same flags page true false within

-- a write to noted pages: what isn't noted still agrees
pub write_agrees : (bytes image : List ℕ) (noted later : Noted) (at : ℕ) (new : List ℕ) → AgreesElsewhere bytes image noted
    → at + length new ≤ length bytes
    → ((page : ℕ) → get_or later.flags page false ≡ false → get_or noted.flags page false ≡ false)
    → ((k : ℕ) → at ≤ k → k < at + length new → get_or later.flags (k / stretch) false ≡ true)
    → AgreesElsewhere (with_bytes bytes at new) image later
write_agrees bytes image noted later at new agrees within stays covers = λ k unset.
    elim (cases_lt k at) [
      | inl before ↦ (byte_before bytes at new k within before ∙ agrees k (stays (k / stretch) unset))
      | inr low ↦ elim (cases_lt k (at + length new)) [
        | inr behind ↦ (byte_behind bytes at new k within behind ∙ agrees k (stays (k / stretch) unset))
        | inl high ↦ (
            let noted_now : get_or later.flags (k / stretch) false ≡ true = covers k low high in
            cc)
      ]
    ]

-- a page copied from the image: it needn't be noted any more
pub copy_agrees : (bytes image : List ℕ) (flags : List Bool) (order later : List ℕ) (room page : ℕ) → AgreesElsewhere bytes image (record { flags = flags; order = order; room = room })
    → length image ≡ length bytes → page < length flags → length bytes ≡ stretch * length flags
    → AgreesElsewhere (with_bytes bytes (page * stretch) (take stretch (drop (page * stretch) image))) image (record { flags = set flags page false; order = later; room = room })
copy_agrees bytes image flags order later room page agrees same within whole = λ k unset.
    let at : ℕ = page * stretch in
    let fits : at + stretch ≤ length bytes = omega (arith, within, whole) in
    let new : List ℕ = take stretch (drop at image) in
    let count : length new ≡ stretch = length-take-le stretch (drop at image) (omega (arith, length-drop at image, fits, same)) in
    elim (cases_eq (k / stretch) page) [
      | inl e ↦ (
          let low : at ≤ k = omega (arith, e) in
          let high : k < at + stretch = omega (arith, e) in
          let back : at + (k - at) ≡ k = omega (arith, low) in
          byte_within bytes at new k (omega (arith, fits, count)) low (omega (arith, high, count))
          ∙ get_or-take stretch (drop at image) (k - at) 0 (omega (arith, low, high))
          ∙ get_or-drop at image (k - at) 0
          ∙ ap (λ (n : ℕ). get_or image n 0) back)
      | inr ne ↦ (
          let was : get_or flags (k / stretch) false ≡ false = sym (get_or-set_other flags page (k / stretch) false false ne) ∙ unset in
          elim (cases_lt k at) [
            | inl before ↦ (byte_before bytes at new k (omega (arith, fits, count)) before ∙ agrees k was)
            | inr low ↦ elim (cases_lt k (at + stretch)) [
              | inr behind ↦ (byte_behind bytes at new k (omega (arith, fits, count)) (omega (arith, behind, count)) ∙ agrees k was)
              | inl high ↦ absurd (ne (omega (arith, low, high)))
            ]
          ])
    ]

-- buffers that agree where nothing is noted are one
pub none_noted : (bytes image : List ℕ) (noted : Noted) → AgreesElsewhere bytes image noted → length image ≡ length bytes
    → ((page : ℕ) → get_or noted.flags page false ≡ false) → bytes ≡ image
none_noted bytes image noted agrees same none = ext_get_or 0 bytes image (sym same) (λ k h. agrees k (none (k / stretch)))

-- a write to noted pages keeps the buffers tracked
pub write_tracked : (t : TrackedBytes) (written : List ℕ) (later : Noted) (at : ℕ) (new : List ℕ) → IsTracked t
    → at + length new ≤ length t.bytes → written ≡ with_bytes t.bytes at new → length later.flags ≡ length t.noted.flags
    → ((page : ℕ) → get_or later.flags page false ≡ false → get_or t.noted.flags page false ≡ false)
    → ((k : ℕ) → at ≤ k → k < at + length new → get_or later.flags (k / stretch) false ≡ true)
    → IsTracked (record { bytes = written; image = t.image; noted = later })
write_tracked t written later at new tracked within is pages stays covers =
    let same_length : length written ≡ length t.bytes = ap length is ∙ length-with_bytes t.bytes at new within in
    record {
      whole = same_length ∙ tracked.whole ∙ ap (λ (n : ℕ). stretch * n) (sym pages);
      same = tracked.same ∙ sym same_length;
      agrees = rw is (write_agrees t.bytes t.image t.noted later at new tracked.agrees within stays covers);
    }

-- a store has 1 to 8 bytes
pub byte_count_bounds : (width : Width) → (1 ≤ byte_count width) × (byte_count width ≤ 8)
byte_count_bounds One = (omega arith, omega arith)
byte_count_bounds Two = (omega arith, omega arith)
byte_count_bounds Four = (omega arith, omega arith)
byte_count_bounds Eight = (omega arith, omega arith)

-- the page of the first byte and the page of the last one are all the pages of a store
pub two_pages : (flags : List Bool) (at count last k : ℕ) → 1 ≤ count → count ≤ 8 → at + count ≤ stretch * length flags
    → last ≡ (at + count - 1) / stretch → at ≤ k → k < at + count
    → get_or (set (set flags (at / stretch) true) last true) (k / stretch) false ≡ true
two_pages flags at count last k some few within is low high =
    let first : List Bool = set flags (at / stretch) true in
    let same : length first ≡ length flags = length-set flags (at / stretch) true in
    elim (cases_eq (k / stretch) last) [
      | inl e ↦ (ap (λ (p : ℕ). get_or (set first last true) p false) e ∙ set_now first last (omega (arith, same, is)))
      | inr ne ↦ (
          let on_first : k / stretch ≡ at / stretch = omega (arith, ne, is) in
          get_or-set_other first last (k / stretch) true false ne
          ∙ ap (λ (p : ℕ). get_or first p false) on_first ∙ set_now flags (at / stretch) (omega arith))
    ]
