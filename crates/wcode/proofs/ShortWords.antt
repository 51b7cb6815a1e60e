-- Numbers of a few bytes, whichever kind they are, and words that are made of them.
use Rattle.std.proofs.Common.{◌≡◌, ℕ, ◌+◌, ◌-◌, ◌^◌, ◌<◌, ◌≤◌, inl, inr, List, Option, Some, None, length, drop, map, get_or, ℤ, pos, negsuc, w32, w64, refl, sym, ap, ◌∙◌, subst, arith}
use Rattle.std.specs.Prelude.{◌+ℤ◌, ◌-ℤ◌, ◌*ℤ◌, replicate, IfSome}
use Rattle.std.specs.Int.{cast_unsigned}
use Rattle.std.proofs.lemmas.Bool.{cases_lt}
use Rattle.std.proofs.lemmas.List.{get_or-replicate}
use Rattle.std.proofs.Math.Pow.{pow_mono}
use Rattle.leb.specs.Number.{Sign, unsigned, signed, IsLast, Spells}
use Rattle.leb.specs.inside.Number.{InRange}
use Rattle.leb.proofs.Range.{in_range}
use Rattle.wcode.specs.declared.value.ValueType.TheVariants.{I32, I64}
use Rattle.wcode.specs.declared.value.Value.TheVariants as values
use Rattle.wcode.specs.declared.instruction.MemArg.{MemArg}
use Rattle.wcode.specs.declared.instruction.Plain.{Plain}
use Rattle.wcode.specs.declared.instruction.Plain.TheVariants as plains
use Rattle.wcode.specs.declared.opcode.Form.{Form}
use Rattle.wcode.specs.declared.opcode.Form.TheVariants as forms
use Rattle.wcode.specs.declared.short.Tail.{Tail}
use Rattle.wcode.specs.declared.short.Tail.TheVariants as tails
use Rattle.wcode.specs.Opcodes.{form, form_in, rows, indexed_plain}
use Rattle.wcode.specs.Grammar.{one, end, SpellsIndex, SpellsForm, SpellsWord}
use Rattle.wcode.specs.inside.Short.{form_tail, HasNumber}
use Rattle.wcode.proofs.Table.{from, map_from}
use Rattle.wcode.proofs.KnownWords.{known_word}
use Rattle.wcode.proofs.SeveralBytes.{one_there, more_there}

-- a number of so many bits or more
abbrev pub HasBits : ℕ → List ℕ → List ℕ → Type 0
HasBits least bytes rest = (s : Sign) (bits : ℕ) → least ≤ bits → (v : ℤ) × Spells s bits bytes v rest

last_here : (s : Sign) (bits b : ℕ) → 7 ≤ bits → b < 128 → (v : ℤ) × IsLast s bits b v
last_here unsigned bits b h k = let m : 2 ^ 7 ≤ 2 ^ bits = pow_mono {i = 7} h in (pos b, (k, omega (arith, m), refl))
last_here signed bits b h k =
    let m : 2 ^ 6 ≤ 2 ^ (bits - 1) = pow_mono {i = 6} {j = bits - 1} (omega arith) in
    elim (cases_lt b 64) [
      | inl l ↦ (pos b, inl (l, omega (arith, m), refl))
      | inr l ↦ (pos b -ℤ pos 128, inr (l, k, omega (arith, m), refl))
    ]

-- its last byte, and a byte before it
pub last_has : (bytes : List ℕ) (at : ℕ) → at < length bytes → get_or bytes at 0 < 128 → HasBits 7 (drop at bytes) (drop (at + 1) bytes)
last_has bytes at within small s bits h =
    let l = last_here s bits (get_or bytes at 0) h small in (l.0, one_there s bits bytes at l.0 within l.1)

pub more_has : (least : ℕ) (bytes : List ℕ) (at : ℕ) (rest : List ℕ) → 1 ≤ least → at < length bytes → 128 ≤ get_or bytes at 0 → get_or bytes at 0 < 256 → HasBits least (drop (at + 1) bytes) rest → HasBits (least + 7) (drop at bytes) rest
more_has least bytes at rest some within large few h s bits k =
    let x = h s (bits - 7) (omega arith) in
    (pos 128 *ℤ x.0 +ℤ pos (get_or bytes at 0 - 128), more_there s bits bytes at _ x.0 rest within large few (omega arith) refl x.1)

pub wide_has : (least : ℕ) (bytes rest : List ℕ) → least ≤ 28 → HasBits least bytes rest → HasNumber bytes rest
wide_has least bytes rest few h s bits k = h s bits (omega arith)

-- ---- words

index_of : (bytes : List ℕ) (v : ℤ) (rest : List ℕ) → InRange unsigned 32 v → Spells unsigned 32 bytes v rest → (n : ℕ) × SpellsIndex bytes n rest
index_of bytes (pos n) rest r h = (n, h)
index_of bytes (negsuc n) rest r h = absurd r

has_index : (bytes rest : List ℕ) → HasNumber bytes rest → (n : ℕ) × SpellsIndex bytes n rest
has_index bytes rest h = let x = h unsigned 32 (omega arith) in index_of bytes x.0 rest (in_range unsigned 32 bytes x.0 rest x.1) x.1

pub nothing_spelled : (f : Form) (bytes : List ℕ) → tails.Nothing ≡ form_tail f → (p : Plain) × SpellsForm f bytes (one p) bytes
nothing_spelled (forms.Plain p) bytes e = (p, (refl, refl))
nothing_spelled _ bytes e = absurd cc

pub number_spelled : (f : Form) (bytes rest : List ℕ) → tails.Number ≡ form_tail f → HasNumber bytes rest → (p : Plain) × SpellsForm f bytes (one p) rest
number_spelled (forms.Indexed i) bytes rest e h = let x = has_index bytes rest h in (indexed_plain i x.0, (x.0, refl, x.1))
number_spelled (forms.Const I32) bytes rest e h =
    let x = h signed 32 (omega arith) in
    let n = cast_unsigned w32 x.0 in
    (plains.Const (values.I32 n), (n, refl, (x.0, refl, x.1)))
number_spelled (forms.Const I64) bytes rest e h =
    let x = h signed 64 (omega arith) in
    let n = cast_unsigned w64 x.0 in
    (plains.Const (values.I64 n), (n, refl, (x.0, refl, x.1)))
number_spelled _ bytes rest e h = absurd cc

pub two_spelled : (f : Form) (bytes middle rest : List ℕ) → tails.Two ≡ form_tail f → HasNumber bytes middle → HasNumber middle rest → (p : Plain) × SpellsForm f bytes (one p) rest
two_spelled (forms.Load op) bytes middle rest e h k =
    let x = has_index bytes middle h in
    let y = has_index middle rest k in
    let arg : MemArg = record { align = x.0; offset = y.0 } in
    (plains.Load op arg, (arg, refl, (middle, x.1, y.1)))
two_spelled (forms.Store op) bytes middle rest e h k =
    let x = has_index bytes middle h in
    let y = has_index middle rest k in
    let arg : MemArg = record { align = x.0; offset = y.0 } in
    (plains.Store op arg, (arg, refl, (middle, x.1, y.1)))
two_spelled _ bytes middle rest e h k = absurd cc

-- with its opcode
pub with_opcode : (bytes : List ℕ) (at : ℕ) (rest : List ℕ) → at < length bytes → (p : Plain) × SpellsForm (form (get_or bytes at 0)) (drop (at + 1) bytes) (one p) rest → (p : Plain) × SpellsWord (drop at bytes) (one p) rest
with_opcode bytes at rest within h = (h.0, known_word bytes at (form (get_or bytes at 0)) (one h.0) rest within refl h.1)

-- ---- rows of opcodes with one tail

pub tails_in : (first count : ℕ) (t : Tail) (n : ℕ) → map (λ i. form_tail (form_in rows i)) (from first count) ≡ replicate count t → first ≤ n → n < first + count → t ≡ form_tail (form n)
unfolding form
tails_in first count t n e low high =
    let here : first + (n - first) ≡ n = omega arith in
    let within : n - first < count = omega arith in
    sym (get_or-replicate count (n - first) t t within) ∙ ap (λ l. get_or l (n - first) t) (sym e)
    ∙ map_from (λ i. form_tail (form_in rows i)) first count (n - first) t within ∙ ap (λ i. form_tail (form_in rows i)) here

-- numbers of one to four bytes, where bytes are below 256
pub one_byte : (bytes : List ℕ) (at : ℕ) → at < length bytes → get_or bytes at 0 < 128 → HasNumber (drop at bytes) (drop (at + 1) bytes)
one_byte bytes at within small = wide_has 7 (drop at bytes) (drop (at + 1) bytes) (omega arith) (last_has bytes at within small)

two_has : (bytes : List ℕ) (at : ℕ) → ((i : ℕ) → get_or bytes i 0 < 256) → at + 1 < length bytes → 128 ≤ get_or bytes at 0 → get_or bytes (at + 1) 0 < 128 → HasBits 14 (drop at bytes) (drop (at + 2) bytes)
two_has bytes at fit within large small =
    let e : at + 1 + 1 ≡ at + 2 = omega arith in
    more_has 7 bytes at (drop (at + 2) bytes) (omega arith) (omega arith) large (fit at) (subst (λ n. HasBits 7 (drop (at + 1) bytes) (drop n bytes)) e (last_has bytes (at + 1) within small))

pub two_bytes : (bytes : List ℕ) (at : ℕ) → ((i : ℕ) → get_or bytes i 0 < 256) → at + 1 < length bytes → 128 ≤ get_or bytes at 0 → get_or bytes (at + 1) 0 < 128 → HasNumber (drop at bytes) (drop (at + 2) bytes)
two_bytes bytes at fit within large small = wide_has 14 (drop at bytes) (drop (at + 2) bytes) (omega arith) (two_has bytes at fit within large small)

three_has : (bytes : List ℕ) (at : ℕ) → ((i : ℕ) → get_or bytes i 0 < 256) → at + 2 < length bytes → 128 ≤ get_or bytes at 0 → 128 ≤ get_or bytes (at + 1) 0 → get_or bytes (at + 2) 0 < 128 → HasBits 21 (drop at bytes) (drop (at + 3) bytes)
three_has bytes at fit within large next small =
    let e : at + 1 + 1 ≡ at + 2 = omega arith in
    let f : at + 1 + 2 ≡ at + 3 = omega arith in
    more_has 14 bytes at (drop (at + 3) bytes) (omega arith) (omega arith) large (fit at)
    (subst (λ n. HasBits 14 (drop (at + 1) bytes) (drop n bytes)) f (two_has bytes (at + 1) fit (omega arith) next (subst (λ n. get_or bytes n 0 < 128) (sym e) small)))

pub three_bytes : (bytes : List ℕ) (at : ℕ) → ((i : ℕ) → get_or bytes i 0 < 256) → at + 2 < length bytes → 128 ≤ get_or bytes at 0 → 128 ≤ get_or bytes (at + 1) 0 → get_or bytes (at + 2) 0 < 128 → HasNumber (drop at bytes) (drop (at + 3) bytes)
three_bytes bytes at fit within large next small = wide_has 21 (drop at bytes) (drop (at + 3) bytes) (omega arith) (three_has bytes at fit within large next small)

pub four_bytes : (bytes : List ℕ) (at : ℕ) → ((i : ℕ) → get_or bytes i 0 < 256) → at + 3 < length bytes → 128 ≤ get_or bytes at 0 → 128 ≤ get_or bytes (at + 1) 0 → 128 ≤ get_or bytes (at + 2) 0 → get_or bytes (at + 3) 0 < 128 → HasNumber (drop at bytes) (drop (at + 4) bytes)
four_bytes bytes at fit within large next third small =
    let e : at + 1 + 1 ≡ at + 2 = omega arith in
    let f : at + 1 + 2 ≡ at + 3 = omega arith in
    let g : at + 1 + 3 ≡ at + 4 = omega arith in
    wide_has 28 (drop at bytes) (drop (at + 4) bytes) (omega arith) (more_has 21 bytes at (drop (at + 4) bytes) (omega arith) (omega arith) large (fit at)
    (subst (λ n. HasBits 21 (drop (at + 1) bytes) (drop n bytes)) g
    (three_has bytes (at + 1) fit (omega arith) next (subst (λ n. 128 ≤ get_or bytes n 0) (sym e) third) (subst (λ n. get_or bytes n 0 < 128) (sym f) small))))

-- an instruction with one number, and one with two
pub number_passes : (bytes : List ℕ) (at : ℕ) (r : Option ℕ) → at < length bytes → tails.Number ≡ form_tail (form (get_or bytes at 0)) → IfSome r (λ next. (at + 1 < next) × (next ≤ length bytes) × HasNumber (drop (at + 1) bytes) (drop next bytes))
    → IfSome r (λ next. (at < next) × (next ≤ length bytes) × (p : Plain) × SpellsWord (drop at bytes) (one p) (drop next bytes))
number_passes bytes at None within e h = h
number_passes bytes at (Some next) within e h =
    let w = with_opcode bytes at (drop next bytes) within (number_spelled (form (get_or bytes at 0)) (drop (at + 1) bytes) (drop next bytes) e h.2) in
    let past = h.0 in
    (omega (arith, past), h.1, w.0, w.1)

pub two_pass : (bytes : List ℕ) (at middle : ℕ) (r : Option ℕ) → at < length bytes → tails.Two ≡ form_tail (form (get_or bytes at 0)) → at + 1 < middle → HasNumber (drop (at + 1) bytes) (drop middle bytes)
    → IfSome r (λ next. (middle < next) × (next ≤ length bytes) × HasNumber (drop middle bytes) (drop next bytes))
    → IfSome r (λ next. (at < next) × (next ≤ length bytes) × (p : Plain) × SpellsWord (drop at bytes) (one p) (drop next bytes))
two_pass bytes at middle None within e first k h = h
two_pass bytes at middle (Some next) within e first k h =
    let w = with_opcode bytes at (drop next bytes) within (two_spelled (form (get_or bytes at 0)) (drop (at + 1) bytes) (drop middle bytes) (drop next bytes) e k h.2) in
    let past = h.0 in
    (omega (arith, past), h.1, w.0, w.1)

-- an `end` at its opcode
pub end_stands : (bytes : List ℕ) (at : ℕ) → at < length bytes → get_or bytes at 0 ≡ 11 → SpellsWord (drop at bytes) end (drop (at + 1) bytes)
unfolding form
end_stands bytes at within e = known_word bytes at forms.End end (drop (at + 1) bytes) within (ap form e) (refl, refl)
