-- Bytes with their number before them.
use Rattle.std.proofs.Common.{◌≡◌, ℕ, ◌+◌, ◌-◌, ◌<◌, ◌≤◌, List, ◌++◌, length, take, drop, pos, Result, Ok, Err, is_ok, true, false, MatchResult, ap, sym, subst, ◌∙◌, arith, length-append, length-drop}
use Rattle.std.proofs.lemmas.List.{take-append-drop, drop-drop, drop-take, length-take-le}
use Rattle.leb.specs.Number.{unsigned}
use Rattle.leb.proofs.Grammar.{spelling_shorter}
use Rattle.std.specs.Str.{IsUtf8}
use Rattle.wcode.specs.Grammar.{SpellsIndex}
use Rattle.wcode.proofs.Words.{index_once}
use Rattle.wmodule.specs.Grammar.{SpellsBytes, SpellsName}
use Rattle.wbin.specs.inside.Reading.{Nothing}
use Rattle.wbin.specs.inside.Unique.{bytes_once}

-- an index has a byte at least
pub index_ends : (bytes : List ℕ) (at n next : ℕ) → at ≤ length bytes → next ≤ length bytes → SpellsIndex (drop at bytes) n (drop next bytes) → at < next
index_ends bytes at n next p q h =
    let l = spelling_shorter unsigned 32 (drop at bytes) (pos n) (drop next bytes) h in
    omega (arith, l, length-drop at bytes, length-drop next bytes)

-- what `bytes[start..start + size]` is
pub part_length : (bytes : List ℕ) (start size : ℕ) → start + size ≤ length bytes → length (take ((start + size) - start) (drop start bytes)) ≡ size
part_length bytes start size h =
    let e : (start + size) - start ≡ size = omega arith in
    let l : size ≤ length (drop start bytes) = omega (arith, length-drop start bytes) in
    subst (λ n. length (take n (drop start bytes)) ≡ size) (sym e) (length-take-le size (drop start bytes) l)

pub part_spelled : (bytes : List ℕ) (at start size : ℕ) → start + size ≤ length bytes → SpellsIndex (drop at bytes) size (drop start bytes)
    → SpellsBytes (drop at bytes) (take ((start + size) - start) (drop start bytes)) (drop (start + size) bytes)
part_spelled bytes at start size h k =
    let e : (start + size) - start ≡ size = omega arith in
    let p : take size (drop start bytes) ++ drop (start + size) bytes ≡ drop start bytes =
    ap (λ l. take size (drop start bytes) ++ l) (sym (drop-drop size start bytes)) ∙ take-append-drop size (drop start bytes) in
    let q : take ((start + size) - start) (drop start bytes) ++ drop (start + size) bytes ≡ drop start bytes =
    ap (λ n. take n (drop start bytes) ++ drop (start + size) bytes) e ∙ p in
    subst (λ l. SpellsIndex (drop at bytes) (length (take ((start + size) - start) (drop start bytes))) l) (sym q)
    (subst (λ n. SpellsIndex (drop at bytes) n (drop start bytes)) (sym (part_length bytes start size h)) k)

pub part_within : (bytes : List ℕ) (start size : ℕ) → start + size ≤ length bytes
    → take ((start + size) - start) (drop start bytes) ≡ drop ((start + size) - length (take ((start + size) - start) (drop start bytes))) (take (start + size) bytes)
part_within bytes start size h =
    let e : (start + size) - start ≡ size = omega arith in
    let l = part_length bytes start size h in
    let f : (start + size) - length (take ((start + size) - start) (drop start bytes)) ≡ start = omega (arith, l) in
    ap (λ n. take n (drop start bytes)) e ∙ sym (drop-take start size bytes) ∙ sym (ap (λ n. drop n (take (start + size) bytes)) f)

-- the bytes are too few
pub part_none : (bytes : List ℕ) (at start size : ℕ) → start ≤ length bytes → length bytes < start + size → SpellsIndex (drop at bytes) size (drop start bytes) → Nothing SpellsBytes (drop at bytes)
part_none bytes at start size p h k contents rest s =
    let q = index_once (drop at bytes) size (length contents) (drop start bytes) (contents ++ rest) k s in
    let l : length (drop start bytes) ≡ length (contents ++ rest) = ap length q.1 in
    omega (arith, q.0, l, length-append contents rest, length-drop start bytes)

-- the bytes aren't UTF-8
pub name_none : (bytes name rest : List ℕ) → SpellsBytes bytes name rest → (IsUtf8 name → ⊥) → Nothing SpellsName bytes
name_none bytes name rest h none other more k =
    let p = bytes_once bytes name other rest more h k.0 in none (subst IsUtf8 (sym p.0) k.1)

pub not_utf8 : {T E : Type 0} (P : T → Type 0) (Q : E → Type 0) (name : List ℕ) (r : Result T E) → is_ok r ≡ false → MatchResult r P (λ e. ¬ (IsUtf8 name) × Q e) → IsUtf8 name → ⊥
not_utf8 P Q name (Ok x) e h = cc e
not_utf8 P Q name (Err x) e h = h.0

pub is_utf8 : {T E : Type 0} (P : T → Type 0) (Q : E → Type 0) (name : List ℕ) (r : Result T E) → is_ok r ≡ true → MatchResult r (λ s. P s × IsUtf8 name) Q → IsUtf8 name
is_utf8 P Q name (Ok x) e h = h.1
is_utf8 P Q name (Err x) e h = absurd (cc e)
