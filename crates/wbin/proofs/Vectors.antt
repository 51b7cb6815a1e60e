-- Things that stand one after the other.
use Rattle.std.proofs.Common.{◌≡◌, ℕ, ◌+◌, ◌<◌, ◌≤◌, List, [], ◌∷◌, ◌++◌, map, length, drop, Result, Ok, Err, refl, ap, sym, subst, ◌∙◌, arith, length-append}
use Rattle.wcode.specs.declared.fault.BinFault.{BinFault}
use Rattle.wcode.specs.Grammar.{SpellsIndex}
use Rattle.wcode.proofs.Words.{index_once}
use Rattle.wmodule.specs.Grammar.{Spelling, SpellsEach, SpellsVector}
use Rattle.wbin.specs.inside.Reading.{Nothing, Once, Reads, SpellsBoth, SpellsMany}

-- one more behind
pub each_push : {A : Type 0} (S : Spelling A) (bytes : List ℕ) (xs : List A) (more : List ℕ) (x : A) (rest : List ℕ) → SpellsEach S bytes xs more → S more x rest → SpellsEach S bytes (xs ++ x ∷ []) rest
unfolding SpellsEach
each_push S bytes [] more x rest h k = (rest, subst (λ l. S l x rest) (sym h) k, refl)
each_push S bytes (y ∷ xs) more x rest h k = (h.0, h.1, each_push S h.0 xs more x rest h.2 k)

-- where more are spelled, the next one is
pub each_next : {A : Type 0} (S : Spelling A) → Once S → (bytes : List ℕ) (xs ys : List A) (more rest : List ℕ) → length xs < length ys → SpellsEach S bytes xs more → SpellsEach S bytes ys rest
    → (y : A) × (after : List ℕ) × S more y after
unfolding SpellsEach
each_next S once bytes [] [] more rest l h k = absurd (omega arith)
each_next S once bytes [] (y ∷ ys) more rest l h k = (y, k.0, subst (λ b. S b y k.0) h k.1)
each_next S once bytes (x ∷ xs) [] more rest l h k = absurd (omega arith)
each_next S once bytes (x ∷ xs) (y ∷ ys) more rest l h k =
    let p = once bytes x y h.0 k.0 h.1 k.1 in
    each_next S once h.0 xs ys more rest (omega arith) h.2 (subst (λ b. SpellsEach S b ys rest) (sym p.1) k.2)

-- So many have been read.
pub record HasEach {A B : Type 0} (S : Spelling B) (seen : A → B) (bytes : List ℕ) (at : ℕ) (xs : List A) (place count : ℕ) : Type 0 where
  pub within : place ≤ length bytes
  pub counted : length (map seen xs) ≡ count
  pub spelled : SpellsEach S (drop at bytes) (map seen xs) (drop place bytes)

pub each_none_yet : {A B : Type 0} (S : Spelling B) (seen : A → B) (bytes : List ℕ) (at : ℕ) (xs : List A) → xs ≡ [] → at ≤ length bytes → HasEach S seen bytes at xs at 0
unfolding SpellsEach
each_none_yet S seen bytes at xs e h = subst (λ l. HasEach S seen bytes at l at 0) (sym e) (record { within = h; counted = refl; spelled = refl })

pub map_push : {A B : Type 0} (f : A → B) (xs : List A) (x : A) → map f (xs ++ x ∷ []) ≡ map f xs ++ f x ∷ []
map_push f [] x = refl
map_push f (y ∷ xs) x = ap (λ l. f y ∷ l) (map_push f xs x)

pub each_more : {A B : Type 0} (S : Spelling B) (seen : A → B) (bytes : List ℕ) (at : ℕ) (xs : List A) (place count : ℕ) (x : A) (next : ℕ) (ys : List A) → ys ≡ xs ++ x ∷ []
    → HasEach S seen bytes at xs place count → Reads S seen bytes place (Ok (x, next)) → HasEach S seen bytes at ys next (count + 1)
unfolding Reads
each_more S seen bytes at xs place count x next ys e h k =
    let m = map_push seen xs x in
    let l : length (map seen xs ++ seen x ∷ []) ≡ count + 1 = omega (arith, h.counted, length-append (map seen xs) (seen x ∷ [])) in
    let s = each_push S (drop at bytes) (map seen xs) (drop place bytes) (seen x) (drop next bytes) h.spelled k.1 in
    subst (λ z. HasEach S seen bytes at z next (count + 1)) (sym e) (record {
      within = k.0;
      counted = ap length m ∙ l;
      spelled = subst (λ z. SpellsEach S (drop at bytes) z (drop next bytes)) (sym m) s;
    })

pub each_missing : {A B : Type 0} (S : Spelling B) (seen : A → B) (bytes : List ℕ) (at : ℕ) (xs : List A) (place count all : ℕ) → Once S → count < all → HasEach S seen bytes at xs place count
    → Nothing S (drop place bytes) → Nothing (SpellsMany all S) (drop at bytes)
each_missing S seen bytes at xs place count all once l h none ys rest k =
    let p = each_next S once (drop at bytes) (map seen xs) ys (drop place bytes) rest (omega (arith, h.counted, k.0)) h.spelled k.1 in
    none p.0 p.1 p.2

-- a count, and as many things
pub vector_reads : {C A : Type 0} (S : Spelling A) (f : C → List A) (bytes : List ℕ) (at count first : ℕ) (r : Result (C × ℕ) BinFault) → SpellsIndex (drop at bytes) count (drop first bytes)
    → Reads (SpellsMany count S) f bytes first r → Reads (SpellsVector S) f bytes at r
unfolding Reads
vector_reads S f bytes at count first (Ok x) h k =
    (k.0, (drop first bytes, subst (λ n. SpellsIndex (drop at bytes) n (drop first bytes)) (sym k.1.0) h, k.1.1))
vector_reads S f bytes at count first (Err e) h k = λ m ys rest v.
    (let p = index_once (drop at bytes) count (length ys) (drop first bytes) v.0 h v.1 in
    k m ys rest (sym p.0, subst (λ b. SpellsEach S b ys rest) (sym p.1) v.2))

-- of two things, the first doesn't stand there, or the second doesn't behind it
pub first_missing : {A B : Type 0} (S : Spelling A) (T : Spelling B) (bytes : List ℕ) → Nothing S bytes → Nothing (SpellsBoth S T) bytes
first_missing S T bytes none both rest stand = none both.0 stand.0 stand.1

pub second_missing : {A B : Type 0} (S : Spelling A) (T : Spelling B) → Once S → (bytes : List ℕ) (x : A) (more : List ℕ) → S bytes x more → Nothing T more
    → Nothing (SpellsBoth S T) bytes
second_missing S T once bytes x more first none both rest stand =
    none both.1 rest (subst (λ l. T l both.1 rest) (once bytes both.0 x stand.0 more stand.1 first).1 stand.2)
