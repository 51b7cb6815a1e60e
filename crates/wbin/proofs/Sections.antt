-- Sections in their order.
use Rattle.std.proofs.Common.{◌≡◌, ◌≢◌, ℕ, ◌+◌, max, ◌<◌, ◌≤◌, ◌⊎◌, inl, inr, List, [], ◌∷◌, ◌++◌, map, length, take, drop, Some, None, Ok, Err, refl, ap, sym, subst, ◌∙◌, arith, length-drop, append_assoc}
use Rattle.std.specs.List.{All}
use Rattle.std.proofs.lemmas.List.Elements.{All-nil, All-push}
use Rattle.std.proofs.lemmas.List.{append-nil}
use Rattle.std.proofs.Math.ListN.{drop_of_length-le}
use Rattle.wcode.specs.declared.fault.BinFault.{BinFault}
use Rattle.wcode.specs.declared.fault.BinFault.TheVariants.{NoMemory}
use Rattle.wbin.specs.declared.section.Stretch.{Stretch}
use Rattle.wmodule.specs.Grammar.{SpellsEach, SpellsBytes, SpellsName, Section, SpellsSection, InOrder}
use Rattle.wbin.specs.inside.Reading.{Nothing}
use Rattle.wbin.specs.inside.Unique.{byte_once, bytes_once, section_once}
use Rattle.wbin.specs.inside.Outline.{section_of, MayFollow, Within, ReadsStretch, OutlinesUpTo}
use Rattle.wbin.proofs.Vectors.{each_push, map_push}

-- These sections have been found.
pub record HasOutline (bytes : List ℕ) (at : ℕ) (items : List Stretch) (place above : ℕ) : Type 0 where
  pub within : place ≤ length bytes
  pub each : All (Within bytes) items
  pub spelled : SpellsEach SpellsSection (drop at bytes) (map (section_of bytes) items) (drop place bytes)
  pub sound : (more : List Section) → InOrder above more → InOrder 0 (map (section_of bytes) items ++ more)
  pub only : (more : List Section) → InOrder 0 (map (section_of bytes) items ++ more) → InOrder above more

pub outline_begins : (bytes : List ℕ) (at : ℕ) (items : List Stretch) → items ≡ [] → at ≤ length bytes → HasOutline bytes at items at 0
unfolding SpellsEach
outline_begins bytes at items e h = subst (λ l. HasOutline bytes at l at 0) (sym e)
    (record { within = h; each = All-nil (Within bytes); spelled = refl; sound = λ more i. i; only = λ more i. i })

follows_sound : (above : ℕ) (s : Section) (more : List Section) → MayFollow above s → InOrder (max above s.id) more → InOrder above (s ∷ more)
unfolding InOrder
follows_sound above s more may i = elim may [
  | inl c ↦ (let e : max above s.id ≡ above = omega (arith, c.0) in inl (c, subst (λ n. InOrder n more) e i))
  | inr p ↦ (let e : max above s.id ≡ s.id = omega (arith, p.0) in inr (p.0, p.1, subst (λ n. InOrder n more) e i))
]

follows_only : (above : ℕ) (s : Section) (more : List Section) → InOrder above (s ∷ more) → InOrder (max above s.id) more
unfolding InOrder
follows_only above s more i = elim i [
  | inl c ↦ (let e : above ≡ max above s.id = omega (arith, c.0.0) in subst (λ n. InOrder n more) e c.1)
  | inr p ↦ (let e : s.id ≡ max above s.id = omega (arith, p.0) in subst (λ n. InOrder n more) e p.2)
]

follows : (above : ℕ) (s : Section) (more : List Section) → InOrder above (s ∷ more) → MayFollow above s
unfolding InOrder
follows above s more i = elim i [ inl c ↦ inl c.0 | inr p ↦ inr (p.0, p.1) ]

pushed : (bytes : List ℕ) (items : List Stretch) (s : Stretch) (more : List Section) → map (section_of bytes) (items ++ s ∷ []) ++ more ≡ map (section_of bytes) items ++ section_of bytes s ∷ more
pushed bytes items s more = ap (λ l. l ++ more) (map_push (section_of bytes) items s) ∙ append_assoc (map (section_of bytes) items) (section_of bytes s ∷ []) more

pub outline_more : (bytes : List ℕ) (at : ℕ) (items : List Stretch) (place above : ℕ) (s : Stretch) (others : List Stretch) (next : ℕ) → others ≡ items ++ s ∷ [] → next ≡ max above s.id
    → HasOutline bytes at items place above → ReadsStretch bytes place above (Ok s) → HasOutline bytes at others s.end next
unfolding ReadsStretch
outline_more bytes at items place above s others next e f h k =
    let x = section_of bytes s in
    let g : HasOutline bytes at (items ++ s ∷ []) s.end (max above s.id) = record {
      within = k.1.1;
      each = All-push (Within bytes) items s h.each k.1;
      spelled = subst (λ l. SpellsEach SpellsSection (drop at bytes) l (drop s.end bytes)) (sym (map_push (section_of bytes) items s))
          (each_push SpellsSection (drop at bytes) (map (section_of bytes) items) (drop place bytes) x (drop s.end bytes) h.spelled k.2);
      sound = λ more i. subst (InOrder 0) (sym (pushed bytes items s more)) (h.sound (x ∷ more) (follows_sound above x more k.3 i));
      only = λ more i. follows_only above x more (h.only (x ∷ more) (subst (InOrder 0) (pushed bytes items s more) i));
    } in
    subst (λ n. HasOutline bytes at others s.end n) (sym f) (subst (λ l. HasOutline bytes at l s.end (max above s.id)) (sym e) g)

pub outline_ends : (bytes : List ℕ) (at : ℕ) (items : List Stretch) (place above : ℕ) → length bytes ≤ place → HasOutline bytes at items place above
    → OutlinesUpTo bytes at (map (section_of bytes) items) None
unfolding OutlinesUpTo InOrder
outline_ends bytes at items place above l h = (
  subst (λ r. SpellsEach SpellsSection (drop at bytes) (map (section_of bytes) items) r) (drop_of_length-le bytes l) h.spelled,
  subst (InOrder 0) (append-nil (map (section_of bytes) items)) (h.sound [] tt),
)

no_section : (s : Section) (rest : List ℕ) → SpellsSection [] s rest → ⊥
no_section s rest h = cc (h.1)

-- sections that fill the bytes begin with those that are spelled
pub each_extends : (bytes : List ℕ) (xs : List Section) (more : List ℕ) (zs : List Section) → SpellsEach SpellsSection bytes xs more → SpellsEach SpellsSection bytes zs []
    → (ys : List Section) × (zs ≡ xs ++ ys) × SpellsEach SpellsSection more ys []
unfolding SpellsEach
each_extends bytes [] more zs h k = (zs, refl, subst (λ b. SpellsEach SpellsSection b zs []) h k)
each_extends bytes (x ∷ xs) more [] h k = absurd (no_section x h.0 (subst (λ b. SpellsSection b x h.0) k h.1))
each_extends bytes (x ∷ xs) more (z ∷ zs) h k =
    let p = section_once bytes x z h.0 k.0 h.1 k.1 in
    let q = each_extends h.0 xs more zs h.2 (subst (λ b. SpellsEach SpellsSection b zs []) (sym p.1) k.2) in
    (q.0, ap (λ s. s ∷ zs) (sym p.0) ∙ ap (λ l. x ∷ l) q.1, q.2)

next_section : (bytes : List ℕ) (at above : ℕ) (e : BinFault) (ys : List Section) → at < length bytes → ReadsStretch bytes at above (Err e) → SpellsEach SpellsSection (drop at bytes) ys [] → InOrder above ys → ⊥
unfolding SpellsEach ReadsStretch
next_section bytes at above e [] l r h i = let z : length (drop at bytes) ≡ 0 = ap length h in omega (arith, z, length-drop at bytes)
next_section bytes at above e (y ∷ ys) l r h i = r.1 y h.0 h.1 (follows above y ys i)

fault_is : (bytes : List ℕ) (at above : ℕ) (e : BinFault) → ReadsStretch bytes at above (Err e) → e ≢ NoMemory
unfolding ReadsStretch
fault_is bytes at above e r = r.0

pub outline_fails : (bytes : List ℕ) (at : ℕ) (items : List Stretch) (place above : ℕ) (e : BinFault) → place < length bytes → HasOutline bytes at items place above → ReadsStretch bytes place above (Err e)
    → OutlinesUpTo bytes at (map (section_of bytes) items) (Some e)
unfolding OutlinesUpTo
outline_fails bytes at items place above e l h r = (
  fault_is bytes place above e r,
  λ others s i. (
      let p = each_extends (drop at bytes) (map (section_of bytes) items) (drop place bytes) others h.spelled s in
      next_section bytes place above e p.0 l r p.2 (h.only p.0 (subst (InOrder 0) p.1 i))),
)

nothing_left : (ys : List Section) → SpellsEach SpellsSection [] ys [] → ys ≡ []
unfolding SpellsEach
nothing_left [] h = refl
nothing_left (y ∷ ys) h = absurd (no_section y h.0 h.1)

-- bytes are filled by one list of sections at most
pub sections_once : (bytes : List ℕ) (xs zs : List Section) → SpellsEach SpellsSection bytes xs [] → SpellsEach SpellsSection bytes zs [] → xs ≡ zs
sections_once bytes xs zs h k =
    let p = each_extends bytes xs [] zs h k in
    sym (p.1 ∙ ap (λ l. xs ++ l) (nothing_left p.0 p.2) ∙ append-nil xs)

pub no_custom_name : (bytes more : List ℕ) (above id : ℕ) (contents inside after : List ℕ) → bytes ≡ id ∷ more → SpellsBytes more contents after → contents ≡ inside → id ≡ 0 → Nothing SpellsName inside
    → (s : Section) (rest : List ℕ) → SpellsSection bytes s rest → MayFollow above s → ⊥
no_custom_name bytes more above id contents inside after e h f z none s rest k may =
    let p = byte_once s.id id bytes k.0 more k.1 e in
    let q = bytes_once more contents s.contents after rest h (subst (λ b. SpellsBytes b s.contents rest) p.1 k.2) in
    elim may [
      | inl c ↦ none c.1.0 c.1.1 (subst (λ b. SpellsName b c.1.0 c.1.1) (sym q.0 ∙ f) c.1.2)
      | inr r ↦ omega (arith, r.0, p.0, z)
    ]

-- and where no contents stand behind its number there is none
pub no_contents : (bytes more : List ℕ) (id : ℕ) → bytes ≡ id ∷ more → Nothing SpellsBytes more → (s : Section) (rest : List ℕ) → SpellsSection bytes s rest → ⊥
no_contents bytes more id e none s rest k =
    let p = byte_once s.id id bytes k.0 more k.1 e in none s.contents rest (subst (λ b. SpellsBytes b s.contents rest) p.1 k.2)

-- what stands there is a section, where its number can follow and a custom one has a name
pub stretch_found : (bytes : List ℕ) (at above id start end : ℕ) (contents : List ℕ) → drop at bytes ≡ id ∷ drop (at + 1) bytes → at < end → start ≤ end → end ≤ length bytes
    → SpellsBytes (drop (at + 1) bytes) contents (drop end bytes) → contents ≡ drop start (take end bytes) → (id ≡ 0 ⊎ ((above < id) × (id ≤ 11)))
    → (id ≡ 0 → (name rest : List ℕ) × SpellsName (drop start (take end bytes)) name rest) → ReadsStretch bytes at above (Ok (record { id = id; at = at; start = start; end = end }))
unfolding ReadsStretch
stretch_found bytes at above id start end contents first past low within spelled same may named = (
  past,
  (low, within),
  (drop (at + 1) bytes, first, subst (λ c. SpellsBytes (drop (at + 1) bytes) c (drop end bytes)) same spelled),
  elim may [ inl z ↦ inl (z, named z) | inr r ↦ inr r ],
)

-- and none where its number can't follow
pub not_following : (bytes : List ℕ) (at above id : ℕ) (e : BinFault) → e ≢ NoMemory → drop at bytes ≡ id ∷ drop (at + 1) bytes → ((id ≡ 0 ⊎ ((above < id) × (id ≤ 11))) → ⊥) → ReadsStretch bytes at above (Err e)
unfolding ReadsStretch
not_following bytes at above id e known first never = (
  known,
  λ s rest k may. (
      let p = byte_once s.id id (drop at bytes) k.0 (drop (at + 1) bytes) k.1 first in
      never (elim may [ inl c ↦ inl (sym p.0 ∙ c.0) | inr r ↦ inr (subst (λ n. (above < n) × (n ≤ 11)) p.0 r) ])),
)
