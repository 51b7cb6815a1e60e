-- More containers, or larger ones, never need less together at the moment when they need most.
use Rattle.std.proofs.Common.{◌≡◌, ◌⊎◌, inl, inr, ℕ, ◌+◌, ◌^◌, ◌≤◌, max, min, Bool, true, false, List, [], ◌∷◌, refl, sym, ap, subst, ◌∙◌, arith}
use Rattle.std.specs.Prelude.{if◌then◌else◌}
use Rattle.std.specs.List.{fold}
use Rattle.quant.specs.declared.amount.Request.{Request}
use Rattle.objects.specs.declared.containers.Container.{Container}
use Rattle.objects.specs.declared.resource.Resource.{Resource}
use Rattle.objects.specs.declared.resource.Resource.TheVariants.{Cpu, Memory, Pods}
use Rattle.objects.specs.Amounts.{at_most}
use Rattle.objects.specs.Containers.{of, larger, unread, together, beside_others, peak, effective}
use Rattle.objects.specs.Enough.{IsNoMore}

-- ---- requests

pub no_more_self : (a : Request) → IsNoMore a a
no_more_self a = (omega arith, omega arith)

pub no_more_trans : (a b c : Request) → IsNoMore a b → IsNoMore b c → IsNoMore a c
no_more_trans a b c ab bc = (omega (arith, ab.0, bc.0), omega (arith, ab.1, bc.1))

-- what is within the limits is no more than the least of these and of more
pub within_most : (a : Request) (cpu memory : ℕ) → a.cpu.0 ≤ cpu → a.mem.0 ≤ memory → IsNoMore a (at_most cpu memory)
unfolding at_most
within_most a cpu memory c m = let wc = a.within_cpu in let wm = a.within_mem in (omega (arith, c, wc), omega (arith, m, wm))

pub larger_left : (a b : Request) → IsNoMore a (larger a b)
unfolding larger
larger_left a b = within_most a (max a.cpu.0 b.cpu.0) (max a.mem.0 b.mem.0) (omega arith) (omega arith)

pub larger_right : (a b : Request) → IsNoMore b (larger a b)
unfolding larger
larger_right a b = within_most b (max a.cpu.0 b.cpu.0) (max a.mem.0 b.mem.0) (omega arith) (omega arith)

pub larger_more : (a b c d : Request) → IsNoMore a c → IsNoMore b d → IsNoMore (larger a b) (larger c d)
unfolding larger at_most
larger_more a b c d ac bd = (omega (arith, ac.0, bd.0), omega (arith, ac.1, bd.1))

pub amount_more : (r : Resource) (a b : Request) → IsNoMore a b → of r a ≤ of r b
amount_more Cpu a b h = h.0
amount_more Memory a b h = h.1
amount_more Pods a b h = omega arith

-- ---- containers

-- a container goes on running if another does, and asks for no less
abbrev pub IsCovered : Container → Container → Type 0
IsCovered x y = (x.goes_on ≡ true → y.goes_on ≡ true) × IsNoMore x.request y.request

-- those of a row stand in another, in their order, and ask for no less there
abbrev pub AreCovered : List Container → List Container → Type 0
AreCovered [] ys = Unit {0}
AreCovered (x ∷ xs) [] = ⊥
AreCovered (x ∷ xs) (y ∷ ys) = (IsCovered x y × AreCovered xs ys) ⊎ AreCovered (x ∷ xs) ys

-- what is counted of containers covers them, or is the most
abbrev pub IsCounted : List Container → List Container → Type 0
IsCounted xs ys = AreCovered xs ys ⊎ (ys ≡ unread ∷ [])

-- a sum over them
pub fold_from : (f : Container → ℕ) (a : ℕ) (cs : List Container) → a ≤ fold (λ a c. a + f c) a cs
fold_from f a [] = omega arith
fold_from f a (c ∷ cs) = omega (arith, fold_from f (a + f c) cs)

fold_more : (f : Container → ℕ) → ((x y : Container) → IsCovered x y → f x ≤ f y) → (xs ys : List Container) (a b : ℕ) → AreCovered xs ys → a ≤ b
    → fold (λ a c. a + f c) a xs ≤ fold (λ a c. a + f c) b ys
fold_more f one [] ys a b all less = omega (arith, less, fold_from f b ys)
fold_more f one (x ∷ xs) [] a b all less = absurd all
fold_more f one (x ∷ xs) (y ∷ ys) a b (inl all) less = fold_more f one xs ys (a + f x) (b + f y) all.1 (omega (arith, less, one x y all.0))
fold_more f one (x ∷ xs) (y ∷ ys) a b (inr all) less = fold_more f one (x ∷ xs) ys a (b + f y) all (omega (arith, less))

-- the most of all moments: while containers run that need so much, beside all init containers that
-- go on running, or while one of the others does, beside what goes on running of those before it
abbrev pub moments : Resource → (running before : ℕ) → List Container → ℕ
moments r running before cs = max (running + fold (λ a c. a + beside_others r c) before cs) (peak r before cs)

abbrev pub begun : Resource → (running before : ℕ) → (goes_on : Bool) → (amount : ℕ) → List Container → ℕ
begun r running before true n rest = moments r running (before + n) rest
begun r running before false n rest = max (before + n) (moments r running before rest)

begun_is : (r : Resource) (t b n : ℕ) (goes : Bool) (rest : List Container)
    → max (t + fold (λ a c. a + beside_others r c) (b + (if goes then n else 0)) rest) (if goes then peak r (b + n) rest else max (b + n) (peak r b rest)) ≡ begun r t b goes n rest
begun_is r t b n true rest = refl
begun_is r t b n false rest =
    let none : b + 0 ≡ b = omega arith in
    ap (λ m. max (t + fold (λ a c. a + beside_others r c) m rest) (max (b + n) (peak r b rest))) none ∙ omega arith

pub moments_begun : (r : Resource) (t b : ℕ) (c : Container) (rest : List Container) → moments r t b (c ∷ rest) ≡ begun r t b c.goes_on (of r c.request) rest
moments_begun r t b c rest = begun_is r t b (of r c.request) c.goes_on rest

pub moments_from : (r : Resource) (t b : ℕ) (cs : List Container) → t + b ≤ moments r t b cs
moments_from r t b cs = omega (arith, fold_from (beside_others r) b cs)

both_begun : (r : Resource) (t u a b n m : ℕ) (x y : Bool) (xs ys : List Container) → (x ≡ true → y ≡ true) → n ≤ m → a ≤ b
    → moments r t (a + n) xs ≤ moments r u (b + m) ys → moments r t a xs ≤ moments r u (b + m) ys → moments r t a xs ≤ moments r u b ys
    → begun r t a x n xs ≤ begun r u b y m ys
both_begun r t u a b n m true true xs ys goes one start both later same = both
both_begun r t u a b n m true false xs ys goes one start both later same = absurd (let no : false ≡ true = goes refl in cc)
both_begun r t u a b n m false true xs ys goes one start both later same = omega (arith, one, start, later, moments_from r u (b + m) ys)
both_begun r t u a b n m false false xs ys goes one start both later same = omega (arith, one, start, same)

one_begun : (r : Resource) (k u b m : ℕ) (y : Bool) (ys : List Container) → k ≤ moments r u (b + m) ys → k ≤ moments r u b ys → k ≤ begun r u b y m ys
one_begun r k u b m true ys later same = later
one_begun r k u b m false ys later same = omega (arith, same)

moments_more : (r : Resource) (xs ys : List Container) (t u a b : ℕ) → AreCovered xs ys → t ≤ u → a ≤ b → moments r t a xs ≤ moments r u b ys
moments_more r [] ys t u a b all more less = omega (arith, more, less, moments_from r u b ys)
moments_more r (x ∷ xs) [] t u a b all more less = absurd all
moments_more r (x ∷ xs) (y ∷ ys) t u a b (inl all) more less =
    let n = of r x.request in
    let m = of r y.request in
    let one : n ≤ m = amount_more r x.request y.request all.0.1 in
    subst (λ k. k ≤ moments r u b (y ∷ ys)) (sym (moments_begun r t a x xs))
    (subst (λ k. begun r t a x.goes_on n xs ≤ k) (sym (moments_begun r u b y ys))
    (both_begun r t u a b n m x.goes_on y.goes_on xs ys all.0.0 one less
    (moments_more r xs ys t u (a + n) (b + m) all.1 more (omega (arith, one, less)))
    (moments_more r xs ys t u a (b + m) all.1 more (omega (arith, less)))
    (moments_more r xs ys t u a b all.1 more less)))
moments_more r (x ∷ xs) (y ∷ ys) t u a b (inr all) more less =
    let m = of r y.request in
    subst (λ k. moments r t a (x ∷ xs) ≤ k) (sym (moments_begun r u b y ys))
    (one_begun r (moments r t a (x ∷ xs)) u b m y.goes_on ys
    (moments_more r (x ∷ xs) ys t u a (b + m) all more (omega (arith, less)))
    (moments_more r (x ∷ xs) ys t u a b all more less))

-- ---- what they come to

effective_more : (r : Resource) (xs ys init there : List Container) (overhead taken : Request) → AreCovered xs ys → AreCovered init there → IsNoMore overhead taken
    → effective r xs init overhead ≤ effective r ys there taken
unfolding effective
effective_more r xs ys init there overhead taken all first less =
    let side = fold_more (λ c. of r c.request) (λ x y one. amount_more r x.request y.request one.1) xs ys 0 0 all (omega arith) in
    omega (arith, moments_more r init there (together r xs) (together r ys) 0 0 first side (omega arith), amount_more r overhead taken less)

-- where containers can't be read they come to the most that a line can say
pub unread_cpu : of Cpu unread.request ≡ 2 ^ 30
unfolding at_most
unread_cpu = refl

pub unread_memory : of Memory unread.request ≡ 2 ^ 44
unfolding at_most
unread_memory = refl

-- what is counted of containers comes to no less, or to the most
pub effective_counted : (r : Resource) (xs ys init there : List Container) (overhead taken : Request) → IsCounted xs ys → IsCounted init there → IsNoMore overhead taken
    → min (of r unread.request) (effective r xs init overhead) ≤ effective r ys there taken
unfolding effective
effective_counted r xs ys init there overhead taken (inl all) (inl first) less = omega (arith, effective_more r xs ys init there overhead taken all first less)
effective_counted r xs ys init there overhead taken (inr none) first less =
    subst (λ cs. min (of r unread.request) (effective r xs init overhead) ≤ effective r cs there taken) (sym none) (omega arith)
effective_counted r xs ys init there overhead taken (inl all) (inr none) less =
    subst (λ cs. min (of r unread.request) (effective r xs init overhead) ≤ effective r ys cs taken) (sym none) (omega arith)
