-- Sets of names, and lists of exports with distinct names.
use Rattle.std.proofs.Common.{◌≡◌, ◌≢◌, ℕ, List, [], ◌∷◌, ◌++◌, Bool, true, false, cond, Bor, BTreeSet, refl, sym, ap, ◌∙◌, subst, inl, inr}
use Rattle.std.specs.Prelude.{◌⊎◌}
use Rattle.std.specs.List.{AllByRecursion, list_any}
use Rattle.std.specs.BTreeSet.{contains, contains_by, Updates}
use Rattle.std.specs.BTreeMap.{is_at}
use Rattle.std.specs.declared.cmp.Ordering.{Ordering}
use Rattle.std.specs.Ordering.{nat_cmp}
use Rattle.std.specs.Cmp.Lexicographic.{slice_cmp}
use Rattle.std.specs.Str.{bytes_eq}
use Rattle.std.proofs.lemmas.Map.Text.{is_eq-slice_cmp}
use Rattle.std.proofs.lemmas.Slice.Eq.{bytes_eq-Decides}
use Rattle.std.specs.Bool.{Decides}
use Rattle.wmodule.specs.Syntax.{ExportSyntax}
use Rattle.wtype.specs.Accepted.{DistinctNames}

-- names in the order of their bytes
abbrev pub name_cmp : Bor (List ℕ) → Bor (List ℕ) → Ordering
name_cmp a b = slice_cmp nat_cmp a.now b.now

-- the set has the names of these
abbrev pub HasNames : BTreeSet (Bor (List ℕ)) → List ExportSyntax → Type 0
HasNames names es = AllByRecursion (λ (e : ExportSyntax). (q : Bor (List ℕ)) → q.now ≡ e.name → contains name_cmp names q ≡ true) es

-- one of these has the name
abbrev pub Among : List ℕ → List ExportSyntax → Type 0
Among name [] = ⊥
Among name (e ∷ es) = (e.name ≡ name) ⊎ Among name es

-- the set has the names of these alone
abbrev pub OnlyNames : BTreeSet (Bor (List ℕ)) → List ExportSyntax → Type 0
OnlyNames names es = (q : Bor (List ℕ)) → contains name_cmp names q ≡ true → Among q.now es

-- a fact for each, with one more
all_more : {A : Type 0} (P : A → Type 0) (xs : List A) (x : A) → AllByRecursion P xs → P x → AllByRecursion P (xs ++ x ∷ [])
all_more P [] x all last = (last, tt)
all_more P (y ∷ ys) x all last = (all.0, all_more P ys x all.1 last)

-- a fact for each, from another
all_by : {A : Type 0} (P Q : A → Type 0) → ((x : A) → P x → Q x) → (xs : List A) → AllByRecursion P xs → AllByRecursion Q xs
all_by P Q f [] all = tt
all_by P Q f (x ∷ xs) all = (f x all.0, all_by P Q f xs all.1)

-- one more of another name
pub distinct_more : (es : List ExportSyntax) (e : ExportSyntax) → DistinctNames es → AllByRecursion (λ (other : ExportSyntax). other.name ≢ e.name) es → DistinctNames (es ++ e ∷ [])
distinct_more [] e d n = (tt, tt)
distinct_more (x ∷ es) e d n =
    (all_more (λ (other : ExportSyntax). x.name ≢ other.name) es e d.0 n.0, distinct_more es e d.1 n.1)

-- a name that the set hasn't is none of these
pub none_of : (names : BTreeSet (Bor (List ℕ))) (k : Bor (List ℕ)) (es : List ExportSyntax) → HasNames names es → contains name_cmp names k ≡ false → AllByRecursion (λ (e : ExportSyntax). e.name ≢ k.now) es
none_of names k es has absent =
    all_by (λ (e : ExportSyntax). (q : Bor (List ℕ)) → q.now ≡ e.name → contains name_cmp names q ≡ true) (λ (e : ExportSyntax). e.name ≢ k.now)
    (λ e h same. (let there = h k (sym same) in absurd (cc))) es has

cond_true : (b c : Bool) → c ≡ true → cond b true c ≡ true
cond_true true c h = refl
cond_true false c h = h

-- with one more in both
pub has_more : (old new : BTreeSet (Bor (List ℕ))) (k : Bor (List ℕ)) (es : List ExportSyntax) (e : ExportSyntax) → k.now ≡ e.name → HasNames old es → Updates name_cmp old new k true → HasNames new (es ++ e ∷ [])
has_more old new k es e is has up =
    let P : ExportSyntax → Type 0 = λ x. (q : Bor (List ℕ)) → q.now ≡ x.name → contains name_cmp new q ≡ true in
    all_more P es e
    (all_by (λ (x : ExportSyntax). (q : Bor (List ℕ)) → q.now ≡ x.name → contains name_cmp old q ≡ true) P
    (λ x h q same. up.0 q ∙ cond_true (is_at (name_cmp k) q) (contains name_cmp old q) (h q same)) es has)
    (λ q same. subst (λ (n : List ℕ). contains_by (λ (b : Bor (List ℕ)). slice_cmp nat_cmp n b.now) new ≡ true) (is ∙ sym same) up.1)

among_before : (name : List ℕ) (es : List ExportSyntax) (e : ExportSyntax) → Among name es → Among name (es ++ e ∷ [])
among_before name [] e h = absurd h
among_before name (x ∷ es) e (inl h) = inl h
among_before name (x ∷ es) e (inr h) = inr (among_before name es e h)

among_last : (name : List ℕ) (es : List ExportSyntax) (e : ExportSyntax) → e.name ≡ name → Among name (es ++ e ∷ [])
among_last name [] e h = inl h
among_last name (x ∷ es) e h = inr (among_last name es e h)

cond_cases : (b c : Bool) → cond b true c ≡ true → (b ≡ true) ⊎ (c ≡ true)
cond_cases true c h = inl refl
cond_cases false c h = inr h

either : {A B C : Type 0} → A ⊎ B → (A → C) → (B → C) → C
either (inl a) f g = f a
either (inr b) f g = g b

decided : (b : Bool) (P : Type 0) → Decides b P → b ≡ true → P
decided b P d h = d.0 h

-- with one more in both
pub only_more : (old new : BTreeSet (Bor (List ℕ))) (k : Bor (List ℕ)) (es : List ExportSyntax) (e : ExportSyntax) → k.now ≡ e.name → OnlyNames old es → Updates name_cmp old new k true → OnlyNames new (es ++ e ∷ [])
only_more old new k es e is only up q there =
    either (cond_cases (is_at (name_cmp k) q) (contains name_cmp old q) (sym (up.0 q) ∙ there))
    (λ at. (let same : bytes_eq k.now q.now ≡ true = sym (is_eq-slice_cmp k.now q.now) ∙ at in
    let equal : k.now ≡ q.now = decided (bytes_eq k.now q.now) (k.now ≡ q.now) (bytes_eq-Decides k.now q.now) same in
    among_last q.now es e (sym is ∙ equal)))
    (λ before. among_before q.now es e (only q before))

-- nothing is in an empty set
pub only_none : (names : BTreeSet (Bor (List ℕ))) → names.keys ≡ [] → OnlyNames names []
only_none names empty q there =
    let nothing : list_any (is_at (name_cmp q)) names.keys ≡ false = ap (list_any (is_at (name_cmp q))) empty in absurd (cc (nothing, there))

-- two of one name
pub not_distinct : (es : List ExportSyntax) (e : ExportSyntax) (more : List ExportSyntax) → Among e.name es → DistinctNames (es ++ e ∷ more) → ⊥
not_distinct [] e more h d = h
not_distinct (x ∷ es) e more (inl h) d = clash x es e more h d.0
  where
    clash : (x : ExportSyntax) (es : List ExportSyntax) (e : ExportSyntax) (more : List ExportSyntax) → x.name ≡ e.name → AllByRecursion (λ (other : ExportSyntax). x.name ≢ other.name) (es ++ e ∷ more) → ⊥
    clash x [] e more h all = all.0 h
    clash x (y ∷ es) e more h all = clash x es e more h all.1
not_distinct (x ∷ es) e more (inr h) d = not_distinct es e more h d.1
