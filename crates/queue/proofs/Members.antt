-- Items of a list, and what is found in it.
use Rattle.std.proofs.Common.{◌≡◌, Bool, true, false, cond, ◌&&◌, ◌⊎◌, inl, inr, ⊎_elim, List, [], ◌∷◌, refl, sym, ap, ◌∙◌, subst}
use Rattle.std.specs.Prelude.{Some, None, find, T}
use Rattle.std.specs.List.{list_all}
use Rattle.std.specs.FinMap as table
use Rattle.std.specs.FinMap.Entries.{below_all}
use Rattle.std.specs.Ordering.{nat_cmp, is_lt, is_eq}
use Rattle.std.specs.declared.cmp.Ordering.{Ordering}
use Rattle.std.specs.declared.cmp.Ordering.TheVariants.{Less, Equal, Greater}
use Rattle.std.specs.Cmp.Lexicographic.{slice_cmp}
use Rattle.quant.specs.declared.name.Name.{Name}
use Rattle.queued.specs.Entry.{Entry}
use Rattle.queue.specs.Order.{Item}
use Rattle.queue.proofs.Uids.{same, same_laws, same_is, left_part, right_part, both_parts}

-- a test gives one answer
pub differ : false ≡ true → ⊥
differ h = cc

-- nothing is not something
pub nothing : (e : Entry) → None ≡ Some e → ⊥
nothing e h = cc

-- what is there is one thing
pub same_some : (a b : Entry) → Some a ≡ Some b → a ≡ b
same_some a b h = cc

-- the first part of an `and` of tests
left_test : (a b : Bool) → T (a && b) → T a
left_test true b h = tt
left_test false b h = h

-- the second part
right_test : (a b : Bool) → T (a && b) → T b
right_test true b h = h
right_test false b h = absurd h

-- what is less is not equal
less_differs : (o : Ordering) → T (is_lt o) → is_eq o ≡ false
less_differs Less h = refl
less_differs Equal h = absurd h
less_differs Greater h = absurd h

-- the item is one of the list
abbrev pub IsMember : Item → List Item → Type 0
IsMember x [] = ⊥
IsMember x (y ∷ ys) = (y ≡ x) ⊎ IsMember x ys

-- a test that each item passes, at one of them
pub all-member : (p : Item → Bool) (items : List Item) (x : Item) → list_all p items ≡ true → IsMember x items → p x ≡ true
all-member p [] x all is = absurd is
all-member p (y ∷ ys) x all is =
    ⊎_elim (λ (here : y ≡ x). sym (ap p here) ∙ left_part _ _ all) (λ (there : IsMember x ys). all-member p ys x (right_part _ _ all) there) is

-- each item passes a test that each member passes
pub all_members : (p : Item → Bool) (items : List Item) → ((x : Item) → IsMember x items → p x ≡ true) → list_all p items ≡ true
all_members p [] each = refl
all_members p (y ∷ ys) each = both_parts _ _ (each y (inl refl)) (all_members p ys (λ x is. each x (inr is)))

-- what is found is the one member that passes
pub find_only : (p : Item → Bool) (items : List Item) (x : Item) → IsMember x items → p x ≡ true → ((y : Item) → IsMember y items → p y ≡ true → y ≡ x) → find p items ≡ Some x
find_only p [] x is passes only = absurd is
find_only p (y ∷ ys) x is passes only =
    elim (p y) as (λ b. p y ≡ b → cond b (Some y) (find p ys) ≡ Some x) [
      | true ↦ λ h. ap (λ (z : Item). Some z) (only y (inl refl) h)
      | false ↦ λ h. find_only p ys x
          (⊎_elim (λ (here : y ≡ x). absurd (differ (sym h ∙ ap p here ∙ passes))) (λ (there : IsMember x ys). there) is)
          passes (λ z in_rest. only z (inr in_rest))
    ] refl

-- nothing is found where no member passes
pub find_none : (p : Item → Bool) (items : List Item) → ((x : Item) → IsMember x items → p x ≡ false) → find p items ≡ None
find_none p [] fails = refl
find_none p (y ∷ ys) fails = ap (λ b. cond b (Some y) (find p ys)) (fails y (inl refl)) ∙ find_none p ys (λ x is. fails x (inr is))

-- what is found under a key is a member
pub member_found : (items : List Item) (uid : Name) (e : Entry) → table.find (slice_cmp nat_cmp) uid items ≡ Some e → IsMember (uid, e) items
member_found [] uid e is = absurd (nothing e is)
member_found (y ∷ ys) uid e is =
    elim (same uid y.0) as (λ b. same uid y.0 ≡ b → cond b (Some y.1) (table.find (slice_cmp nat_cmp) uid ys) ≡ Some e → (y ≡ (uid, e)) ⊎ IsMember (uid, e) ys) [
      | true ↦ λ h found. inl (λ i. (sym (same_is uid y.0 h) i, same_some y.1 e found i))
      | false ↦ λ h found. inr (member_found ys uid e found)
    ] refl is

-- a key below all others is not among them
apart_below : (items : List Item) (uid : Name) (x : Item) → T (below_all (slice_cmp nat_cmp) uid items) → IsMember x items → same x.0 uid ≡ false
apart_below [] uid x low is = absurd is
apart_below (y ∷ ys) uid x low is =
    ⊎_elim
    (λ (here : y ≡ x). subst (λ (z : Item). same z.0 uid ≡ false) here (same_laws.symm y.0 uid ∙ less_differs _ (left_test _ _ low)))
    (λ (there : IsMember x ys). apart_below ys uid x (right_test _ _ low) there) is

-- a member of a list in order of its keys is what is found under its key
pub found_member : (items : List Item) (x : Item) → T (table.is_sorted (slice_cmp nat_cmp) items) → IsMember x items → table.find (slice_cmp nat_cmp) x.0 items ≡ Some x.1
found_member [] x sorted is = absurd is
found_member (y ∷ ys) x sorted is =
    ⊎_elim
    (λ (here : y ≡ x). subst (λ (z : Item). cond (same z.0 y.0) (Some y.1) (table.find (slice_cmp nat_cmp) z.0 ys) ≡ Some z.1) here (ap (λ b. cond b (Some y.1) (table.find (slice_cmp nat_cmp) y.0 ys)) (same_laws.refl y.0)))
    (λ (there : IsMember x ys).
    ap (λ b. cond b (Some y.1) (table.find (slice_cmp nat_cmp) x.0 ys)) (apart_below ys y.0 x (left_test _ _ sorted) there)
    ∙ found_member ys x (right_test _ _ sorted) there)
    is
