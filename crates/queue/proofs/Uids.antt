-- When two uids are the same, and tests in a row.
use Rattle.std.proofs.Common.{◌≡◌, Bool, true, false, cond, ◌&&◌, refl}
use Rattle.std.specs.FinMap.{slice_cmp-IsAntisymmetric, nat_cmp-IsAntisymmetric}
use Rattle.std.specs.Cmp.{IsEquivalence, eq_by_cmp_equiv}
use Rattle.std.specs.Cmp.Lexicographic.{slice_cmp, nat_list_cmp_total}
use Rattle.std.specs.Ordering.{nat_cmp, eq_by_cmp, is_eq}
use Rattle.std.specs.declared.cmp.Ordering.{Ordering}
use Rattle.std.specs.declared.cmp.Ordering.TheVariants.{Less, Equal, Greater}
use Rattle.quant.specs.declared.name.Name.{Name}

-- whether two uids are the same
abbrev pub same : Name → Name → Bool
same = eq_by_cmp (slice_cmp nat_cmp)

-- it is an equivalence
pub same_laws : IsEquivalence same
same_laws = eq_by_cmp_equiv nat_list_cmp_total

-- only a tie passes the test for one
pub tie : (o : Ordering) → is_eq o ≡ true → o ≡ Equal
tie Less e = cc
tie Equal e = cc
tie Greater e = cc

-- the test tells uids apart
pub same_is : (a b : Name) → same a b ≡ true → a ≡ b
same_is a b e = slice_cmp-IsAntisymmetric nat_cmp-IsAntisymmetric a b (tie _ e)

-- both parts of an `and`
pub left_part : (a b : Bool) → (a && b) ≡ true → a ≡ true
left_part true b e = refl
left_part false b e = e

-- and the second
pub right_part : (a b : Bool) → (a && b) ≡ true → b ≡ true
right_part true b e = e
right_part false b e = cc

-- and back
pub both_parts : (a b : Bool) → a ≡ true → b ≡ true → (a && b) ≡ true
both_parts true b e f = f
both_parts false b e f = e

-- a test that is repeated: its second answer is never asked for
pub shadowed : {A : Type 0} (b : Bool) (x y z : A) → cond b x z ≡ cond b x (cond b y z)
shadowed true x y z = refl
shadowed false x y z = refl

-- two tests that never pass together may be asked in either order
pub swapped : {A : Type 0} (a b : Bool) (x y z : A) → (a ≡ true → b ≡ true → ⊥) → cond a x (cond b y z) ≡ cond b y (cond a x z)
swapped true true x y z apart = absurd (apart refl refl)
swapped true false x y z apart = refl
swapped false b x y z apart = refl
