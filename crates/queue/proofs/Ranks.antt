-- The order of the queue is total.
use Rattle.std.proofs.Common.{◌≡◌, true, false, refl, ap}
use Rattle.std.specs.Cmp.{IsTotalOrder}
use Rattle.std.specs.Cmp.Lexicographic.{nat_list_cmp_total}
use Rattle.std.specs.FinMap.{slice_cmp-IsAntisymmetric, nat_cmp-IsAntisymmetric}
use Rattle.std.proofs.lemmas.Cmp.{on_total, then_total, back_total, int_cmp_total, nat_cmp_total, tied_itself}
use Rattle.std.specs.Ordering.{is_lt, ordering_then, ordering_reverse}
use Rattle.std.specs.declared.cmp.Ordering.{Ordering}
use Rattle.std.specs.declared.cmp.Ordering.TheVariants.{Less, Equal, Greater}
use Rattle.queue.specs.Order.{Item, item_cmp, comes_before}

-- the laws of the order
pub item_laws : IsTotalOrder item_cmp
item_laws =
    then_total (back_total (on_total (λ (item : Item). item.1.pod.priority) int_cmp_total))
    (then_total (on_total (λ (item : Item). item.1.arrival.0) nat_cmp_total) (on_total (λ (item : Item). item.0) nat_list_cmp_total))

-- only less passes the test for it
is_less : (o : Ordering) → is_lt o ≡ true → o ≡ Less
is_less Less h = refl
is_less Equal h = cc
is_less Greater h = cc

-- no item comes before itself
pub not_before_itself : (a : Item) → comes_before a a ≡ false
not_before_itself a = ap is_lt (tied_itself item_laws a)

-- before what comes before
pub before_trans : (a b c : Item) → comes_before a b ≡ true → comes_before b c ≡ true → comes_before a c ≡ true
before_trans a b c first second = ap is_lt (item_laws.trans a b c (is_less _ first) (is_less _ second))

-- two that are not less than each other are level
level : (o p : Ordering) → o ≡ ordering_reverse p → is_lt o ≡ false → is_lt p ≡ false → o ≡ Equal
level Less p turned a b = cc
level Equal p turned a b = refl
level Greater Less turned a b = cc
level Greater Equal turned a b = cc
level Greater Greater turned a b = cc

-- a tie of three comparisons is one of the last
last_tie : (o p q : Ordering) → ordering_then o (ordering_then p q) ≡ Equal → q ≡ Equal
last_tie Less p q h = cc
last_tie Equal Less q h = cc
last_tie Equal Equal q h = h
last_tie Equal Greater q h = cc
last_tie Greater p q h = cc

-- items of which neither comes before the other are of one uid
pub same_place : (a b : Item) → comes_before a b ≡ false → comes_before b a ≡ false → a.0 ≡ b.0
same_place a b ab ba =
    slice_cmp-IsAntisymmetric nat_cmp-IsAntisymmetric a.0 b.0 (last_tie _ _ _ (level _ _ (item_laws.antisymm a b) ab ba))
