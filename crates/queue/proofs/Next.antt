-- What is popped next is the one active item before which no other active one comes.
use Rattle.std.proofs.Common.{◌≡◌, Bool, true, false, not, ◌&&◌, ◌⊎◌, inl, inr, ⊎_elim, List, [], ◌∷◌, refl, sym, ap, ◌∙◌, subst}
use Rattle.std.specs.Prelude.{Some, None, MatchOption, T}
use Rattle.std.specs.FinMap as table
use Rattle.std.specs.Ordering.{nat_cmp}
use Rattle.std.specs.Cmp.Lexicographic.{slice_cmp}
use Rattle.quant.specs.declared.name.Name.{Name}
use Rattle.queued.specs.Entry.{Entry, is_active}
use Rattle.queue.specs.Order.{Item, comes_before, is_next, next_item}
use Rattle.queue.specs.Queue.{QueueState, entry_of, next_of}
use Rattle.queue.specs.Calls.{NoneActive, IsNext, PopsTheFirst, OnlyOneIsNext}
use Rattle.queue.proofs.Uids.{left_part, right_part, both_parts}
use Rattle.queue.proofs.Ranks.{not_before_itself, before_trans, same_place}
use Rattle.queue.proofs.Members.{IsMember, all-member, all_members, find_only, find_none, member_found, found_member, differ, same_some}

-- no item of the list is active
abbrev pub NoneIsActive : List Item → Type 0
NoneIsActive items = (x : Item) → IsMember x items → is_active x.1.state ≡ false

-- an active item of the list, before which no other active one comes
pub record IsFirst (items : List Item) (x : Item) : Type 0 where
  pub member : IsMember x items
  pub active : is_active x.1.state ≡ true
  pub first : (y : Item) → IsMember y items → is_active y.1.state ≡ true → comes_before y x ≡ false

-- what comes before neither is not before the one that goes first
not_before : (z y x : Item) → comes_before y x ≡ true → comes_before z x ≡ false → comes_before z y ≡ false
not_before z y x goes_first late =
    elim (comes_before z y) as (λ b. comes_before z y ≡ b → b ≡ false) [
      | true ↦ λ h. absurd (differ (sym late ∙ before_trans z y x h goes_first))
      | false ↦ λ h. refl
    ] refl

-- with an inactive item more
skipped : (y : Item) (ys : List Item) → is_active y.1.state ≡ false → NoneIsActive ys ⊎ ((x : Item) × IsFirst ys x) → NoneIsActive (y ∷ ys) ⊎ ((x : Item) × IsFirst (y ∷ ys) x)
skipped y ys idle (inl none) = inl (λ x is. ⊎_elim (λ (here : y ≡ x). sym (ap (λ (z : Item). is_active z.1.state) here) ∙ idle) (λ (there : IsMember x ys). none x there) is)
skipped y ys idle (inr (x, f)) = inr (
  x,
  record {
    member = inr f.member;
    active = f.active;
    first = λ z is act. ⊎_elim
        (λ (here : y ≡ z). absurd (differ (sym idle ∙ ap (λ (w : Item). is_active w.1.state) here ∙ act)))
        (λ (there : IsMember z ys). f.first z there act) is;
  },
)

-- with an active item more
taken : (y : Item) (ys : List Item) → is_active y.1.state ≡ true → NoneIsActive ys ⊎ ((x : Item) × IsFirst ys x) → NoneIsActive (y ∷ ys) ⊎ ((x : Item) × IsFirst (y ∷ ys) x)
taken y ys act (inl none) = inr (
  y,
  record {
    member = inl refl;
    active = act;
    first = λ z is awake. ⊎_elim
        (λ (here : y ≡ z). subst (λ (w : Item). comes_before w y ≡ false) here (not_before_itself y))
        (λ (there : IsMember z ys). absurd (differ (sym (none z there) ∙ awake))) is;
  },
)
taken y ys act (inr (x, f)) =
    elim (comes_before y x) as (λ b. comes_before y x ≡ b → NoneIsActive (y ∷ ys) ⊎ ((w : Item) × IsFirst (y ∷ ys) w)) [
      | true ↦ λ h. inr (
        y,
        record {
          member = inl refl;
          active = act;
          first = λ z is awake. ⊎_elim
              (λ (here : y ≡ z). subst (λ (w : Item). comes_before w y ≡ false) here (not_before_itself y))
              (λ (there : IsMember z ys). not_before z y x h (f.first z there awake)) is;
        },
      )
      | false ↦ λ h. inr (
        x,
        record {
          member = inr f.member;
          active = f.active;
          first = λ z is awake. ⊎_elim
              (λ (here : y ≡ z). subst (λ (w : Item). comes_before w x ≡ false) here h)
              (λ (there : IsMember z ys). f.first z there awake) is;
        },
      )
    ] refl

-- either none is active, or one is first
pub first_of_list : (items : List Item) → NoneIsActive items ⊎ ((x : Item) × IsFirst items x)
first_of_list [] = inl (λ x is. absurd is)
first_of_list (y ∷ ys) =
    elim (is_active y.1.state) as (λ b. is_active y.1.state ≡ b → NoneIsActive (y ∷ ys) ⊎ ((x : Item) × IsFirst (y ∷ ys) x)) [
      | true ↦ λ act. taken y ys act (first_of_list ys)
      | false ↦ λ idle. skipped y ys idle (first_of_list ys)
    ] refl

-- the test on the others
abbrev gives_way : Item → Item → Bool
gives_way x y = not (is_active y.1.state && comes_before y x)

-- the test passes where an active one does not come before
gives_way_if : (a b : Bool) → (a ≡ true → b ≡ false) → not (a && b) ≡ true
gives_way_if true b h = ap not (h refl)
gives_way_if false b h = refl

-- and where it passes, an active one does not
late_if : (a b : Bool) → not (a && b) ≡ true → a ≡ true → b ≡ false
late_if true true h a = sym h
late_if true false h a = refl
late_if false b h a = cc

-- the first one passes the test of what is next
next_if_first : (items : List Item) (x : Item) → IsFirst items x → is_next items x ≡ true
next_if_first items x f = both_parts _ _ f.active (all_members (gives_way x) items (λ y is. gives_way_if _ _ (f.first y is)))

-- and what passes it is first
first_if_next : (items : List Item) (x : Item) → IsMember x items → is_next items x ≡ true → IsFirst items x
first_if_next items x is passes = record {
  member = is;
  active = left_part _ _ passes;
  first = λ y y_is act. late_if _ _ (all-member (gives_way x) items y (right_part _ _ passes) y_is) act;
}

-- two first ones are the same
only_first : (items : List Item) (x y : Item) → T (table.is_sorted (slice_cmp nat_cmp) items) → IsFirst items x → IsFirst items y → y ≡ x
only_first items x y sorted f g =
    let uid : y.0 ≡ x.0 = same_place y x (f.first y g.member g.active) (g.first x f.member f.active) in
    let entry : y.1 ≡ x.1 = same_some y.1 x.1 (sym (found_member items y sorted g.member) ∙ ap (λ (u : Name). table.find (slice_cmp nat_cmp) u items) uid ∙ found_member items x sorted f.member) in
    λ i. (uid i, entry i)

-- what is next in a list is the first one
pub next_first : (items : List Item) (x : Item) → T (table.is_sorted (slice_cmp nat_cmp) items) → IsFirst items x → next_item items ≡ Some x
next_first items x sorted f =
    find_only (is_next items) items x f.member (next_if_first items x f) (λ y is passes. only_first items x y sorted f (first_if_next items y is passes))

-- an `and` fails by its first part
idle_fails : (a b : Bool) → a ≡ false → (a && b) ≡ false
idle_fails true b h = cc
idle_fails false b h = refl

-- nothing is next where none is active
pub next_none : (items : List Item) → NoneIsActive items → next_item items ≡ None
next_none items none = find_none (is_next items) items (λ x is. idle_fails _ _ (none x is))

-- the same of a queue
items_first : (q : QueueState) (x : Item) → IsNext q x → IsFirst (table.entries q.entries) x
items_first q x n = record {
  member = member_found (table.entries q.entries) x.0 x.1 (sym (table.get-entries q.entries x.0) ∙ n.there);
  active = n.active;
  first = λ y is act. n.first y (table.get-entries q.entries y.0 ∙ found_member (table.entries q.entries) y (table.entries_sorted q.entries) is) act;
}

-- and of the queue by its list
queue_first : (q : QueueState) (x : Item) → IsFirst (table.entries q.entries) x → IsNext q x
queue_first q x f = record {
  there = table.get-entries q.entries x.0 ∙ found_member (table.entries q.entries) x (table.entries_sorted q.entries) f.member;
  active = f.active;
  first = λ y there act. f.first y (member_found (table.entries q.entries) y.0 y.1 (sym (table.get-entries q.entries y.0) ∙ there)) act;
}

-- none of the queue is active where none of its list is
none_active : (q : QueueState) → NoneIsActive (table.entries q.entries) → NoneActive q
none_active q none uid =
    elim (entry_of q uid) as (λ o. entry_of q uid ≡ o → MatchOption o (Unit {0}) (λ entry. is_active entry.state ≡ false)) [
      | None ↦ λ h. tt
      | Some e ↦ λ h. none (uid, e) (member_found (table.entries q.entries) uid e (sym (table.get-entries q.entries uid) ∙ h))
    ] refl

-- and the other way round
items_idle : (q : QueueState) → NoneActive q → NoneIsActive (table.entries q.entries)
items_idle q none x is =
    subst (λ o. MatchOption o (Unit {0}) (λ (entry : Entry). is_active entry.state ≡ false))
    (table.get-entries q.entries x.0 ∙ found_member (table.entries q.entries) x (table.entries_sorted q.entries) is) (none x.0)

-- one entry at most is next
pub only_one_is_next : OnlyOneIsNext
unfolding next_of
only_one_is_next q item n = next_first (table.entries q.entries) item (table.entries_sorted q.entries) (items_first q item n)

-- nothing is next in a queue where none is active
pub none_is_next : (q : QueueState) → NoneActive q → next_of q ≡ None
unfolding next_of
none_is_next q none = next_none (table.entries q.entries) (items_idle q none)

-- each of the two cases
either : (q : QueueState) → NoneIsActive (table.entries q.entries) ⊎ ((x : Item) × IsFirst (table.entries q.entries) x) → MatchOption (next_of q) (NoneActive q) (IsNext q)
unfolding next_of
either q (inl none) = subst (λ o. MatchOption o (NoneActive q) (IsNext q)) (sym (next_none (table.entries q.entries) none)) (none_active q none)
either q (inr (x, f)) = subst (λ o. MatchOption o (NoneActive q) (IsNext q)) (sym (next_first (table.entries q.entries) x (table.entries_sorted q.entries) f)) (queue_first q x f)

-- what is next is the first one, or none is active
pub pops_the_first : PopsTheFirst
pops_the_first q = either q (first_of_list (table.entries q.entries))
