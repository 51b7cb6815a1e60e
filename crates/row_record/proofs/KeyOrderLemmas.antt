-- What it does to the order of labels to insert a place.
use Rattle.std.proofs.Common.{◌≡◌, ℕ, zero, suc, ◌+◌, ◌<◌, ◌≤◌, Bool, true, false, cond, not, List, [], ◌∷◌, length, take, drop, get_or, map, All, if◌then◌else◌, refl, sym, ap, subst, ◌∙◌, arith, drop-cons, add-one}
use Rattle.std.proofs.lemmas.Bool.{and_parts}
use Rattle.std.proofs.lemmas.List.{get_or_default, length-map}
use Rattle.std.proofs.lemmas.List.Elements.{All-append, All-take, All-drop, All-cons}
use Rattle.std.proofs.lemmas.List.Sorted.{IsPermutation-refl, IsPermutation-swap, IsPermutation-cons, IsPermutation-trans, searchable_from_sorted}
use Rattle.std.specs.List.{insert, prefix_len}
use Rattle.std.specs.List.Sorted.{IsPermutation, IsSortedByKey}
use Rattle.std.specs.Ordering.{is_lt, nat_cmp, ordering_index, ordering_reverse}
use Rattle.std.specs.declared.cmp.Ordering.{Ordering}
use Rattle.std.specs.declared.cmp.Ordering.TheVariants.{Less, Equal, Greater}
use Rattle.std.specs.Cmp.Lexicographic.{slice_cmp, nat_list_cmp_total}
use Rattle.quant.specs.declared.objects.Label.{Label}
use Rattle.row_record.specs.KeyOrder.{put_in_order, in_key_order}
use Rattle.row_record.specs.inside.KeyOrder.{label_at}
use Rattle.quant.specs.Name.{is_before}
use Rattle.quant.specs.LabelOrder.{are_in_order}

-- places in order, with one more behind those whose keys come before its own, are in order
pub inserted : {X : Type 0} (f : X → Label) (place : X) (order : List X)
    → map f (insert order (prefix_len (λ p. is_before (f p).key (f place).key) order) place) ≡ put_in_order (f place) (map f order)
inserted f place [] = refl
inserted {X} f place (o ∷ os) =
    let p : X → Bool = λ q. is_before (f q).key (f place).key in
    let n : ℕ = prefix_len p os in
    let ih : map f (insert os n place) ≡ put_in_order (f place) (map f os) = inserted f place os in
    let one : 1 + n ≡ suc n = omega arith in
    elim (p o) as (λ (b : Bool). map f (insert (o ∷ os) (cond b (1 + n) 0) place) ≡ cond b (f o ∷ put_in_order (f place) (map f os)) (f place ∷ f o ∷ map f os)) [
      | true ↦ rw one (ap (λ (r : List Label). f o ∷ r) ih)
      | false ↦ refl
    ]

-- the labels from a place on are in order once its label is put among the later ones
pub one_more : (labels : List Label) (place : ℕ) → place < length labels
    → in_key_order (drop place labels) ≡ put_in_order (label_at labels place) (in_key_order (drop (place + 1) labels))
one_more labels place h = rw (drop-cons labels place (record { key = []; value = [] }) h, add-one) refl

-- in front of a label whose key doesn't come before its own, a label is in order
put_front : (label first : Label) (rest : List Label) → is_before first.key label.key ≡ false → put_in_order label (first ∷ rest) ≡ label ∷ first ∷ rest
put_front label first rest behind = rw behind refl

not_true : (b : Bool) → not b ≡ true → b ≡ false
not_true false e = refl
not_true true e = sym e

-- labels that stand in order are in order as they stand
pub as_they_stand : (labels : List Label) → are_in_order labels ≡ true → in_key_order labels ≡ labels
as_they_stand [] h = refl
as_they_stand (label ∷ []) h = refl
as_they_stand (label ∷ next ∷ rest) h =
    let parts = and_parts (not (is_before next.key label.key)) (are_in_order (next ∷ rest)) h in
    ap (λ (ls : List Label). put_in_order label ls) (as_they_stand (next ∷ rest) parts.1)
    ∙ put_front label next rest (not_true (is_before next.key label.key) parts.0)

-- how many pass in front, of the labels at some places
prefix_mapped : {X : Type 0} (f : X → Label) (p : Label → Bool) (order : List X) → prefix_len p (map f order) ≡ prefix_len (λ q. p (f q)) order
prefix_mapped f p [] = refl
prefix_mapped f p (o ∷ os) = ap (λ (n : ℕ). cond (p (f o)) (1 + n) 0) (prefix_mapped f p os)

-- one place more, in front of which so many stand whose keys come before its own
pub step : (labels : List Label) (order new : List ℕ) (end place at : ℕ) (key : List ℕ) → place + 1 ≡ end → place < length labels
    → key ≡ (label_at labels place).key → at ≡ prefix_len (λ label. is_before label.key key) (map (label_at labels) order) → new ≡ insert order at place
    → map (label_at labels) order ≡ in_key_order (drop end labels) → map (label_at labels) new ≡ in_key_order (drop place labels)
step labels order new end place at key e h k is made before =
    let put : List Label → Type 0 = λ r. map (label_at labels) new ≡ put_in_order (label_at labels place) r in
    let here : map (label_at labels) new ≡ put_in_order (label_at labels place) (map (label_at labels) order) =
    rw (made, is, k, prefix_mapped (label_at labels) (λ label. is_before label.key (label_at labels place).key) order) (inserted (label_at labels) place order) in
    let rest : map (label_at labels) new ≡ put_in_order (label_at labels place) (in_key_order (drop (place + 1) labels)) =
    subst put (before ∙ ap (λ (n : ℕ). in_key_order (drop n labels)) (sym e)) here in
    rest ∙ sym (one_more labels place h)

-- a key that was read at a place is that of the label there
pub read_at : (labels : List Label) (place : ℕ) (label : Label) → place < length labels → (get_or labels place label).key ≡ (label_at labels place).key
read_at labels place label h =
    ap (λ (l : Label). l.key) (get_or_default labels place label (record { key = []; value = [] }) h)

-- what holds of each place holds with one more
pub all_inserted : {X : Type 0} (P : X → Type 0) (xs : List X) (i : ℕ) (x : X) → All P xs → P x → All P (insert xs i x)
all_inserted P xs i x all one =
    All-append P (take i xs) (x ∷ drop i xs) (All-take P i xs all) (All-cons P x (drop i xs) one (All-drop P i xs all))

-- the first two labels change places
two_first : (a b : Label) (rest : List Label) → IsPermutation (a ∷ b ∷ rest) (b ∷ a ∷ rest)
two_first a b rest = IsPermutation-swap (a ∷ b ∷ rest) (b ∷ a ∷ rest) 0 1 (omega arith) (omega arith) refl

-- a label that is put in order is there once, beside the others
put_moves : (label : Label) (labels : List Label) → IsPermutation (label ∷ labels) (put_in_order label labels)
put_moves label [] = IsPermutation-refl (label ∷ [])
put_moves label (first ∷ rest) =
    let ih = IsPermutation-cons first (label ∷ rest) (put_in_order label rest) (put_moves label rest) in
    elim (is_before first.key label.key) as (λ (b : Bool). IsPermutation (label ∷ first ∷ rest) (if b then first ∷ put_in_order label rest else label ∷ first ∷ rest)) [
      | true ↦ IsPermutation-trans (label ∷ first ∷ rest) (first ∷ label ∷ rest) (first ∷ put_in_order label rest) (two_first label first rest) ih
      | false ↦ IsPermutation-refl (label ∷ first ∷ rest)
    ]

-- the labels in order are the labels
pub order_moves : (labels : List Label) → IsPermutation labels (in_key_order labels)
order_moves [] = IsPermutation-refl []
order_moves (label ∷ rest) =
    IsPermutation-trans (label ∷ rest) (label ∷ in_key_order rest) (put_in_order label (in_key_order rest))
    (IsPermutation-cons label rest (in_key_order rest) (order_moves rest)) (put_moves label (in_key_order rest))

-- what comes before isn't what comes behind
less_reversed : (o : Ordering) → is_lt o ≡ true → is_lt (ordering_reverse o) ≡ false
less_reversed Less e = refl
less_reversed Equal e = refl
less_reversed Greater e = sym e

not_both : (a b : List ℕ) → is_before a b ≡ true → is_before b a ≡ false
not_both a b e = rw (nat_list_cmp_total.antisymm b a) (less_reversed (slice_cmp nat_cmp a b) e)

-- the key of a list's first label, if it has one, doesn't come before this key
Follows : List ℕ → List Label → Type 0
Follows key [] = Unit {0}
Follows key (first ∷ rest) = is_before first.key key ≡ false

-- no key of a list comes before the one in front of it
Rises : List Label → Type 0
Rises [] = Unit {0}
Rises (first ∷ rest) = Follows first.key rest × Rises rest

-- whatever follows a key still follows it with a label put in order that doesn't come before that
-- key
put_follows : (key : List ℕ) (label : Label) (labels : List Label) → is_before label.key key ≡ false → Follows key labels → Follows key (put_in_order label labels)
unfolding Follows
put_follows key label [] h f = h
put_follows key label (first ∷ rest) h f =
    elim (is_before first.key label.key) as (λ (b : Bool). Follows key (if b then first ∷ put_in_order label rest else label ∷ first ∷ rest)) [
      | true ↦ f
      | false ↦ h
    ]

-- a list that rises still does with a label put in order
put_rises : (label : Label) (labels : List Label) → Rises labels → Rises (put_in_order label labels)
unfolding Follows Rises
put_rises label [] r = (tt, tt)
put_rises label (first ∷ rest) r =
    elim (is_before first.key label.key) as (λ (b : Bool). is_before first.key label.key ≡ b → Rises (if b then first ∷ put_in_order label rest else label ∷ first ∷ rest)) [
      | true ↦ λ before. (put_follows first.key label rest (not_both first.key label.key before) r.0, put_rises label rest r.1)
      | false ↦ λ behind. (behind, r)
    ] refl

in_order_rises : (labels : List Label) → Rises (in_key_order labels)
unfolding Rises
in_order_rises [] = tt
in_order_rises (label ∷ rest) = put_rises label (in_key_order rest) (in_order_rises rest)

-- the same by places
rises_at : (labels : List Label) → Rises labels → (k : ℕ) (d : Label) → k + 1 < length labels → is_before (get_or labels (k + 1) d).key (get_or labels k d).key ≡ false
unfolding Follows Rises
rises_at [] r k d h = absurd (omega arith)
rises_at (first ∷ []) r k d h = absurd (omega arith)
rises_at (first ∷ next ∷ rest) r zero d h = r.0
rises_at (first ∷ next ∷ rest) r (suc k) d h =
    let later = rises_at (next ∷ rest) r.1 k d (omega arith) in
    rw add-one (rw add-one at later)

-- no key of the labels in order comes before the one in front of it
pub order_rises : (labels : List Label) → IsSortedByKey (λ (label : Label). label.key) (slice_cmp nat_cmp) (in_key_order labels)
order_rises labels k d low h = rises_at (in_key_order labels) (in_order_rises labels) k d h

-- where one doesn't pass, no more pass in front
stops : (p : Label → Bool) (xs : List Label) (m : ℕ) (d : Label) → m < length xs → p (get_or xs m d) ≡ false → prefix_len p xs ≤ m
stops p [] m d h e = absurd (omega arith)
stops p (x ∷ xs) zero d h e = rw e (omega arith)
stops p (x ∷ xs) (suc m) d h e =
    let ih : prefix_len p xs ≤ m = stops p xs m d (omega arith) e in
    elim (p x) as (λ (b : Bool). cond b (1 + prefix_len p xs) 0 ≤ suc m) [ true ↦ omega (arith, ih) | false ↦ omega arith ]

-- where one passes and all in front of it do, so many pass in front
all_pass : (p : Label → Bool) (xs : List Label) (m : ℕ) → m < length xs → ((i : ℕ) (d : Label) → i ≤ m → p (get_or xs i d) ≡ true) → m + 1 ≤ prefix_len p xs
all_pass p [] m h pass = absurd (omega arith)
all_pass p (x ∷ xs) zero h pass = rw (pass 0 x (omega arith)) (omega arith)
all_pass p (x ∷ xs) (suc m) h pass =
    let ih : m + 1 ≤ prefix_len p xs = all_pass p xs m (omega arith) (λ i d le. pass (suc i) d (omega arith)) in
    rw (pass 0 x (omega arith)) (omega (arith, ih))

-- what comes before is `Less`, which has the number 0
less_is_first : (o : Ordering) → is_lt o ≡ true → ordering_index o ≡ 0
less_is_first Less e = refl
less_is_first Equal e = absurd (cc)
less_is_first Greater e = absurd (cc)

first_is_less : (o : Ordering) → ordering_index o ≤ 0 → is_lt o ≡ true
first_is_less Less e = refl
first_is_less Equal e = absurd (omega arith)
first_is_less Greater e = absurd (omega arith)

-- among labels in order, all in front of one whose key comes before another come before it too
passes : (xs : List Label) (key : List ℕ) (m : ℕ) (d : Label) → IsSortedByKey (λ (label : Label). label.key) (slice_cmp nat_cmp) xs
    → m < length xs → is_before (get_or xs m d).key key ≡ true → m + 1 ≤ prefix_len (λ label. is_before label.key key) xs
passes xs key m d sorted h e =
    let rise = searchable_from_sorted nat_list_cmp_total (λ (label : Label). label.key) xs key sorted in
    all_pass (λ label. is_before label.key key) xs m h (λ i other le.
    let below = rise i m other le h in
    let same = get_or_default xs m other d h in
    let least : ordering_index (slice_cmp nat_cmp (get_or xs m other).key key) ≡ 0 = less_is_first _ (rw same e) in
    first_is_less _ (omega (arith, below, least)))

-- the label at a place of the order
mapped_at : {X : Type 0} (f : X → Label) (order : List X) (m : ℕ) (d : Label) (q : X) → m < length order → get_or (map f order) m d ≡ f (get_or order m q)
mapped_at f [] m d q h = absurd (omega arith)
mapped_at f (o ∷ os) zero d q h = refl
mapped_at f (o ∷ os) (suc m) d q h = mapped_at f os m d q (omega arith)

-- what a comparison with the label at a place of the order tells of how many come before a key
module _ (labels : List Label) (order : List ℕ) (key : List ℕ) (m : ℕ) (answer : Bool) (inside : m < length order)
    (told : answer ≡ is_before (label_at labels (get_or order m 0)).key key) where
  -- the same of the labels in the order
  same_label : (b : Bool) → answer ≡ b → is_before (get_or (map (label_at labels) order) m (record { key = []; value = [] })).key key ≡ b
  same_label b e =
      ap (λ (l : Label). is_before l.key key) (mapped_at (label_at labels) order m (record { key = []; value = [] }) 0 inside) ∙ sym told ∙ e

  pub more_before : IsSortedByKey (λ (label : Label). label.key) (slice_cmp nat_cmp) (map (label_at labels) order) → answer ≡ true
      → m + 1 ≤ prefix_len (λ label. is_before label.key key) (map (label_at labels) order)
  more_before sorted e =
      passes (map (label_at labels) order) key m (record { key = []; value = [] }) sorted (rw (length-map order (label_at labels)) inside) (same_label true e)

  pub no_more_before : answer ≡ false → prefix_len (λ label. is_before label.key key) (map (label_at labels) order) ≤ m
  no_more_before e =
      stops (λ label. is_before label.key key) (map (label_at labels) order) m (record { key = []; value = [] }) (rw (length-map order (label_at labels)) inside) (same_label false e)
