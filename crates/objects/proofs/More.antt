-- A pod that asks for more never counts for less.
use Rattle.std.proofs.Common.{◌≡◌, inl, inr, ℕ, ◌*◌, ◌≤◌, nat_le, Bool, true, false, ◌&&◌, List, [], ◌∷◌, codes, Result, Ok, Err, refl, sym, subst, ◌∙◌, leb-true, le-leb, arith}
use Rattle.std.proofs.lemmas.Bool.{and_parts, and_from}
use Rattle.std.proofs.lemmas.Nat.{mul-le}
use Rattle.std.specs.Prelude.{if◌then◌else◌}
use Rattle.serde_json.specs.Data.{Data, Items, no_items, item}
use Rattle.quant.specs.declared.amount.Request.{Request}
use Rattle.objects.specs.declared.amounts.Part.{Part}
use Rattle.objects.specs.declared.amounts.Part.TheVariants.{Asked, Overhead}
use Rattle.objects.specs.declared.containers.Container.{Container}
use Rattle.objects.specs.declared.request.Reckoned.TheVariants.{Standing}
use Rattle.objects.specs.declared.resource.Resource.TheVariants.{Cpu, Memory}
use Rattle.objects.specs.LeftOut.{Fault}
use Rattle.objects.specs.Reading.{field, spelled, items_of}
use Rattle.objects.specs.Amounts.{amount_in, at_most}
use Rattle.objects.specs.Containers.{is_status_of, count, are_few, statuses, unread}
use Rattle.objects.specs.PodRequest.{some_or_unread, request}
use Rattle.objects.specs.Enough.{IsNoMore}
use Rattle.objects.specs.More.{TellsNoLess, AsksNoLess, AreAmong, ListsNoLess, NeedsNoLess, MoreCountsNoLess}
use Rattle.objects.proofs.Requests.{ok_same}
use Rattle.objects.proofs.Moments.{no_more_self, larger_more, AreCovered, IsCovered, IsCounted, unread_cpu, unread_memory, effective_counted}
use Rattle.objects.proofs.Counted.{amounts_as, status_as, with_status, held_as, container_as, row_as, list_as, running_as, init_as, overhead_as, held_whole, whole_as, counted_of, counted_as, counted_is}
use Rattle.objects.proofs.Enough.{request_more, by_array}

amounts_more : (part : Part) (holder : List ℕ) (less more : Data) → TellsNoLess part holder less more → IsNoMore (amounts_as part holder less) (amounts_as part holder more)
amounts_more part holder less more all = request_more (λ r. amount_in part holder r less) (λ r. amount_in part holder r more) all

-- ---- containers, by the same statuses

with_no_less : (of_it : Bool) (a b : Request) (status : Data) → IsNoMore a b → IsNoMore (with_status of_it a status) (with_status of_it b status)
with_no_less true a b status less = let s = status_as (codes "containerStatuses") status in larger_more a s b s less (no_more_self s)
with_no_less false a b status less = less

held_no_less : (name : List ℕ) (a b : Request) (said : Items) → IsNoMore a b → IsNoMore (held_as name a said) (held_as name b said)
held_no_less name a b no_items less = less
held_no_less name a b (item status rest) less =
    let of_it = is_status_of name status in
    held_no_less name (with_status of_it a status) (with_status of_it b status) rest (with_no_less of_it a b status less)

container_more : (key : List ℕ) (said : Items) (less more : Data) → AsksNoLess key less more → IsCovered (container_as key said less) (container_as key said more)
container_more key said less more all =
    let a = amounts_as Asked key less in
    let b = amounts_as Asked key more in (
      all.goes,
      subst (λ name. IsNoMore (held_as (spelled (codes "name") less) a said) (held_as name b said)) all.name
          (held_no_less (spelled (codes "name") less) a b said (amounts_more Asked key less more all.asks)),
    )

row_more : (key : List ℕ) (said less more : Items) → AreAmong key less more → AreCovered (row_as key said less) (row_as key said more)
row_more key said no_items more all = tt
row_more key said (item x xs) no_items all = absurd all
row_more key said (item x xs) (item y ys) (inl all) = inl (container_more key said x y all.0, row_more key said xs ys all.1)
row_more key said (item x xs) (item y ys) (inr all) = inr (row_more key said (item x xs) ys all)

-- where there are too many of the first, so there are of the second
count_more : (key : List ℕ) (less more : Items) → AreAmong key less more → count less ≤ count more
count_more key no_items more all = omega arith
count_more key (item x xs) no_items all = absurd all
count_more key (item x xs) (item y ys) (inl all) = omega (arith, count_more key xs ys all.1)
count_more key (item x xs) (item y ys) (inr all) = omega (arith, count_more key (item x xs) ys all)

fewer : (n m most : ℕ) → n ≤ m → nat_le m most ≡ true → nat_le n most ≡ true
fewer n m most less few = le-leb n most (omega (arith, less, leb-true m most few))

few_less : (n m k : ℕ) → n ≤ m → (nat_le m 65536 && nat_le k 65536 && nat_le (m * k) 1048576) ≡ true → (nat_le n 65536 && nat_le k 65536 && nat_le (n * k) 1048576) ≡ true
few_less n m k less few =
    let both = and_parts (nat_le m 65536 && nat_le k 65536) (nat_le (m * k) 1048576) few in
    let each = and_parts (nat_le m 65536) (nat_le k 65536) both.0 in
    and_from _ _ (and_from _ _ (fewer n m 65536 less each.0) each.1) (fewer (n * k) (m * k) 1048576 (mul-le n k m k less (omega arith)) both.1)

by_few : (key : List ℕ) (said less more : Items) (few many : Bool) → AreAmong key less more → (many ≡ true → few ≡ true)
    → IsCounted (if few then row_as key said less else unread ∷ []) (if many then row_as key said more else unread ∷ [])
by_few key said less more true true all too = inl (row_more key said less more all)
by_few key said less more false true all too = absurd (let no : false ≡ true = too refl in cc)
by_few key said less more true false all too = inr refl
by_few key said less more false false all too = inr refl

list_more : (key : List ℕ) (less more said : Result Items Fault) → ListsNoLess key less more → IsCounted (list_as key less said) (list_as key more said)
list_more key (Ok xs) (Ok ys) (Ok said) all =
    by_few key said xs ys (are_few xs said) (are_few ys said) all (few_less (count xs) (count ys) (count said) (count_more key xs ys all))
list_more key (Ok xs) (Ok ys) (Err e) all = inr refl
list_more key (Err e) (Ok ys) said all = absurd all
list_more key (Ok xs) (Err e) said all = inr refl
list_more key (Err e) (Err f) said all = inr refl

-- a pod without a container counts as the most
row_none : (key : List ℕ) (said xs : Items) → row_as key said xs ≡ [] → xs ≡ no_items
row_none key said no_items e = refl
row_none key said (item d rest) e = absurd (cc)

few_none : (key : List ℕ) (said xs : Items) (few : Bool) → (if few then row_as key said xs else unread ∷ []) ≡ [] → xs ≡ no_items
few_none key said xs true e = row_none key said xs e
few_none key said xs false e = absurd (cc)

none_few : (key : List ℕ) (said xs : Items) (few : Bool) → xs ≡ no_items → some_or_unread true (if few then row_as key said xs else unread ∷ []) ≡ unread ∷ []
none_few key said no_items true e = refl
none_few key said no_items false e = refl
none_few key said (item d rest) few e = absurd (cc)

list_none : (key : List ℕ) (less more said : Result Items Fault) → ((xs ys : Items) → less ≡ Ok xs → more ≡ Ok ys → xs ≡ no_items → ys ≡ no_items)
    → list_as key less said ≡ [] → some_or_unread true (list_as key more said) ≡ unread ∷ []
list_none key (Ok xs) (Ok ys) (Ok said) some e = none_few key said ys (are_few ys said) (some xs ys refl refl (few_none key said xs (are_few xs said) e))
list_none key (Ok xs) (Err f) (Ok said) some e = refl
list_none key (Ok xs) more (Err f) some e = absurd (cc)
list_none key (Err f) more said some e = absurd (cc)

some_more : (xs ys : List Container) → IsCounted xs ys → (xs ≡ [] → some_or_unread true ys ≡ unread ∷ []) → IsCounted (some_or_unread true xs) (some_or_unread true ys)
some_more [] ys all none = inr (none refl)
some_more (x ∷ xs) [] (inl all) none = absurd all
some_more (x ∷ xs) [] (inr all) none = absurd (cc)
some_more (x ∷ xs) (y ∷ ys) all none = all

running_more : (pod less more : Data) → NeedsNoLess less more → IsCounted (running_as pod less) (running_as pod more)
running_more pod less more all =
    let key = codes "containers" in
    let x = items_of key (field key less) in
    let y = items_of key (field key more) in
    let said = statuses (codes "containerStatuses") pod in
    some_more (list_as key x said) (list_as key y said) (list_more key x y said all.running)
    (list_none key x y said (λ xs ys is there none. sym (by_array key (field key more) ys there) ∙ all.some (by_array key (field key less) xs is ∙ none)))

-- ---- a pod

counted_more : (xs ys init there : List Container) (overhead taken whole more : Request) → IsCounted xs ys → IsCounted init there → IsNoMore overhead taken → IsNoMore whole more
    → IsNoMore (counted_of xs init overhead whole) (counted_of ys there taken more)
unfolding at_most
counted_more xs ys init there overhead taken whole more all first less both =
    let cpu = effective_counted Cpu xs ys init there overhead taken all first less in
    let memory = effective_counted Memory xs ys init there overhead taken all first less in
    (omega (arith, cpu, unread_cpu, less.0, both.0), omega (arith, memory, unread_memory, less.1, both.1))

pub more_counts_no_less : MoreCountsNoLess
more_counts_no_less pod less more a b all ea eb =
    let key = codes "initContainers" in
    let init = list_more key (items_of key (field key less)) (items_of key (field key more)) (statuses (codes "initContainerStatuses") pod) all.init in
    let held = held_whole (field (codes "status") pod) in
    let whole = larger_more (amounts_as Asked (codes "spec") less) held (amounts_as Asked (codes "spec") more) held (amounts_more Asked (codes "spec") less more all.whole) (no_more_self held) in
    let counted = counted_more (running_as pod less) (running_as pod more) (init_as pod less) (init_as pod more) (overhead_as less) (overhead_as more) (whole_as pod less) (whole_as pod more)
    (running_more pod less more all) init (amounts_more Overhead (codes "spec") less more all.overhead) whole in
    subst (λ x. IsNoMore x b) (ok_same (counted_as pod less) a (request Standing pod less) (counted_is pod less) ea)
    (subst (λ y. IsNoMore (counted_as pod less) y) (ok_same (counted_as pod more) b (request Standing pod more) (counted_is pod more) eb) counted)
