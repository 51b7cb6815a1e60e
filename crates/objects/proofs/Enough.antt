-- What a pod counts for on a node is no less than what it asked for, and just that where it holds no
-- more.
use Rattle.std.proofs.Common.{◌≡◌, inl, inr, ℕ, ◌+◌, ◌^◌, ◌≤◌, max, min, Bool, true, false, not, List, [], ◌∷◌, ◌++◌, codes, is_some, Option, None, Some, Result, Ok, Err, refl, sym, ap, subst, ◌∙◌, append_assoc, append-nil, arith}
use Rattle.std.specs.Prelude.{if◌then◌else◌, unwrap_or}
use Rattle.std.specs.Option.{ok_or}
use Rattle.serde_json.specs.Data.{Data, Items, no_items, item}
use Rattle.serde_json.specs.Find.{as_object, as_array}
use Rattle.quant.specs.declared.amount.Request.{Request}
use Rattle.quant.specs.Request.{request_of, request_both, within}
use Rattle.objects.specs.declared.amounts.Part.{Part}
use Rattle.objects.specs.declared.amounts.Part.TheVariants.{Asked, Overhead, Allocated, Requested}
use Rattle.objects.specs.declared.containers.Container.{Container}
use Rattle.objects.specs.declared.fault.Why.TheVariants.{BadField, TooMany}
use Rattle.objects.specs.declared.request.Reckoned.TheVariants.{Waiting}
use Rattle.objects.specs.declared.quantity.Rounding.TheVariants.{Up}
use Rattle.objects.specs.declared.resource.Resource.{Resource}
use Rattle.objects.specs.declared.resource.Resource.TheVariants.{Cpu, Memory}
use Rattle.objects.specs.LeftOut.{Fault, refused}
use Rattle.objects.specs.Quantity.{◌>>=◌, most, key_of}
use Rattle.objects.specs.Reading.{field, each, spelled, items_of, is_given}
use Rattle.objects.specs.Amounts.{amount_of, under, in_resources, found_in, amount_in, at_most, taken, amounts}
use Rattle.objects.specs.Containers.{of, larger, is_status_of, held, is_always, container, are_few, statuses, looked_at, unread, listed, read_containers, containers, effective}
use Rattle.objects.specs.PodRequest.{some_or_unread, some_container, within_limits, by_containers, as_asked, or_more, reckoned, in_all, running, request_by, request}
use Rattle.objects.specs.Parts.{EachOf, array_of, or_true, goes_on}
use Rattle.objects.specs.Enough.{IsNoMore, IsNoLess, AreNoLess, IsHeldWithin, HoldsNoMore, HoldNoMore, IsWithin, CountsEnough, CountsTheSame, CountsWhatIsAsked}
use Rattle.objects.proofs.Requests.{ok_same, same_request}
use Rattle.objects.proofs.Moments.{no_more_self, no_more_trans, within_most, larger_left, IsCovered, AreCovered, IsCounted, unread_cpu, unread_memory, effective_counted}
use Rattle.objects.proofs.Counted.{behind, or_worst, request_as, amounts_as, status_as, with_status, held_as, container_as, row_as, list_as, containers_as, running_as, init_as, overhead_as, held_whole, whole_as, counted_of, counted_as, counted_is}

-- ---- readings

-- what could be read is taken as it is
taken_was : {A : Type 0} (worst : A) (x : Result A Fault) (y : A) → taken false worst x ≡ Ok y → x ≡ Ok y
taken_was worst (Ok x) y e = e
taken_was worst (Err fault) y e = absurd (cc)

-- amounts that were read, and what they are
record Amounts (part : Part) (holder : List ℕ) (json : Data) (a : Request) : Type 0 where
  cpu : ℕ
  memory : ℕ
  cpu_is : amount_in part holder Cpu json ≡ Ok cpu
  memory_is : amount_in part holder Memory json ≡ Ok memory
  same : amounts_as part holder json ≡ a

were_read : (part : Part) (holder : List ℕ) (json : Data) (a : Request) → amounts false part holder json ≡ Ok a → Amounts part holder json a
unfolding amounts
were_read part holder json a e =
    let x = amount_in part holder Cpu json in
    let z = amount_in part holder Memory json in
    let c = behind (taken false (most Cpu) x) (λ cpu. taken false (most Memory) z >>= λ memory. Ok (at_most cpu memory)) a e in
    let m = behind (taken false (most Memory) z) (λ memory. Ok (at_most c.0 memory)) a c.2 in
    let cpu_is = taken_was (most Cpu) x c.0 c.1 in
    let memory_is = taken_was (most Memory) z m.0 m.1 in
    let was : at_most c.0 m.0 ≡ a = ok_same (at_most c.0 m.0) a (Ok (at_most c.0 m.0)) refl m.2 in
    record {
      cpu = c.0;
      memory = m.0;
      cpu_is = cpu_is;
      memory_is = memory_is;
      same = (λ j. at_most (or_worst (most Cpu) (cpu_is j)) (or_worst (most Memory) (memory_is j))) ∙ was;
    }

-- amounts that are no less make a request that is no less
worst_more : (worst : ℕ) (x y : Result ℕ Fault) → IsNoLess x y → min worst (or_worst worst x) ≤ min worst (or_worst worst y)
worst_more worst (Ok n) (Ok m) less = omega (arith, less)
worst_more worst (Err e) (Ok m) less = absurd less
worst_more worst (Ok n) (Err f) less = omega arith
worst_more worst (Err e) (Err f) less = omega arith

pub request_more : (less more : Resource → Result ℕ Fault) → AreNoLess less more → IsNoMore (request_as less) (request_as more)
unfolding at_most
request_more less more all = (worst_more (most Cpu) (less Cpu) (more Cpu) all.0, worst_more (most Memory) (less Memory) (more Memory) all.1)

-- ---- what statuses say

-- it adds to what is asked for
with_more : (of_it : Bool) (a : Request) (status : Data) → IsNoMore a (with_status of_it a status)
with_more true a status = larger_left a (status_as (codes "containerStatuses") status)
with_more false a status = no_more_self a

pub held_more : (name : List ℕ) (a b : Request) (said : Items) → IsNoMore a b → IsNoMore a (held_as name b said)
held_more name a b no_items less = less
held_more name a b (item status rest) less =
    let next = with_status (is_status_of name status) b status in
    held_more name a next rest (no_more_trans a b next less (with_more (is_status_of name status) b status))

-- or nothing, where no more is held
larger_least : (b c a : Request) → IsNoMore b a → IsNoMore c a → IsNoMore (larger b c) a
unfolding larger at_most
larger_least b c a ba ca = (omega (arith, ba.0, ca.0), omega (arith, ba.1, ca.1))

larger_same : (a b c : Request) → IsNoMore b a → IsNoMore c a → larger a (larger b c) ≡ a
unfolding larger
larger_same a b c ba ca =
    let bc = larger b c in
    let least = larger_least b c a ba ca in
    sym (same_request a (max a.cpu.0 bc.cpu.0) (max a.mem.0 bc.mem.0) (let w = a.within_cpu in omega (arith, w, least.0)) (let w = a.within_mem in omega (arith, w, least.1)))

held_by_status : (key : List ℕ) (json status : Data) (a : Request) (of_it : Bool) → amounts_as Asked key json ≡ a → (of_it ≡ true → IsHeldWithin key status json) → with_status of_it a status ≡ a
held_by_status key json status a false is within = refl
held_by_status key json status a true is within =
    let all = within refl in
    larger_same a (amounts_as Allocated (codes "containerStatuses") status) (amounts_as Requested (codes "containerStatuses") status)
    (subst (λ x. IsNoMore (amounts_as Allocated (codes "containerStatuses") status) x) is (request_more (λ r. amount_in Allocated (codes "containerStatuses") r status) (λ r. amount_in Asked key r json) all.0))
    (subst (λ x. IsNoMore (amounts_as Requested (codes "containerStatuses") status) x) is (request_more (λ r. amount_in Requested (codes "containerStatuses") r status) (λ r. amount_in Asked key r json) all.1))

held_same : (key : List ℕ) (json : Data) (a : Request) (said : Items) → amounts_as Asked key json ≡ a → HoldsNoMore key said json → held_as (spelled (codes "name") json) a said ≡ a
held_same key json a no_items is all = refl
held_same key json a (item status rest) is all =
    let name = spelled (codes "name") json in
    ap (λ next. held_as name next rest) (held_by_status key json status a (is_status_of name status) is all.0) ∙ held_same key json a rest is all.1

-- ---- containers

abbrev whether : (stands : Bool) → Data → Result Bool Fault
whether stands d = taken stands true (is_always (field (codes "restartPolicy") d))

abbrev finished : Request → Bool → Result Container Fault
finished request goes_on = Ok (record { request = request; goes_on = goes_on })

abbrev by_holding : (stands : Bool) → (statuses : Items) → Data → Request → Result Container Fault
by_holding stands said d asked = held (spelled (codes "name") d) asked said >>= λ request. whether stands d >>= finished request

-- one that was read as it waited, and what it asks for
record Parts (key : List ℕ) (d : Data) (c : Container) : Type 0 where
  asks : amounts_as Asked key d ≡ c.request
  goes : goes_on d ≡ c.goes_on

going_was : (x : Result Bool Fault) (b : Bool) → x ≡ Ok b → or_true x ≡ b
going_was x b e = ap or_true e

parts_of : (key : List ℕ) (d : Data) (c : Container) → container false key no_items d ≡ Ok c → Parts key d c
unfolding container
parts_of key d c e =
    let a = behind (amounts false Asked key d) (by_holding false no_items d) c e in
    let g = behind (whether false d) (finished a.0) c a.2 in
    let always = is_always (field (codes "restartPolicy") d) in
    let is : record { request = a.0; goes_on = g.0 } ≡ c = ok_same (record { request = a.0; goes_on = g.0 }) c (finished a.0 g.0) refl g.2 in
    let read = were_read Asked key d a.0 a.1 in
    record { asks = read.same ∙ ap (λ x. x.request) is; goes = going_was always g.0 (taken_was true always g.0 g.1) ∙ ap (λ x. x.goes_on) is }

one_covered : (key : List ℕ) (said : Items) (d : Data) (c : Container) → container false key no_items d ≡ Ok c → IsCovered c (container_as key said d)
one_covered key said d c e =
    let p = parts_of key d c e in
    let a = amounts_as Asked key d in
    (λ g. p.goes ∙ g, subst (λ x. IsNoMore x (held_as (spelled (codes "name") d) a said)) p.asks (held_more (spelled (codes "name") d) a a said (no_more_self a)))

container_same : (c : Container) (a : Request) (b : Bool) → a ≡ c.request → b ≡ c.goes_on → c ≡ record { request = a; goes_on = b }
container_same c a b is goes = sym (λ j. record { request = is j; goes_on = goes j })

one_same : (key : List ℕ) (said : Items) (d : Data) (c : Container) → HoldsNoMore key said d → container false key no_items d ≡ Ok c → c ≡ container_as key said d
one_same key said d c all e =
    let p = parts_of key d c e in
    let a = amounts_as Asked key d in
    container_same c (held_as (spelled (codes "name") d) a said) (goes_on d) (held_same key d a said refl all ∙ p.asks) p.goes

covered_more : (xs ys : List Container) (x y : Container) → AreCovered xs ys → IsCovered x y → AreCovered (xs ++ x ∷ []) (ys ++ y ∷ [])
covered_more [] [] x y all one = inl (one, tt)
covered_more [] (b ∷ ys) x y all one = inr (covered_more [] ys x y all one)
covered_more (a ∷ xs) [] x y all one = absurd all
covered_more (a ∷ xs) (b ∷ ys) x y (inl all) one = inl (all.0, covered_more xs ys x y all.1 one)
covered_more (a ∷ xs) (b ∷ ys) x y (inr all) one = inr (covered_more (a ∷ xs) ys x y all one)

-- the containers of an array
abbrev waits_with : (key : List ℕ) → (before : List Container) → Items → Result (List Container) Fault
waits_with key before items = each (λ b. container false key no_items) before items

row_same : (key : List ℕ) (said items : Items) (before xs : List Container) → EachOf (HoldsNoMore key said) items → waits_with key before items ≡ Ok xs → xs ≡ before ++ row_as key said items
row_same key said no_items before xs all e = ok_same xs before (Ok before) (sym (sym e)) refl ∙ sym (append-nil before)
row_same key said (item d rest) before xs all e =
    let first = behind (container false key no_items d) (λ x. waits_with key (before ++ x ∷ []) rest) xs e in
    let c = container_as key said d in
    row_same key said rest (before ++ first.0 ∷ []) xs all.1 first.2
    ∙ ap (λ x. before ++ x ∷ [] ++ row_as key said rest) (one_same key said d first.0 all.0 first.1)
    ∙ append_assoc before (c ∷ []) (row_as key said rest)

row_covered : (key : List ℕ) (said items : Items) (before there xs : List Container) → AreCovered before there → waits_with key before items ≡ Ok xs → AreCovered xs (there ++ row_as key said items)
row_covered key said no_items before there xs all e =
    subst (λ ys. AreCovered xs ys) (sym (append-nil there)) (subst (λ x. AreCovered x there) (ok_same before xs (Ok before) refl e) all)
row_covered key said (item d rest) before there xs all e =
    let first = behind (container false key no_items d) (λ x. waits_with key (before ++ x ∷ []) rest) xs e in
    let c = container_as key said d in
    subst (λ ys. AreCovered xs ys) (append_assoc there (c ∷ []) (row_as key said rest))
    (row_covered key said rest (before ++ first.0 ∷ []) (there ++ c ∷ []) xs (covered_more before there first.0 c all (one_covered key said d first.0 first.1)) first.2)

-- the array in which they stand
record Found (key : List ℕ) (spec : Data) (xs : List Container) : Type 0 where
  found : Items
  is : items_of key (field key spec) ≡ Ok found
  few : are_few found no_items ≡ true
  all : waits_with key [] found ≡ Ok xs

by_few : (key : List ℕ) (found : Items) (xs : List Container) (b : Bool) → (if b then waits_with key [] found else Err (refused TooMany key)) ≡ Ok xs → (b ≡ true) × (waits_with key [] found ≡ Ok xs)
by_few key found xs true e = (refl, e)
by_few key found xs false e = absurd (cc)

was_found : (key status_key : List ℕ) (pod spec : Data) (xs : List Container) → containers false key status_key pod spec ≡ Ok xs → Found key spec xs
was_found key status_key pod spec xs e =
    let found = behind (items_of key (field key spec)) (λ found. looked_at false status_key pod >>= listed false key found) xs (taken_was (unread ∷ []) (read_containers false key status_key pod spec) xs e) in
    let few = by_few key found.0 xs (are_few found.0 no_items) found.2 in
    record { found = found.0; is = found.1; few = few.0; all = few.1 }

counted_by_few : (key : List ℕ) (found said : Items) (xs : List Container) (b : Bool) → waits_with key [] found ≡ Ok xs → IsCounted xs (if b then row_as key said found else unread ∷ [])
counted_by_few key found said xs true e = inl (row_covered key said found [] [] xs tt e)
counted_by_few key found said xs false e = inr refl

list_counted : (key : List ℕ) (found : Items) (said : Result Items Fault) (xs : List Container) → waits_with key [] found ≡ Ok xs → IsCounted xs (list_as key (Ok found) said)
list_counted key found (Ok said) xs e = counted_by_few key found said xs (are_few found said) e
list_counted key found (Err fault) xs e = inr refl

containers_counted : (key status_key : List ℕ) (pod later spec : Data) (xs : List Container) → containers false key status_key pod spec ≡ Ok xs → IsCounted xs (containers_as key status_key later spec)
containers_counted key status_key pod later spec xs e =
    let f = was_found key status_key pod spec xs e in
    subst (λ found. IsCounted xs (list_as key found (statuses status_key later))) (sym f.is) (list_counted key f.found (statuses status_key later) xs f.all)

-- an array that was found is the one that stands there
was_array : (x : Option Items) (fault : Fault) (found : Items) → ok_or x fault ≡ Ok found → unwrap_or x no_items ≡ found
was_array (Some xs) fault found e = ok_same xs found (Ok xs) refl e
was_array None fault found e = absurd (cc)

pub by_array : (key : List ℕ) (value : Option Data) (found : Items) → items_of key value ≡ Ok found → array_of value ≡ found
by_array key None found e = ok_same no_items found (items_of key None) refl e
by_array key (Some value) found e = was_array (as_array value) (refused BadField key) found e

containers_same : (key status_key : List ℕ) (pod later spec : Data) (xs : List Container) → HoldNoMore key status_key later spec → containers false key status_key pod spec ≡ Ok xs
    → containers_as key status_key later spec ≡ xs
containers_same key status_key pod later spec xs holds e =
    let f = was_found key status_key pod spec xs e in
    let is = by_array key (field key spec) f.found f.is in
    ap (λ found. list_as key found (statuses status_key later)) f.is
    ∙ ap (list_as key (Ok f.found)) holds.is
    ∙ ap (λ b. if b then row_as key holds.said f.found else unread ∷ []) (ap (λ found. are_few found holds.said) (sym is) ∙ holds.few)
    ∙ sym (row_same key holds.said f.found [] xs (subst (λ found. EachOf (HoldsNoMore key holds.said) found) is holds.each) f.all)

-- ---- a pod's request

-- it has the amounts of which it was made
made_by : (cpu memory : ℕ) (a : Request) (x : Option (cpu ≤ 2 ^ 30)) (y : Option (memory ≤ 2 ^ 44)) → within_limits (request_both (record { 0 = cpu }) (record { 0 = memory }) x y) ≡ Ok a
    → (a.cpu.0 ≡ cpu) × (a.mem.0 ≡ memory)
made_by cpu memory a (Some fits) (Some both) e =
    let same = ok_same (record { cpu = record { 0 = cpu }; mem = record { 0 = memory }; within_cpu = fits; within_mem = both }) a (within_limits (request_both (record { 0 = cpu }) (record { 0 = memory }) (Some fits) (Some both))) refl e in
    (ap (λ r. r.cpu.0) (sym same), ap (λ r. r.mem.0) (sym same))
made_by cpu memory a None y e = absurd (cc)
made_by cpu memory a (Some fits) None e = absurd (cc)

made_of : (xs init : List Container) (overhead a : Request) → by_containers xs init overhead ≡ Ok a → (a.cpu.0 ≡ effective Cpu xs init overhead) × (a.mem.0 ≡ effective Memory xs init overhead)
unfolding request_of
made_of xs init overhead a e = made_by (effective Cpu xs init overhead) (effective Memory xs init overhead) a (within (effective Cpu xs init overhead) (2 ^ 30)) (within (effective Memory xs init overhead) (2 ^ 44)) e

-- what it was read of
record Read (pod spec : Data) (a : Request) : Type 0 where
  xs : List Container
  init : List Container
  overhead : Request
  are : containers false (codes "containers") (codes "containerStatuses") pod spec ≡ Ok xs
  start : containers false (codes "initContainers") (codes "initContainerStatuses") pod spec ≡ Ok init
  over : amounts false Overhead (codes "spec") spec ≡ Ok overhead
  some : some_container xs ≡ Ok xs
  all : by_containers xs init overhead ≡ Ok a

by_given : (given : Bool) (x y : Result Request Fault) (f : Fault) (a : Request) → (if not given then x else if false then y else Err f) ≡ Ok a → x ≡ Ok a
by_given true x y f a e = absurd (cc)
by_given false x y f a e = e

some_same : (xs ys : List Container) → some_container xs ≡ Ok ys → xs ≡ ys
some_same [] ys e = absurd (cc)
some_same (x ∷ xs) ys e = ok_same (x ∷ xs) ys (some_container (x ∷ xs)) refl e

was_read : (pod spec : Data) (a : Request) → request Waiting pod spec ≡ Ok a → Read pod spec a
unfolding request_by as_asked
was_read pod spec a e =
    let b = behind (running false pod spec) (λ xs. containers false (codes "initContainers") (codes "initContainerStatuses") pod spec >>= in_all Waiting pod spec xs) a e in
    let c = behind (containers false (codes "initContainers") (codes "initContainerStatuses") pod spec) (in_all Waiting pod spec b.0) a b.2 in
    let r = behind (containers false (codes "containers") (codes "containerStatuses") pod spec) (λ found. Ok (some_or_unread false found)) b.0 b.1 in
    let o = behind (amounts false Overhead (codes "spec") spec) (λ overhead. some_container b.0 >>= λ xs. reckoned Waiting pod spec xs c.0 overhead) a c.2 in
    let s = behind (some_container b.0) (λ xs. as_asked false spec xs c.0 o.0) a o.2 in
    let same : b.0 ≡ s.0 = some_same b.0 s.0 s.1 in
    let found : r.0 ≡ b.0 = ok_same r.0 b.0 (Ok r.0) refl r.2 in
    record {
      xs = b.0;
      init = c.0;
      overhead = o.0;
      are = r.1 ∙ ap Ok found;
      start = c.1;
      over = o.1;
      some = s.1 ∙ ap Ok (sym same);
      all = by_given (is_given (field (codes "resources") spec)) (by_containers b.0 c.0 o.0) (amounts false Asked (codes "spec") spec) _ a (ap (λ xs. as_asked false spec xs c.0 o.0) same ∙ s.2);
    }

-- there is a container at least
some_counted : (xs ys : List Container) → IsCounted xs ys → IsCounted xs (some_or_unread true ys)
some_counted xs [] all = inr refl
some_counted xs (y ∷ ys) all = all

pub counts_enough : CountsEnough
counts_enough pod later spec a e =
    let r = was_read pod spec a e in
    let made = made_of r.xs r.init r.overhead a r.all in
    let over = were_read Overhead (codes "spec") spec r.overhead r.over in
    let less : IsNoMore r.overhead (overhead_as spec) = subst (λ o. IsNoMore o (overhead_as spec)) over.same (no_more_self (overhead_as spec)) in
    let found = containers_as (codes "containers") (codes "containerStatuses") later spec in
    let xs = some_counted r.xs found (containers_counted (codes "containers") (codes "containerStatuses") pod later spec r.xs r.are) in
    let init = containers_counted (codes "initContainers") (codes "initContainerStatuses") pod later spec r.init r.start in
    let cpu = effective_counted Cpu r.xs (running_as later spec) r.init (init_as later spec) r.overhead (overhead_as spec) xs init less in
    let memory = effective_counted Memory r.xs (running_as later spec) r.init (init_as later spec) r.overhead (overhead_as spec) xs init less in
    let whole = whole_as later spec in
    let wc = a.within_cpu in
    let wm = a.within_mem in (
      counted_as later spec,
      counted_is later spec,
      within_most a (or_more Cpu (running_as later spec) (init_as later spec) (overhead_as spec) whole) (or_more Memory (running_as later spec) (init_as later spec) (overhead_as spec) whole)
          (omega (arith, made.0, cpu, unread_cpu, wc)) (omega (arith, made.1, memory, unread_memory, wm)),
    )

-- ---- and just that

-- what is asked for or held as a whole is no more than what is asked for in all
fits_within : (worst asked over : ℕ) (x : Result ℕ Fault) → IsNoLess (x >>= λ n. Ok (n + over)) (Ok asked) → min worst (or_worst worst x) + over ≤ asked
fits_within worst asked over (Ok n) less = omega (arith, less)
fits_within worst asked over (Err e) less = absurd less

abbrev Fits : (asked overhead whole : Request) → Type 0
Fits asked overhead whole = (whole.cpu.0 + overhead.cpu.0 ≤ asked.cpu.0) × (whole.mem.0 + overhead.mem.0 ≤ asked.mem.0)

request_fits : (asked overhead : Request) (amount : Resource → Result ℕ Fault) → IsWithin asked overhead amount → Fits asked overhead (request_as amount)
unfolding at_most
request_fits asked overhead amount less = (fits_within (most Cpu) asked.cpu.0 overhead.cpu.0 (amount Cpu) less.0, fits_within (most Memory) asked.mem.0 overhead.mem.0 (amount Memory) less.1)

larger_fits : (asked overhead a b : Request) → Fits asked overhead a → Fits asked overhead b → Fits asked overhead (larger a b)
unfolding larger at_most
larger_fits asked overhead a b fits both = (omega (arith, fits.0, both.0), omega (arith, fits.1, both.1))

nothing_fits : (asked overhead : Request) → IsNoMore overhead asked → Fits asked overhead (at_most 0 0)
unfolding at_most
nothing_fits asked overhead less = (omega (arith, less.0), omega (arith, less.1))

status_fits : (asked overhead : Request) (status : Option Data) → IsNoMore overhead asked
    → ((s : Data) → status ≡ Some s → IsWithin asked overhead (λ r. amount_in Allocated (codes "status") r s))
    → ((s : Data) → status ≡ Some s → IsWithin asked overhead (λ r. amount_in Requested (codes "status") r s)) → Fits asked overhead (held_whole status)
status_fits asked overhead None less set_aside in_force = nothing_fits asked overhead less
status_fits asked overhead (Some s) less set_aside in_force =
    larger_fits asked overhead (amounts_as Allocated (codes "status") s) (amounts_as Requested (codes "status") s)
    (request_fits asked overhead (λ r. amount_in Allocated (codes "status") r s) (set_aside s refl)) (request_fits asked overhead (λ r. amount_in Requested (codes "status") r s) (in_force s refl))

-- a pod needs its overhead
over_needed : (r : Resource) (xs init : List Container) (overhead : Request) → of r overhead ≤ effective r xs init overhead
unfolding effective
over_needed r xs init overhead = omega arith

-- nothing is added to a request by what fits into it
nothing_added : (a overhead whole : Request) (xs init : List Container) → a.cpu.0 ≡ effective Cpu xs init overhead → a.mem.0 ≡ effective Memory xs init overhead → Fits a overhead whole
    → a ≡ counted_of xs init overhead whole
nothing_added a overhead whole xs init cpu memory fits =
    let wc = a.within_cpu in
    let wm = a.within_mem in
    same_request a (or_more Cpu xs init overhead whole) (or_more Memory xs init overhead whole) (omega (arith, cpu, wc, fits.0)) (omega (arith, memory, wm, fits.1))

some_kept : (xs : List Container) → some_container xs ≡ Ok xs → some_or_unread true xs ≡ xs
some_kept [] e = absurd (cc)
some_kept (x ∷ xs) e = refl

pub counts_what_is_asked : CountsWhatIsAsked
counts_what_is_asked pod later spec a overhead e over holds =
    let r = was_read pod spec a e in
    let made = made_of r.xs r.init r.overhead a r.all in
    let is = were_read Overhead (codes "spec") spec overhead over in
    let same : r.overhead ≡ overhead = ok_same r.overhead overhead (amounts false Overhead (codes "spec") spec) r.over over in
    let cpu : a.cpu.0 ≡ effective Cpu r.xs r.init overhead = made.0 ∙ ap (effective Cpu r.xs r.init) same in
    let memory : a.mem.0 ≡ effective Memory r.xs r.init overhead = made.1 ∙ ap (effective Memory r.xs r.init) same in
    let less : IsNoMore overhead a = (omega (arith, cpu, over_needed Cpu r.xs r.init overhead), omega (arith, memory, over_needed Memory r.xs r.init overhead)) in
    let whole = whole_as later spec in
    let fits : Fits a overhead whole =
    larger_fits a overhead (amounts_as Asked (codes "spec") spec) (held_whole (field (codes "status") later)) (request_fits a overhead (λ r. amount_in Asked (codes "spec") r spec) holds.whole)
    (status_fits a overhead (field (codes "status") later) less holds.set_aside holds.in_force) in
    counted_is later spec
    ∙ ap (λ xs. Ok (counted_of (some_or_unread true xs) (init_as later spec) (overhead_as spec) whole)) (containers_same (codes "containers") (codes "containerStatuses") pod later spec r.xs holds.running r.are)
    ∙ ap (λ xs. Ok (counted_of xs (init_as later spec) (overhead_as spec) whole)) (some_kept r.xs r.some)
    ∙ ap (λ init. Ok (counted_of r.xs init (overhead_as spec) whole)) (containers_same (codes "initContainers") (codes "initContainerStatuses") pod later spec r.init holds.init r.start)
    ∙ ap (λ o. Ok (counted_of r.xs r.init o whole)) is.same
    ∙ ap Ok (sym (nothing_added a overhead whole r.xs r.init cpu memory fits))

-- ---- where nothing is said of what it holds

-- a pod whose overhead can be read is an object
under_object : (holder key : List ℕ) (json : Data) (o : Option Data) (b : Bool) → is_some (as_object json) ≡ b → under holder key (Some json) ≡ Ok o → is_some (as_object json) ≡ true
under_object holder key json o true is e = is
under_object holder key json o false is e = absurd (let no : under holder key (Some json) ≡ Err (refused BadField holder) = rw (is) refl in cc)

spec_is_object : (spec : Data) (overhead : Request) → amounts false Overhead (codes "spec") spec ≡ Ok overhead → is_some (as_object spec) ≡ true
unfolding amounts amount_in found_in
spec_is_object spec overhead e =
    let x = amount_in Overhead (codes "spec") Cpu spec in
    let a = behind (taken false (most Cpu) x) (λ cpu. taken false (most Memory) (amount_in Overhead (codes "spec") Memory spec) >>= λ memory. Ok (at_most cpu memory)) overhead e in
    let b = behind (found_in Overhead (codes "spec") Cpu spec) (amount_of Up Cpu) a.0 (taken_was (most Cpu) x a.0 a.1) in
    let c = behind (under (codes "spec") (codes "overhead") (Some spec)) (under (codes "overhead") (key_of Cpu)) b.0 b.1 in
    under_object (codes "spec") (codes "overhead") spec c.0 (is_some (as_object spec)) refl c.1

-- what it doesn't ask for as a whole
nothing_in : (part : List ℕ) (r : Resource) (spec : Data) → is_some (as_object spec) ≡ true → field (codes "resources") spec ≡ None → in_resources (codes "spec") part r spec ≡ Ok None
unfolding in_resources
nothing_in part r spec is none = rw (is, none) refl

nothing_asked : (r : Resource) (spec : Data) → is_some (as_object spec) ≡ true → field (codes "resources") spec ≡ None → amount_in Asked (codes "spec") r spec ≡ Ok 0
unfolding amount_in found_in
nothing_asked r spec is none = rw (nothing_in (codes "requests") r spec is none, nothing_in (codes "limits") r spec is none) refl

nothing_within : (r : Resource) (spec : Data) (asked overhead : Request) → amount_in Asked (codes "spec") r spec ≡ Ok 0 → of r overhead ≤ of r asked
    → IsNoLess (amount_in Asked (codes "spec") r spec >>= λ n. Ok (n + of r overhead)) (Ok (of r asked))
nothing_within r spec asked overhead none less = subst (λ x. IsNoLess (x >>= λ n. Ok (n + of r overhead)) (Ok (of r asked))) (sym none) (omega (arith, less))

none_of_each : (key : List ℕ) (found : Items) → EachOf (HoldsNoMore key no_items) found
none_of_each key no_items = tt
none_of_each key (item d rest) = (tt, none_of_each key rest)

no_statuses : (status_key : List ℕ) (later : Data) → field (codes "status") later ≡ None → statuses status_key later ≡ Ok no_items
no_statuses status_key later none = ap (λ o. under (codes "status") status_key o >>= items_of status_key) none

hold_nothing : (key status_key : List ℕ) (pod later spec : Data) (xs : List Container) → field (codes "status") later ≡ None → containers false key status_key pod spec ≡ Ok xs
    → HoldNoMore key status_key later spec
hold_nothing key status_key pod later spec xs none e =
    let f = was_found key status_key pod spec xs e in
    let is = by_array key (field key spec) f.found f.is in
    record { said = no_items; is = no_statuses status_key later none; few = ap (λ found. are_few found no_items) is ∙ f.few; each = none_of_each key (array_of (field key spec)) }

pub counts_the_same : CountsTheSame
counts_the_same pod later spec a e none alone =
    let r = was_read pod spec a e in
    let made = made_of r.xs r.init r.overhead a r.all in
    let is = spec_is_object spec r.overhead r.over in
    let cpu = nothing_within Cpu spec a r.overhead (nothing_asked Cpu spec is alone) (omega (arith, made.0, over_needed Cpu r.xs r.init r.overhead)) in
    let memory = nothing_within Memory spec a r.overhead (nothing_asked Memory spec is alone) (omega (arith, made.1, over_needed Memory r.xs r.init r.overhead)) in
    counts_what_is_asked pod later spec a r.overhead e r.over (record {
      running = hold_nothing (codes "containers") (codes "containerStatuses") pod later spec r.xs none r.are;
      init = hold_nothing (codes "initContainers") (codes "initContainerStatuses") pod later spec r.init none r.start;
      whole = (cpu, memory);
      set_aside = λ s there. absurd (let no : None ≡ Some s = sym none ∙ there in cc);
      in_force = λ s there. absurd (let no : None ≡ Some s = sym none ∙ there in cc);
    })
