-- What a pod counts for on a node has all of its parts that can be read.
use Rattle.std.proofs.Common.{◌≡◌, ℕ, ◌+◌, ◌≤◌, min, max, Bool, true, false, List, [], ◌∷◌, codes, Option, Some, None, Result, Ok, Err, is_some, refl, sym, subst, arith}
use Rattle.std.specs.Prelude.{if◌then◌else◌, unwrap_or, option_and_then}
use Rattle.std.specs.Option.{ok_or}
use Rattle.std.specs.List.{fold}
use Rattle.serde_json.specs.Data.{Data, Items, no_items, item}
use Rattle.serde_json.specs.Find.{as_array, as_object}
use Rattle.quant.specs.declared.amount.Request.{Request}
use Rattle.objects.specs.declared.amounts.Part.{Part}
use Rattle.objects.specs.declared.amounts.Part.TheVariants.{Asked, Overhead, Allocated, Requested}
use Rattle.objects.specs.declared.containers.Container.{Container}
use Rattle.objects.specs.declared.fault.Why.TheVariants.{BadField}
use Rattle.objects.specs.declared.resource.Resource.{Resource}
use Rattle.objects.specs.declared.resource.Resource.TheVariants.{Cpu, Memory, Pods}
use Rattle.objects.specs.LeftOut.{Fault, refused}
use Rattle.objects.specs.Quantity.{◌>>=◌, most}
use Rattle.objects.specs.Reading.{field, within, spelled, items_of, absent_or}
use Rattle.objects.specs.Amounts.{under, amount_in, at_most}
use Rattle.objects.specs.Containers.{of, larger, is_status_of, are_few, statuses, unread, together, going_on, beside_others, effective}
use Rattle.objects.specs.PodRequest.{some_or_unread, or_more}
use Rattle.objects.specs.Parts.{or_none, read, held_by, array_of, sum_of, EachOf, or_held_by, container_part, goes_on, running_part, init_part, side_by_side, overhead_part, Has, CountsParts}
use Rattle.objects.specs.Enough.{IsNoMore}
use Rattle.objects.proofs.Moments.{no_more_self, larger_left, larger_right, amount_more, moments, begun, moments_begun, moments_from, unread_cpu, unread_memory}
use Rattle.objects.proofs.Counted.{or_worst, amounts_as, status_as, with_status, held_as, container_as, row_as, list_as, containers_as, running_as, init_as, overhead_as, held_whole, whole_as, counted_of, counted_as, counted_is}
use Rattle.objects.proofs.Enough.{held_more}

-- a resource that a pod asks for
abbrev IsAsked : Resource → Type 0
IsAsked Cpu = Unit {0}
IsAsked Memory = Unit {0}
IsAsked Pods = ⊥

-- a request has so much of it, or the most
abbrev HasSo : Resource → ℕ → Request → Type 0
HasSo r n a = min (most r) n ≤ of r a

both_so : (worst n k x : ℕ) → min worst n ≤ x → min worst k ≤ x → min worst (max n k) ≤ x
both_so worst n k x one other = omega (arith, one, other)

so_more : (r : Resource) (n : ℕ) (a b : Request) → HasSo r n a → IsNoMore a b → HasSo r n b
so_more r n a b so less = omega (arith, so, amount_more r a b less)

-- ---- amounts and statuses

none_worst : (worst : ℕ) (x : Result ℕ Fault) → min worst (or_none x) ≤ min worst (or_worst worst x)
none_worst worst (Ok n) = omega arith
none_worst worst (Err e) = omega arith

amounts_so : (r : Resource) → IsAsked r → (part : Part) (holder : List ℕ) (json : Data) → HasSo r (read part holder r json) (amounts_as part holder json)
unfolding at_most
amounts_so Cpu asked part holder json = none_worst (most Cpu) (amount_in part holder Cpu json)
amounts_so Memory asked part holder json = none_worst (most Memory) (amount_in part holder Memory json)
amounts_so Pods asked part holder json = absurd asked

status_so : (r : Resource) → IsAsked r → (holder : List ℕ) (status : Data) → HasSo r (held_by holder r status) (status_as holder status)
status_so r asked holder status =
    let a = amounts_as Allocated holder status in
    let b = amounts_as Requested holder status in
    both_so (most r) (read Allocated holder r status) (read Requested holder r status) (of r (larger a b))
    (so_more r (read Allocated holder r status) a (larger a b) (amounts_so r asked Allocated holder status) (larger_left a b))
    (so_more r (read Requested holder r status) b (larger a b) (amounts_so r asked Requested holder status) (larger_right a b))

-- one status more
with_so : (r : Resource) → IsAsked r → (of_it : Bool) (a : Request) (status : Data) → HasSo r (if of_it then held_by (codes "containerStatuses") r status else 0) (with_status of_it a status)
with_so r asked true a status =
    let s = status_as (codes "containerStatuses") status in
    so_more r (held_by (codes "containerStatuses") r status) s (larger a s) (status_so r asked (codes "containerStatuses") status) (larger_right a s)
with_so r asked false a status = omega arith

with_kept : (of_it : Bool) (a : Request) (status : Data) → IsNoMore a (with_status of_it a status)
with_kept true a status = larger_left a (status_as (codes "containerStatuses") status)
with_kept false a status = no_more_self a

held_so : (r : Resource) → IsAsked r → (name : List ℕ) (n : ℕ) (a : Request) (said : Items) → HasSo r n a → HasSo r (or_held_by r name said n) (held_as name a said)
held_so r asked name n a no_items so = so
held_so r asked name n a (item status rest) so =
    let of_it = is_status_of name status in
    let next = with_status of_it a status in
    let holds = if of_it then held_by (codes "containerStatuses") r status else 0 in
    both_so (most r) holds (or_held_by r name rest n) (of r (held_as name next rest))
    (so_more r holds next (held_as name next rest) (with_so r asked of_it a status) (held_more name next next rest (no_more_self next)))
    (held_so r asked name n next rest (so_more r n a next so (with_kept of_it a status)))

container_so : (r : Resource) → IsAsked r → (key : List ℕ) (said : Items) (json : Data) → HasSo r (container_part key r said json) (container_as key said json).request
container_so r asked key said json = held_so r asked (spelled (codes "name") json) (read Asked key r json) (amounts_as Asked key json) said (amounts_so r asked Asked key json)

-- ---- rows of containers

side_so : (r : Resource) → IsAsked r → (key : List ℕ) (said items : Items) (n a : ℕ) → min (most r) n ≤ a
    → min (most r) (n + sum_of (container_part key r said) items) ≤ fold (λ a c. a + of r c.request) a (row_as key said items)
side_so r asked key said no_items n a so = omega (arith, so)
side_so r asked key said (item d rest) n a so =
    let p = container_part key r said d in
    let c = container_as key said d in
    omega (arith, side_so r asked key said rest (n + p) (a + of r c.request) (omega (arith, so, container_so r asked key said d)))

if_so : (worst n k : ℕ) (goes : Bool) → min worst n ≤ k → min worst (if goes then n else 0) ≤ (if goes then k else 0)
if_so worst n k true so = so
if_so worst n k false so = omega arith

going_so : (r : Resource) → IsAsked r → (key : List ℕ) (said items : Items) (n a : ℕ) → min (most r) n ≤ a
    → min (most r) (n + sum_of (λ json. if goes_on json then container_part key r said json else 0) items) ≤ fold (λ a c. a + beside_others r c) a (row_as key said items)
going_so r asked key said no_items n a so = omega (arith, so)
going_so r asked key said (item d rest) n a so =
    let p = container_part key r said d in
    let c = container_as key said d in
    let q = if goes_on d then p else 0 in
    let one : min (most r) q ≤ beside_others r c = if_so (most r) p (of r c.request) (goes_on d) (container_so r asked key said d) in
    omega (arith, going_so r asked key said rest (n + q) (a + beside_others r c) (omega (arith, so, one)))

-- when one of the init containers runs, there is room for it
at_once : (r : Resource) (t b n top : ℕ) (goes : Bool) (rest : List Container) → begun r t b goes n rest ≤ top → (n ≤ top) × (before : ℕ) × (moments r t before rest ≤ top)
at_once r t b n top true rest less = (omega (arith, less, moments_from r t (b + n) rest), b + n, less)
at_once r t b n top false rest less = (omega (arith, less), b, omega (arith, less))

starting_so : (r : Resource) → IsAsked r → (key : List ℕ) (said items : Items) (t b top : ℕ) → moments r t b (row_as key said items) ≤ top
    → EachOf (λ json. min (most r) (container_part key r said json) ≤ top) items
starting_so r asked key said no_items t b top less = tt
starting_so r asked key said (item d rest) t b top less =
    let c = container_as key said d in
    let row = row_as key said rest in
    let once = at_once r t b (of r c.request) top c.goes_on row (subst (λ k. k ≤ top) (moments_begun r t b c row) less) in
    (omega (arith, once.0, container_so r asked key said d), starting_so r asked key said rest t once.1 top once.2)

each_always : (P : Data → Type 0) → ((d : Data) → P d) → (items : Items) → EachOf P items
each_always P all no_items = tt
each_always P all (item d rest) = (all d, each_always P all rest)

-- ---- lists, which may not be read

abbrev IsSaid : Result Items Fault → Items → Type 0
IsSaid (Ok xs) ys = xs ≡ ys
IsSaid (Err e) ys = Unit {0}

by_array : (x : Option Items) (fault : Fault) → IsSaid (ok_or x fault) (unwrap_or x no_items)
by_array (Some xs) fault = refl
by_array None fault = tt

array_said : (key : List ℕ) (value : Option Data) → IsSaid (items_of key value) (array_of value)
array_said key None = refl
array_said key (Some value) = by_array (as_array value) (refused BadField key)

by_object : (key : List ℕ) (status : Data) (b : Bool) → IsSaid ((if b then Ok (field key status) else Err (refused BadField (codes "status"))) >>= items_of key) (array_of (field key status))
by_object key status true = array_said key (field key status)
by_object key status false = tt

by_status : (key : List ℕ) (status : Option Data) → IsSaid (under (codes "status") key status >>= items_of key) (array_of (option_and_then (field key) status))
by_status key None = refl
by_status key (Some status) = by_object key status (is_some (as_object status))

statuses_said : (key : List ℕ) (pod : Data) → IsSaid (statuses key pod) (array_of (within (codes "status") key pod))
statuses_said key pod = by_status key (field (codes "status") pod)

unread_so : (r : Resource) → IsAsked r → most r ≤ of r unread.request
unread_so Cpu asked = omega (arith, unread_cpu)
unread_so Memory asked = omega (arith, unread_memory)
unread_so Pods asked = absurd asked

unread_of : (r : Resource) → IsAsked r → (n : ℕ) → min (most r) n ≤ of r unread.request
unread_of r asked n = omega (arith, unread_so r asked)

-- what a list comes to, by what is known of the rows that it may be
by_few : (P : List Container → Type 0) (key : List ℕ) (found said : Items) (few : Bool) → P (row_as key said found) → P (unread ∷ []) → P (if few then row_as key said found else unread ∷ [])
by_few P key found said true row none = row
by_few P key found said false row none = none

list_of : (P : List Container → Type 0) (key : List ℕ) (found said : Result Items Fault) (items there : Items) → IsSaid found items → IsSaid said there
    → P (row_as key there items) → P (unread ∷ []) → P (list_as key found said)
list_of P key (Ok found) (Ok said) items there is was row none =
    by_few P key found said (are_few found said) (subst (λ xs. P (row_as key said xs)) (sym is) (subst (λ xs. P (row_as key xs items)) (sym was) row)) none
list_of P key (Ok found) (Err e) items there is was row none = none
list_of P key (Err e) said items there is was row none = none

containers_of : (P : List Container → Type 0) (key status_key : List ℕ) (pod spec : Data)
    → P (row_as key (array_of (within (codes "status") status_key pod)) (array_of (field key spec))) → P (unread ∷ []) → P (containers_as key status_key pod spec)
containers_of P key status_key pod spec row none =
    list_of P key (items_of key (field key spec)) (statuses status_key pod) (array_of (field key spec)) (array_of (within (codes "status") status_key pod))
    (array_said key (field key spec)) (statuses_said status_key pod) row none

-- the containers, of which there is one at least, and the init containers that go on running
or_unread_so : (r : Resource) → IsAsked r → (n : ℕ) (cs : List Container) → min (most r) n ≤ together r cs → min (most r) n ≤ together r (some_or_unread true cs)
or_unread_so r asked n [] so = omega (arith, unread_of r asked n)
or_unread_so r asked n (c ∷ cs) so = so

running_so : (r : Resource) → IsAsked r → (pod spec : Data) → min (most r) (sum_of (running_part r pod) (array_of (field (codes "containers") spec))) ≤ together r (running_as pod spec)
running_so r asked pod spec =
    let key = codes "containers" in
    let said = array_of (within (codes "status") (codes "containerStatuses") pod) in
    let found = array_of (field key spec) in
    let n = sum_of (running_part r pod) found in
    or_unread_so r asked n (containers_as key (codes "containerStatuses") pod spec)
    (containers_of (λ cs. min (most r) n ≤ together r cs) key (codes "containerStatuses") pod spec
    (omega (arith, side_so r asked key said found 0 0 (omega arith))) (omega (arith, unread_of r asked n)))

init_so : (r : Resource) → IsAsked r → (pod spec : Data)
    → min (most r) (sum_of (λ json. if goes_on json then init_part r pod json else 0) (array_of (field (codes "initContainers") spec))) ≤ going_on r (init_as pod spec)
init_so r asked pod spec =
    let key = codes "initContainers" in
    let said = array_of (within (codes "status") (codes "initContainerStatuses") pod) in
    let found = array_of (field key spec) in
    let n = sum_of (λ json. if goes_on json then init_part r pod json else 0) found in
    containers_of (λ cs. min (most r) n ≤ going_on r cs) key (codes "initContainerStatuses") pod spec
    (omega (arith, going_so r asked key said found 0 0 (omega arith))) (omega (arith, unread_of r asked n))

-- each init container
unread_moments : (r : Resource) (t : ℕ) → of r unread.request ≤ moments r t 0 (unread ∷ [])
unread_moments r t = omega arith

abbrev EachInit : Resource → (pod spec : Data) → (top : ℕ) → Type 0
EachInit r pod spec top = EachOf (λ json. min (most r) (init_part r pod json) ≤ top) (array_of (field (codes "initContainers") spec))

each_init : (r : Resource) → IsAsked r → (pod spec : Data) (t : ℕ) → EachInit r pod spec (moments r t 0 (init_as pod spec))
each_init r asked pod spec t =
    let key = codes "initContainers" in
    let said = array_of (within (codes "status") (codes "initContainerStatuses") pod) in
    let found = array_of (field key spec) in
    let top = unread_moments r t in
    containers_of (λ cs. EachInit r pod spec (moments r t 0 cs)) key (codes "initContainerStatuses") pod spec
    (starting_so r asked key said found t 0 (moments r t 0 (row_as key said found)) (omega arith))
    (each_always (λ json. min (most r) (init_part r pod json) ≤ moments r t 0 (unread ∷ [])) (λ json. omega (arith, unread_of r asked (init_part r pod json), top)) found)

-- ---- a pod

-- what it counts for has what its containers come to, and what it asks for or holds as a whole
counted_so : (r : Resource) → IsAsked r → (cs init : List Container) (overhead whole : Request) (n : ℕ) → min (most r) n ≤ or_more r cs init overhead whole → HasSo r n (counted_of cs init overhead whole)
unfolding at_most
counted_so Cpu asked cs init overhead whole n so = omega (arith, so)
counted_so Memory asked cs init overhead whole n so = omega (arith, so)
counted_so Pods asked cs init overhead whole n so = absurd asked

effective_side : (r : Resource) (cs init : List Container) (overhead : Request) (n k o : ℕ) → min (most r) n ≤ together r cs → min (most r) k ≤ going_on r init → min (most r) o ≤ of r overhead
    → min (most r) (n + k + o) ≤ effective r cs init overhead
unfolding effective
effective_side r cs init overhead n k o side going over = omega (arith, side, going, over)

effective_once : (r : Resource) (cs init : List Container) (overhead : Request) (n o : ℕ) → min (most r) n ≤ moments r (together r cs) 0 init → min (most r) o ≤ of r overhead
    → min (most r) (n + o) ≤ effective r cs init overhead
unfolding effective
effective_once r cs init overhead n o once over = omega (arith, once, over)

over_so : (r : Resource) → IsAsked r → (spec : Data) → HasSo r (overhead_part r spec) (overhead_as spec)
over_so r asked spec = amounts_so r asked Overhead (codes "spec") spec

held_whole_so : (r : Resource) → IsAsked r → (status : Option Data) → HasSo r (absent_or 0 (held_by (codes "status") r) status) (held_whole status)
held_whole_so r asked None = omega arith
held_whole_so r asked (Some status) = status_so r asked (codes "status") status

-- a part of each kind, of one resource
side_has : (r : Resource) → IsAsked r → (pod spec : Data) → HasSo r (side_by_side r pod spec + overhead_part r spec) (counted_as pod spec)
side_has r asked pod spec =
    let n = sum_of (running_part r pod) (array_of (field (codes "containers") spec)) in
    let k = sum_of (λ json. if goes_on json then init_part r pod json else 0) (array_of (field (codes "initContainers") spec)) in
    let all = effective_side r (running_as pod spec) (init_as pod spec) (overhead_as spec) n k (overhead_part r spec) (running_so r asked pod spec) (init_so r asked pod spec) (over_so r asked spec) in
    counted_so r asked (running_as pod spec) (init_as pod spec) (overhead_as spec) (whole_as pod spec) (n + k + overhead_part r spec) (omega (arith, all))

once_has : (r : Resource) → IsAsked r → (pod spec : Data) (n : ℕ) → min (most r) n ≤ moments r (together r (running_as pod spec)) 0 (init_as pod spec) → HasSo r (n + overhead_part r spec) (counted_as pod spec)
once_has r asked pod spec n so =
    let once = effective_once r (running_as pod spec) (init_as pod spec) (overhead_as spec) n (overhead_part r spec) so (over_so r asked spec) in
    counted_so r asked (running_as pod spec) (init_as pod spec) (overhead_as spec) (whole_as pod spec) (n + overhead_part r spec) (omega (arith, once))

whole_has : (r : Resource) → IsAsked r → (pod spec : Data) (n : ℕ) → HasSo r n (whole_as pod spec) → HasSo r (n + overhead_part r spec) (counted_as pod spec)
whole_has r asked pod spec n so =
    counted_so r asked (running_as pod spec) (init_as pod spec) (overhead_as spec) (whole_as pod spec) (n + overhead_part r spec) (omega (arith, so, over_so r asked spec))

asked_has : (r : Resource) → IsAsked r → (pod spec : Data) → HasSo r (read Asked (codes "spec") r spec + overhead_part r spec) (counted_as pod spec)
asked_has r asked pod spec =
    let a = amounts_as Asked (codes "spec") spec in
    whole_has r asked pod spec (read Asked (codes "spec") r spec)
    (so_more r (read Asked (codes "spec") r spec) a (whole_as pod spec) (amounts_so r asked Asked (codes "spec") spec) (larger_left a (held_whole (field (codes "status") pod))))

held_has : (r : Resource) → IsAsked r → (pod spec : Data) → HasSo r (absent_or 0 (held_by (codes "status") r) (field (codes "status") pod) + overhead_part r spec) (counted_as pod spec)
held_has r asked pod spec =
    let status = field (codes "status") pod in
    let n = absent_or 0 (held_by (codes "status") r) status in
    whole_has r asked pod spec n
    (so_more r n (held_whole status) (whole_as pod spec) (held_whole_so r asked status) (larger_right (amounts_as Asked (codes "spec") spec) (held_whole status)))

-- of both
both_each : (P Q R : Data → Type 0) → ((d : Data) → P d → Q d → R d) → (items : Items) → EachOf P items → EachOf Q items → EachOf R items
both_each P Q R f no_items p q = tt
both_each P Q R f (item d rest) p q = (f d p.0 q.0, both_each P Q R f rest p.1 q.1)

init_has : (pod spec : Data) → EachOf (λ json. Has (counted_as pod spec) spec (λ r. init_part r pod json)) (array_of (field (codes "initContainers") spec))
init_has pod spec =
    let cpu = together Cpu (running_as pod spec) in
    let memory = together Memory (running_as pod spec) in
    both_each (λ json. min (most Cpu) (init_part Cpu pod json) ≤ moments Cpu cpu 0 (init_as pod spec))
    (λ json. min (most Memory) (init_part Memory pod json) ≤ moments Memory memory 0 (init_as pod spec))
    (λ json. Has (counted_as pod spec) spec (λ r. init_part r pod json))
    (λ json one other. (once_has Cpu tt pod spec (init_part Cpu pod json) one, once_has Memory tt pod spec (init_part Memory pod json) other))
    (array_of (field (codes "initContainers") spec)) (each_init Cpu tt pod spec cpu) (each_init Memory tt pod spec memory)

pub counts_parts : CountsParts
counts_parts pod spec = (
  counted_as pod spec,
  counted_is pod spec,
  record {
    running = (side_has Cpu tt pod spec, side_has Memory tt pod spec);
    starting = init_has pod spec;
    whole = (asked_has Cpu tt pod spec, asked_has Memory tt pod spec);
    held = (held_has Cpu tt pod spec, held_has Memory tt pod spec);
  },
)
