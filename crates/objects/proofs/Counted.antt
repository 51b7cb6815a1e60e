-- What a pod that stands on a node counts for, as functions that have no fault: there it always
-- counts for something.
use Rattle.std.proofs.Common.{◌≡◌, ℕ, Bool, true, false, List, [], ◌∷◌, ◌++◌, codes, Option, None, Some, Result, Ok, Err, refl, sym, ap, ◌∙◌, append_assoc, append-nil}
use Rattle.std.specs.Prelude.{if◌then◌else◌}
use Rattle.serde_json.specs.Data.{Data, Items, no_items, item}
use Rattle.quant.specs.declared.amount.Request.{Request}
use Rattle.objects.specs.declared.amounts.Part.{Part}
use Rattle.objects.specs.declared.amounts.Part.TheVariants.{Asked, Overhead, Allocated, Requested}
use Rattle.objects.specs.declared.containers.Container.{Container}
use Rattle.objects.specs.declared.fault.Why.TheVariants.{TooMany}
use Rattle.objects.specs.declared.request.Reckoned.TheVariants.{Standing}
use Rattle.objects.specs.declared.resource.Resource.{Resource}
use Rattle.objects.specs.declared.resource.Resource.TheVariants.{Cpu, Memory}
use Rattle.objects.specs.LeftOut.{Fault, refused}
use Rattle.objects.specs.Quantity.{◌>>=◌, most}
use Rattle.objects.specs.Reading.{field, each, spelled, items_of}
use Rattle.objects.specs.Amounts.{amount_in, at_most, taken, amounts}
use Rattle.objects.specs.Containers.{larger, status_request, is_status_of, or_held, held, is_always, container, are_few, statuses, unread, listed, containers}
use Rattle.objects.specs.PodRequest.{some_or_unread, some_container, held_as_a_whole, or_more, as_held, in_all, reckoned, running, request_by, request}
use Rattle.objects.specs.Parts.{or_true, goes_on}

-- what comes behind a reading that went well, and before one
pub behind : {A B : Type 0} (x : Result A Fault) (f : A → Result B Fault) (y : B) → (x >>= f) ≡ Ok y → (a : A) × (x ≡ Ok a) × (f a ≡ Ok y)
behind (Ok a) f y e = (a, refl, e)
behind (Err fault) f y e = absurd (cc)

pub ahead : {A B : Type 0} (x : Result A Fault) (f : A → Result B Fault) (a : A) (y : B) → x ≡ Ok a → f a ≡ Ok y → (x >>= f) ≡ Ok y
ahead x f a y e g = ap (λ r. r >>= f) e ∙ g

-- a fault is taken as the worst
abbrev pub or_worst : {A : Type 0} → (worst : A) → Result A Fault → A
or_worst worst (Ok x) = x
or_worst worst (Err fault) = worst

taken_is : {A : Type 0} (worst : A) (x : Result A Fault) → taken true worst x ≡ Ok (or_worst worst x)
taken_is worst (Ok x) = refl
taken_is worst (Err fault) = refl

going_is : (x : Result Bool Fault) → taken true true x ≡ Ok (or_true x)
going_is (Ok b) = refl
going_is (Err fault) = refl

-- amounts
abbrev pub request_as : (Resource → Result ℕ Fault) → Request
request_as amount = at_most (or_worst (most Cpu) (amount Cpu)) (or_worst (most Memory) (amount Memory))

abbrev pub amounts_as : Part → (holder : List ℕ) → Data → Request
amounts_as part holder json = request_as (λ r. amount_in part holder r json)

pub amounts_are : (part : Part) (holder : List ℕ) (json : Data) → amounts true part holder json ≡ Ok (amounts_as part holder json)
unfolding amounts
amounts_are part holder json = rw (taken_is (most Cpu) (amount_in part holder Cpu json), taken_is (most Memory) (amount_in part holder Memory json)) refl

-- what statuses say
abbrev pub status_as : (holder : List ℕ) → Data → Request
status_as holder status = larger (amounts_as Allocated holder status) (amounts_as Requested holder status)

status_is : (holder : List ℕ) (status : Data) → status_request holder status ≡ Ok (status_as holder status)
unfolding status_request
status_is holder status = rw (amounts_are Allocated holder status, amounts_are Requested holder status) refl

abbrev pub with_status : (of_it : Bool) → Request → Data → Request
with_status of_it a status = if of_it then larger a (status_as (codes "containerStatuses") status) else a

by_status : (a : Request) (status : Data) (of_it : Bool) → (if of_it then (status_request (codes "containerStatuses") status >>= λ more. Ok (larger a more)) else Ok a) ≡ Ok (with_status of_it a status)
by_status a status true = ap (λ r. r >>= λ more. Ok (larger a more)) (status_is (codes "containerStatuses") status)
by_status a status false = refl

or_held_is : (name : List ℕ) (a : Request) (status : Data) → or_held name a status ≡ Ok (with_status (is_status_of name status) a status)
unfolding or_held
or_held_is name a status = by_status a status (is_status_of name status)

abbrev pub held_as : (name : List ℕ) → Request → (statuses : Items) → Request
held_as name a no_items = a
held_as name a (item status rest) = held_as name (with_status (is_status_of name status) a status) rest

held_is : (name : List ℕ) (a : Request) (said : Items) → held name a said ≡ Ok (held_as name a said)
held_is name a no_items = refl
held_is name a (item status rest) =
    let next = with_status (is_status_of name status) a status in
    ahead (or_held name a status) (λ more. held name more rest) next (held_as name next rest) (or_held_is name a status) (held_is name next rest)

-- containers
abbrev pub container_as : (key : List ℕ) → (statuses : Items) → Data → Container
container_as key said json = record { request = held_as (spelled (codes "name") json) (amounts_as Asked key json) said; goes_on = goes_on json }

container_is : (key : List ℕ) (said : Items) (json : Data) → container true key said json ≡ Ok (container_as key said json)
unfolding container
container_is key said json =
    rw (amounts_are Asked key json, held_is (spelled (codes "name") json) (amounts_as Asked key json) said, going_is (is_always (field (codes "restartPolicy") json))) refl

abbrev pub row_as : (key : List ℕ) → (statuses containers : Items) → List Container
row_as key said no_items = []
row_as key said (item d rest) = container_as key said d ∷ row_as key said rest

row_is : (key : List ℕ) (said items : Items) (before : List Container) → each (λ b. container true key said) before items ≡ Ok (before ++ row_as key said items)
row_is key said no_items before = ap Ok (sym (append-nil before))
row_is key said (item d rest) before =
    let c = container_as key said d in
    ahead (container true key said d) (λ x. each (λ b. container true key said) (before ++ x ∷ []) rest) c (before ++ c ∷ row_as key said rest) (container_is key said d)
    (row_is key said rest (before ++ c ∷ []) ∙ ap Ok (append_assoc before (c ∷ []) (row_as key said rest)))

abbrev pub list_as : (key : List ℕ) → (found said : Result Items Fault) → List Container
list_as key (Ok found) (Ok said) = if are_few found said then row_as key said found else unread ∷ []
list_as key (Ok found) (Err e) = unread ∷ []
list_as key (Err e) said = unread ∷ []

by_few : (key : List ℕ) (found said : Items) (few : Bool)
    → taken true (unread ∷ []) (if few then each (λ b. container true key said) [] found else Err (refused TooMany key)) ≡ Ok (if few then row_as key said found else unread ∷ [])
by_few key found said true = ap (taken true (unread ∷ [])) (row_is key said found [])
by_few key found said false = refl

list_is : (key : List ℕ) (found said : Result Items Fault) → taken true (unread ∷ []) (found >>= λ items. said >>= λ statuses. listed true key items statuses) ≡ Ok (list_as key found said)
list_is key (Ok found) (Ok said) = by_few key found said (are_few found said)
list_is key (Ok found) (Err e) = refl
list_is key (Err e) said = refl

abbrev pub containers_as : (key status_key : List ℕ) → (pod spec : Data) → List Container
containers_as key status_key pod spec = list_as key (items_of key (field key spec)) (statuses status_key pod)

containers_are : (key status_key : List ℕ) (pod spec : Data) → containers true key status_key pod spec ≡ Ok (containers_as key status_key pod spec)
containers_are key status_key pod spec = list_is key (items_of key (field key spec)) (statuses status_key pod)

abbrev pub running_as : (pod spec : Data) → List Container
running_as pod spec = some_or_unread true (containers_as (codes "containers") (codes "containerStatuses") pod spec)

abbrev pub init_as : (pod spec : Data) → List Container
init_as pod spec = containers_as (codes "initContainers") (codes "initContainerStatuses") pod spec

there_are_some : (cs : List Container) → some_container (some_or_unread true cs) ≡ Ok (some_or_unread true cs)
there_are_some [] = refl
there_are_some (c ∷ cs) = refl

-- a pod
abbrev pub overhead_as : (spec : Data) → Request
overhead_as spec = amounts_as Overhead (codes "spec") spec

abbrev pub held_whole : Option Data → Request
held_whole None = at_most 0 0
held_whole (Some status) = status_as (codes "status") status

held_whole_is : (status : Option Data) → held_as_a_whole status ≡ Ok (held_whole status)
held_whole_is None = refl
held_whole_is (Some status) = status_is (codes "status") status

abbrev pub whole_as : (pod spec : Data) → Request
whole_as pod spec = larger (amounts_as Asked (codes "spec") spec) (held_whole (field (codes "status") pod))

abbrev pub counted_of : (running init : List Container) → (overhead whole : Request) → Request
counted_of running init overhead whole = at_most (or_more Cpu running init overhead whole) (or_more Memory running init overhead whole)

abbrev pub counted_as : (pod spec : Data) → Request
counted_as pod spec = counted_of (running_as pod spec) (init_as pod spec) (overhead_as spec) (whole_as pod spec)

held_pod_is : (pod spec : Data) (running init : List Container) (overhead : Request) → as_held pod spec running init overhead ≡ Ok (counted_of running init overhead (whole_as pod spec))
unfolding as_held
held_pod_is pod spec running init overhead = rw (amounts_are Asked (codes "spec") spec, held_whole_is (field (codes "status") pod)) refl

pub counted_is : (pod spec : Data) → request Standing pod spec ≡ Ok (counted_as pod spec)
unfolding request_by
counted_is pod spec =
    let found = containers_as (codes "containers") (codes "containerStatuses") pod spec in
    let cs = some_or_unread true found in
    let init = init_as pod spec in
    let overhead = overhead_as spec in
    let counted = counted_as pod spec in
    ahead (running true pod spec) (λ xs. containers true (codes "initContainers") (codes "initContainerStatuses") pod spec >>= in_all Standing pod spec xs) cs counted
    (ahead (containers true (codes "containers") (codes "containerStatuses") pod spec) (λ found. Ok (some_or_unread true found)) found cs (containers_are (codes "containers") (codes "containerStatuses") pod spec) refl)
    (ahead (containers true (codes "initContainers") (codes "initContainerStatuses") pod spec) (in_all Standing pod spec cs) init counted (containers_are (codes "initContainers") (codes "initContainerStatuses") pod spec)
    (ahead (amounts true Overhead (codes "spec") spec) (λ overhead. some_container cs >>= λ xs. reckoned Standing pod spec xs init overhead) overhead counted (amounts_are Overhead (codes "spec") spec)
    (ahead (some_container cs) (λ xs. as_held pod spec xs init overhead) cs counted (there_are_some found) (held_pod_is pod spec cs init overhead))))
