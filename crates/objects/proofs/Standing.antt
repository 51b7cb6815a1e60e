-- A pod that stands on a node is always counted.
use Rattle.std.proofs.Common.{◌≡◌, ℕ, nat_le, length, Bool, true, false, cond, not, is_some, List, [], ◌∷◌, codes, bytes_eq, Option, Some, None, Result, Ok, Err, inl, inr, refl, ◌⊎◌}
use Rattle.std.proofs.lemmas.Slice.Eq.{bytes_eq-Decides}
use Rattle.std.specs.Option.{ok_or}
use Rattle.serde_json.specs.Data.{Data}
use Rattle.quant.specs.Name.{is_name}
use Rattle.quant.specs.declared.version.Version.{Version}
use Rattle.objects.specs.declared.change.Change.{Change}
use Rattle.objects.specs.declared.change.Change.TheVariants.{There, Changed, Gone}
use Rattle.objects.specs.declared.change.Kind.{Kind}
use Rattle.objects.specs.declared.change.Kind.TheVariants.{Node, Pod}
use Rattle.objects.specs.declared.fault.Why.TheVariants.{BadField, NotJson}
use Rattle.objects.specs.declared.request.Reckoned.TheVariants.{Standing}
use Rattle.objects.specs.declared.translation.TheConstants.{MAX_OBJECT}
use Rattle.objects.specs.Quantity.{◌>>=◌}
use Rattle.objects.specs.LeftOut.{Fault, refused}
use Rattle.objects.specs.Reading.{field, part_of, spelled}
use Rattle.objects.specs.PodRequest.{request}
use Rattle.objects.specs.Site.{Site, Telling, telling}
use Rattle.objects.specs.Told.{Told, name_of, placed_told, bound_told, has_ended, node_name, by_node, pod_told, kind_told, kind_of, by_kind, object_told, is_bookmark, changed_told, event_told, value_told, is_blank, parsed, line_told, told_or_uncounted, told}
use Rattle.objects.specs.Standing.{IsObjectCounted, IsEventCounted, IsValueCounted, IsCounted}

-- what is told, where no fault is, has a property
abbrev Covered : (Told → Type 0) → Result Told Fault → Type 0
Covered P (Ok told) = P told
Covered P (Err e) = Unit {0}

choose : (P : Told → Type 0) (b : Bool) (x y : Result Told Fault) → (b ≡ true → Covered P x) → (b ≡ false → Covered P y) → Covered P (cond b x y)
choose P true x y p q = p refl
choose P false x y p q = q refl

weaken : {P Q : Told → Type 0} (r : Result Told Fault) → ((t : Told) → P t → Q t) → Covered P r → Covered Q r
weaken (Ok t) f h = f t h
weaken (Err e) f h = tt

always : {P : Told → Type 0} (r : Result Told Fault) → ((t : Told) → P t) → Covered P r
always (Ok t) f = f t
always (Err e) f = tt

-- what comes behind a reading
behind : {A : Type 0} (P : Told → Type 0) (x : Result A Fault) (f : A → Result Told Fault) → ((a : A) → x ≡ Ok a → Covered P (f a)) → Covered P (x >>= f)
behind P (Ok a) f h = h a refl
behind P (Err e) f h = tt

-- a field that has to be there
is_there : (o : Option Data) (fault : Fault) (d : Data) → ok_or o fault ≡ Ok d → o ≡ Some d
is_there (Some x) fault d e = cc
is_there None fault d e = absurd (cc)

is_field : (key : List ℕ) (json d : Data) → part_of key json ≡ Ok d → field key json ≡ Some d
unfolding part_of
is_field key json d e = is_there (field key json) (refused BadField key) d e

-- a pod's object, by its node

placed_counted : (how : Telling) (node : List ℕ) (spec pod : Data) → kind_of pod ≡ Ok (Some Pod)
    → field (codes "spec") pod ≡ Some spec → node_name spec ≡ Ok node
    → Covered (IsObjectCounted how.version pod) (placed_told how node spec pod)
unfolding placed_told
placed_counted how node spec pod k s n =
    let P = IsObjectCounted how.version pod in
    behind P (name_of Pod how.by_uid pod) _ (λ uid u. behind P (request Standing pod spec) _ (λ takes t. inr (record {
      node = node;
      spec = spec;
      stands = record { is_pod = k; has_spec = s; placed = n };
      uid = uid;
      takes = takes;
      counted = t;
      event = refl;
    })))

bound_counted : (how : Telling) (node : List ℕ) (spec pod : Data) → kind_of pod ≡ Ok (Some Pod)
    → field (codes "spec") pod ≡ Some spec → node_name spec ≡ Ok node
    → Covered (IsObjectCounted how.version pod) (bound_told how node spec pod)
bound_counted how node spec pod k s n =
    choose (IsObjectCounted how.version pod) (is_name node) _ _
    (λ h. placed_counted how node spec pod k s n)
    (λ h. inl (inr (inr (record { spec = spec; has_spec = s; name = node; said = n; none = h }))))

no_name : is_name [] ≡ false
unfolding is_name
no_name = refl

node_counted : (how : Telling) (spec pod : Data) (node : List ℕ) → kind_of pod ≡ Ok (Some Pod)
    → field (codes "spec") pod ≡ Some spec → node_name spec ≡ Ok node
    → Covered (IsObjectCounted how.version pod) (by_node how spec pod node)
node_counted how spec pod [] k s n =
    inl (inr (inr (record { spec = spec; has_spec = s; name = []; said = n; none = no_name })))
node_counted how spec pod (x ∷ more) k s n = bound_counted how (x ∷ more) spec pod k s n

pod_counted : (how : Telling) (pod : Data) → kind_of pod ≡ Ok (Some Pod) → Covered (IsObjectCounted how.version pod) (pod_told how pod)
unfolding pod_told
pod_counted how pod k =
    let P = IsObjectCounted how.version pod in
    choose P (has_ended pod) _ _ (λ h. inl (inr (inl h)))
    (λ h. behind P (part_of (codes "spec") pod) _ (λ spec s. behind P (node_name spec) _ (λ node n. node_counted how spec pod node k (is_field (codes "spec") pod spec s) n)))

-- an object, by its kind

by_change_counted : (site : Site) (by_uid : Bool) (version : Version) (change : Change) (pod : Data) → ¬ (change ≡ Gone) → kind_of pod ≡ Ok (Some Pod)
    → Covered (IsObjectCounted version pod) (kind_told (telling site by_uid version change) Pod pod)
unfolding kind_told
by_change_counted site by_uid version There pod h k = pod_counted (telling site by_uid version There) pod k
by_change_counted site by_uid version Changed pod h k = pod_counted (telling site by_uid version Changed) pod k
by_change_counted site by_uid version Gone pod h k = absurd (h refl)

kind_counted : (site : Site) (by_uid : Bool) (version : Version) (change : Change) (json : Data) (kind : Option Kind)
    → ¬ (change ≡ Gone) → kind_of json ≡ Ok kind
    → Covered (IsObjectCounted version json) (by_kind (telling site by_uid version change) json kind)
kind_counted site by_uid version became json (Some Node) h k =
    always (kind_told (telling site by_uid version became) Node json) (λ t. inl (inl (record { kind = Some Node; said = k; other = λ e. cc })))
kind_counted site by_uid version became json (Some Pod) h k = by_change_counted site by_uid version became json h k
kind_counted site by_uid version became json None h k =
    choose (IsObjectCounted version json) (is_some (field (codes "items") json)) _ _ (λ e. tt) (λ e. inl (inl (record { kind = None; said = k; other = λ e. cc })))

object_counted : (site : Site) (by_uid : Bool) (version : Version) (change : Change) (json : Data) → ¬ (change ≡ Gone)
    → Covered (IsObjectCounted version json) (object_told (telling site by_uid version change) json)
unfolding object_told
object_counted site by_uid version became json h =
    behind (IsObjectCounted version json) (kind_of json) (by_kind (telling site by_uid version became) json) (λ kind k. kind_counted site by_uid version became json kind h k)

-- an event, by its type

abbrev IsHeldCounted : Version → (type : List ℕ) → Data → Told → Type 0
IsHeldCounted version type held told = (type ≡ codes "BOOKMARK") ⊎ ((type ≡ codes "DELETED") ⊎ IsObjectCounted version held told)

held_counted : (site : Site) (by_uid : Bool) (version : Version) (type : List ℕ) (held : Data) (added modified deleted : Bool)
    → (deleted ≡ true → type ≡ codes "DELETED")
    → Covered (IsHeldCounted version type held)
    (changed_told (telling site by_uid version) type held (cond added (Some There) (cond modified (Some Changed) (cond deleted (Some Gone) None))))
held_counted site by_uid version type held true modified deleted h =
    weaken (object_told (telling site by_uid version There) held) (λ t c. inr (inr c)) (object_counted site by_uid version There held (λ e. cc))
held_counted site by_uid version type held false true deleted h =
    weaken (object_told (telling site by_uid version Changed) held) (λ t c. inr (inr c)) (object_counted site by_uid version Changed held (λ e. cc))
held_counted site by_uid version type held false false true h = always (object_told (telling site by_uid version Gone) held) (λ t. inr (inl (h refl)))
held_counted site by_uid version type held false false false h =
    choose (IsHeldCounted version type held) (is_bookmark type) _ _ (λ e. inl ((bytes_eq-Decides type (codes "BOOKMARK")).0 e)) (λ e. tt)

event_counted : (site : Site) (by_uid : Bool) (version : Version) (json : Data) (held : Option Data)
    → Covered (IsEventCounted version json held) (event_told (telling site by_uid version) json held)
event_counted site by_uid version json None = object_counted site by_uid version There json (λ e. cc)
event_counted site by_uid version json (Some held) =
    let type = spelled (codes "type") json in
    held_counted site by_uid version type held (bytes_eq type (codes "ADDED")) (bytes_eq type (codes "MODIFIED")) (bytes_eq type (codes "DELETED"))
    (bytes_eq-Decides type (codes "DELETED")).0

-- a line

abbrev IsTextCounted : Version → (line : List ℕ) → Told → Type 0
IsTextCounted version line told = (is_blank line ≡ true) ⊎ IsValueCounted version line told

value_counted : (site : Site) (by_uid : Bool) (version : Version) (json : Data)
    → Covered (IsEventCounted version json (field (codes "object") json)) (value_told site by_uid version json)
unfolding value_told
value_counted site by_uid version json = event_counted site by_uid version json (field (codes "object") json)

line_counted : (site : Site) (by_uid : Bool) (version : Version) (line : List ℕ) → Covered (IsTextCounted version line) (line_told site by_uid version line)
unfolding line_told
line_counted site by_uid version line =
    let P = IsTextCounted version line in
    choose P (not (nat_le (length line) MAX_OBJECT)) _ _ (λ e. tt)
    (λ e. choose P (is_blank line) _ _ (λ b. inl b)
    (λ b. behind P (ok_or (parsed line) (refused NotJson [])) (value_told site by_uid version)
    (λ json h. weaken (value_told site by_uid version json) (λ t c. inr (record { json = json; is = is_there (parsed line) _ json h; counted = c })) (value_counted site by_uid version json))))

or_uncounted : (version : Version) (line : List ℕ) (r : Result Told Fault) → Covered (IsTextCounted version line) r
    → IsCounted version line (told_or_uncounted r)
or_uncounted version line (Ok t) h = inr h
or_uncounted version line (Err e) h = inl refl

pub every_line_is_counted : (site : Site) (by_uid : Bool) (version : Version) (line : List ℕ) → IsCounted version line (told site by_uid version line)
unfolding told
every_line_is_counted site by_uid version line = or_uncounted version line (line_told site by_uid version line) (line_counted site by_uid version line)
