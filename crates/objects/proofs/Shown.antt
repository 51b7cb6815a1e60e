-- What is left out is named in texts of JSON, and a line can say what is told.
use Rattle.std.proofs.Common.{◌≡◌, ℕ, zero, suc, ◌+◌, ◌*◌, ◌≤◌, ◌==◌, nat_le, nat_lt, Bool, true, false, cond, ◌||◌, not, ◌&&◌, List, [], ◌∷◌, ◌++◌, take, drop, codes, decimal, length, bytes_eq, is_some, flat_map, Option, Some, None, option_and_then, Result, Ok, Err, refl, sym, ap, ◌∙◌, arith, append-nil, append_assoc, length-append, leb-true, lit≤}
use Rattle.std.proofs.lemmas.Bool.{and_parts, and_from, le-leb}
use Rattle.std.proofs.lemmas.List.{length-take, length-drop}
use Rattle.std.proofs.lemmas.Bool.Decides.{nat_tests}
use Rattle.std.proofs.lemmas.List.Concat.{flat_map-append}
use Rattle.std.proofs.lemmas.List.Folds.{list_all-append}
use Rattle.std.specs.List.{list_all}
use Rattle.std.specs.Option.{ok_or}
use Rattle.serde_json.specs.Data.{Data, Items, no_items, item, Members, no_members, member}
use Rattle.serde_json.specs.Find.{as_array, as_object, as_number, as_u64}
use Rattle.quant.specs.Name.{is_name_byte, is_name}
use Rattle.quant.specs.declared.version.Version.{Version}
use Rattle.quant.specs.declared.amount.Request.{Request}
use Rattle.quant.specs.declared.event.Event.{Event}
use Rattle.quant.specs.declared.event.Event.TheVariants.{NodeSet, PodPending}
use Rattle.quant.specs.declared.objects.Label.{Label}
use Rattle.quant.specs.declared.taint.Toleration.{Toleration}
use Rattle.objects.specs.declared.change.Change.{Change}
use Rattle.objects.specs.declared.change.Change.TheVariants.{There, Changed, Gone}
use Rattle.objects.specs.declared.change.Kind.{Kind}
use Rattle.objects.specs.declared.change.Kind.TheVariants.{Node, Pod}
use Rattle.objects.specs.declared.fault.QuantityFault.TheVariants as amounts
use Rattle.objects.specs.declared.fault.Why.{Why}
use Rattle.objects.specs.declared.fault.Why.TheVariants.{LongLine, NotJson, UnknownEvent, IsList, BadField, BadName, Quantity, TooMany, PodResources, TooLarge}
use Rattle.objects.specs.declared.request.Reckoned.TheVariants.{Placed, Standing}
use Rattle.objects.specs.declared.translation.TheConstants.{MAX_OBJECT}
use Rattle.objects.specs.LeftOut.{shown, left_out, left_out_if, why_text, Fault, refused, fault_text, told_names, up_to_marks}
use Rattle.objects.specs.Reading.{said, field, within, part_of, members_of, items_of, absent_or, is_given, has, spelled}
use Rattle.objects.specs.PodRequest.{fault_of, more_left_out, is_held_read, held_left_out}
use Rattle.objects.specs.PodRequest as pods
use Rattle.objects.specs.Labels.{Kept, with_item, label_of, is_named, first_labels, unless_named, other_labels, have_room, all_labels, row_labels}
use Rattle.objects.specs.NodeRow.{node_parts, node_labels, node_row}
use Rattle.objects.specs.Demands.{each_item, array_gives, affinity, asks_spread, is_read_affinity, is_nothing, is_known, other_field, other_fields, fields_of, free, free_or_claimed, is_tied, volume, node_port, host_port, is_reckoned, other_resource, other_resources, object_gives, resources_of, container, containers, placement, demands, wishes}
use Rattle.objects.specs.PodRow.{pod_parts, toleration_of, tolerations_of, pod_lists, pod_row}
use Rattle.objects.specs.Site.{Site, Telling, telling}
use Rattle.objects.specs.Told.{Told, saying, name_of, gone, gone_by, gone_told, event_if, gone_if, row_told, scheduler_of, kept_back, waiting_by, waiting_told, placed_told, has_ended, node_name, by_node, pod_told, there_told, by_change, kind_told, kind_of, by_kind, object_told, change_of, is_bookmark, changed_told, event_told, value_told, is_blank, parsed, line_told, told_or_uncounted, told}
use Rattle.objects.specs.Sayable.{IsVersion}
use Rattle.objects.specs.inside.Events.{IsNodeRow, IsPodRow, IsSayable}
use Rattle.objects.specs.inside.Said.{IsSaid}
use Rattle.objects.proofs.OkIs.{OkIs, bind_ok, last_ok, no_ok, bind_with, either_is, tested}
use Rattle.objects.proofs.Sayings.{name_of_said, node_row_said, pod_row_said}
use Rattle.objects.specs.Shown.{stands_for_itself, in_marks, is_short, AreTexts, NamesAreTexts}

-- what keeps texts texts

none : AreTexts []
none = record { texts = []; plain = refl; short = refl; are = refl }

name_byte : (b : ℕ) → is_name_byte b ≡ true → stands_for_itself b ≡ true
name_byte b h = grind (arith, nat_tests)

name_plain : (name : List ℕ) → list_all is_name_byte name ≡ true → list_all stands_for_itself name ≡ true
name_plain [] h = refl
name_plain (b ∷ bs) h =
    let parts = and_parts (is_name_byte b) (list_all is_name_byte bs) h in
    and_from _ _ (name_byte b parts.0) (name_plain bs parts.1)

shown_plain : (name : List ℕ) → list_all stands_for_itself (shown name) ≡ true
shown_plain name =
    let test = nat_le (length name) 317 && list_all is_name_byte name in
    elim test as (λ b. test ≡ b → list_all stands_for_itself (cond b name (codes "?")) ≡ true) [
      | true ↦ λ e. name_plain name (and_parts (nat_le (length name) 317) (list_all is_name_byte name) e).1
      | false ↦ λ e. refl
    ] refl

shown_short : (name : List ℕ) → length (shown name) ≤ 317
shown_short name =
    let test = nat_le (length name) 317 && list_all is_name_byte name in
    elim test as (λ b. test ≡ b → length (cond b name (codes "?")) ≤ 317) [
      | true ↦ λ e. leb-true (length name) 317 (and_parts (nat_le (length name) 317) (list_all is_name_byte name) e).0
      | false ↦ λ e. lit≤ tt
    ] refl

-- what stands before a name is plain and short
abbrev fits : List ℕ → Bool
fits what = list_all stands_for_itself what && nat_le (length what) 64

one : (what name : List ℕ) → fits what ≡ true → AreTexts (left_out what name)
unfolding left_out
one what name h =
    let parts = and_parts (list_all stands_for_itself what) (nat_le (length what) 64) h in
    let len : length what ≤ 64 = leb-true (length what) 64 parts.1 in
    record {
      texts = (what ++ shown name) ∷ [];
      plain = and_from _ _ (list_all-append stands_for_itself what (shown name) ∙ and_from _ _ parts.0 (shown_plain name)) refl;
      short = and_from _ _ (le-leb (length (what ++ shown name)) 381 (omega (arith, length-append what (shown name), len, shown_short name))) refl;
      are = sym (append-nil (in_marks (what ++ shown name)));
    }

both : (a b : List ℕ) → AreTexts a → AreTexts b → AreTexts (a ++ b)
both a b p q = record {
  texts = p.texts ++ q.texts;
  plain = list_all-append (list_all stands_for_itself) p.texts q.texts ∙ and_from _ _ p.plain q.plain;
  short = list_all-append is_short p.texts q.texts ∙ and_from _ _ p.short q.short;
  are = ap (λ x. x ++ b) p.are ∙ ap (λ y. flat_map in_marks p.texts ++ y) q.are ∙ sym (flat_map-append in_marks p.texts q.texts);
}

either : (b : Bool) (x y : List ℕ) → AreTexts x → AreTexts y → AreTexts (cond b x y)
either true x y p q = p
either false x y p q = q

one_if : (b : Bool) (what : List ℕ) → fits what ≡ true → AreTexts (left_out_if b what)
one_if b what h = either b (left_out what []) [] (one what [] h) none

why_plain : (why : Why) → fits (why_text why) ≡ true
why_plain LongLine = refl
why_plain NotJson = refl
why_plain UnknownEvent = refl
why_plain IsList = refl
why_plain BadField = refl
why_plain BadName = refl
why_plain (Quantity amounts.NotAQuantity) = refl
why_plain (Quantity amounts.FarExponent) = refl
why_plain (Quantity amounts.Negative) = refl
why_plain (Quantity amounts.TooLarge) = refl
why_plain TooMany = refl
why_plain PodResources = refl
why_plain TooLarge = refl

fault : (e : Fault) → AreTexts (fault_text e)
unfolding fault_text
fault e = one (why_text e.why) e.field (why_plain e.why)

-- what a pod asks for

each : (f : Data → List ℕ) → ((d : Data) → AreTexts (f d)) → (found : Items) → AreTexts (each_item f found)
each f h no_items = none
each f h (item d rest) = both (f d) (each_item f rest) (h d) (each f h rest)

-- a value that may be absent
absent_texts : {A : Type 0} (absent : List ℕ) (there : A → List ℕ) (value : Option A) → AreTexts absent → ((x : A) → AreTexts (there x)) → AreTexts (absent_or absent there value)
absent_texts absent there None h all = h
absent_texts absent there (Some x) h all = all x

array_texts : (f : Data → List ℕ) (otherwise : List ℕ) → ((d : Data) → AreTexts (f d)) → AreTexts otherwise → (value : Option Data)
    → AreTexts (array_gives f otherwise value)
array_texts f otherwise h o value =
    absent_texts [] (λ v. absent_or otherwise (each_item f) (as_array v)) value none (λ v. absent_texts otherwise (each_item f) (as_array v) o (each f h))

volume_texts : (kinds : List (List ℕ)) (d : Data) → AreTexts (volume kinds d)
unfolding volume
volume_texts kinds d = either (is_tied kinds (as_object d)) (left_out (codes "volume ") (spelled (codes "name") d)) [] (one (codes "volume ") (spelled (codes "name") d) refl) none

node_port_texts : (n : Option ℕ) → AreTexts (node_port n)
node_port_texts None = one (codes "host port ") [] refl
node_port_texts (Some n) = either (n == 0) [] (left_out (codes "host port ") (decimal n)) none (one (codes "host port ") (decimal n) refl)

port_texts : (d : Data) → AreTexts (host_port d)
unfolding host_port
port_texts d =
    absent_texts [] (λ v. node_port (option_and_then as_u64 (as_number v))) (field (codes "hostPort") d) none (λ v. node_port_texts (option_and_then as_u64 (as_number v)))

others_texts : (is_named : List ℕ → Bool) (found : Members) → AreTexts (other_resources is_named found)
others_texts is_named no_members = none
others_texts is_named (member key value rest) =
    both (other_resource is_named key value) (other_resources is_named rest)
    (either (is_reckoned key || is_named key || is_nothing value) [] (left_out (codes "resource ") key) none (one (codes "resource ") key refl)) (others_texts is_named rest)

object_texts : (is_named : List ℕ → Bool) (value : Option Data) → AreTexts (object_gives is_named value)
object_texts is_named value =
    absent_texts [] (λ v. absent_or (left_out (codes "resources") []) (other_resources is_named) (as_object v)) value none
    (λ v. absent_texts (left_out (codes "resources") []) (other_resources is_named) (as_object v) (one (codes "resources") [] refl) (others_texts is_named))

resources_texts : (value : Option Data) → AreTexts (resources_of value)
resources_texts None = none
resources_texts (Some value) =
    both (object_gives (has None) (field (codes "requests") value)) (object_gives (has (field (codes "requests") value)) (field (codes "limits") value))
    (object_texts (has None) (field (codes "requests") value)) (object_texts (has (field (codes "requests") value)) (field (codes "limits") value))

container_texts : (d : Data) → AreTexts (container d)
unfolding container
container_texts d =
    both (array_gives host_port (left_out (codes "host port ") []) (field (codes "ports") d)) (resources_of (field (codes "resources") d))
    (array_texts host_port (left_out (codes "host port ") []) port_texts (one (codes "host port ") [] refl) (field (codes "ports") d)) (resources_texts (field (codes "resources") d))

containers_texts : (key : List ℕ) (spec : Data) → AreTexts (containers key spec)
containers_texts key spec = array_texts container [] container_texts none (field key spec)

placement_texts : (is_told : Bool) (spec : Data) → AreTexts (placement is_told spec)
unfolding placement
placement_texts is_told spec =
    both _ _
    (both _ _
    (both _ _
    (both _ _
    (both _ _ (one_if (not is_told && is_given (field (codes "nodeSelector") spec)) (codes "node selector") refl)
    (one_if (not is_told && is_given (affinity (codes "nodeAffinity") (codes "requiredDuringSchedulingIgnoredDuringExecution") spec)) (codes "required node affinity") refl))
    (one_if (is_given (affinity (codes "podAffinity") (codes "requiredDuringSchedulingIgnoredDuringExecution") spec)) (codes "required pod affinity") refl))
    (one_if (is_given (affinity (codes "podAntiAffinity") (codes "requiredDuringSchedulingIgnoredDuringExecution") spec)) (codes "required pod anti-affinity") refl))
    (one_if (not (is_read_affinity (field (codes "affinity") spec))) (codes "affinity") refl))
    (one_if (asks_spread false (field (codes "topologySpreadConstraints") spec)) (codes "required topology spread") refl)

other_field_texts : (key : List ℕ) (value : Data) → AreTexts (other_field key value)
unfolding other_field
other_field_texts key value =
    either (is_known key || not (is_given (said value))) [] (left_out (codes "field ") key) none (one (codes "field ") key refl)

other_fields_texts : (found : Members) → AreTexts (other_fields found)
other_fields_texts no_members = none
other_fields_texts (member key value rest) = both (other_field key value) (other_fields rest) (other_field_texts key value) (other_fields_texts rest)

fields_texts : (found : Option Members) → AreTexts (fields_of found)
fields_texts None = none
fields_texts (Some found) = other_fields_texts found

demands_texts : (is_told : Bool) (spec : Data) → AreTexts (demands is_told spec)
unfolding demands
demands_texts is_told spec =
    both _ _
    (both _ _
    (both _ _
    (both _ _
    (both _ _
    (both _ _
    (both _ _ (placement_texts is_told spec)
    (one_if (is_given (field (codes "schedulingGates") spec)) (codes "scheduling gates") refl))
    (one_if (is_given (field (codes "resourceClaims") spec)) (codes "resource claims") refl))
    (array_texts (volume (cond is_told free_or_claimed free)) (left_out (codes "volume ") []) (volume_texts (cond is_told free_or_claimed free)) (one (codes "volume ") [] refl) (field (codes "volumes") spec)))
    (containers_texts (codes "containers") spec))
    (containers_texts (codes "initContainers") spec))
    (object_texts (has None) (field (codes "overhead") spec)))
    (fields_texts (as_object spec))

wishes_texts : (is_told : Bool) (spec : Data) → AreTexts (wishes is_told spec)
unfolding wishes
wishes_texts is_told spec =
    both _ _
    (both _ _
    (both _ _ (one_if (not is_told && is_given (affinity (codes "nodeAffinity") (codes "preferredDuringSchedulingIgnoredDuringExecution") spec)) (codes "preferred node affinity") refl)
    (one_if (is_given (affinity (codes "podAffinity") (codes "preferredDuringSchedulingIgnoredDuringExecution") spec)) (codes "preferred pod affinity") refl))
    (one_if (is_given (affinity (codes "podAntiAffinity") (codes "preferredDuringSchedulingIgnoredDuringExecution") spec)) (codes "preferred pod anti-affinity") refl))
    (one_if (asks_spread true (field (codes "topologySpreadConstraints") spec)) (codes "preferred topology spread") refl)

-- what a pod counts for

fault_of_texts : (request : Result Request Fault) → AreTexts (fault_of request)
fault_of_texts (Ok request) = none
fault_of_texts (Err e) = fault e

more_texts : (pod spec : Data) → AreTexts (more_left_out pod spec)
unfolding more_left_out
more_texts pod spec = fault_of_texts (pods.request Placed pod spec)

held_texts : (pod spec : Data) → AreTexts (held_left_out pod spec)
unfolding held_left_out
held_texts pod spec = one_if (not (is_held_read pod spec)) (codes "what its status says that it holds") refl

-- rows

item_texts : {A : Type 0} (what name : List ℕ) (kept : Kept (List A)) (x : Option A) → fits what ≡ true → AreTexts kept.left_out
    → AreTexts (with_item what name kept x).left_out
item_texts what name kept None f h = both kept.left_out (left_out what name) h (one what name f)
item_texts what name kept (Some x) f h = h

if_texts : {A : Type 0} (b : Bool) (x y : Kept A) → AreTexts x.left_out → AreTexts y.left_out → AreTexts (cond b x y).left_out
if_texts true x y p q = p
if_texts false x y p q = q

other_labels_texts : (site : Site) (kept : Kept (List Label)) (found : Members) → AreTexts kept.left_out → AreTexts (other_labels site kept found).left_out
unfolding unless_named
other_labels_texts site kept no_members h = h
other_labels_texts site kept (member key value rest) h =
    let found = label_of kept.item key value in
    other_labels_texts site (unless_named site kept key value) rest
    (if_texts (is_named site.labels key || has site.beside key) kept (with_item (codes "label ") key kept found) h (item_texts (codes "label ") key kept found refl h))

tolerations_texts : (kept : Kept (List Toleration)) (found : Items) → AreTexts kept.left_out → AreTexts (tolerations_of kept found).left_out
tolerations_texts kept no_items h = h
tolerations_texts kept (item d rest) h =
    let found = toleration_of kept.item d in
    let key = spelled (codes "key") d in
    tolerations_texts (with_item (codes "toleration of ") key kept found) rest (item_texts (codes "toleration of ") key kept found refl h)

labels_texts : (site : Site) (left : List ℕ) (found : Members) → AreTexts left → OkIs (λ kept. AreTexts kept.left_out) (row_labels site left found)
unfolding row_labels
labels_texts site left found h =
    bind_ok (members_of (codes "labels") site.beside) _ (λ beside.
    either_is (have_room beside found || nat_le 1 (length site.labels)) (all_labels site left beside found) (Err (refused TooMany (codes "labels")))
    (bind_ok (first_labels None [] beside) _ (λ told.
    bind_ok (first_labels (Some site) told found) _ (λ first.
    last_ok _ (other_labels_texts site (record { item = first; left_out = left }) found h))))
    (no_ok (refused TooMany (codes "labels"))))

node_labels_texts : (site : Site) (meta json : Data) → OkIs (λ kept. AreTexts kept.left_out) (node_labels site meta json)
unfolding node_labels
node_labels_texts site meta json =
    bind_ok (members_of (codes "labels") (field (codes "labels") meta)) _ (λ found.
    bind_ok (members_of (codes "allocatable") (within (codes "status") (codes "allocatable") json)) _ (λ resources. labels_texts site [] found none))

node_texts : (site : Site) (json : Data) → OkIs (λ row. AreTexts row.left_out) (node_row site json)
unfolding node_row
node_texts site json =
    bind_ok (part_of (codes "metadata") json) _ (λ meta.
    bind_ok (node_parts meta json) _ (λ parts.
    bind_with (node_labels site meta json) _ (node_labels_texts site meta json) (λ kept h. last_ok _ h)))

pod_lists_texts : (site : Site) (meta spec : Data) → OkIs (λ lists. AreTexts lists.1.left_out) (pod_lists site meta spec)
unfolding pod_lists
pod_lists_texts site meta spec =
    bind_ok (members_of (codes "labels") (field (codes "labels") meta)) _ (λ found.
    bind_ok (items_of (codes "tolerations") (field (codes "tolerations") spec)) _ (λ tolerations.
    bind_with (row_labels site (wishes (is_some site.beside) spec) found) _ (labels_texts site (wishes (is_some site.beside) spec) found (wishes_texts (is_some site.beside) spec))
    (λ kept h. last_ok _ (tolerations_texts (record { item = []; left_out = kept.left_out }) tolerations h))))

pod_texts : (site : Site) (by_uid : Bool) (json : Data) → OkIs (λ row. AreTexts row.left_out) (pod_row site by_uid json)
unfolding pod_row
pod_texts site by_uid json =
    bind_ok (part_of (codes "metadata") json) _ (λ meta.
    bind_ok (part_of (codes "spec") json) _ (λ spec.
    bind_ok (pod_parts by_uid meta spec json) _ (λ parts.
    bind_with (pod_lists site meta spec) _ (pod_lists_texts site meta spec) (λ lists h. last_ok _ h))))

-- what is told is named in texts, and a line can say its event

record IsFine (version : Version) (t : Told) : Type 0 where
  names : AreTexts t.left_out
  said : IsVersion version → IsSaid t.event

abbrev AreFine : Version → Result Told Fault → Type 0
AreFine version found = OkIs (λ t. IsFine version t) found

gone_sayable : (kind : Kind) (version : Version) (name : List ℕ) → is_name name ≡ true → IsVersion version → IsSayable (gone kind version name)
gone_sayable Node version name h v = (v, h)
gone_sayable Pod version name h v = (v, h)

gone_fine : (kind : Kind) (version : Version) (name : Result (List ℕ) Fault) → OkIs (λ n. is_name n ≡ true) name → IsFine version (gone_by kind version name)
gone_fine kind version (Ok name) h = record { names = none; said = gone_sayable kind version name h.is }
gone_fine kind version (Err e) h = record { names = fault e; said = λ v. tt }

event_if_said : (kind : Kind) (version : Version) (change : Change) (name : Result (List ℕ) Fault) → OkIs (λ n. is_name n ≡ true) name
    → IsVersion version → IsSaid (event_if kind version change name)
event_if_said kind version Changed (Ok name) h v = gone_sayable kind version name h.is v
event_if_said kind version Changed (Err e) h v = tt
event_if_said kind version There name h v = tt
event_if_said kind version Gone name h v = tt

gone_if_fine : (how : Telling) (kind : Kind) (json : Data) (left_out : List ℕ) → AreTexts left_out → IsFine how.version (gone_if how kind json left_out)
gone_if_fine how kind json left_out texts = record {
  names = texts;
  said = event_if_said kind how.version how.change (name_of kind how.by_uid json) (name_of_said kind how.by_uid json);
}

row_fine : {A : Type 0} (P : A → Type 0) (event : A → Event) (how : Telling) (kind : Kind) (json : Data) (row : Result (Kept A) Fault)
    → ((x : A) → P x → IsVersion how.version → IsSayable (event x)) → OkIs (λ r. P r.item) row → OkIs (λ r. AreTexts r.left_out) row
    → IsFine how.version (row_told event how kind json row)
row_fine P event how kind json (Ok row) sayable passes texts = record { names = texts.is; said = sayable row.item passes.is }
row_fine P event how kind json (Err e) sayable passes texts = gone_if_fine how kind json (fault_text e) (fault e)

kept_back_texts : (site : Site) (spec pod : Data) → AreTexts (kept_back site spec pod)
unfolding kept_back
kept_back_texts site spec pod =
    both _ _
    (both _ _
    (either (bytes_eq (scheduler_of spec) site.scheduler) [] (left_out (codes "it is for the scheduler ") (scheduler_of spec)) none
    (one (codes "it is for the scheduler ") (scheduler_of spec) refl))
    (demands_texts (is_some site.beside) spec))
    (one_if (is_some (within (codes "metadata") (codes "deletionTimestamp") pod)) (codes "it is being deleted") refl)

waiting_by_fine : (how : Telling) (json : Data) (kept : List ℕ) → AreTexts kept → IsFine how.version (waiting_by how json kept)
waiting_by_fine how json [] h =
    row_fine IsPodRow (PodPending how.version) how Pod json (pod_row how.site how.by_uid json) (λ pod row v. (v, row))
    (pod_row_said how.site how.by_uid json) (pod_texts how.site how.by_uid json)
waiting_by_fine how json (x ∷ more) h = gone_if_fine how Pod json (x ∷ more) h

waiting_fine : (how : Telling) (spec pod : Data) → IsFine how.version (waiting_told how spec pod)
unfolding waiting_told
waiting_fine how spec pod = waiting_by_fine how pod (kept_back how.site spec pod) (kept_back_texts how.site spec pod)

placed_fine : (how : Telling) (node : List ℕ) (spec pod : Data) → is_name node ≡ true → AreFine how.version (placed_told how node spec pod)
unfolding placed_told
placed_fine how node spec pod named =
    bind_with (name_of Pod how.by_uid pod) _ (name_of_said Pod how.by_uid pod) (λ uid u.
    bind_ok (pods.request Standing pod spec) _ (λ request.
    last_ok _ (record {
      names = both (more_left_out pod spec ++ held_left_out pod spec) _
          (both (more_left_out pod spec) (held_left_out pod spec) (more_texts pod spec) (held_texts pod spec))
          (one_if (is_given (affinity (codes "podAntiAffinity") (codes "requiredDuringSchedulingIgnoredDuringExecution") spec)) (codes "required pod anti-affinity") refl);
      said = λ v. (v, u, named);
    })))

by_node_fine : (how : Telling) (spec pod : Data) (node : List ℕ) → AreFine how.version (by_node how spec pod node)
by_node_fine how spec pod [] = last_ok _ (waiting_fine how spec pod)
by_node_fine how spec pod (x ∷ more) =
    let node = x ∷ more in
    tested (is_name node) (placed_told how node spec pod) (Ok (gone_if how Pod pod (left_out (codes "node ") node)))
    (λ named. placed_fine how node spec pod named) (last_ok _ (gone_if_fine how Pod pod (left_out (codes "node ") node) (one (codes "node ") node refl)))

pod_told_fine : (how : Telling) (json : Data) → AreFine how.version (pod_told how json)
unfolding pod_told
pod_told_fine how json =
    either_is (has_ended json) (Ok (gone_if how Pod json [])) _ (last_ok _ (gone_if_fine how Pod json [] none))
    (bind_ok (part_of (codes "spec") json) _ (λ spec. bind_ok (node_name spec) _ (λ node. by_node_fine how spec json node)))

there_fine : (how : Telling) (kind : Kind) (json : Data) → AreFine how.version (there_told how kind json)
there_fine how Node json =
    last_ok _ (row_fine IsNodeRow (NodeSet how.version) how Node json (node_row how.site json) (λ node row v. (v, row)) (node_row_said how.site json) (node_texts how.site json))
there_fine how Pod json = pod_told_fine how json

change_fine : (version : Version) (change : Change) (gone there : Result Told Fault) → AreFine version gone → AreFine version there
    → AreFine version (by_change change gone there)
change_fine version Gone gone there p q = p
change_fine version There gone there p q = q
change_fine version Changed gone there p q = q

by_kind_fine : (how : Telling) (json : Data) (kind : Option Kind) → AreFine how.version (by_kind how json kind)
unfolding kind_told
by_kind_fine how json (Some kind) =
    change_fine how.version how.change (Ok (gone_told how kind json)) (there_told how kind json)
    (last_ok _ (gone_fine kind how.version (name_of kind how.by_uid json) (name_of_said kind how.by_uid json))) (there_fine how kind json)
by_kind_fine how json None =
    let other = left_out (codes "an object of the kind ") (spelled (codes "kind") json) in
    either_is (is_some (field (codes "items") json)) (Err (refused IsList [])) (Ok (saying None other)) (no_ok (refused IsList []))
    (last_ok _ (record { names = one (codes "an object of the kind ") (spelled (codes "kind") json) refl; said = λ v. tt }))

object_fine : (how : Telling) (json : Data) → AreFine how.version (object_told how json)
unfolding object_told
object_fine how json = bind_ok (kind_of json) (by_kind how json) (λ kind. by_kind_fine how json kind)

changed_fine : (site : Site) (by_uid : Bool) (version : Version) (type : List ℕ) (json : Data) (change : Option Change)
    → AreFine version (changed_told (telling site by_uid version) type json change)
changed_fine site by_uid version type json None =
    either_is (is_bookmark type) (Ok (saying None [])) (Err (refused UnknownEvent [])) (last_ok _ (record { names = none; said = λ v. tt })) (no_ok (refused UnknownEvent []))
changed_fine site by_uid version type json (Some change) = object_fine (telling site by_uid version change) json

event_fine : (site : Site) (by_uid : Bool) (version : Version) (json : Data) (held : Option Data) → AreFine version (event_told (telling site by_uid version) json held)
event_fine site by_uid version json None = object_fine (telling site by_uid version There) json
event_fine site by_uid version json (Some held) =
    let type = spelled (codes "type") json in
    changed_fine site by_uid version type held (change_of type)

value_fine : (site : Site) (by_uid : Bool) (version : Version) (json : Data) → AreFine version (value_told site by_uid version json)
unfolding value_told
value_fine site by_uid version json = event_fine site by_uid version json (field (codes "object") json)

line_fine : (site : Site) (by_uid : Bool) (version : Version) (line : List ℕ) → AreFine version (line_told site by_uid version line)
unfolding line_told
line_fine site by_uid version line =
    either_is (not (nat_le (length line) MAX_OBJECT)) (Err (refused LongLine [])) _ (no_ok (refused LongLine []))
    (either_is (is_blank line) (Ok (saying None (left_out (codes "no JSON") []))) _ (last_ok _ (record { names = one (codes "no JSON") [] refl; said = λ v. tt }))
    (bind_ok (ok_or (parsed line) (refused NotJson [])) _ (λ json. value_fine site by_uid version json)))

or_fine : (version : Version) (r : Result Told Fault) → AreFine version r → IsFine version (told_or_uncounted r)
or_fine version (Ok t) h = h.is
or_fine version (Err e) h = record { names = fault e; said = λ v. tt }

all_fine : (site : Site) (by_uid : Bool) (version : Version) (line : List ℕ) → IsFine version (told site by_uid version line)
unfolding told
all_fine site by_uid version line = or_fine version (line_told site by_uid version line) (line_fine site by_uid version line)

pub told_is_said : (site : Site) (by_uid : Bool) (version : Version) (line : List ℕ) → IsVersion version → IsSaid (told site by_uid version line).event
told_is_said site by_uid version line = (all_fine site by_uid version line).said

-- ---- the first of them

not_true : (b : Bool) → not b ≡ true → b ≡ false
not_true true e = cc
not_true false e = refl

no_mark : (b : ℕ) → stands_for_itself b ≡ true → (b == 34) ≡ false
no_mark b h =
    let front = (and_parts (nat_le 32 b && nat_le b 126 && not (b == 34)) (not (b == 92)) h).0 in
    not_true (b == 34) (and_parts (nat_le 32 b && nat_le b 126) (not (b == 34)) front).1

-- a text has no quotation mark
text_whole : (text rest : List ℕ) (n : ℕ) → list_all stands_for_itself text ≡ true → up_to_marks (suc n) (text ++ rest) ≡ text ++ up_to_marks (suc n) rest
text_whole [] rest n h = refl
text_whole (b ∷ text) rest n h =
    let parts = and_parts (stands_for_itself b) (list_all stands_for_itself text) h in
    ap (λ t. b ∷ up_to_marks (cond t n (suc n)) (text ++ rest)) (no_mark b parts.0) ∙ ap (λ t. b ∷ t) (text_whole text rest n parts.1)

-- and two are around it
marked_whole : (text rest : List ℕ) (n : ℕ) → list_all stands_for_itself text ≡ true → up_to_marks (suc (suc n)) (in_marks text ++ rest) ≡ in_marks text ++ up_to_marks n rest
marked_whole text rest n h =
    let front : List ℕ → List ℕ = λ t. 44 ∷ 32 ∷ 34 ∷ t in
    ap (λ t. front (up_to_marks (suc n) t)) (append_assoc text (34 ∷ []) rest)
    ∙ ap front (text_whole text (34 ∷ rest) n h)
    ∙ ap front (sym (append_assoc text (34 ∷ []) (up_to_marks n rest)))

nothing_whole : (n : ℕ) → up_to_marks n [] ≡ []
nothing_whole zero = refl
nothing_whole (suc n) = refl

first_whole : (k n : ℕ) (texts : List (List ℕ)) → n ≡ k + k → list_all (list_all stands_for_itself) texts ≡ true
    → up_to_marks n (flat_map in_marks texts) ≡ flat_map in_marks (take k texts)
first_whole zero zero texts e h = refl
first_whole zero (suc n) texts e h = absurd (omega (arith, e))
first_whole (suc k) n [] e h = nothing_whole n
first_whole (suc k) zero (t ∷ ts) e h = absurd (omega (arith, e))
first_whole (suc k) (suc zero) (t ∷ ts) e h = absurd (omega (arith, e))
first_whole (suc k) (suc (suc n)) (t ∷ ts) e h =
    let parts = and_parts (list_all stands_for_itself t) (list_all (list_all stands_for_itself) ts) h in
    marked_whole t (flat_map in_marks ts) n parts.0 ∙ ap (λ rest. in_marks t ++ rest) (first_whole k n ts (omega (arith, e)) parts.1)

front_passes : {X : Type 0} (p : X → Bool) (k : ℕ) (xs : List X) → list_all p xs ≡ true → list_all p (take k xs) ≡ true
front_passes p zero xs h = refl
front_passes p (suc k) [] h = refl
front_passes p (suc k) (x ∷ xs) h =
    let parts = and_parts (p x) (list_all p xs) h in
    and_from _ _ parts.0 (front_passes p k xs parts.1)

-- so many texts at most
record AtMost (n : ℕ) (names : List ℕ) : Type 0 where
  are : AreTexts names
  few : length are.texts ≤ n

first_few : (names : List ℕ) → AreTexts names → AtMost 256 (up_to_marks 512 names)
first_few names all = record {
  are = record {
    texts = take 256 all.texts;
    plain = front_passes (list_all stands_for_itself) 256 all.texts all.plain;
    short = front_passes is_short 256 all.texts all.short;
    are = ap (up_to_marks 512) all.are ∙ first_whole 256 512 all.texts (omega arith) all.plain;
  };
  few = omega (arith, length-take 256 all.texts);
}

others_few : (b : Bool) → AtMost 1 (left_out_if b (codes "others"))
unfolding one none
others_few true = record { are = one (codes "others") [] refl; few = lit≤ tt }
others_few false = record { are = none; few = lit≤ tt }

told_few : (names : List ℕ) → AreTexts names → AtMost 257 (told_names names)
unfolding told_names both
told_few names all =
    let first = first_few names all in
    let more = nat_lt (length (up_to_marks 512 names)) (length names) in
    let others = others_few more in
    record {
      are = both (up_to_marks 512 names) (left_out_if more (codes "others")) first.are others.are;
      few = omega (arith, length-append first.are.texts others.are.texts, first.few, others.few);
    }

pub names_are_texts : NamesAreTexts
names_are_texts site by_uid version line = (told_few (told site by_uid version line).left_out (all_fine site by_uid version line).names).are

-- ---- they are short

marked_short : (text : List ℕ) → is_short text ≡ true → length (in_marks text) ≤ 385
marked_short text h =
    let len : length text ≤ 381 = leb-true (length text) 381 h in
    omega (arith, length-append text (34 ∷ []), len)

texts_short : (texts : List (List ℕ)) → list_all is_short texts ≡ true → length (flat_map in_marks texts) ≤ 385 * length texts
texts_short [] h = omega arith
texts_short (t ∷ ts) h =
    let parts = and_parts (is_short t) (list_all is_short ts) h in
    omega (arith, length-append (in_marks t) (flat_map in_marks ts), marked_short t parts.0, texts_short ts parts.1)

pub told_names_are_short : (site : Site) (by_uid : Bool) (version : Version) (line items : List ℕ)
    → items ≡ drop 2 (told_names (told site by_uid version line).left_out) → length items ≤ 100000
told_names_are_short site by_uid version line items is =
    let names = told_names (told site by_uid version line).left_out in
    let few = told_few (told site by_uid version line).left_out (all_fine site by_uid version line).names in
    let whole : length names ≡ length (flat_map in_marks few.are.texts) = ap length few.are.are in
    omega (arith, ap length is, length-drop 2 names, whole, texts_short few.are.texts few.are.short, few.few)
