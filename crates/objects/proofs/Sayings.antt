-- The names and the rows that are read of objects can be said by a line.
use Rattle.std.proofs.Common.{◌≡◌, ℕ, ◌+◌, ◌^◌, ◌<◌, ◌≤◌, ℤ, pos, negsuc, int_le, min, Bool, true, false, cond, ◌&&◌, ◌||◌, not, nat_le, nat_lt, List, [], ◌∷◌, ◌++◌, codes, length, is_some, Option, Some, None, option_and_then, Result, Ok, Err, refl, sym, ap, ◌∙◌, arith, append_assoc, append-nil, length-append, leb-true, ltb-true}
use Rattle.std.proofs.lemmas.Bool.{and_parts, and_from}
use Rattle.std.specs.Option.{ok_or}
use Rattle.serde_json.specs.Data.{Data, Items, no_items, item, Members, no_members, member}
use Rattle.serde_json.specs.Find.{as_number, as_i64, as_str}
use Rattle.quant.specs.Name.{is_name}
use Rattle.quant.specs.Amount.{leading_digits, after_digits}
use Rattle.quant.specs.declared.amount.Request.{Request}
use Rattle.quant.specs.declared.amount.Res.{Res}
use Rattle.quant.specs.declared.limits.TheConstants.{MAX_LABELS, MAX_TAINTS, MAX_TOLERATIONS, MAX_PLACED}
use Rattle.quant.specs.declared.objects.Label.{Label}
use Rattle.quant.specs.declared.taint.Effect.{Effect}
use Rattle.quant.specs.declared.taint.Operator.{Operator}
use Rattle.quant.specs.declared.taint.Taint.{Taint}
use Rattle.quant.specs.declared.taint.Toleration.{Toleration}
use Rattle.manifest.specs.Rows.{effect_named, effect_or_none, operator_named}
use Rattle.objects.specs.declared.change.Kind.{Kind}
use Rattle.objects.specs.declared.change.Kind.TheVariants.{Node, Pod}
use Rattle.objects.specs.declared.fault.QuantityFault.{QuantityFault}
use Rattle.objects.specs.declared.fault.QuantityFault.TheVariants.{NotAQuantity, Negative, TooLarge}
use Rattle.objects.specs.declared.fault.Why.TheVariants.{BadField, BadName, Quantity, TooMany}
use Rattle.objects.specs.declared.quantity.Rounding.{Rounding}
use Rattle.objects.specs.declared.quantity.Rounding.TheVariants.{Up, Down}
use Rattle.objects.specs.declared.request.Reckoned.TheVariants.{Waiting}
use Rattle.objects.specs.declared.resource.Resource.{Resource}
use Rattle.objects.specs.declared.resource.Resource.TheVariants.{Cpu, Memory, Pods}
use Rattle.objects.specs.LeftOut.{refused}
use Rattle.objects.specs.Suffix.{has_minus, after_sign, suffix_named}
use Rattle.objects.specs.Ratio.{rounded}
use Rattle.objects.specs.Quantity.{◌>>=◌, fraction_digits, after_fraction, is_zero, worth, told_within, signed, of_nothing, quantity, key_of, places, most}
use Rattle.objects.specs.Reading.{field, within, part_of, text_at, text_or, name_at, flag_of, members_of, items_of, each, has, spelled}
use Rattle.objects.specs.Amounts.{in_field, amount_of, offered, allocatable}
use Rattle.objects.specs.Containers.{count}
use Rattle.objects.specs.Sayable.{says_label, says_taint, says_toleration}
use Rattle.objects.specs.Labels.{Kept, with_item, label_of, fitting, is_named, behind, is_first, if_first, first_labels, unless_named, other_labels, all_labels, have_room, row_labels}
use Rattle.objects.specs.NodeRow.{taint_of, taints, node_parts, node_labels, node_row}
use Rattle.objects.specs.PodRequest as reckoning
use Rattle.objects.specs.PodRow.{full_name, pod_name, is_small, a_priority, priority_of, priority, text_if, with_parts, toleration_of, tolerations_of, pod_parts, pod_lists, pod_row}
use Rattle.objects.specs.Demands.{wishes}
use Rattle.objects.specs.Site.{Site}
use Rattle.objects.specs.Told.{name_in, name_of}
use Rattle.objects.specs.inside.Events.{each_beside, IsNodeRow, IsPodRow}
use Rattle.objects.proofs.OkIs.{OkIs, bind_ok, last_ok, no_ok, bind_with, either_is, tested, SomeIs, then_some, some_tested}

-- ---- names

abbrev IsNamed : List ℕ → Type 0
IsNamed name = is_name name ≡ true

name_said : (key : List ℕ) (json : Data) → OkIs IsNamed (name_at key json)
unfolding name_at
name_said key json =
    bind_ok (text_at key json) _ (λ text. tested (is_name text) (Ok text) (Err (refused BadName key)) (λ h. last_ok text h) (no_ok (refused BadName key)))

pod_name_said : (by_uid : Bool) (meta : Data) → OkIs IsNamed (pod_name by_uid meta)
unfolding pod_name
pod_name_said by_uid meta =
    either_is by_uid (name_at (codes "uid") meta) (full_name meta) (name_said (codes "uid") meta)
    (bind_ok (text_or (codes "namespace") (codes "default") meta) _ (λ namespace.
    bind_ok (text_at (codes "name") meta) _ (λ name.
    let whole = namespace ++ codes "/" ++ name in
    tested (is_name whole) (Ok whole) (name_at (codes "uid") meta) (λ h. last_ok whole h) (name_said (codes "uid") meta))))

name_in_said : (kind : Kind) (by_uid : Bool) (meta : Data) → OkIs IsNamed (name_in kind by_uid meta)
name_in_said Node by_uid meta = name_said (codes "name") meta
name_in_said Pod by_uid meta = pod_name_said by_uid meta

-- of an object
pub name_of_said : (kind : Kind) (by_uid : Bool) (json : Data) → OkIs IsNamed (name_of kind by_uid json)
name_of_said kind by_uid json = bind_ok (part_of (codes "metadata") json) _ (λ meta. name_in_said kind by_uid meta)

-- ---- the lists of a row

-- each element passes a test beside those before it, and there are so many at most
record IsList {A : Type 0} (passes : List A → A → Bool) (most : ℕ) (xs : List A) : Type 0 where
  few : length xs ≤ most
  each : each_beside passes [] xs ≡ true

passes_behind : {A : Type 0} (passes : List A → A → Bool) (before xs : List A) (x : A) → each_beside passes before xs ≡ true → passes (before ++ xs) x ≡ true
    → each_beside passes before (xs ++ x ∷ []) ≡ true
passes_behind passes before [] x h e = and_from _ _ (ap (λ ys. passes ys x) (sym (append-nil before)) ∙ e) refl
passes_behind passes before (y ∷ ys) x h e =
    let parts = and_parts (passes before y) (each_beside passes (before ++ y ∷ []) ys) h in
    and_from _ _ parts.0 (passes_behind passes (before ++ y ∷ []) ys x parts.1 (ap (λ zs. passes zs x) (append_assoc before (y ∷ []) ys) ∙ e))

-- an element fits behind others
abbrev Fits : {A : Type 0} → (passes : List A → A → Bool) → (most : ℕ) → List A → A → Type 0
Fits passes most xs x = (nat_lt (length xs) most && passes xs x) ≡ true

one_more : {A : Type 0} (passes : List A → A → Bool) (most : ℕ) (xs : List A) (x : A) → IsList passes most xs → Fits passes most xs x → IsList passes most (xs ++ x ∷ [])
one_more passes most xs x all fits =
    let parts = and_parts (nat_lt (length xs) most) (passes xs x) fits in
    let room : length xs < most = ltb-true (length xs) most parts.0 in
    record { few = omega (arith, length-append xs (x ∷ []), room); each = passes_behind passes [] xs x all.each parts.1 }

-- behind others, or left out
item_said : {A : Type 0} (passes : List A → A → Bool) (most : ℕ) (what name : List ℕ) (kept : Kept (List A)) (o : Option A)
    → IsList passes most kept.item → SomeIs (Fits passes most kept.item) o → IsList passes most (with_item what name kept o).item
item_said passes most what name kept (Some x) all fits = one_more passes most kept.item x all fits.is
item_said passes most what name kept None all fits = all

-- labels

abbrev AreLabels : List Label → Type 0
AreLabels labels = IsList says_label MAX_LABELS labels

label_fits : (before : List Label) (key : List ℕ) (value : Data) → SomeIs (Fits says_label MAX_LABELS before) (label_of before key value)
unfolding label_of
label_fits before key value =
    then_some (λ text. fitting before (record { key = key; value = text })) (as_str value)
    (λ text. some_tested (nat_lt (length before) MAX_LABELS && says_label before (record { key = key; value = text })) (record { key = key; value = text }) (λ h. h))

behind_said : (before : List Label) (o : Option Label) → AreLabels before → SomeIs (Fits says_label MAX_LABELS before) o → OkIs AreLabels (behind before o)
behind_said before (Some label) all fits = last_ok (before ++ label ∷ []) (one_more says_label MAX_LABELS before label all fits.is)
behind_said before None all fits = no_ok (refused BadName (codes "labels"))

if_first_said : (own : Option Site) (before : List Label) (key : List ℕ) (value : Data) → AreLabels before → OkIs AreLabels (if_first own before key value)
unfolding if_first
if_first_said own before key value all =
    let label = label_of before key value in
    either_is (is_first own key) (behind before label) (Ok before) (behind_said before label all (label_fits before key value)) (last_ok before all)

first_said : (own : Option Site) (before : List Label) (found : Members) → AreLabels before → OkIs AreLabels (first_labels own before found)
first_said own before no_members all = last_ok before all
first_said own before (member key value rest) all =
    bind_with (if_first own before key value) _ (if_first_said own before key value all) (λ more h. first_said own more rest h)

either_said : (b : Bool) (x y : Kept (List Label)) → AreLabels x.item → AreLabels y.item → AreLabels (cond b x y).item
either_said true x y p q = p
either_said false x y p q = q

others_said : (site : Site) (kept : Kept (List Label)) (found : Members) → AreLabels kept.item → AreLabels (other_labels site kept found).item
unfolding unless_named
others_said site kept no_members all = all
others_said site kept (member key value rest) all =
    let label = label_of kept.item key value in
    others_said site (unless_named site kept key value) rest
    (either_said (is_named site.labels key || has site.beside key) kept (with_item (codes "label ") key kept label) all
    (item_said says_label MAX_LABELS (codes "label ") key kept label all (label_fits kept.item key value)))

no_labels : AreLabels []
no_labels = record { few = omega arith; each = refl }

labels_said : (site : Site) (left : List ℕ) (found : Members) → OkIs (λ kept. AreLabels kept.item) (row_labels site left found)
unfolding row_labels
labels_said site left found =
    bind_ok (members_of (codes "labels") site.beside) _ (λ beside.
    either_is (have_room beside found || nat_le 1 (length site.labels)) (all_labels site left beside found) (Err (refused TooMany (codes "labels")))
    (bind_with (first_labels None [] beside) _ (first_said None [] beside no_labels) (λ told t.
    bind_with (first_labels (Some site) told found) _ (first_said (Some site) told found t) (λ first f.
    last_ok _ (others_said site (record { item = first; left_out = left }) found f))))
    (no_ok (refused TooMany (codes "labels"))))

-- taints

taint_passes : (before : List Taint) (json : Data) → OkIs (λ x. says_taint before x ≡ true) (taint_of before json)
unfolding taint_of
taint_passes before json =
    bind_ok (text_at (codes "key") json) _ (λ key.
    bind_ok (text_or (codes "value") [] json) _ (λ value.
    bind_ok (text_at (codes "effect") json) _ (λ named.
    bind_ok (ok_or (effect_named named) (refused BadField (codes "effect"))) _ (λ effect.
    let x : Taint = record { key = key; value = value; effect = effect } in
    tested (says_taint before x) (Ok x) (Err (refused BadName (codes "taints"))) (λ h. last_ok x h) (no_ok (refused BadName (codes "taints")))))))

each_taint_said : (before : List Taint) (found : Items) (most : ℕ) → length before + count found ≤ most → each_beside says_taint [] before ≡ true
    → OkIs (IsList says_taint most) (each taint_of before found)
each_taint_said before no_items most few all = last_ok before (record { few = omega (arith, few); each = all })
each_taint_said before (item d rest) most few all =
    bind_with (taint_of before d) _ (taint_passes before d) (λ x h.
    each_taint_said (before ++ x ∷ []) rest most (omega (arith, length-append before (x ∷ []), few)) (passes_behind says_taint [] before x all h))

taints_said : (value : Option Data) → OkIs (IsList says_taint MAX_TAINTS) (taints value)
unfolding taints
taints_said value =
    bind_ok (items_of (codes "taints") value) _ (λ found.
    tested (nat_le (count found) MAX_TAINTS) (each taint_of [] found) (Err (refused TooMany (codes "taints")))
    (λ h. let few = leb-true (count found) MAX_TAINTS h in each_taint_said [] found MAX_TAINTS (omega (arith, few)) refl) (no_ok (refused TooMany (codes "taints"))))

-- tolerations

abbrev AreTolerations : List Toleration → Type 0
AreTolerations tolerations = IsList says_toleration MAX_TOLERATIONS tolerations

parts_fit : (before : List Toleration) (operator : Option Operator) (effect : Option (Option Effect)) (key value : Option (List ℕ))
    → SomeIs (Fits says_toleration MAX_TOLERATIONS before) (with_parts before operator effect key value)
parts_fit before (Some operator) (Some effect) (Some key) (Some value) =
    let x : Toleration = record { key = key; operator = operator; value = value; effect = effect } in
    some_tested (nat_lt (length before) MAX_TOLERATIONS && says_toleration before x) x (λ h. h)
parts_fit before None effect key value = record { is = tt }
parts_fit before (Some operator) None key value = record { is = tt }
parts_fit before (Some operator) (Some effect) None value = record { is = tt }
parts_fit before (Some operator) (Some effect) (Some key) None = record { is = tt }

toleration_fits : (before : List Toleration) (json : Data) → SomeIs (Fits says_toleration MAX_TOLERATIONS before) (toleration_of before json)
unfolding toleration_of
toleration_fits before json =
    parts_fit before (option_and_then operator_named (text_if (field (codes "operator") json)))
    (option_and_then effect_or_none (text_if (field (codes "effect") json))) (text_if (field (codes "key") json)) (text_if (field (codes "value") json))

tolerations_said : (kept : Kept (List Toleration)) (found : Items) → AreTolerations kept.item → AreTolerations (tolerations_of kept found).item
tolerations_said kept no_items all = all
tolerations_said kept (item d rest) all =
    let found = toleration_of kept.item d in
    let key = spelled (codes "key") d in
    tolerations_said (with_item (codes "toleration of ") key kept found) rest
    (item_said says_toleration MAX_TOLERATIONS (codes "toleration of ") key kept found all (toleration_fits kept.item d))

no_tolerations : AreTolerations []
no_tolerations = record { few = omega arith; each = refl }

-- ---- amounts

within_most : (rounding : Rounding) (most n : ℕ) → OkIs (λ k. k ≤ most) (told_within rounding most n)
within_most Up most n = tested (nat_le n most) (Ok n) (Err TooLarge) (λ h. last_ok n (leb-true n most h)) (no_ok TooLarge)
within_most Down most n = last_ok (min most n) (omega arith)

pub quantity_within : (rounding : Rounding) (places most : ℕ) (text : List ℕ) → OkIs (λ n. n ≤ most) (quantity rounding places most text)
unfolding quantity
quantity_within rounding places most text =
    let minus = has_minus text in
    let whole = leading_digits (after_sign text) in
    let rest = after_digits (after_sign text) in
    let digits = whole ++ fraction_digits rest in
    let suffix = of_nothing (is_zero digits) (suffix_named (after_fraction rest)) in
    either_is (nat_le 1 (length digits)) (suffix >>= signed rounding places most minus whole (fraction_digits rest)) (Err NotAQuantity)
    (bind_ok suffix _ (λ s.
    either_is (minus && not (is_zero digits)) (Err Negative) (told_within rounding most (rounded rounding (worth places whole (fraction_digits rest) s)))
    (no_ok Negative) (within_most rounding most (rounded rounding (worth places whole (fraction_digits rest) s)))))
    (no_ok NotAQuantity)

field_within : (key : List ℕ) (most : ℕ) (amount : Result ℕ QuantityFault) → OkIs (λ n. n ≤ most) amount → OkIs (λ n. n ≤ most) (in_field key amount)
field_within key most (Ok n) h = last_ok n h.is
field_within key most (Err fault) h = no_ok (refused (Quantity fault) key)

amount_within : (rounding : Rounding) (r : Resource) (value : Option Data) → OkIs (λ n. n ≤ most r) (amount_of rounding r value)
amount_within rounding r None = last_ok 0 (omega arith)
amount_within rounding r (Some value) =
    bind_ok (ok_or (as_str value) (refused BadField (key_of r))) _ (λ text.
    field_within (key_of r) (most r) (quantity rounding (places r) (most r) text) (quantity_within rounding (places r) (most r) text))

-- what a node has
record IsRoom (room : Res) : Type 0 where
  cpu : room.cpu.0 ≤ 2 ^ 30
  memory : room.mem.0 ≤ 2 ^ 44
  pods : room.pods ≤ MAX_PLACED

room_said : (json : Data) → OkIs IsRoom (allocatable json)
unfolding allocatable
room_said json =
    bind_ok (part_of (codes "status") json) _ (λ status.
    bind_with (offered Cpu status) _ (amount_within Down Cpu (within (codes "allocatable") (key_of Cpu) status)) (λ cpu c.
    bind_with (offered Memory status) _ (amount_within Down Memory (within (codes "allocatable") (key_of Memory) status)) (λ memory m.
    bind_with (offered Pods status) _ (amount_within Down Pods (within (codes "allocatable") (key_of Pods) status)) (λ pods p.
    last_ok _ (record { cpu = c; memory = m; pods = p })))))

abbrev IsSmall : ℤ → Type 0
IsSmall z = (int_le (negsuc 2147483647) z ≡ true) × (int_le z (pos 2147483647) ≡ true)

number_said : (z : Option ℤ) → OkIs IsSmall (a_priority z)
number_said None = no_ok (refused BadField (codes "priority"))
number_said (Some z) =
    tested (is_small z) (Ok z) (Err (refused BadField (codes "priority"))) (λ h. last_ok z (and_parts (int_le (negsuc 2147483647) z) (int_le z (pos 2147483647)) h))
    (no_ok (refused BadField (codes "priority")))

priority_of_said : (value : Option Data) → OkIs IsSmall (priority_of value)
priority_of_said None = last_ok (pos 0) (refl, refl)
priority_of_said (Some value) = number_said (option_and_then as_i64 (as_number value))

priority_said : (spec : Data) → OkIs IsSmall (priority spec)
unfolding priority
priority_said spec = priority_of_said (field (codes "priority") spec)

-- ---- rows

record AreNodeParts (parts : List ℕ × Res × List Taint × Bool) : Type 0 where
  name : IsNamed parts.0
  room : IsRoom parts.1
  taints : IsList says_taint MAX_TAINTS parts.2

node_parts_said : (meta json : Data) → OkIs AreNodeParts (node_parts meta json)
unfolding node_parts
node_parts_said meta json =
    bind_with (name_at (codes "name") meta) _ (name_said (codes "name") meta) (λ name n.
    bind_with (allocatable json) _ (room_said json) (λ room r.
    bind_with (taints (within (codes "spec") (codes "taints") json)) _ (taints_said (within (codes "spec") (codes "taints") json)) (λ taints t.
    bind_ok (flag_of (codes "unschedulable") (within (codes "spec") (codes "unschedulable") json)) _ (λ unschedulable.
    last_ok _ (record { name = n; room = r; taints = t })))))

node_labels_said : (site : Site) (meta json : Data) → OkIs (λ kept. IsList says_label MAX_LABELS kept.item) (node_labels site meta json)
unfolding node_labels
node_labels_said site meta json =
    bind_ok (members_of (codes "labels") (field (codes "labels") meta)) _ (λ found.
    bind_ok (members_of (codes "allocatable") (within (codes "status") (codes "allocatable") json)) _ (λ resources. labels_said site [] found))

pub node_row_said : (site : Site) (json : Data) → OkIs (λ row. IsNodeRow row.item) (node_row site json)
unfolding node_row
node_row_said site json =
    bind_ok (part_of (codes "metadata") json) _ (λ meta.
    bind_with (node_parts meta json) _ (node_parts_said meta json) (λ parts p.
    bind_with (node_labels site meta json) _ (node_labels_said site meta json) (λ kept k.
    last_ok _ (record {
      name = p.name;
      cpu = p.room.cpu;
      memory = p.room.memory;
      pods = p.room.pods;
      few_labels = k.few;
      labels = k.each;
      few_taints = p.taints.few;
      taints = p.taints.each;
    }))))

record ArePodParts (parts : List ℕ × ℤ × Request) : Type 0 where
  uid : IsNamed parts.0
  priority : IsSmall parts.1

pod_parts_said : (by_uid : Bool) (meta spec json : Data) → OkIs ArePodParts (pod_parts by_uid meta spec json)
unfolding pod_parts
pod_parts_said by_uid meta spec json =
    bind_with (pod_name by_uid meta) _ (pod_name_said by_uid meta) (λ uid u.
    bind_with (priority spec) _ (priority_said spec) (λ priority p.
    bind_ok (reckoning.request Waiting json spec) _ (λ request. last_ok _ (record { uid = u; priority = p }))))

record ArePodLists (lists : List Label × Kept (List Toleration)) : Type 0 where
  labels : IsList says_label MAX_LABELS lists.0
  tolerations : IsList says_toleration MAX_TOLERATIONS lists.1.item

pod_lists_said : (site : Site) (meta spec : Data) → OkIs ArePodLists (pod_lists site meta spec)
unfolding pod_lists
pod_lists_said site meta spec =
    bind_ok (members_of (codes "labels") (field (codes "labels") meta)) _ (λ found.
    bind_ok (items_of (codes "tolerations") (field (codes "tolerations") spec)) _ (λ tolerations.
    let wished = wishes (is_some site.beside) spec in
    bind_with (row_labels site wished found) _ (labels_said site wished found) (λ kept k.
    last_ok _ (record { labels = k; tolerations = tolerations_said (record { item = []; left_out = kept.left_out }) tolerations no_tolerations }))))

pub pod_row_said : (site : Site) (by_uid : Bool) (json : Data) → OkIs (λ row. IsPodRow row.item) (pod_row site by_uid json)
unfolding pod_row
pod_row_said site by_uid json =
    bind_ok (part_of (codes "metadata") json) _ (λ meta.
    bind_ok (part_of (codes "spec") json) _ (λ spec.
    bind_with (pod_parts by_uid meta spec json) _ (pod_parts_said by_uid meta spec json) (λ parts p.
    bind_with (pod_lists site meta spec) _ (pod_lists_said site meta spec) (λ lists l.
    last_ok _ (record {
      uid = p.uid;
      low = p.priority.0;
      high = p.priority.1;
      few_labels = l.labels.few;
      labels = l.labels.each;
      few_tolerations = l.tolerations.few;
      tolerations = l.tolerations.each;
    })))))
