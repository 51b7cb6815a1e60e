-- The items of a line's arrays are read back as what they tell.
use Rattle.std.proofs.Common.{◌≡◌, ℕ, suc, ◌≤◌, true, false, ◌&&◌, not, Bool, List, [], ◌∷◌, ◌++◌, length, Option, Some, None, Result, Ok, refl, sym, ap, ◌∙◌, arith, append_assoc, append-nil, le-leb, bytes_eq}
use Rattle.std.proofs.lemmas.Bool.{and_parts}
use Rattle.json.specs.Json.{Json}
use Rattle.serde_json.specs.Data.{Data, array, string, Items, no_items, item}
use Rattle.serde_json.specs.Read.{of_json, of_items}
use Rattle.quant.specs.declared.amount.Request.{Request}
use Rattle.quant.specs.declared.objects.Label.{Label}
use Rattle.quant.specs.declared.taint.Taint.{Taint}
use Rattle.quant.specs.declared.taint.Toleration.{Toleration}
use Rattle.quant.specs.declared.taint.Effect.{Effect}
use Rattle.quant.specs.declared.taint.Effect.TheVariants.{NoSchedule, PreferNoSchedule, NoExecute}
use Rattle.quant.specs.declared.taint.Operator.{Operator}
use Rattle.quant.specs.declared.taint.Operator.TheVariants.{Equal, Exists}
use Rattle.std.specs.List.{list_any}
use Rattle.quant.specs.Name.{is_name, is_text}
use Rattle.quant.specs.Effect.{same_effect}
use Rattle.quant.proofs.RequestLemmas.{request_of_own}
use Rattle.manifest.specs.declared.field.Field.{Field}
use Rattle.manifest.specs.declared.fault.LineFault.{LineFault}
use Rattle.manifest.specs.Reading.{text, name_from, text_from, cpu_from, memory_from, request}
use Rattle.manifest.specs.Item.{count, items, each, list, parts, part}
use Rattle.manifest.specs.Rows.{effect_named, effect_or_none, operator_named, lawful, label, taint, toleration, container}
use Rattle.objects.specs.inside.Line.{cpu_text, memory_text, effect_text, optional_effect_text, operator_text, label_json, taint_json, toleration_json, request_json, items_json}
use Rattle.objects.specs.Sayable.{says_label, says_taint, says_toleration}
use Rattle.objects.specs.inside.Events.{each_beside}
use Rattle.objects.proofs.Spelled.{cpu_back, memory_back}

-- an array of texts, and an item for each element, as they are read
abbrev pub texts_data : List (List ℕ) → Items
texts_data [] = no_items
texts_data (text ∷ more) = item (string text) (texts_data more)

abbrev pub label_data : Label → Data
label_data label = array (texts_data (label.key ∷ label.value ∷ []))

abbrev pub taint_data : Taint → Data
taint_data taint = array (texts_data (taint.key ∷ taint.value ∷ effect_text taint.effect ∷ []))

abbrev pub toleration_data : Toleration → Data
toleration_data t = array (texts_data (t.key ∷ operator_text t.operator ∷ t.value ∷ optional_effect_text t.effect ∷ []))

abbrev pub request_data : Request → Data
request_data request = array (texts_data (cpu_text request.cpu ∷ memory_text request.mem ∷ []))

abbrev pub items_data : {A : Type 0} → (A → Data) → List A → Items
items_data f [] = no_items
items_data f (x ∷ xs) = item (f x) (items_data f xs)

-- what is written of each element is what is read of it
of_each : {A : Type 0} (f : A → Json) (g : A → Data) (one : (x : A) → of_json (f x) ≡ Some (g x)) (xs : List A)
    → of_items (items_json f xs) ≡ Some (items_data g xs)
of_each f g one [] = refl
of_each f g one (x ∷ xs) = rw (one x, of_each f g one xs) refl

pub of_labels : (xs : List Label) → of_items (items_json label_json xs) ≡ Some (items_data label_data xs)
of_labels = of_each label_json label_data (λ x. refl)

pub of_taints : (xs : List Taint) → of_items (items_json taint_json xs) ≡ Some (items_data taint_data xs)
of_taints = of_each taint_json taint_data (λ x. refl)

pub of_tolerations : (xs : List Toleration) → of_items (items_json toleration_json xs) ≡ Some (items_data toleration_data xs)
of_tolerations = of_each toleration_json toleration_data (λ x. refl)

pub of_requests : (xs : List Request) → of_items (items_json request_json xs) ≡ Some (items_data request_data xs)
of_requests = of_each request_json request_data (λ x. refl)

count_data : {A : Type 0} (g : A → Data) (xs : List A) → count (items_data g xs) ≡ length xs
count_data g [] = refl
count_data g (x ∷ xs) = ap suc (count_data g xs)

-- each element is read beside those before it
each_back : {A : Type 0} (read : List A → Data → Result A LineFault) (g : A → Data) (passes : List A → A → Bool)
    (one : (before : List A) (x : A) → passes before x ≡ true → read before (g x) ≡ Ok x)
    (before xs : List A) → each_beside passes before xs ≡ true → each read before (items_data g xs) ≡ Ok (before ++ xs)
each_back read g passes one before [] h = ap Ok (sym (append-nil before))
each_back read g passes one before (x ∷ xs) h =
    let parts = and_parts _ _ h in
    rw (one before x parts.0) (each_back read g passes one (before ++ x ∷ []) xs parts.1 ∙ ap Ok (append_assoc before (x ∷ []) xs))

-- an array that has few enough elements
list_back : {A : Type 0} (least most : ℕ) (read : Field → List A → Data → Result A LineFault) (field : Field) (g : A → Data) (passes : List A → A → Bool)
    (one : (before : List A) (x : A) → passes before x ≡ true → read field before (g x) ≡ Ok x)
    (xs : List A) → least ≤ length xs → length xs ≤ most → each_beside passes [] xs ≡ true
    → list least most read field (array (items_data g xs)) ≡ Ok xs
unfolding list items
list_back least most read field g passes one xs some few h =
    rw (count_data g xs, le-leb least (length xs) some, le-leb (length xs) most few) (each_back (read field) g passes one [] xs h)

effect_back : (effect : Effect) → effect_named (effect_text effect) ≡ Some effect
unfolding effect_named
effect_back NoSchedule = refl
effect_back PreferNoSchedule = refl
effect_back NoExecute = refl

optional_effect_back : (effect : Option Effect) → effect_or_none (optional_effect_text effect) ≡ Some effect
unfolding effect_or_none effect_named
optional_effect_back None = refl
optional_effect_back (Some NoSchedule) = refl
optional_effect_back (Some PreferNoSchedule) = refl
optional_effect_back (Some NoExecute) = refl

operator_back : (operator : Operator) → operator_named (operator_text operator) ≡ Some operator
unfolding operator_named
operator_back Equal = refl
operator_back Exists = refl

-- a test that passes where another does not
not_false : (b : Bool) → not b ≡ true → b ≡ false
not_false true h = sym h
not_false false h = refl

label_back : (field : Field) (before : List Label) (x : Label) → says_label before x ≡ true → label field before (label_data x) ≡ Ok x
unfolding says_label label parts part text name_from text_from
label_back field before x h =
    let outer = and_parts (is_name x.key && is_text x.value) (not (list_any (λ other. bytes_eq other.key x.key) before)) h in
    let inner = and_parts (is_name x.key) (is_text x.value) outer.0 in
    rw (inner.0, inner.1, not_false (list_any (λ other. bytes_eq other.key x.key) before) outer.1) refl

taint_back : (field : Field) (before : List Taint) (x : Taint) → says_taint before x ≡ true → taint field before (taint_data x) ≡ Ok x
unfolding says_taint taint parts part text name_from text_from
taint_back field before x h =
    let outer = and_parts (is_name x.key && is_text x.value) (not (list_any (λ other. bytes_eq other.key x.key && same_effect other.effect x.effect) before)) h in
    let inner = and_parts (is_name x.key) (is_text x.value) outer.0 in
    rw (inner.0, inner.1, effect_back x.effect, not_false (list_any (λ other. bytes_eq other.key x.key && same_effect other.effect x.effect) before) outer.1) refl

toleration_back : (field : Field) (before : List Toleration) (x : Toleration) → says_toleration before x ≡ true
    → toleration field before (toleration_data x) ≡ Ok x
unfolding says_toleration toleration parts part text text_from
toleration_back field before x h =
    let outer = and_parts (is_text x.key && is_text x.value) (lawful x.operator x.key x.value) h in
    let inner = and_parts (is_text x.key) (is_text x.value) outer.0 in
    rw (inner.0, operator_back x.operator, inner.1, optional_effect_back x.effect, outer.1) refl

container_back : (field : Field) (before : List Request) (x : Request) → container field before (request_data x) ≡ Ok x
unfolding container parts part text cpu_from memory_from request
container_back field before x = rw (cpu_back x.cpu x.within_cpu, memory_back x.mem x.within_mem, request_of_own x) refl

pub labels_back : (field : Field) (most : ℕ) (xs : List Label) → length xs ≤ most → each_beside says_label [] xs ≡ true
    → list 0 most label field (array (items_data label_data xs)) ≡ Ok xs
labels_back field most xs few h = list_back 0 most label field label_data says_label (label_back field) xs (omega arith) few h

pub taints_back : (field : Field) (most : ℕ) (xs : List Taint) → length xs ≤ most → each_beside says_taint [] xs ≡ true
    → list 0 most taint field (array (items_data taint_data xs)) ≡ Ok xs
taints_back field most xs few h = list_back 0 most taint field taint_data says_taint (taint_back field) xs (omega arith) few h

pub tolerations_back : (field : Field) (most : ℕ) (xs : List Toleration) → length xs ≤ most → each_beside says_toleration [] xs ≡ true
    → list 0 most toleration field (array (items_data toleration_data xs)) ≡ Ok xs
tolerations_back field most xs few h = list_back 0 most toleration field toleration_data says_toleration (toleration_back field) xs (omega arith) few h

pub request_back : (field : Field) (most : ℕ) (x : Request) → 1 ≤ most
    → list 1 most container field (array (items_data request_data (x ∷ []))) ≡ Ok (x ∷ [])
request_back field most x some =
    list_back 1 most container field request_data (λ before y. true) (λ before y h. container_back field before y) (x ∷ []) (omega arith) (omega arith) refl
