-- The line that tells an event has no byte that ends a line.
use Rattle.std.proofs.Common.{◌≡◌, ℕ, suc, ◌/◌, ◌%◌, ◌^◌, ◌<◌, ◌≤◌, ℤ, pos, negsuc, int_le, Bool, true, false, cond, ◌&&◌, ◌==◌, not, nat_lt, List, [], ◌∷◌, ◌++◌, decimal, refl, ap, ◌∙◌, arith, leb-true}
use Rattle.std.proofs.lemmas.Bool.{and_parts, and_from}
use Rattle.std.proofs.lemmas.Bool.Decides.{nat_tests}
use Rattle.std.proofs.lemmas.List.Folds.{list_all-append}
use Rattle.std.specs.Char.{digit_char}
use Rattle.std.specs.Fmt.{signed_decimal}
use Rattle.std.specs.List.{list_all}
use Rattle.json.specs.Json.{Json}
use Rattle.json.specs.Token.{Token, begin_object, end_object, begin_array, end_array, key, string, number, null, bad}
use Rattle.json.specs.Print.{escape_letter, escape_byte, escape, separator, begins, ends, token_text, print_from, print}
use Rattle.json.specs.Tree.{json_tokens, items_tokens}
use Rattle.quant.specs.Amount.{is_digit}
use Rattle.quant.specs.declared.version.Version.{Version}
use Rattle.quant.specs.declared.objects.Label.{Label}
use Rattle.quant.specs.declared.objects.Node.{Node}
use Rattle.quant.specs.declared.objects.Pod.{Pod}
use Rattle.quant.specs.declared.taint.Taint.{Taint}
use Rattle.quant.specs.declared.taint.Toleration.{Toleration}
use Rattle.quant.specs.declared.event.Event.{Event}
use Rattle.quant.specs.declared.event.Event.TheVariants.{NodeSet, NodeGone, PodPending, PodBound, PodGone}
use Rattle.objects.specs.inside.Line.{label_json, taint_json, toleration_json, items_json, line_json}
use Rattle.objects.specs.Sayable.{IsVersion}
use Rattle.objects.specs.inside.Events.{IsNodeRow, IsPodRow, IsSayable}
use Rattle.objects.specs.Translation.{is_one_line}
use Rattle.objects.proofs.Spelled.{decimal_digits}

-- a byte that ends no line
abbrev stays : ℕ → Bool
stays byte = not (byte == 10)

-- what stands for a byte in a text has none that ends a line
letter_stays : (x : ℕ) → stays (escape_letter x) ≡ true
letter_stays x = grind (arith, nat_tests)

digit_stays : (d : ℕ) → stays (digit_char d) ≡ true
digit_stays d = grind (arith, nat_tests)

byte_choice : (short low : Bool) (l d e x : ℕ) → stays l ≡ true → stays d ≡ true → stays e ≡ true → (low ≡ false → stays x ≡ true)
    → is_one_line (cond short (92 ∷ l ∷ []) (cond low (92 ∷ 117 ∷ 48 ∷ 48 ∷ d ∷ e ∷ []) (x ∷ []))) ≡ true
byte_choice true low l d e x hl hd he hx = and_from (stays l) true hl refl
byte_choice false true l d e x hl hd he hx = and_from (stays d) _ hd (and_from (stays e) true he refl)
byte_choice false false l d e x hl hd he hx = and_from (stays x) true (hx refl) refl

high_stays : (x : ℕ) → nat_lt x 32 ≡ false → stays x ≡ true
high_stays x h = grind (arith, nat_tests)

byte_one_line : (x : ℕ) → is_one_line (escape_byte x) ≡ true
unfolding escape_byte
byte_one_line x =
    byte_choice (nat_lt 0 (escape_letter x)) (nat_lt x 32) (escape_letter x) (digit_char (x / 16)) (digit_char (x % 16)) x
    (letter_stays x) (digit_stays (x / 16)) (digit_stays (x % 16)) (high_stays x)

both_one_line : (a b : List ℕ) → is_one_line a ≡ true → is_one_line b ≡ true → is_one_line (a ++ b) ≡ true
both_one_line a b ha hb = list_all-append stays a b ∙ and_from _ _ ha hb

escape_one_line : (s : List ℕ) → is_one_line (escape s) ≡ true
escape_one_line [] = refl
escape_one_line (x ∷ xs) = both_one_line (escape_byte x) (escape xs) (byte_one_line x) (escape_one_line xs)

-- a token whose text has no such byte: only a number's is printed as it is
abbrev is_quiet : Token → Bool
is_quiet begin_object = true
is_quiet end_object = true
is_quiet begin_array = true
is_quiet end_array = true
is_quiet (key s) = true
is_quiet (string s) = true
is_quiet (number s) = is_one_line s
is_quiet (Token.boolean b) = true
is_quiet null = true
is_quiet bad = true

token_one_line : (t : Token) → is_quiet t ≡ true → is_one_line (token_text t) ≡ true
token_one_line begin_object h = refl
token_one_line end_object h = refl
token_one_line begin_array h = refl
token_one_line end_array h = refl
token_one_line (key s) h = both_one_line (escape s ++ 34 ∷ []) (58 ∷ []) (both_one_line (escape s) (34 ∷ []) (escape_one_line s) refl) refl
token_one_line (string s) h = both_one_line (escape s) (34 ∷ []) (escape_one_line s) refl
token_one_line (number s) h = h
token_one_line (Token.boolean true) h = refl
token_one_line (Token.boolean false) h = refl
token_one_line null h = refl
token_one_line bad h = refl

separator_one_line : (b c : Bool) → is_one_line (cond (b && c) (44 ∷ []) []) ≡ true
separator_one_line true true = refl
separator_one_line true false = refl
separator_one_line false c = refl

print_one_line : (b : Bool) (ts : List Token) → list_all is_quiet ts ≡ true → is_one_line (print_from b ts) ≡ true
unfolding print_from
print_one_line b [] h = refl
print_one_line b (t ∷ ts) h =
    let parts = and_parts _ _ h in
    both_one_line (separator b t) (token_text t ++ print_from (ends t) ts) (separator_one_line b (begins t))
    (both_one_line (token_text t) (print_from (ends t) ts) (token_one_line t parts.0) (print_one_line (ends t) ts parts.1))

-- digits end no line
one_digit_stays : (d : ℕ) → is_digit d ≡ true → stays d ≡ true
one_digit_stays d h = grind (arith, nat_tests)

digits_one_line : (ds : List ℕ) → list_all is_digit ds ≡ true → is_one_line ds ≡ true
digits_one_line [] h = refl
digits_one_line (d ∷ ds) h =
    let parts = and_parts (is_digit d) (list_all is_digit ds) h in
    and_from (stays d) (is_one_line ds) (one_digit_stays d parts.0) (digits_one_line ds parts.1)

number_one_line : (n : ℕ) → n < 2 ^ 64 → is_one_line (decimal n) ≡ true
number_one_line n h = digits_one_line (decimal n) (decimal_digits n h)

signed_one_line : (z : ℤ) → int_le (negsuc 2147483647) z ≡ true → int_le z (pos 2147483647) ≡ true → is_one_line (signed_decimal z) ≡ true
signed_one_line (pos n) low high = let small : n ≤ 2147483647 = leb-true n 2147483647 high in number_one_line n (omega arith)
signed_one_line (negsuc n) low high = let small : n ≤ 2147483647 = leb-true n 2147483647 low in number_one_line (suc n) (omega arith)

version_one_line : (version : Version) → IsVersion version → is_one_line (decimal version.0) ≡ true
version_one_line version v = number_one_line version.0 (omega (arith, v.most))

-- items of texts alone
items_quiet : {A : Type 0} (f : A → Json) (one : (x : A) → list_all is_quiet (json_tokens (f x)) ≡ true) (xs : List A)
    → list_all is_quiet (items_tokens (items_json f xs)) ≡ true
items_quiet f one [] = refl
items_quiet f one (x ∷ xs) =
    list_all-append is_quiet (json_tokens (f x)) (items_tokens (items_json f xs)) ∙ and_from _ _ (one x) (items_quiet f one xs)

both_quiet : (a b : List Token) → list_all is_quiet a ≡ true → list_all is_quiet b ≡ true → list_all is_quiet (a ++ b) ≡ true
both_quiet a b ha hb = list_all-append is_quiet a b ∙ and_from _ _ ha hb

labels_quiet : (xs : List Label) → list_all is_quiet (items_tokens (items_json label_json xs)) ≡ true
labels_quiet = items_quiet label_json (λ x. refl)

taints_quiet : (xs : List Taint) → list_all is_quiet (items_tokens (items_json taint_json xs)) ≡ true
taints_quiet = items_quiet taint_json (λ x. refl)

tolerations_quiet : (xs : List Toleration) → list_all is_quiet (items_tokens (items_json toleration_json xs)) ≡ true
tolerations_quiet = items_quiet toleration_json (λ x. refl)

node_quiet : (version : Version) (node : Node) → IsVersion version → IsNodeRow node → list_all is_quiet (json_tokens (line_json (NodeSet version node))) ≡ true
unfolding line_json
node_quiet version node v row =
    and_from _ _ (version_one_line version v)
    (and_from _ _ (number_one_line node.allocatable.pods (omega (arith, row.pods)))
    (both_quiet (items_tokens (items_json label_json node.labels)) _ (labels_quiet node.labels)
    (both_quiet (items_tokens (items_json taint_json node.taints)) _ (taints_quiet node.taints) refl)))

pod_quiet : (version : Version) (pod : Pod) → IsVersion version → IsPodRow pod → list_all is_quiet (json_tokens (line_json (PodPending version pod))) ≡ true
unfolding line_json
pod_quiet version pod v row =
    and_from _ _ (version_one_line version v)
    (and_from _ _ (signed_one_line pod.priority row.low row.high)
    (both_quiet (items_tokens (items_json label_json pod.labels)) _ (labels_quiet pod.labels)
    (both_quiet (items_tokens (items_json toleration_json pod.tolerations)) _ (tolerations_quiet pod.tolerations) refl)))

event_quiet : (event : Event) → IsSayable event → list_all is_quiet (json_tokens (line_json event)) ≡ true
unfolding line_json
event_quiet (NodeSet version node) h = node_quiet version node h.0 h.1
event_quiet (NodeGone version name) h = and_from _ _ (version_one_line version h.0) refl
event_quiet (PodPending version pod) h = pod_quiet version pod h.0 h.1
event_quiet (PodBound version uid node r) h = and_from _ _ (version_one_line version h.0) refl
event_quiet (PodGone version uid) h = and_from _ _ (version_one_line version h.0) refl

-- a writer that has begun with nothing, and has written the object's tokens, has written no such
-- byte
pub line_one_line : (event : Event) (before : List ℕ) (ts : List Token) (line : List ℕ) → IsSayable event
    → before ≡ [] → ts ≡ json_tokens (line_json event) → line ≡ before ++ print ts → is_one_line line ≡ true
line_one_line event before ts line sayable empty same is =
    let whole_line : line ≡ print (json_tokens (line_json event)) = is ∙ ap (λ l. l ++ print ts) empty ∙ ap print same in
    rw whole_line (print_one_line false (json_tokens (line_json event)) (event_quiet event sayable))
