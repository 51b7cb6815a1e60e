-- Pods of one uid and one record of version 3 have the same records.
use Rattle.std.proofs.Common.{◌≡◌, ℕ, suc, Bool, true, false, List, [], ◌∷◌, ◌++◌, length, take, drop, if◌then◌else◌, refl, sym, ap, ◌∙◌, append_assoc}
use Rattle.std.proofs.Math.Seq.{take-append_seam, drop-append_seam}
use Rattle.std.specs.List.{flat_map}
use Rattle.std.specs.Int.{cast_unsigned, w32}
use Rattle.byteorder.specs.Numbers.{length-bytes_low_first}
use Rattle.quant.specs.Name.{is_before}
use Rattle.quant.specs.declared.objects.Label.{Label}
use Rattle.quant.specs.declared.objects.Pod.{Pod}
use Rattle.row_record.specs.KeyOrder.{put_in_order, in_key_order}
use Rattle.row_record.specs.Record.{number_field, text_field, label_field, labels_field, tolerations_field, pod_bytes, pod_bytes2, pod_bytes3}
use Rattle.whost.specs.Handed.{pod_records}

-- of two lists that begin with parts of one length these are the same, and so is what follows
apart : (a b x y : List ℕ) → length a ≡ length b → a ++ x ≡ b ++ y → (a ≡ b) × (x ≡ y)
apart a b x y long e = (
  sym (take-append_seam a x) ∙ ap (λ n. take n (a ++ x)) long ∙ ap (λ l. take (length b) l) e ∙ take-append_seam b y,
  sym (drop-append_seam a x) ∙ ap (λ n. drop n (a ++ x)) long ∙ ap (λ l. drop (length b) l) e ∙ drop-append_seam b y,
)

head_is : (m n : ℕ) (x y : List ℕ) → m ∷ x ≡ n ∷ y → m ≡ n
head_is m n x y e = cc

tail_is : (m n : ℕ) (x y : List ℕ) → m ∷ x ≡ n ∷ y → x ≡ y
tail_is m n x y e = cc

texts_apart : (a b x y : List ℕ) → text_field a ++ x ≡ text_field b ++ y → (a ≡ b) × (x ≡ y)
texts_apart a b x y e =
    apart a b x y (head_is (length a) (length b) (a ++ x) (b ++ y) e) (tail_is (length a) (length b) (a ++ x) (b ++ y) e)

number_length : (count number : ℕ) → length (number_field count number) ≡ count
unfolding number_field
number_length count number = length-bytes_low_first 0 count number

numbers_apart : (count m n : ℕ) (x y : List ℕ) → number_field count m ++ x ≡ number_field count n ++ y → (number_field count m ≡ number_field count n) × (x ≡ y)
numbers_apart count m n x y e = apart (number_field count m) (number_field count n) x y (number_length count m ∙ sym (number_length count n)) e

-- as many labels, one after the other, in front of anything
labels_apart : (xs ys : List Label) (s t : List ℕ) → length xs ≡ length ys → flat_map label_field xs ++ s ≡ flat_map label_field ys ++ t → flat_map label_field xs ≡ flat_map label_field ys
labels_apart [] [] s t long e = refl
labels_apart [] (y ∷ ys) s t long e = absurd (cc long)
labels_apart (x ∷ xs) [] s t long e = absurd (cc long)
labels_apart (x ∷ xs) (y ∷ ys) s t long e =
    let split = λ (l : Label) (rest more : List ℕ).
    append_assoc (label_field l) rest more ∙ append_assoc (text_field l.key) (text_field l.value) (rest ++ more) in
    let whole = sym (split x (flat_map label_field xs) s) ∙ e ∙ split y (flat_map label_field ys) t in
    let keys = texts_apart x.key y.key _ _ whole in
    let values = texts_apart x.value y.value _ _ keys.1 in
    let rest = labels_apart xs ys s t (cc long) values.1 in
    λ j. (text_field (keys.0 j) ++ text_field (values.0 j)) ++ rest j

put_length : (label : Label) (labels : List Label) → length (put_in_order label labels) ≡ suc (length labels)
put_length label [] = refl
put_length label (first ∷ rest) =
    elim (is_before first.key label.key) as (λ (b : Bool). length (if b then first ∷ put_in_order label rest else label ∷ first ∷ rest) ≡ suc (suc (length rest))) [
      | true ↦ ap suc (put_length label rest)
      | false ↦ refl
    ]

order_length : (labels : List Label) → length (in_key_order labels) ≡ length labels
order_length [] = refl
order_length (label ∷ rest) = put_length label (in_key_order rest) ∙ ap suc (order_length rest)

labels_same : (xs ys : List Label) (s t : List ℕ) → labels_field xs ++ s ≡ labels_field ys ++ t → labels_field xs ≡ labels_field ys
labels_same xs ys s t e =
    let many : length xs ≡ length ys = head_is _ _ _ _ e in
    let long = order_length xs ∙ many ∙ sym (order_length ys) in
    let same = labels_apart (in_key_order xs) (in_key_order ys) s t long (tail_is _ _ _ _ e) in
    λ j. many j ∷ same j

-- four fields behind a text, and in front of more
shift : (t a b c d : List ℕ) → t ++ a ++ b ++ c ++ d ≡ t ++ (a ++ b ++ c ++ d)
shift t a b c d =
    ap (λ l. l ++ d) (ap (λ l. l ++ c) (append_assoc t a b) ∙ append_assoc t (a ++ b) c) ∙ append_assoc t (a ++ b ++ c) d

spread : (a b c d more : List ℕ) → (a ++ b ++ c ++ d) ++ more ≡ a ++ (b ++ (c ++ (d ++ more)))
spread a b c d more =
    append_assoc (a ++ b ++ c) d more ∙ append_assoc (a ++ b) c (d ++ more) ∙ append_assoc a b (c ++ (d ++ more))

-- the fields behind the uid
abbrev priority_of : Pod → List ℕ
priority_of pod = number_field 4 (cast_unsigned w32 pod.priority)

abbrev cpu_of : Pod → List ℕ
cpu_of pod = number_field 8 pod.request.cpu.0

abbrev memory_of : Pod → List ℕ
memory_of pod = number_field 8 pod.request.mem.0

abbrev labels_of : Pod → List ℕ
labels_of pod = labels_field pod.labels

abbrev behind : Pod → List ℕ
behind pod = priority_of pod ++ cpu_of pod ++ memory_of pod ++ labels_of pod

behind_apart : (p q : Pod) (s t : List ℕ) → behind p ++ s ≡ behind q ++ t → behind p ≡ behind q
behind_apart p q s t e =
    let whole = sym (spread (priority_of p) (cpu_of p) (memory_of p) (labels_of p) s) ∙ e ∙ spread (priority_of q) (cpu_of q) (memory_of q) (labels_of q) t in
    let one = numbers_apart 4 _ _ _ _ whole in
    let two = numbers_apart 8 _ _ _ _ one.1 in
    let three = numbers_apart 8 _ _ _ _ two.1 in
    let labels = labels_same p.labels q.labels s t three.1 in
    λ j. one.0 j ++ two.0 j ++ three.0 j ++ labels j

-- the records by what stands behind the uid
fields : (p : Pod) → text_field p.uid ++ priority_of p ++ cpu_of p ++ memory_of p ++ labels_of p ≡ text_field p.uid ++ behind p
fields p = shift (text_field p.uid) (priority_of p) (cpu_of p) (memory_of p) (labels_of p)

firsts : (p q : Pod) → p.uid ≡ q.uid → behind p ≡ behind q → pod_bytes p ≡ pod_bytes q
unfolding pod_bytes
firsts p q uid same = ap (λ l. 1 ∷ 1 ∷ l) (fields p ∙ (λ j. text_field (uid j) ++ same j) ∙ sym (fields q))

seconds : (p q : Pod) → p.uid ≡ q.uid → behind p ++ tolerations_field p.tolerations ≡ behind q ++ tolerations_field q.tolerations → pod_bytes2 p ≡ pod_bytes2 q
unfolding pod_bytes2
seconds p q uid same =
    let split = λ (pod : Pod). let more = tolerations_field pod.tolerations in
    ap (λ l. l ++ more) (fields pod) ∙ append_assoc (text_field pod.uid) (behind pod) more in
    ap (λ l. 2 ∷ 1 ∷ l) (split p ∙ (λ j. text_field (uid j) ++ same j) ∙ sym (split q))

thirds : (p q : Pod) → pod_bytes3 p ≡ pod_bytes3 q → behind p ++ tolerations_field p.tolerations ≡ behind q ++ tolerations_field q.tolerations
unfolding pod_bytes3
thirds p q same = tail_is 0 0 _ _ (tail_is 1 1 _ _ (tail_is 3 3 _ _ same))

pub same_pod : (p q : Pod) → p.uid ≡ q.uid → pod_bytes3 p ≡ pod_bytes3 q → pod_records p ≡ pod_records q
same_pod p q uid same =
    let rest = thirds p q same in
    let front = behind_apart p q _ _ rest in
    let first = firsts p q uid front in
    let second = seconds p q uid rest in
    λ j. record { first = first j; second = second j; third = same j }
