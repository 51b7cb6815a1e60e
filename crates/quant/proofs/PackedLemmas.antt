-- Labels and taints that are packed alike are the same.
use Rattle.std.proofs.Common.{◌≡◌, ℕ, ◌+◌, ◌<◌, List, [], ◌∷◌, ◌++◌, length, take, drop, get_or, refl, sym, ap, ◌∙◌, arith}
use Rattle.std.proofs.lemmas.List.{append_assoc, flat_map_more, take_more}
use Rattle.std.proofs.Math.Seq.{take-append_seam, drop-append_seam}
use Rattle.std.specs.List.{flat_map}
use Rattle.quant.specs.declared.amount.Res.{Res}
use Rattle.quant.specs.declared.objects.Label.{Label}
use Rattle.quant.specs.declared.objects.Node.{Node}
use Rattle.quant.specs.declared.taint.Effect.{Effect}
use Rattle.quant.specs.declared.taint.Effect.TheVariants.{NoSchedule, PreferNoSchedule, NoExecute}
use Rattle.quant.specs.declared.taint.Taint.{Taint}
use Rattle.quant.specs.Packed.{packed_text, packed_label}
use Rattle.quant.specs.inside.Packed.{packed_taint, packed_effect}

-- of two lists that begin with texts of one length these are the same, and so is what follows
first_same : (a b x y : List ℕ) → length a ≡ length b → a ++ x ≡ b ++ y → a ≡ b
first_same a b x y long e =
    sym (take-append_seam a x) ∙ ap (λ n. take n (a ++ x)) long ∙ ap (λ l. take (length b) l) e ∙ take-append_seam b y

rest_same : (a b x y : List ℕ) → length a ≡ length b → a ++ x ≡ b ++ y → x ≡ y
rest_same a b x y long e =
    sym (drop-append_seam a x) ∙ ap (λ n. drop n (a ++ x)) long ∙ ap (λ l. drop (length b) l) e ∙ drop-append_seam b y

head_is : (m n : ℕ) (x y : List ℕ) → m ∷ x ≡ n ∷ y → m ≡ n
head_is m n x y e = cc

tail_is : (m n : ℕ) (x y : List ℕ) → m ∷ x ≡ n ∷ y → x ≡ y
tail_is m n x y e = cc

-- texts that are packed come apart
texts_apart : (a b x y : List ℕ) → packed_text a ++ x ≡ packed_text b ++ y → (a ≡ b) × (x ≡ y)
texts_apart a b x y e =
    let long = head_is (length a) (length b) (a ++ x) (b ++ y) e in
    let same = tail_is (length a) (length b) (a ++ x) (b ++ y) e in
    (first_same a b x y long same, rest_same a b x y long same)

effect_same : (a b : Effect) → packed_effect a ≡ packed_effect b → a ≡ b
effect_same NoSchedule NoSchedule e = refl
effect_same NoSchedule PreferNoSchedule e = absurd (cc e)
effect_same NoSchedule NoExecute e = absurd (cc e)
effect_same PreferNoSchedule NoSchedule e = absurd (cc e)
effect_same PreferNoSchedule PreferNoSchedule e = refl
effect_same PreferNoSchedule NoExecute e = absurd (cc e)
effect_same NoExecute NoSchedule e = absurd (cc e)
effect_same NoExecute PreferNoSchedule e = absurd (cc e)
effect_same NoExecute NoExecute e = refl

pub labels_same : (xs ys : List Label) → flat_map packed_label xs ≡ flat_map packed_label ys → xs ≡ ys
labels_same [] [] e = refl
labels_same [] (y ∷ ys) e = absurd (cc e)
labels_same (x ∷ xs) [] e = absurd (cc e)
labels_same (x ∷ xs) (y ∷ ys) e =
    let whole = sym (append_assoc (packed_text x.key) (packed_text x.value) (flat_map packed_label xs)) ∙ e
    ∙ append_assoc (packed_text y.key) (packed_text y.value) (flat_map packed_label ys) in
    let keys = texts_apart x.key y.key _ _ whole in
    let values = texts_apart x.value y.value _ _ keys.1 in
    λ j. record { key = keys.0 j; value = values.0 j } ∷ labels_same xs ys values.1 j

pub taints_same : (xs ys : List Taint) → flat_map packed_taint xs ≡ flat_map packed_taint ys → xs ≡ ys
taints_same [] [] e = refl
taints_same [] (y ∷ ys) e = absurd (cc e)
taints_same (x ∷ xs) [] e = absurd (cc e)
taints_same (x ∷ xs) (y ∷ ys) e =
    let rest = λ (t : Taint) (more : List ℕ). packed_text t.key ++ (packed_text t.value ++ (packed_effect t.effect ∷ more)) in
    let apart = λ (t : Taint) (more : List ℕ).
    append_assoc (packed_text t.key ++ packed_text t.value) (packed_effect t.effect ∷ []) more
    ∙ append_assoc (packed_text t.key) (packed_text t.value) (packed_effect t.effect ∷ more) in
    let whole : rest x (flat_map packed_taint xs) ≡ rest y (flat_map packed_taint ys) =
    sym (apart x (flat_map packed_taint xs)) ∙ e ∙ apart y (flat_map packed_taint ys) in
    let keys = texts_apart x.key y.key _ _ whole in
    let values = texts_apart x.value y.value _ _ keys.1 in
    let effects = effect_same x.effect y.effect (head_is _ _ _ _ values.1) in
    λ j. record { key = keys.0 j; value = values.0 j; effect = effects j } ∷ taints_same xs ys (tail_is _ _ _ _ values.1) j

pub amounts_same : (a b : Res) → a.cpu.0 ≡ b.cpu.0 → a.mem.0 ≡ b.mem.0 → a.pods ≡ b.pods → a ≡ b
amounts_same a b cpu mem pods = λ j. record { cpu = record { 0 = cpu j }; mem = record { 0 = mem j }; pods = pods j }

pub row_same : (a b : Node) → a.allocatable ≡ b.allocatable → a.unschedulable ≡ b.unschedulable
    → flat_map packed_taint a.taints ≡ flat_map packed_taint b.taints
    → packed_text a.name ++ flat_map packed_label a.labels ≡ packed_text b.name ++ flat_map packed_label b.labels → a ≡ b
row_same a b allocatable mark taints named =
    let apart = texts_apart a.name b.name _ _ named in
    let same_taints = taints_same a.taints b.taints taints in
    let same_labels = labels_same a.labels b.labels apart.1 in
    λ j. record {
      name = apart.0 j;
      allocatable = allocatable j;
      labels = same_labels j;
      taints = same_taints j;
      unschedulable = mark j;
    }

-- behind a name's text stands what was put there
pub behind_name : (named : ℕ) (name rest : List ℕ) → named ≡ 1 + length name → drop named (packed_text name ++ rest) ≡ rest
behind_name named name rest e =
    let whole : named ≡ length (packed_text name) = e ∙ omega arith in
    ap (λ n. drop n (packed_text name ++ rest)) whole ∙ drop-append_seam (packed_text name) rest

-- what is packed of one item more stands behind what is packed of those in front of it
pub one_more : {X : Type 0} (f : X → List ℕ) (xs : List X) (i : ℕ) (x : X) → i < length xs → x ≡ get_or xs i x
    → flat_map f (take i xs) ++ f x ≡ flat_map f (take (i + 1) xs)
one_more f xs i x h e =
    ap (λ y. flat_map f (take i xs) ++ f y) e ∙ flat_map_more f [] (take i xs) (get_or xs i x) ∙ ap (flat_map f) (sym (take_more xs i x h))
