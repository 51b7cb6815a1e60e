-- A row tells the same as itself.
use Rattle.std.proofs.Common.{◌≡◌, ℕ, Bool, true, ◌&&◌, ◌==◌, List, [], ◌∷◌, Option, Some, None, refl, rules}
use Rattle.std.specs.Str.{bytes_eq}
use Rattle.std.specs.Cmp.Lexicographic.{bytes_decides}
use Rattle.quant.specs.declared.objects.Label.{Label}
use Rattle.quant.specs.declared.objects.Pod.{Pod}
use Rattle.quant.specs.declared.taint.Effect.{Effect}
use Rattle.quant.specs.declared.taint.Effect.TheVariants.{NoSchedule, PreferNoSchedule, NoExecute}
use Rattle.quant.specs.declared.taint.Operator.{Operator}
use Rattle.quant.specs.declared.taint.Operator.TheVariants.{Equal, Exists}
use Rattle.quant.specs.declared.taint.Toleration.{Toleration}
use Rattle.std.proofs.lemmas.Bool.Decides.{Decides-int_eq}
use Rattle.live_desk.specs.SamePod.{are_all, is_same_effect, is_same_label, is_same_operator, is_same_pod, is_same_toleration}

bytes_same : (text : List ℕ) → bytes_eq text text ≡ true
bytes_same text = (bytes_decides text text).1 refl

two : (a b : Bool) → a ≡ true → b ≡ true → (a && b) ≡ true
two a b one other = rw (one, other) refl

all_same : {X : Type 0} (same : X → X → Bool) → ((x : X) → same x x ≡ true) → (xs : List X) → are_all same xs xs ≡ true
all_same same one [] = refl
all_same same one (x ∷ xs) = two (same x x) (are_all same xs xs) (one x) (all_same same one xs)

label : (l : Label) → is_same_label l l ≡ true
label l = two _ _ (bytes_same l.key) (bytes_same l.value)

operator : (o : Operator) → is_same_operator o o ≡ true
operator Equal = refl
operator Exists = refl

effect : (e : Option Effect) → is_same_effect e e ≡ true
effect None = refl
effect (Some NoSchedule) = refl
effect (Some PreferNoSchedule) = refl
effect (Some NoExecute) = refl

toleration : (t : Toleration) → is_same_toleration t t ≡ true
toleration t = two _ _ (two _ _ (two _ _ (bytes_same t.key) (operator t.operator)) (bytes_same t.value)) (effect t.effect)

number : (n : ℕ) → (n == n) ≡ true
number n = search rules

pub same_itself : (pod : Pod) → is_same_pod pod pod ≡ true
unfolding is_same_pod
same_itself pod =
    two _ _
    (two _ _
    (two _ _ (two _ _ (bytes_same pod.uid) ((Decides-int_eq pod.priority pod.priority).1 refl)) (two _ _ (number pod.request.cpu.0) (number pod.request.mem.0)))
    (all_same is_same_label label pod.labels))
    (all_same is_same_toleration toleration pod.tolerations)
