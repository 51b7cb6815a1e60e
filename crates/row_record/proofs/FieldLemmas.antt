-- Where the fields of a record stand.
use Rattle.std.proofs.Common.{◌≡◌, ℕ, ◌+◌, Bool, true, false, List, [], ◌∷◌, ◌++◌, length, refl, subst, arith, append_assoc, length-append}
use Rattle.std.proofs.Math.Seq.{take-append_seam, take-length, drop-append-add}
use Rattle.std.specs.Int.{cast_unsigned, w32}
use Rattle.byteorder.specs.Numbers.{length-bytes_low_first}
use Rattle.quant.specs.declared.amount.Res.{Res}
use Rattle.quant.specs.declared.objects.Node.{Node}
use Rattle.quant.specs.declared.objects.Pod.{Pod}
use Rattle.row_record.specs.Record.{number_field, text_field, mark_field, amounts_field, labels_field, pod_bytes, node_bytes}
use Rattle.row_record.specs.Laws.{Stands, PodFieldsStand, NodeFieldsStand}

-- a field stands where it begins
first : (field rest : List ℕ) → Stands (field ++ rest) 0 field
first field rest = take-append_seam field rest

alone : (field : List ℕ) → Stands field 0 field
alone field = take-length field

-- and so much later behind what is put in front
behind : (front bytes : List ℕ) (offset : ℕ) (field : List ℕ) → Stands bytes offset field → Stands (front ++ bytes) (length front + offset) field
behind front bytes offset field h = rw (drop-append-add front bytes offset) h

moved : (bytes : List ℕ) (offset there : ℕ) (field : List ℕ) → offset ≡ there → Stands bytes offset field → Stands bytes there field
moved bytes offset there field e h = subst (λ (at : ℕ). Stands bytes at field) e h

number_length : (count number : ℕ) → length (number_field count number) ≡ count
unfolding number_field
number_length count number = length-bytes_low_first 0 count number

amounts_length : (amounts : Res) → length (amounts_field amounts) ≡ 20
amounts_length amounts =
    let cpu = number_field 8 amounts.cpu.0 in
    let mem = number_field 8 amounts.mem.0 in
    let pods = number_field 4 amounts.pods in
    rw (length-append (cpu ++ mem) pods, length-append cpu mem, number_length 8 amounts.cpu.0, number_length 8 amounts.mem.0, number_length 4 amounts.pods) refl

mark_length : (mark : Bool) → length (mark_field mark) ≡ 1
mark_length true = refl
mark_length false = refl

-- where five fields stand, the first of them behind two bytes
abbrev FiveStand : (bytes : List ℕ) (f g h i j : List ℕ) (u v w x : ℕ) → Type 0
FiveStand bytes f g h i j u v w x =
    Stands bytes 2 f × Stands bytes u g × Stands bytes v h × Stands bytes w i × Stands bytes x j

five : (a b : ℕ) (f g h i j : List ℕ) (u v w x : ℕ) → 2 + length f ≡ u → u + length g ≡ v → v + length h ≡ w → w + length i ≡ x
    → FiveStand (a ∷ b ∷ f ++ g ++ h ++ i ++ j) f g h i j u v w x
five a b f g h i j u v w x e1 e2 e3 e4 =
    let two : List ℕ = a ∷ b ∷ [] in
    let from_h = h ++ (i ++ j) in
    let from_g = g ++ from_h in
    let rest = f ++ from_g in
    let bytes = two ++ rest in
    let joined : bytes ≡ (a ∷ b ∷ f ++ g ++ h ++ i ++ j) = simp append_assoc refl in
    let i_h = behind h (i ++ j) 0 i (first i j) in
    let j_h = behind h (i ++ j) (length i + 0) j (behind i j 0 j (alone j)) in
    let h_g = behind g from_h 0 h (first h (i ++ j)) in
    let i_g = behind g from_h (length h + 0) i i_h in
    let j_g = behind g from_h (length h + (length i + 0)) j j_h in
    let g_f = behind f from_g 0 g (first g from_h) in
    let h_f = behind f from_g (length g + 0) h h_g in
    let i_f = behind f from_g (length g + (length h + 0)) i i_g in
    let j_f = behind f from_g (length g + (length h + (length i + 0))) j j_g in
    subst (λ (bs : List ℕ). FiveStand bs f g h i j u v w x) joined (
      behind two rest 0 f (first f from_g),
      moved bytes (2 + (length f + 0)) u g (omega (arith, e1)) (behind two rest (length f + 0) g g_f),
      moved bytes (2 + (length f + (length g + 0))) v h (omega (arith, e1, e2)) (behind two rest (length f + (length g + 0)) h h_f),
      moved bytes (2 + (length f + (length g + (length h + 0)))) w i (omega (arith, e1, e2, e3)) (behind two rest (length f + (length g + (length h + 0))) i i_f),
      moved bytes (2 + (length f + (length g + (length h + (length i + 0))))) x j (omega (arith, e1, e2, e3, e4)) (behind two rest (length f + (length g + (length h + (length i + 0)))) j j_f),
    )

pub pod_fields : (pod : Pod) → PodFieldsStand pod
unfolding pod_bytes
pod_fields pod =
    let n = length pod.uid in
    let priority = cast_unsigned w32 pod.priority in
    let at = five 1 1 (text_field pod.uid) (number_field 4 priority) (number_field 8 pod.request.cpu.0) (number_field 8 pod.request.mem.0) (labels_field pod.labels)
    (n + 3) (n + 7) (n + 15) (n + 23) (omega arith) (omega (arith, number_length 4 priority)) (omega (arith, number_length 8 pod.request.cpu.0)) (omega (arith, number_length 8 pod.request.mem.0)) in
    record {
      version = refl;
      kind = refl;
      uid = at.0;
      priority = at.1;
      cpu = at.2;
      mem = at.3;
      labels = at.4;
    }

pub node_fields : (node : Node) (used : Res) → NodeFieldsStand node used
unfolding node_bytes
node_fields node used =
    let n = length node.name in
    let at = five 1 2 (text_field node.name) (mark_field node.unschedulable) (amounts_field node.allocatable) (amounts_field used) (labels_field node.labels)
    (n + 3) (n + 4) (n + 24) (n + 44) (omega arith) (omega (arith, mark_length node.unschedulable)) (omega (arith, amounts_length node.allocatable)) (omega (arith, amounts_length used)) in
    record {
      version = refl;
      kind = refl;
      name = at.0;
      mark = at.1;
      allocatable = at.2;
      occupied = at.3;
      labels = at.4;
    }
