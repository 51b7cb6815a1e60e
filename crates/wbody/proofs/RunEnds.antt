-- The run that has a local, by how many runs end before it.
use Rattle.std.proofs.Common.{◌≡◌, ℕ, zero, suc, ◌+◌, ◌-◌, ◌^◌, ◌<◌, ◌≤◌, List, [], ◌∷◌, Bool, true, false, length, get_or, Some, length-append, drop, drop-cons, add-one, append_assoc, refl, inl, inr, ◌++◌, sym, ap, ◌∙◌, arith}
use Rattle.std.specs.Prelude.{nat_le, slice_get, option_map}
use Rattle.std.proofs.Math.ListN.{get_or-append}
use Rattle.std.proofs.lemmas.Option.{slice_get-get_or}
use Rattle.std.specs.List.{count_by}
use Rattle.std.specs.List.Sorted.{IsNonDecreasingBy}
use Rattle.std.specs.List.Sorted.{IsPartitionPoint}
use Rattle.std.proofs.Math.Numerals.{one-add}
use Rattle.std.proofs.lemmas.Bool.Decides.{leb_tells}
use Rattle.std.proofs.lemmas.List.{append-nil, drop_all}
use Rattle.wcode.specs.declared.value.ValueType.{ValueType}
use Rattle.wmodule.specs.declared.module.LocalRun.{LocalRun}
use Rattle.wmodule.specs.Syntax.{locals_of}
use Rattle.wbody.specs.inside.LocalEnds.{end_of, ends_from, ends_of}
use Rattle.wbody.proofs.Found.{get_right, in_run, past_run}
use Rattle.wbody.proofs.Halved.{count_cons, none_pass, partition_counts}

-- no end is before where the first run begins
pub not_before : (start : ℕ) (rs : List LocalRun) (j d : ℕ) → start ≤ 2 ^ 32 → j < length (ends_from start rs) → start ≤ get_or (ends_from start rs) j d
not_before start [] j d low h = absurd (omega arith)
not_before start (r ∷ rs) zero d low h = omega (arith, low)
not_before start (r ∷ rs) (suc j) d low h =
    let next : end_of start r ≤ 2 ^ 32 = omega arith in
    let k = not_before (end_of start r) rs j d next (omega arith) in
    let m : start ≤ end_of start r = omega (arith, low) in omega (arith, m, k)

-- they rise
pub ends_rise : (start : ℕ) (rs : List LocalRun) → start ≤ 2 ^ 32 → IsNonDecreasingBy (λ (e : ℕ). e) (ends_from start rs)
ends_rise start [] low i j d h k = absurd (omega arith)
ends_rise start (r ∷ rs) low zero zero d h k = omega arith
ends_rise start (r ∷ rs) low zero (suc j) d h k =
    let next : end_of start r ≤ 2 ^ 32 = omega arith in not_before (end_of start r) rs j d next (omega arith)
ends_rise start (r ∷ rs) low (suc i) zero d h k = absurd (omega arith)
ends_rise start (r ∷ rs) low (suc i) (suc j) d h k =
    let next : end_of start r ≤ 2 ^ 32 = omega arith in ends_rise (end_of start r) rs next i j d (omega arith) (omega arith)

is_le : (e t : ℕ) → nat_le e t ≡ true → e ≤ t
is_le e t h = elim (leb_tells e t) [ inl x ↦ x.1 | inr x ↦ absurd (let n : true ≡ false = sym h ∙ x.0 in cc) ]

is_gt : (e t : ℕ) → nat_le e t ≡ false → t < e
is_gt e t h = elim (leb_tells e t) [ inl x ↦ absurd (let n : true ≡ false = sym x.0 ∙ h in cc) | inr x ↦ x.1 ]

not_le : (e t : ℕ) → t < e → nat_le e t ≡ false
not_le e t h = elim (leb_tells e t) [ inl x ↦ absurd (let l = x.1 in omega (arith, l, h)) | inr x ↦ x.0 ]

-- how many end before a local
abbrev pub ended : (start t : ℕ) → List LocalRun → ℕ
ended start t rs = count_by (λ e. nat_le e t) (ends_from start rs)

none_ended : (start t : ℕ) (rs : List LocalRun) → start ≤ 2 ^ 32 → t < start → ended start t rs ≡ 0
none_ended start t rs low h =
    none_pass (λ e. nat_le e t) (ends_from start rs) (λ k d l. (let m = not_before start rs k d low l in not_le (get_or (ends_from start rs) k d) t (omega (arith, m, h))))

-- the local at a place among runs of which the first begins at another
pub located : (start t : ℕ) (rs : List LocalRun) → start ≤ t → t < 2 ^ 32 → slice_get (locals_of rs) (t - start) ≡ option_map (λ (r : LocalRun). r.value) (slice_get rs (ended start t rs))
located start t [] low high = refl
located start t (r ∷ rs) low high = here (nat_le (end_of start r) t) refl (λ past. located (end_of start r) t rs past high)
  where
    here : (b : Bool) → nat_le (end_of start r) t ≡ b → (end_of start r ≤ t → slice_get (locals_of rs) (t - end_of start r) ≡ option_map (λ (x : LocalRun). x.value) (slice_get rs (ended (end_of start r) t rs))) → slice_get (locals_of (r ∷ rs)) (t - start) ≡ option_map (λ (x : LocalRun). x.value) (slice_get (r ∷ rs) (ended start t (r ∷ rs)))
    here true e more =
        let past : end_of start r ≤ t = is_le (end_of start r) t e in
        let all : end_of start r ≡ start + r.count = omega (arith, past, high) in
        let many : r.count ≤ t - start = omega (arith, past, all) in
        let left : t - start - r.count ≡ t - end_of start r = omega (arith, past, all) in
        past_run r.count r.value (locals_of rs) (t - start) many
        ∙ ap (slice_get (locals_of rs)) left
        ∙ more past
        ∙ ap (λ n. option_map (λ (x : LocalRun). x.value) (slice_get (r ∷ rs) n)) (sym (count_cons (λ e. nat_le e t) (end_of start r) (ends_from (end_of start r) rs) true e ∙ one-add (ended (end_of start r) t rs)))
    here false e more =
        let before : t < end_of start r = is_gt (end_of start r) t e in
        let few : t - start < r.count = omega (arith, before, low) in
        let next : end_of start r ≤ 2 ^ 32 = omega arith in
        let count = count_cons (λ e. nat_le e t) (end_of start r) (ends_from (end_of start r) rs) false e in
        let others = none_ended (end_of start r) t rs next before in
        let none : ended start t (r ∷ rs) ≡ 0 = omega (arith, count, others) in
        in_run r.count r.value (locals_of rs) (t - start) few ∙ ap (λ n. option_map (λ (x : LocalRun). x.value) (slice_get (r ∷ rs) n)) (sym none)

-- the local at an index of a parameter
pub parameter_at : (parameters others : List ValueType) (index : ℕ) (t : ValueType) → index < length parameters → t ≡ get_or parameters index t → Some t ≡ slice_get (parameters ++ others) index
parameter_at parameters others index t within is =
    let long : index < length (parameters ++ others) = omega (arith, within, length-append parameters others) in
    ap Some is ∙ sym (slice_get-get_or (parameters ++ others) index t long ∙ ap Some (get_or-append parameters others t index within))

-- the local at an index behind the parameters, by the place where the ends are no longer at most it
pub local_at : (parameters : List ValueType) (runs : List LocalRun) (ends : List ℕ) (index past run : ℕ) → ends ≡ ends_of runs → length parameters ≤ index → index < 2 ^ 32 → past ≡ index - length parameters → run ≤ length ends → IsPartitionPoint (λ e. nat_le e past ≡ true) (λ e. nat_le e past ≡ false) ends run
    → slice_get (parameters ++ locals_of runs) index ≡ option_map (λ (r : LocalRun). r.value) (slice_get runs run)
local_at parameters runs ends index past run ends_are behind short past_is within parts =
    let none : past ≡ past - 0 = omega arith in
    let least : 0 ≤ past = omega arith in
    let high : past < 2 ^ 32 = omega (arith, short, past_is) in
    let count : run ≡ count_by (λ e. nat_le e past) ends = partition_counts (λ e. nat_le e past) ends run within parts in
    get_right parameters (locals_of runs) index behind
    ∙ ap (slice_get (locals_of runs)) (sym past_is ∙ none)
    ∙ located 0 past runs least high
    ∙ ap (λ n. option_map (λ (r : LocalRun). r.value) (slice_get runs n)) (sym (count ∙ ap (λ es. count_by (λ e. nat_le e past) es) ends_are))

-- the end of the next run goes to those so far
pub ends_more : (ends : List ℕ) (start : ℕ) (runs : List LocalRun) (i : ℕ) (d : LocalRun) → i < length runs
    → (ends ++ end_of start (get_or runs i d) ∷ []) ++ ends_from (end_of start (get_or runs i d)) (drop (i + 1) runs) ≡ ends ++ ends_from start (drop i runs)
ends_more ends start runs i d within =
    let first : drop i runs ≡ get_or runs i d ∷ drop (suc i) runs = drop-cons runs i d within in
    let same : drop i runs ≡ get_or runs i d ∷ drop (i + 1) runs = first ∙ ap (λ n. get_or runs i d ∷ drop n runs) (sym (add-one i)) in
    append_assoc ends (end_of start (get_or runs i d) ∷ []) (ends_from (end_of start (get_or runs i d)) (drop (i + 1) runs))
    ∙ ap (λ l. ends ++ ends_from start l) (sym same)

-- where no runs are to come, those so far are all
pub ends_done : (ends : List ℕ) (end : ℕ) (runs : List LocalRun) (i : ℕ) → length runs ≤ i → ends ++ ends_from end (drop i runs) ≡ ends_of runs → ends ≡ ends_of runs
ends_done ends end runs i past all =
    sym (append-nil ends) ∙ ap (λ (l : List LocalRun). ends ++ ends_from end l) (sym (drop_all i runs past)) ∙ all
