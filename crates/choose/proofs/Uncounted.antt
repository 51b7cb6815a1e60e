-- A decision without a node that is rejected.
use Rattle.std.proofs.Common.{◌≡◌, ℕ, ◌+◌, ◌-◌, ◌≤◌, max, Bool, true, false, if◌then◌else◌, cond, inl, inr, List, [], ◌∷◌, ◌++◌, count_by, Some, None, IfSome, refl, ap, ◌∙◌, subst, arith}
use Rattle.std.specs.List.{All, Contains, fold}
use Rattle.std.proofs.lemmas.List.Elements.{All-cons, All-head, All-tail, Contains-append_left, Contains-append_right, Contains-append_cases}
use Rattle.std.proofs.lemmas.Map.Made.{Contains-tail}
use Rattle.quant.specs.Request.{greatest_by}
use Rattle.choose.specs.declared.decision.Reason.{Reason}
use Rattle.choose.specs.declared.decision.Reason.TheVariants.{Marked, Taint, Cpu, Memory, Pods, Plugin, Final}
use Rattle.choose.specs.declared.decision.Counts.{Counts}
use Rattle.choose.specs.declared.decision.Verdict.{Verdict}
use Rattle.choose.specs.declared.decision.Verdict.TheVariants.{Rejected, RejectedBy, Errs, Passes}
use Rattle.choose.specs.declared.decision.Decision.{Decision}
use Rattle.choose.specs.declared.decision.Decision.TheVariants as decision
use Rattle.choose.specs.Choice.{Judged, errs, count_of, most_of, total_of, same_reason, is_for, count_for, IsFirst, IsChoice}
use Rattle.quant.specs.Name.{is_before}
use Rattle.choose.specs.Verdict.{reason_of}
use Rattle.choose.specs.Laws.{one_less, rejects_for, uncounted}

-- what holds of all holds without one of them
all_without : {X : Type 0} (P : X → Type 0) (front : List X) (x : X) (back : List X) → All P (front ++ x ∷ back) → All P (front ++ back)
all_without P [] x back all = All-tail P x back all
all_without P (y ∷ front) x back all =
    All-cons P y (front ++ back) (All-head P y (front ++ x ∷ back) all) (all_without P front x back (All-tail P y (front ++ x ∷ back) all))

-- what is there and isn't that one is there without it
there_without : {X : Type 0} (front : List X) (x : X) (back : List X) (y : X) → (x ≡ y → ⊥) → Contains (front ++ x ∷ back) y → Contains (front ++ back) y
there_without front x back y other there = elim (Contains-append_cases front (x ∷ back) y there) [
  | inl before ↦ Contains-append_left front back y before
  | inr behind ↦ Contains-append_right front back y (Contains-tail x back y other behind)
]

greatest_without : {X : Type 0} (f : X → ℕ) (front : List X) (x : X) (back : List X) → f x ≡ 0 → greatest_by f (front ++ x ∷ back) ≡ greatest_by f (front ++ back)
greatest_without f [] x back none = omega (arith, none)
greatest_without f (y ∷ front) x back none = ap (λ n. max (f y) n) (greatest_without f front x back none)

-- a count from a number on is that much more
fold_from : {X : Type 0} (p : X → Bool) (xs : List X) (a : ℕ) → fold (λ n x. n + cond (p x) 1 0) a xs ≡ a + fold (λ n x. n + cond (p x) 1 0) 0 xs
fold_from p [] a = omega arith
fold_from p (x ∷ xs) a =
    let one : fold (λ n y. n + cond (p y) 1 0) (a + cond (p x) 1 0) xs ≡ (a + cond (p x) 1 0) + fold (λ n y. n + cond (p y) 1 0) 0 xs = fold_from p xs (a + cond (p x) 1 0) in
    let other : fold (λ n y. n + cond (p y) 1 0) (0 + cond (p x) 1 0) xs ≡ (0 + cond (p x) 1 0) + fold (λ n y. n + cond (p y) 1 0) 0 xs = fold_from p xs (0 + cond (p x) 1 0) in
    omega (arith, one, other)

count_cons : {X : Type 0} (p : X → Bool) (x : X) (xs : List X) → count_by p (x ∷ xs) ≡ cond (p x) 1 0 + count_by p xs
count_cons p x xs =
    let one : fold (λ n y. n + cond (p y) 1 0) (0 + cond (p x) 1 0) xs ≡ (0 + cond (p x) 1 0) + fold (λ n y. n + cond (p y) 1 0) 0 xs = fold_from p xs (0 + cond (p x) 1 0) in
    omega (arith, one)

count_without : {X : Type 0} (p : X → Bool) (front : List X) (x : X) (back : List X) → count_by p (front ++ x ∷ back) ≡ cond (p x) 1 0 + count_by p (front ++ back)
count_without p [] x back = count_cons p x back
count_without p (y ∷ front) x back =
    let one : count_by p (y ∷ (front ++ x ∷ back)) ≡ cond (p y) 1 0 + count_by p (front ++ x ∷ back) = count_cons p y (front ++ x ∷ back) in
    let other : count_by p (y ∷ (front ++ back)) ≡ cond (p y) 1 0 + count_by p (front ++ back) = count_cons p y (front ++ back) in
    let rest : count_by p (front ++ x ∷ back) ≡ cond (p x) 1 0 + count_by p (front ++ back) = count_without p front x back in
    omega (arith, one, other, rest)

less : (test : Bool) (n rest : ℕ) → n ≡ cond test 1 0 + rest → (if test then n - 1 else n) ≡ rest
less true n rest is = omega (arith, is)
less false n rest is = omega (arith, is)

-- ---- what a verdict that rejects is

rejected_for : (own reason : Reason) (verdict : Verdict) → rejects_for verdict ≡ Some own → is_for reason verdict ≡ same_reason reason own
rejected_for own reason (Rejected other) is = let same : other ≡ own = cc in ap (same_reason reason) same
rejected_for own reason (RejectedBy place how) is = let same : reason_of how ≡ own = cc in ap (same_reason reason) same
rejected_for own reason (Errs place why) is = absurd (cc)
rejected_for own reason (Passes count score scores) is = absurd (cc)

rejected_counts_none : (own : Reason) (verdict : Verdict) → rejects_for verdict ≡ Some own → count_of verdict ≡ 0
rejected_counts_none own (Rejected other) is = refl
rejected_counts_none own (RejectedBy place how) is = refl
rejected_counts_none own (Errs place why) is = refl
rejected_counts_none own (Passes count score scores) is = absurd (cc)

rejected_has_none : (own : Reason) (most : ℕ) (verdict : Verdict) → rejects_for verdict ≡ Some own → total_of most verdict ≡ None
rejected_has_none own most (Rejected other) is = refl
rejected_has_none own most (RejectedBy place how) is = refl
rejected_has_none own most (Errs place why) is = refl
rejected_has_none own most (Passes count score scores) is = absurd (cc)

-- ---- without a node that is rejected

module _ (front back : List Judged) (out : Judged) (own : Reason) (rejected : rejects_for out.verdict ≡ Some own) where
  fewer : (reason : Reason) (n : ℕ) → n ≡ count_for reason (front ++ out ∷ back) → one_less own reason n ≡ count_for reason (front ++ back)
  fewer reason n is =
      less (same_reason reason own) n (count_for reason (front ++ back))
      (is ∙ count_without (λ node. is_for reason node.verdict) front out back
      ∙ ap (λ test. cond test 1 0 + count_for reason (front ++ back)) (rejected_for own reason out.verdict rejected))

  same_most : most_of (front ++ out ∷ back) ≡ most_of (front ++ back)
  same_most = greatest_without (λ node. count_of node.verdict) front out back (rejected_counts_none own out.verdict rejected)

  first_without : (most : ℕ) (node : Judged) (total : ℕ) → IsFirst (front ++ out ∷ back) (total_of most) node total → IsFirst (front ++ back) (total_of most) node total
  first_without most node total first = record {
    there = there_without front out back node
        (λ same.
        let none : total_of most out.verdict ≡ None = rejected_has_none own most out.verdict rejected in
        let also : total_of most out.verdict ≡ total_of most node.verdict = ap (λ (j : Judged). total_of most j.verdict) same in
        let some : total_of most node.verdict ≡ Some total = first.has in
        cc)
        first.there;
    has = first.has;
    none_greater = all_without (λ other. IfSome (total_of most other.verdict) (λ w. w ≤ total)) front out back first.none_greater;
    none_earlier = all_without (λ other. total_of most other.verdict ≡ Some total → is_before other.name node.name ≡ false) front out back first.none_earlier;
  }

  pub rejected_only_count : (decision : Decision) → IsChoice (front ++ out ∷ back) decision → IsChoice (front ++ back) (uncounted own decision)
  rejected_only_count (decision.PluginError place node why) is = record {
    there = there_without front out back (record { name = node; verdict = Errs place why })
        (λ same.
        let also : rejects_for out.verdict ≡ None = ap (λ (j : Judged). rejects_for j.verdict) same in
        cc)
        is.there;
    says_nothing = refl;
    least = all_without (λ other. errs other.verdict ≡ true → is_before other.name node ≡ false) front out back is.least;
  }
  rejected_only_count (decision.Node node total) is = (
    all_without (λ other. errs other.verdict ≡ false) front out back is.0,
    (
      is.1.0,
      subst (λ most. IsFirst (front ++ back) (total_of most) (record { name = node; verdict = is.1.0 }) total) same_most
          (first_without (most_of (front ++ out ∷ back)) (record { name = node; verdict = is.1.0 }) total is.1.1),
    ),
  )
  rejected_only_count (decision.Unschedulable counts) is =
      let marked = fewer Marked counts.marked (ap (λ (c : Counts). c.marked) is.2) in
      let taint = fewer Taint counts.taint (ap (λ (c : Counts). c.taint) is.2) in
      let cpu = fewer Cpu counts.cpu (ap (λ (c : Counts). c.cpu) is.2) in
      let memory = fewer Memory counts.memory (ap (λ (c : Counts). c.memory) is.2) in
      let pods = fewer Pods counts.pods (ap (λ (c : Counts). c.pods) is.2) in
      let plugin = fewer Plugin counts.plugin (ap (λ (c : Counts). c.plugin) is.2) in
      let final = fewer Final counts.plugin_final (ap (λ (c : Counts). c.plugin_final) is.2) in (
        all_without (λ other. errs other.verdict ≡ false) front out back is.0,
        subst (λ most. All (λ node. total_of most node.verdict ≡ None) (front ++ back)) same_most
            (all_without (λ node. total_of (most_of (front ++ out ∷ back)) node.verdict ≡ None) front out back is.1),
        cc,
      )
