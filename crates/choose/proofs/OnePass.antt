-- What one pass over the nodes finds, where there is no rule.
use Rattle.std.proofs.Common.{◌≡◌, ℕ, zero, suc, ◌+◌, ◌-◌, ◌*◌, ◌/◌, ◌<◌, ◌≤◌, Bool, true, false, ◌&&◌, ◌||◌, ◌==◌, nat_le, nat_lt, if◌then◌else◌, List, [], ◌∷◌, ◌++◌, map, length, take, get_or, count_by, cond, Option, Some, None, Result, Ok, Err, IfSome, refl, sym, ap, ◌∙◌, subst, arith}
use Rattle.std.specs.Prelude.{MatchOption}
use Rattle.std.specs.List.{AllZip, fold}
use Rattle.std.proofs.lemmas.Bool.{leb-true, leb-false, lt-ltb}
use Rattle.std.proofs.lemmas.Bool.Decides.{nat_tests}
use Rattle.std.proofs.lemmas.List.{length-map, take_more}
use Rattle.std.proofs.lemmas.List.Elements.{All-nil, All-cons}
use native.Mathlib.Nat as nat
use Rattle.quant.specs.declared.objects.Pod.{Pod}
use Rattle.quant.specs.Name.{is_before}
use Rattle.fit.specs.declared.room.Shortage.{Shortage}
use Rattle.fit.specs.declared.room.Shortage.TheVariants as shortage
use Rattle.fit.specs.Fit.{fit_of}
use Rattle.fit.specs.Score.{least_allocated_score, score_from}
use Rattle.taints.specs.Tolerance.{rejection, prefer_not}
use Rattle.taints.specs.TaintScore.{taint_score}
use Rattle.taints.specs.declared.tolerance.Rejection.{Rejection as TaintRejection}
use Rattle.taints.specs.declared.tolerance.Rejection.TheVariants as taint
use Rattle.desk.specs.declared.snapshot.Row.{Row}
use Rattle.desk.specs.Plain.{is_plain}
use Rattle.desk.specs.Shown.{Shown, shown}
use Rattle.desk.specs.Order.{name_at, AreInOrder}
use Rattle.choose.specs.declared.decision.Reason.{Reason}
use Rattle.choose.specs.declared.decision.Reason.TheVariants.{Marked, Plugin, Final}
use Rattle.choose.specs.declared.decision.Verdict.{Verdict}
use Rattle.choose.specs.declared.decision.Verdict.TheVariants.{Rejected}
use Rattle.choose.specs.declared.best.Worth.TheVariants.{Total}
use Rattle.choose.specs.declared.best.Found.{Found}
use Rattle.choose.specs.Verdict.{built_in, first_reason, passing}
use Rattle.choose.specs.Choice.{Judged, errs, count_of, total_of, is_for, NoneErrs}
use Rattle.choose.specs.inside.Verdict.{nothing_added}
use Rattle.choose.specs.inside.Alone.{verdict_by, alone, verdicts_alone, judged_alone, worth_from, least_after, after_told, one_for}
use Rattle.choose.specs.inside.Finding.{IsBuiltIn, node_at, after_one_more, StandsFirst}
use Rattle.choose.proofs.First.{irreflexive, not_before_earlier, judged_length, judged_verdict, stands_over_none, stands_over_some}
use Rattle.choose.proofs.Plain.{keeps_none_off, is_preferred}

-- ---- one node

is_verdict : (pod : Pod) (s : Shown) (o : Option Reason) → MatchOption o (verdict_by pod s o ≡ passing s pod nothing_added) (λ reason. verdict_by pod s o ≡ Rejected reason)
is_verdict pod s None = refl
is_verdict pod s (Some reason) = refl

-- so these are the verdicts on the nodes
pub are_alone : (pod : Pod) (nodes : List Shown) → AllZip (IsBuiltIn pod) nodes (verdicts_alone pod nodes)
are_alone pod [] = tt
are_alone pod (s ∷ nodes) = (is_verdict pod s (built_in s pod), are_alone pod nodes)

-- none of them says nothing
never_errs : (pod : Pod) (s : Shown) (o : Option Reason) → errs (verdict_by pod s o) ≡ false
never_errs pod s None = refl
never_errs pod s (Some reason) = refl

pub none_alone_errs : (pod : Pod) (nodes : List Shown) → NoneErrs (judged_alone pod nodes)
none_alone_errs pod [] = All-nil (λ node. errs node.verdict ≡ false)
none_alone_errs pod (s ∷ nodes) = All-cons (λ node. errs node.verdict ≡ false) _ (judged_alone pod nodes) (never_errs pod s (built_in s pod)) (none_alone_errs pod nodes)

-- the verdict on the row at a place
pub verdict_at : (pod : Pod) (rows : List Row) (k : ℕ) (row : Row) → k < length rows → row ≡ get_or rows k row → (node_at (judged_alone pod (map shown rows)) k).verdict ≡ alone pod (shown row)
verdict_at pod [] k row below at = absurd (omega (arith, below))
verdict_at pod (x ∷ rows) zero row below at = ap (λ r. alone pod (shown r)) (sym at)
verdict_at pod (x ∷ rows) (suc k) row below at = verdict_at pod rows k row (omega (arith, below)) at

-- there are as many
pub many_alone : (pod : Pod) (nodes : List Shown) → length (verdicts_alone pod nodes) ≡ length nodes
many_alone pod nodes = length-map nodes (alone pod)

-- ---- how many are rejected

-- the built-in filters reject for none of the reasons of rules
never_by_rule : (pod : Pod) (s : Shown) (kept_off : Option TaintRejection) (room : Result (Unit {0}) Shortage)
    → (is_for Plugin (verdict_by pod s (first_reason kept_off room)) ≡ false) × (is_for Final (verdict_by pod s (first_reason kept_off room)) ≡ false)
never_by_rule pod s (Some taint.Marked) room = (refl, refl)
never_by_rule pod s (Some taint.Tainted) room = (refl, refl)
never_by_rule pod s None (Ok fits) = (refl, refl)
never_by_rule pod s None (Err shortage.Cpu) = (refl, refl)
never_by_rule pod s None (Err shortage.Memory) = (refl, refl)
never_by_rule pod s None (Err shortage.Pods) = (refl, refl)

never_alone : (pod : Pod) (s : Shown) → (is_for Plugin (alone pod s) ≡ false) × (is_for Final (alone pod s) ≡ false)
unfolding built_in
never_alone pod s = never_by_rule pod s (rejection s.node pod) (fit_of s.node.allocatable s.used pod.request)

none_counted : (p : Verdict → Bool) (pod : Pod) → ((s : Shown) → p (alone pod s) ≡ false) → (nodes : List Shown) (a : ℕ) → fold (λ n v. n + cond (p v) 1 0) a (verdicts_alone pod nodes) ≡ a
none_counted p pod never [] a = refl
none_counted p pod never (s ∷ nodes) a = ap (λ b. fold (λ n v. n + cond (p v) 1 0) (a + cond b 1 0) (verdicts_alone pod nodes)) (never s) ∙ none_counted p pod never nodes (a + 0) ∙ omega arith

-- a node more is counted for the reason for which it is rejected
one_counted : (pod : Pod) (s : Shown) (o : Option Reason) (reason : Reason) → cond (is_for reason (verdict_by pod s o)) 1 0 ≡ one_for o reason
one_counted pod s None reason = refl
one_counted pod s (Some own) reason = refl

counted_push : (p : Verdict → Bool) (vs : List Verdict) (v : Verdict) (a : ℕ) → fold (λ n w. n + cond (p w) 1 0) a (vs ++ v ∷ []) ≡ fold (λ n w. n + cond (p w) 1 0) a vs + cond (p v) 1 0
counted_push p [] v a = refl
counted_push p (w ∷ vs) v a = counted_push p vs v (a + cond (p w) 1 0)

pub one_more_counted : (pod : Pod) (rows : List Row) (reason : Reason) (i : ℕ) (row : Row) (n : ℕ) (found : Option Reason) → i < length rows → row ≡ get_or rows i row → found ≡ built_in (shown row) pod
    → n ≡ count_by (is_for reason) (take i (verdicts_alone pod (map shown rows))) → n + one_for found reason ≡ count_by (is_for reason) (take (i + 1) (verdicts_alone pod (map shown rows)))
one_more_counted pod rows reason i row n found below at is before =
    let verdicts = verdicts_alone pod (map shown rows) in
    let there : i < length verdicts = omega (arith, below, many_alone pod (map shown rows), length-map rows shown) in
    let verdict : get_or verdicts i (Rejected Marked) ≡ alone pod (shown row) =
    sym (judged_verdict (map shown rows) verdicts i (Rejected Marked) (many_alone pod (map shown rows)) (omega (arith, below, length-map rows shown))) ∙ verdict_at pod rows i row below at in
    (λ k. before k + one_for (is k) reason)
    ∙ ap (λ m. count_by (is_for reason) (take i verdicts) + m) (sym (one_counted pod (shown row) (built_in (shown row) pod) reason))
    ∙ ap (λ v. count_by (is_for reason) (take i verdicts) + cond (is_for reason v) 1 0) (sym verdict)
    ∙ sym (counted_push (is_for reason) (take i verdicts) (get_or verdicts i (Rejected Marked)) 0)
    ∙ ap (count_by (is_for reason)) (sym (take_more verdicts i (Rejected Marked) there))

-- and rules reject none
pub none_by_plugin : (pod : Pod) (nodes : List Shown) → count_by (is_for Plugin) (verdicts_alone pod nodes) ≡ 0
none_by_plugin pod nodes = none_counted (is_for Plugin) pod (λ s. (never_alone pod s).0) nodes 0

pub none_by_final : (pod : Pod) (nodes : List Shown) → count_by (is_for Final) (verdicts_alone pod nodes) ≡ 0
none_by_final pod nodes = none_counted (is_for Final) pod (λ s. (never_alone pod s).1) nodes 0

-- ---- a plain node

-- none of no taints is a hundredth of the most
by_most : (most : ℕ) (none : Bool) → (most == 0) ≡ none → (if none then 100 else 100 - 100 * 0 / most) ≡ 100
by_most most true e = refl
by_most most false e = ap (λ n. 100 - n) (nat.zero-div most)

no_taints : (most : ℕ) → taint_score 0 most ≡ 100
unfolding taint_score
no_taints most = by_most most (most == 0) refl

-- a plain node's total, where a pod fits
abbrev pub plus_hundred : Option ℕ → Option ℕ
plus_hundred None = None
plus_hundred (Some score) = Some (score + 100)

same_test : (least score : ℕ) → nat_le (least - 100) score ≡ nat_le least (score + 100)
same_test least score = grind (arith, nat_tests)

by_test : (enough : Bool) (score : ℕ) → (if enough then Some (score + 100) else None) ≡ plus_hundred (if enough then Some score else None)
by_test true score = refl
by_test false score = refl

pub plain_worth : (pod : Pod) (s : Shown) (most least : ℕ) → is_plain s.node ≡ true
    → worth_from least (total_of most (alone pod s)) ≡ plus_hundred (score_from (least - 100) (fit_of s.node.allocatable s.used pod.request) (least_allocated_score s.node.allocatable s.used pod.request))
unfolding built_in
plain_worth pod s most least plain = ap (λ o. worth_from least (total_of most (verdict_by pod s (first_reason o room)))) (keeps_none_off s.node pod plain) ∙ by room
  where
    room : Result (Unit {0}) Shortage
    room = fit_of s.node.allocatable s.used pod.request

    score : ℕ
    score = least_allocated_score s.node.allocatable s.used pod.request

    by : (room : Result (Unit {0}) Shortage) → worth_from least (total_of most (verdict_by pod s (first_reason None room))) ≡ plus_hundred (score_from (least - 100) room score)
    by (Ok fits) =
        let worth : score + 0 + taint_score (prefer_not s.node pod) most ≡ score + 100 =
        omega (arith, ap (λ c. taint_score c most) (is_preferred s.node pod plain) ∙ no_taints most) in
        ap (λ w. worth_from least (Some w)) worth
        ∙ ap (λ b. if◌then◌else◌ {A = Option ℕ} b (Some (score + 100)) None) (sym (same_test least score))
        ∙ by_test (nat_le (least - 100) score) score
    by (Err shortage.Cpu) = refl
    by (Err shortage.Memory) = refl
    by (Err shortage.Pods) = refl

-- it has no taint
pub plain_count : (pod : Pod) (s : Shown) → is_plain s.node ≡ true → count_of (alone pod s) ≡ 0
plain_count pod s plain = by (built_in s pod)
  where
    by : (o : Option Reason) → count_of (verdict_by pod s o) ≡ 0
    by None = is_preferred s.node pod plain
    by (Some reason) = refl

-- ---- one node more

-- a later name comes before no earlier one
pub later_not_before : (a b : List ℕ) → is_before a b ≡ true → is_before b a ≡ false
later_not_before a b first = not_before_earlier a b b first (irreflexive b)

-- what was found is behind
abbrev HasGone : ℕ → Option Found → Type 0
HasGone i first = IfSome first (λ found. found.at < i)

module _ (pod : Pod) (rows : List Shown) (most : ℕ) (ordered : AreInOrder rows) (i : ℕ) (below : i < length rows) where
  abbrev nodes : List Judged
  nodes = judged_alone pod rows

  abbrev Stands : ℕ → Option Found → Type 0
  Stands n first = StandsFirst (Total most) nodes (take n nodes) first

  -- it is worth more than what was found, or nothing was
  goes_first : (first : Option Found) (w : ℕ) → least_after first ≤ w → after_one_more rows first (record { at = i; worth = w }) ≡ record { at = i; worth = w }
  goes_first None w enough = refl
  goes_first (Some found) w enough =
      ap (λ b. if b || ((w == found.worth) && is_before (name_at rows i) (name_at rows found.at)) then record { at = i; worth = w } else found) (lt-ltb found.worth w (omega (arith, enough)))

  -- it isn't, and stands behind it
  both_false : (a b : Bool) → b ≡ false → (a && b) ≡ false
  both_false true b e = e
  both_false false b e = refl

  goes_after : (found : Found) (w : ℕ) → found.at < i → w ≤ found.worth → after_one_more rows (Some found) (record { at = i; worth = w }) ≡ found
  goes_after found w gone less =
      let behind : is_before (name_at rows i) (name_at rows found.at) ≡ false = later_not_before (name_at rows found.at) (name_at rows i) (ordered found.at i gone below) in
      ap (λ b. if b || ((w == found.worth) && is_before (name_at rows i) (name_at rows found.at)) then record { at = i; worth = w } else found) (not_less found.worth w less)
      ∙ ap (λ b. if b then record { at = i; worth = w } else found) (both_false (w == found.worth) _ behind)
    where
      not_less : (m n : ℕ) → n ≤ m → nat_lt m n ≡ false
      not_less m n le = grind (arith, nat_tests)

  -- what goes first with it
  pub one_more : (first : Option Found) → HasGone i first → Stands i first → (worth : Option ℕ) → worth ≡ worth_from (least_after first) (total_of most (node_at nodes i).verdict) → Stands (i + 1) (after_told first i worth)
  one_more first gone stands worth told = by (total_of most (node_at nodes i).verdict) refl told
    where
      there : i < length nodes
      there = omega (arith, judged_length rows (verdicts_alone pod rows) (many_alone pod rows), below)

      found : (first : Option Found) → HasGone i first → Stands i first → (w : ℕ) → total_of most (node_at nodes i).verdict ≡ Some w → (enough : Bool) → nat_le (least_after first) w ≡ enough
          → Stands (i + 1) (after_told first i (if enough then Some w else None))
      found first gone stands w is true enough =
          subst (λ f. Stands (i + 1) (Some f)) (goes_first first w (leb-true _ _ enough))
          (stands_over_some (Total most) rows (verdicts_alone pod rows) i w first (many_alone pod rows) below stands is)
      found None gone stands w is false enough = absurd (omega (arith, leb-false _ _ enough))
      found (Some f) gone stands w is false enough =
          subst (λ g. Stands (i + 1) (Some g)) (goes_after f w gone (omega (arith, leb-false _ _ enough)))
          (stands_over_some (Total most) rows (verdicts_alone pod rows) i w (Some f) (many_alone pod rows) below stands is)

      by : (total : Option ℕ) → total_of most (node_at nodes i).verdict ≡ total → worth ≡ worth_from (least_after first) total → Stands (i + 1) (after_told first i worth)
      by None is e = subst (λ o. Stands (i + 1) (after_told first i o)) (sym e) (stands_over_none (Total most) nodes i first there stands is)
      by (Some w) is e = subst (λ o. Stands (i + 1) (after_told first i o)) (sym e) (found first gone stands w is (nat_le (least_after first) w) refl)

-- what was found is behind one node more
pub gone_more : (i : ℕ) (first : Option Found) → IfSome first (λ found. found.at < i) → IfSome first (λ found. found.at < i + 1)
gone_more i None gone = tt
gone_more i (Some found) gone = omega (arith, gone)
