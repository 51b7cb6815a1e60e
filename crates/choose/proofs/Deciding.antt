-- From what was found to the decision.
use Rattle.std.proofs.Common.{◌≡◌, ℕ, ◌+◌, ◌≤◌, max, Bool, true, false, if◌then◌else◌, List, [], ◌∷◌, length, count_by, cond, Option, Some, None, refl, ap, sym, ◌∙◌, subst, arith}
use Rattle.std.specs.List.{All, fold}
use Rattle.std.proofs.lemmas.List.Elements.{All-nil, All-cons, All-weaker}
use Rattle.quant.specs.Request.{greatest_by}
use Rattle.desk.specs.Shown.{Shown}
use Rattle.rules.specs.declared.verdict.Cause.{Cause}
use Rattle.choose.specs.declared.decision.Verdict.{Verdict}
use Rattle.choose.specs.declared.decision.Verdict.TheVariants.{Rejected, RejectedBy, Errs, Passes}
use Rattle.choose.specs.declared.decision.Reason.{Reason}
use Rattle.choose.specs.declared.best.Worth.TheVariants.{Error, Total}
use Rattle.choose.specs.Choice.{Judged, judged, errs, count_of, most_of, total_of, is_for, counts_of, NoneErrs, NonePasses, LeastErring, IsFirst, IsBest}
use Rattle.quant.specs.Name.{is_before}
use Rattle.choose.specs.inside.Finding.{worth_of, IsBounded, counts_in}

-- of some numbers none is above the greatest
within_greatest : {X : Type 0} (f : X → ℕ) (xs : List X) (most : ℕ) → greatest_by f xs ≤ most → All (λ x. f x ≤ most) xs
within_greatest f [] most within = All-nil (λ x. f x ≤ most)
within_greatest f (x ∷ xs) most within = All-cons (λ y. f y ≤ most) x xs (omega (arith, within)) (within_greatest f xs most (omega (arith, within)))

pub all_bounded : (verdicts : List Verdict) (most : ℕ) → most ≡ greatest_by count_of verdicts → All (IsBounded (Total most)) verdicts
all_bounded verdicts most is = within_greatest count_of verdicts most (omega (arith, is))

-- what nodes and their verdicts tell is what the verdicts tell
pub most_judged : (nodes : List Shown) (verdicts : List Verdict) → length verdicts ≡ length nodes → greatest_by count_of verdicts ≡ most_of (judged nodes verdicts)
most_judged [] [] same = refl
most_judged [] (v ∷ verdicts) same = absurd (omega (arith, same))
most_judged (x ∷ nodes) [] same = absurd (omega (arith, same))
most_judged (x ∷ nodes) (v ∷ verdicts) same = ap (λ n. max (count_of v) n) (most_judged nodes verdicts (omega (arith, same)))

fold_judged : (f : ℕ → Verdict → ℕ) (nodes : List Shown) (verdicts : List Verdict) (a : ℕ) → length verdicts ≡ length nodes → fold f a verdicts ≡ fold (λ n node. f n node.verdict) a (judged nodes verdicts)
fold_judged f [] [] a same = refl
fold_judged f [] (v ∷ verdicts) a same = absurd (omega (arith, same))
fold_judged f (x ∷ nodes) [] a same = absurd (omega (arith, same))
fold_judged f (x ∷ nodes) (v ∷ verdicts) a same = fold_judged f nodes verdicts (f a v) (omega (arith, same))

count_judged : (nodes : List Shown) (verdicts : List Verdict) (reason : Reason) → length verdicts ≡ length nodes → count_by (is_for reason) verdicts ≡ count_by (λ node. is_for reason node.verdict) (judged nodes verdicts)
count_judged nodes verdicts reason same = fold_judged (λ n v. n + cond (is_for reason v) 1 0) nodes verdicts 0 same

pub counts_judged : (nodes : List Shown) (verdicts : List Verdict) → length verdicts ≡ length nodes → counts_in verdicts ≡ counts_of (judged nodes verdicts)
counts_judged nodes verdicts same = simp (λ (reason : Reason). count_judged nodes verdicts reason same)

-- a node that is told by its name and its verdict
pub node_is : (node : Judged) (name : List ℕ) (verdict : Verdict) → node.name ≡ name → node.verdict ≡ verdict → node ≡ record { name = name; verdict = verdict }
node_is node name verdict named told =
    subst (λ n. node ≡ record { name = n; verdict = verdict }) named (subst (λ v. node ≡ record { name = node.name; verdict = v }) told refl)

worth_nothing : (found : Bool) → if◌then◌else◌ {A = Option ℕ} found (Some 0) None ≡ None → found ≡ false
worth_nothing true e = cc
worth_nothing false e = refl

worth_something : (found : Bool) (w : ℕ) → if◌then◌else◌ {A = Option ℕ} found (Some 0) None ≡ Some w → (found ≡ true) × (w ≡ 0)
worth_something true w e = (refl, cc)
worth_something false w e = cc

-- where nothing is found by errors, no node errs
pub none_errs : (nodes : List Judged) → All (λ node. worth_of Error node.verdict ≡ None) nodes → NoneErrs nodes
none_errs nodes none = All-weaker (λ node. worth_of Error node.verdict ≡ None) (λ node. errs node.verdict ≡ false) (λ node e. worth_nothing (errs node.verdict) e) nodes none

-- what goes first by errors is the erring node of the least name
pub least_erring : (nodes : List Judged) (node : Judged) (w : ℕ) → IsFirst nodes (worth_of Error) node w → LeastErring nodes node
least_erring nodes node w first =
    let told : (errs node.verdict ≡ true) × (w ≡ 0) = worth_something (errs node.verdict) w first.has in
    record {
      there = first.there;
      says_nothing = told.0;
      least = All-weaker (λ other. worth_of Error other.verdict ≡ Some w → is_before other.name node.name ≡ false) (λ other. errs other.verdict ≡ true → is_before other.name node.name ≡ false)
          (λ other later wrong. later (ap (λ b. if◌then◌else◌ {A = Option ℕ} b (Some 0) None) wrong ∙ ap (λ n. Some n) (sym told.1))) nodes first.none_earlier;
    }

-- what goes first by totals is the best
pub best_is : (nodes : List Judged) (node : Judged) (name : List ℕ) (most w : ℕ) → most ≡ most_of nodes → node.name ≡ name → IsFirst nodes (worth_of (Total most)) node w → IsBest nodes name w
best_is nodes node name most w is named first = subst (λ m. (verdict : Verdict) × IsFirst nodes (total_of m) (record { name = name; verdict = verdict }) w) is
    (node.verdict, subst (λ n. IsFirst nodes (worth_of (Total most)) n w) (node_is node name node.verdict named refl) first)

-- where nothing is found by totals, no node passes
pub none_passes : (nodes : List Judged) (most : ℕ) → most ≡ most_of nodes → All (λ node. worth_of (Total most) node.verdict ≡ None) nodes → NonePasses nodes
none_passes nodes most is none = subst (λ m. All (λ node. total_of m node.verdict ≡ None) nodes) is none

-- a verdict that says nothing tells the rule and the cause
pub is_erring : (verdict : Verdict) → errs verdict ≡ true → (place : ℕ) × (why : Cause) × (verdict ≡ Errs place why)
is_erring (Rejected reason) e = cc
is_erring (RejectedBy place how) e = cc
is_erring (Errs place why) e = (place, why, refl)
is_erring (Passes count score scores) e = cc
