-- How histories go on, and what a pass made in them.
use Rattle.std.proofs.Common.{◌≡◌, ℕ, true, false, cond, eqb, List, [], ◌∷◌, ◌++◌, map, refl, sym, ap, subst, ◌∙◌}
use Rattle.std.proofs.lemmas.Bool.{eq-eqb}
use Rattle.std.proofs.lemmas.List.{append-nil, append_assoc, append_cancel_left, map-append}
use Rattle.desk.specs.declared.step.Step.{Step}
use Rattle.desk.specs.declared.step.Reply.{Reply}
use Rattle.desk.specs.Caller.{Caller}
use Rattle.desk.specs.History.{Call, GoesOn, AreOthers, call}
use Rattle.desk.specs.Shared.{Pass, Desk, IsApplied}
use Rattle.crew.specs.Made.{BeginsWith, calls_by, steps_of, IsInformed, Makes}

-- ---- beginnings

pub begins_refl : (l : List Call) → BeginsWith l l
begins_refl l = ([], sym (append-nil l))

pub begins_trans : (l m s : List Call) → BeginsWith l m → BeginsWith m s → BeginsWith l s
begins_trans l m s lm ms = (ms.0 ++ lm.0, lm.1 ∙ ap (λ r. r ++ lm.0) ms.1 ∙ append_assoc s ms.0 lm.0)

pub goes_begins : (n : ℕ) (s l : List Call) → GoesOn n s l → BeginsWith l s
goes_begins n s l go = (go.0, go.1)

-- ---- calls of others

others_front : (n : ℕ) (a b : List Call) → AreOthers n (a ++ b) → AreOthers n a
others_front n [] b o = tt
others_front n (c ∷ a) b o = (o.0, others_front n a b o.1)

others_join : (n : ℕ) (a b : List Call) → AreOthers n a → AreOthers n b → AreOthers n (a ++ b)
others_join n [] b oa ob = ob
others_join n (c ∷ a) b oa ob = (oa.0, others_join n a b oa.1 ob)

pub goes_refl : (n : ℕ) (l : List Call) → GoesOn n l l
goes_refl n l = ([], sym (append-nil l), tt)

pub goes_trans : (n : ℕ) (a b c : List Call) → GoesOn n a b → GoesOn n b c → GoesOn n a c
goes_trans n a b c ab bc = (ab.0 ++ bc.0, bc.1 ∙ ap (λ r. r ++ bc.0) ab.1 ∙ append_assoc a ab.0 bc.0, others_join n ab.0 bc.0 ab.2 bc.2)

-- Where a history goes on to a longer one without a call of the pass, it goes on so to each one
-- between.
pub sandwich : (n : ℕ) (s m l : List Call) → BeginsWith m s → BeginsWith l m → GoesOn n s l → GoesOn n s m
sandwich n s m l ms lm go =
    let whole : ms.0 ++ lm.0 ≡ go.0 = append_cancel_left s _ _ (sym (append_assoc s ms.0 lm.0) ∙ ap (λ r. r ++ lm.0) (sym ms.1) ∙ sym lm.1 ∙ go.1) in
    (ms.0, ms.1, others_front n ms.0 lm.0 (subst (AreOthers n) (sym whole) go.2))

-- ---- calls of the pass

calls_join : (n : ℕ) (a b : List Call) → calls_by n (a ++ b) ≡ calls_by n a ++ calls_by n b
calls_join n [] b = refl
calls_join n (c ∷ a) b = elim (eqb c.pass n) as (λ t. cond t (c ∷ calls_by n (a ++ b)) (calls_by n (a ++ b)) ≡ cond t (c ∷ calls_by n a) (calls_by n a) ++ calls_by n b) [
  | true ↦ ap (λ r. c ∷ r) (calls_join n a b)
  | false ↦ calls_join n a b
]

calls_none : (n : ℕ) (l : List Call) → AreOthers n l → calls_by n l ≡ []
calls_none n [] o = refl
calls_none n (c ∷ l) o = ap (λ t. cond t (c ∷ calls_by n l) (calls_by n l)) o.0 ∙ calls_none n l o.1

-- what goes on without a call of the pass has the same calls of it
pub same_calls : (n : ℕ) (s l : List Call) → GoesOn n s l → calls_by n l ≡ calls_by n s
same_calls n s l go = ap (calls_by n) go.1 ∙ calls_join n s go.0 ∙ ap (λ r. calls_by n s ++ r) (calls_none n go.0 go.2) ∙ append-nil (calls_by n s)

pub same_steps : (n : ℕ) (s l : List Call) → GoesOn n s l → steps_of n l ≡ steps_of n s
same_steps n s l go = ap (map (λ c. c.step)) (same_calls n s l go)

one_call : (p : Caller) (e : Step) (answer : Reply) → calls_by p.number (call p e answer ∷ []) ≡ call p e answer ∷ []
one_call p e answer = ap (λ t. cond t (call p e answer ∷ []) []) (eq-eqb p.number p.number refl)

-- ---- what a pass makes

pub makes_none : (p : Pass) → Makes p [] p
makes_none p = record { number = refl; begins = begins_refl p.seen; steps = sym (append-nil (steps_of p.caller.number p.seen)) }

-- a step more
pub makes_more : (desk : Desk) (p q r : Pass) (made : List Step) (e : Step) (answer : Reply) → Makes p made q → IsApplied desk q e answer r → Makes p (made ++ e ∷ []) r
makes_more desk p q r made e answer m a =
    let n = p.caller.number in
    let go = a.ahead.goes_on in
    let go' : GoesOn n q.seen a.until = subst (λ k. GoesOn k q.seen a.until) m.number go in
    let last : steps_of n (call q.caller e answer ∷ []) ≡ e ∷ [] = subst (λ k. steps_of k (call q.caller e answer ∷ []) ≡ e ∷ []) m.number (ap (map (λ (c : Call). c.step)) (one_call q.caller e answer)) in
    let parts : steps_of n (a.until ++ call q.caller e answer ∷ []) ≡ steps_of n a.until ++ steps_of n (call q.caller e answer ∷ []) =
    ap (map (λ (c : Call). c.step)) (calls_join n a.until (call q.caller e answer ∷ [])) ∙ map-append (λ (c : Call). c.step) (calls_by n a.until) (calls_by n (call q.caller e answer ∷ [])) in
    record {
      number = ap (λ c. c.number) a.counted ∙ m.number;
      begins = begins_trans r.seen q.seen p.seen (begins_trans r.seen a.until q.seen (call q.caller e answer ∷ [], a.ends) (goes_begins n q.seen a.until go')) m.begins;
      steps =
          ap (steps_of n) a.ends ∙ parts ∙ ap (λ t. t ++ steps_of n (call q.caller e answer ∷ [])) (same_steps n q.seen a.until go' ∙ m.steps)
          ∙ ap (λ t. (steps_of n p.seen ++ made) ++ t) last ∙ append_assoc (steps_of n p.seen) made (e ∷ []);
    }

-- it was told more
pub makes_told : (p q r : Pass) (made : List Step) → Makes p made q → IsInformed q r → Makes p made r
makes_told p q r made m told =
    let n = p.caller.number in
    let go : GoesOn n q.seen r.seen = subst (λ k. GoesOn k q.seen r.seen) m.number told.1 in
    record {
      number = ap (λ c. c.number) told.0 ∙ m.number;
      begins = begins_trans r.seen q.seen p.seen (goes_begins n q.seen r.seen go) m.begins;
      steps = same_steps n q.seen r.seen go ∙ m.steps;
    }

-- what it made before and after
pub makes_both : (p q r : Pass) (one other : List Step) → Makes p one q → Makes q other r → Makes p (one ++ other) r
makes_both p q r one other a b =
    let n = p.caller.number in
    let steps : steps_of n r.seen ≡ steps_of n q.seen ++ other = subst (λ k. steps_of k r.seen ≡ steps_of k q.seen ++ other) a.number b.steps in
    record {
      number = b.number ∙ a.number;
      begins = begins_trans r.seen q.seen p.seen b.begins a.begins;
      steps = steps ∙ ap (λ t. t ++ other) a.steps ∙ append_assoc (steps_of n p.seen) one other;
    }

-- ---- a later moment of a pass: it has its number, and what was seen is seen

abbrev pub Later : Pass → Pass → Type 0
Later p q = (q.caller.number ≡ p.caller.number) × BeginsWith q.seen p.seen

pub later_refl : (p : Pass) → Later p p
later_refl p = (refl, begins_refl p.seen)

pub later_trans : (p q r : Pass) → Later p q → Later q r → Later p r
later_trans p q r a b = (b.0 ∙ a.0, begins_trans r.seen q.seen p.seen b.1 a.1)

pub later_same : (p q : Pass) → q ≡ p → Later p q
later_same p q is = subst (Later p) (sym is) (later_refl p)

pub informed_later : (p q : Pass) → IsInformed p q → Later p q
informed_later p q i = (ap (λ (c : Caller). c.number) i.0, goes_begins p.caller.number p.seen q.seen i.1)

pub informed_refl : (p : Pass) → IsInformed p p
informed_refl p = (refl, goes_refl p.caller.number p.seen)

pub informed_trans : (p q r : Pass) → IsInformed p q → IsInformed q r → IsInformed p r
informed_trans p q r a b = (b.0 ∙ a.0, goes_trans p.caller.number p.seen q.seen r.seen a.1 (subst (λ (c : Caller). GoesOn c.number q.seen r.seen) a.0 b.1))

pub applied_later : (desk : Desk) (p q : Pass) (e : Step) (answer : Reply) → IsApplied desk p e answer q → Later p q
applied_later desk p q e answer a =
    (ap (λ (c : Caller). c.number) a.counted, begins_trans q.seen a.until p.seen (call p.caller e answer ∷ [], a.ends) (goes_begins p.caller.number p.seen a.until a.ahead.goes_on))
