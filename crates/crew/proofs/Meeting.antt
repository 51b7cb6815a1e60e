-- What follows of a pass that met others, once and again.
use Rattle.std.proofs.Common.{◌≡◌, ℕ, ◌+◌, ◌<◌, ◌≤◌, List, [], ◌∷◌, length, slice_index_or, slice_set, refl, sym, ap, subst, ◌∙◌, arith, ⊎_elim}
use Rattle.std.specs.List.{All}
use Rattle.std.proofs.lemmas.Bool.{cases_lt}
use Rattle.std.proofs.lemmas.List.{get_or_default, get_or-set_same, get_or-set_other, length-set}
use Rattle.desk.specs.Caller.{Caller}
use Rattle.desk.specs.declared.step.Step.{Step}
use Rattle.desk.specs.declared.step.Step.TheVariants as steps
use Rattle.desk.specs.declared.step.Counts.{Counts}
use Rattle.desk.specs.declared.step.Reply.{Reply}
use Rattle.desk.specs.declared.step.Reply.TheVariants as replies
use Rattle.desk.specs.History.{Call, Legal, GoesOn, call}
use Rattle.desk.specs.Shared.{Pass, Desk, IsAhead, IsApplied, IsLooked, IsPassOf, Met}
use Rattle.desk.specs.Shown.{Shown}
use Rattle.crew.specs.declared.worker.Worker.{Worker}
use Rattle.crew.specs.Made.{BeginsWith, IsInformed, Makes}
use Rattle.crew.specs.Crew.{ArePassesOf, HasMet, HaveMet, IsDumped}
use Rattle.crew.specs.inside.Meeting.{HaveMetFirst}
use Rattle.crew.proofs.Going.{begins_refl, begins_trans, goes_begins, goes_refl, goes_trans, sandwich, informed_later, informed_trans, applied_later, makes_none, makes_more, makes_told}

-- Those that a pass met once before and once after a history made their calls of it before they
-- were met first.
module _ {J T : Type 0} (desk : Desk) (p q p2 q2 : Pass) (l : List Call) (ws ws' ws'' : List (Worker J T)) where
  pub settled : HaveMet desk p ws q ws' → HaveMet desk p2 ws' q2 ws'' → BeginsWith l q.seen → BeginsWith p2.seen l → All (λ w. GoesOn w.pass.caller.number w.pass.seen l) ws
  settled one two front back i d lt =
      let w = slice_index_or ws i d in
      let w' = slice_index_or ws' i d in
      let w'' = slice_index_or ws'' i d in
      let a : HasMet desk p.seen q.seen w w' = one.each.1 i d lt in
      let b : HasMet desk p2.seen q2.seen w' w'' = two.each.1 i d (subst (λ n. i < n) (sym one.each.0) lt) in
      let n = w.pass.caller.number in
      let number : w'.pass.caller.number ≡ n = ap (λ (x : Worker J T). x.pass.caller.number) a.same in
      let first : GoesOn n w.pass.seen w'.pass.seen = a.ahead.goes_on in
      let then : GoesOn n w'.pass.seen w''.pass.seen = subst (λ k. GoesOn k w'.pass.seen w''.pass.seen) number b.ahead.goes_on in
      goes_trans n w.pass.seen w'.pass.seen l first (sandwich n w'.pass.seen l w''.pass.seen (begins_trans l q.seen w'.pass.seen front a.before) (begins_trans w''.pass.seen p2.seen l b.after back) then)

module _ {J T : Type 0} (desk : Desk) (p : Pass) (ws : List (Worker J T)) where
  -- none was met yet
  pub none_met : HaveMetFirst desk 0 p ws p ws
  none_met = record {
    caller = refl;
    goes_on = goes_refl p.caller.number p.seen;
    legal = λ none. absurd (omega arith);
    as_many = refl;
    met = λ i d lt few. absurd (omega arith);
    same = λ i d lt le. refl;
  }

  -- all were met
  pub all_met : (many : ℕ) (q : Pass) (ws' : List (Worker J T)) → length ws ≤ many → HaveMetFirst desk many p ws q ws' → HaveMet desk p ws q ws'
  all_met many q ws' le m = record { caller = m.caller; goes_on = m.goes_on; legal = λ some. m.legal (omega arith); each = (m.as_many, λ i d lt. m.met i d lt (omega arith)) }

-- ---- the dump

module _ {J T : Type 0} (desk : Desk) (p q : Pass) (ws ws' : List (Worker J T)) where
  -- who meets others knows no less, and made no call
  pub met_informed : HaveMet desk p ws q ws' → IsInformed p q
  met_informed m = (m.caller, m.goes_on)

  -- it stays a pass of the desk
  pub met_stays : HaveMet desk p ws q ws' → IsPassOf p desk → IsPassOf q desk
  met_stays m of = subst (λ (k : Caller). k.number < desk.handed) (sym m.caller) of

  -- and so do those of the others
  pub met_stay : HaveMet desk p ws q ws' → ArePassesOf desk ws → ArePassesOf desk ws'
  met_stay m of i d lt =
      let lt' : i < length ws = subst (λ n. i < n) m.each.0 lt in
      subst (λ (w : Worker J T). IsPassOf w.pass desk) (sym (m.each.1 i d lt').same) (of i d lt')

-- so does who counts or looks
pub counts_stay : (desk : Desk) (p q : Pass) (e : Step) (answer : Reply) → IsApplied desk p e answer q → IsPassOf p desk → IsPassOf q desk
counts_stay desk p q e answer a of = subst (λ (k : Caller). k.number < desk.handed) (sym a.counted) of

pub looks_stay : (desk : Desk) (p q : Pass) (rows : List Shown) → IsLooked desk p rows q → IsPassOf p desk → IsPassOf q desk
looks_stay desk p q rows s of = subst (λ (k : Caller). k.number < desk.handed) (sym s.same) of

module _ {J D B : Type 0} (desk : Desk) (k0 k1 k2 k3 k4 k5 k6 k7 k8 : Pass) (f1 f2 f3 : List (Worker J (Unit {0}))) (c1 c2 c3 : List (Worker J D)) (r1 r2 r3 : List (Worker J B)) (counts : Counts) (rows : List Shown) where
  pub dumped : HaveMet desk k0 f1 k1 f2 → HaveMet desk k1 c1 k2 c2 → HaveMet desk k2 r1 k3 r2 → IsApplied desk k3 steps.Count (replies.Counts counts) k4 → IsLooked desk k4 rows k5
      → HaveMet desk k5 f2 k6 f3 → HaveMet desk k6 c2 k7 c3 → HaveMet desk k7 r2 k8 r3 → IsDumped desk k0 f1 c1 r1 counts rows k8
  dumped fm cm rm a s fm' cm' rm' =
      let i01 = met_informed desk k0 k1 f1 f2 fm in
      let i12 = met_informed desk k1 k2 c1 c2 cm in
      let i23 = met_informed desk k2 k3 r1 r2 rm in
      let i03 : IsInformed k0 k3 = informed_trans k0 k2 k3 (informed_trans k0 k1 k2 i01 i12) i23 in
      let i56 = met_informed desk k5 k6 f2 f3 fm' in
      let i67 = met_informed desk k6 k7 c2 c3 cm' in
      let i78 = met_informed desk k7 k8 r2 r3 rm' in
      let b12 = (informed_later k1 k2 i12).1 in
      let b23 = (informed_later k2 k3 i23).1 in
      let b34 : BeginsWith k4.seen k3.seen = (applied_later desk k3 k4 steps.Count (replies.Counts counts) a).1 in
      let i45 : IsInformed k4 k5 = (s.same, s.ahead.goes_on) in
      let b45 = (informed_later k4 k5 i45).1 in
      let b56 = (informed_later k5 k6 i56).1 in
      let b67 = (informed_later k6 k7 i67).1 in
      let b78 = (informed_later k7 k8 i78).1 in
      let b24 = begins_trans k4.seen k3.seen k2.seen b34 b23 in
      let b14 = begins_trans k4.seen k2.seen k1.seen b24 b12 in
      let b64 = begins_trans k6.seen k5.seen k4.seen b56 b45 in
      let b74 = begins_trans k7.seen k6.seen k4.seen b67 b64 in
      let made : Makes k0 (steps.Count ∷ []) k4 = makes_more desk k0 k3 k4 [] steps.Count (replies.Counts counts) (makes_told k0 k0 k3 [] (makes_none k0) i03) a in
      let n58 = ap (λ (c : Caller). c.number) (i78.0 ∙ i67.0 ∙ i56.0) in
      record {
        counted = k4.seen;
        looked = k5.seen;
        then_legal = a.legal;
        last_legal = s.ahead.legal;
        counted_first = b45;
        feeders_stay = settled desk k0 k1 k5 k6 k4.seen f1 f2 f3 fm fm' b14 b45;
        cyclers_stay = settled desk k1 k2 k6 k7 k4.seen c1 c2 c3 cm cm' b24 b64;
        reporters_stay = settled desk k2 k3 k7 k8 k4.seen r1 r2 r3 rm rm' b34 b74;
        own = record { number = refl; begins = made.begins; steps = made.steps };
        before_count = a.until;
        count = call k3.caller steps.Count (replies.Counts counts);
        count_is = (refl, refl);
        ends = a.ends;
        shown = s.shows;
        number = n58 ∙ ap (λ (c : Caller). c.number) s.same ∙ made.number;
        knows = begins_trans k8.seen k6.seen k5.seen (begins_trans k8.seen k7.seen k6.seen b78 b67) b56;
      }

-- ---- one more is met

module _ {J T : Type 0} (desk : Desk) (p q q' : Pass) (w : Worker J T) (p2 : Pass) (m : Met desk q w.pass q' p2) where
  abbrev now_met : Worker J T
  now_met = record { pass = p2; tool = w.tool; failed = w.failed }

  seen_first : q'.seen ≡ m.list
  seen_first = ap (λ (x : Pass). x.seen) m.first_new

  seen_second : p2.seen ≡ m.list
  seen_second = ap (λ (x : Pass). x.seen) m.second_new

  goes_first : GoesOn q.caller.number q.seen q'.seen
  goes_first = subst (GoesOn q.caller.number q.seen) (sym seen_first) m.first.goes_on

  -- the one that is met
  has_met : BeginsWith q.seen p.seen → HasMet desk p.seen q'.seen w now_met
  has_met front = record {
    same = ap (λ (x : Pass). record { pass = x; tool = w.tool; failed = w.failed }) (m.second_new ∙ ap (λ (l : List Call). record w.pass { seen = l }) (sym seen_second));
    ahead = subst (IsAhead desk w.pass) (sym seen_second) m.second;
    after = subst (λ (l : List Call). BeginsWith l p.seen) (sym seen_second) (begins_trans m.list q.seen p.seen (goes_begins q.caller.number q.seen m.list m.first.goes_on) front);
    before = subst (λ (l : List Call). BeginsWith q'.seen l) (seen_first ∙ sym seen_second) (begins_refl q'.seen);
  }

-- and one that was met before
still_met : {J T : Type 0} (desk : Desk) (front back back' : List Call) (w w' : Worker J T) → BeginsWith back' back → HasMet desk front back w w' → HasMet desk front back' w w'
still_met desk front back back' w w' more h = record { same = h.same; ahead = h.ahead; after = h.after; before = begins_trans back' back w'.pass.seen more h.before }

module _ {J T : Type 0} (desk : Desk) (p : Pass) (ws : List (Worker J T)) where
  pub one_more_met : (k : ℕ) (q q' p2 : Pass) (ws' : List (Worker J T)) (r : Worker J T) → k < length ws → HaveMetFirst desk k p ws q ws' → Met desk q (slice_index_or ws' k r).pass q' p2
      → HaveMetFirst desk (k + 1) p ws q' (slice_set ws' k (record { pass = p2; tool = (slice_index_or ws' k r).tool; failed = (slice_index_or ws' k r).failed }))
  one_more_met k q q' p2 ws' r lt so_far m =
      let w = slice_index_or ws' k r in
      let x : Worker J T = record { pass = p2; tool = w.tool; failed = w.failed } in
      let go : GoesOn q.caller.number q.seen q'.seen = goes_first desk p q q' w p2 m in
      let front : BeginsWith q.seen p.seen = goes_begins p.caller.number p.seen q.seen so_far.goes_on in
      let lt' : k < length ws' = subst (λ n. k < n) (sym so_far.as_many) lt in
      let here : (d : Worker J T) → HasMet desk p.seen q'.seen (slice_index_or ws k d) (slice_index_or (slice_set ws' k x) k d) =
      λ d. subst (λ (y : Worker J T). HasMet desk p.seen q'.seen (slice_index_or ws k d) y) (sym (get_or-set_same ws' k x d lt'))
      (subst (λ (y : Worker J T). HasMet desk p.seen q'.seen y x) (get_or_default ws' k r d lt' ∙ so_far.same k d lt (omega arith)) (has_met desk p q q' w p2 m front)) in
      let there : (i : ℕ) (d : Worker J T) → i < length ws → i < k → HasMet desk p.seen q'.seen (slice_index_or ws i d) (slice_index_or (slice_set ws' k x) i d) =
      λ i d li few. subst (λ (y : Worker J T). HasMet desk p.seen q'.seen (slice_index_or ws i d) y) (sym (get_or-set_other ws' k i x d (λ e. omega arith)))
      (still_met desk p.seen q.seen q'.seen (slice_index_or ws i d) (slice_index_or ws' i d) (goes_begins q.caller.number q.seen q'.seen go) (so_far.met i d li few)) in
      record {
        caller = ap (λ (x : Pass). x.caller) m.first_new ∙ so_far.caller;
        goes_on = goes_trans p.caller.number p.seen q.seen q'.seen so_far.goes_on (subst (λ (c : Caller). GoesOn c.number q.seen q'.seen) so_far.caller go);
        legal = λ _. subst (Legal desk.limits desk.handed) (sym (seen_first desk p q q' w p2 m)) m.first.legal;
        as_many = length-set ws' k x ∙ so_far.as_many;
        met = λ i d li few. ⊎_elim (λ less. there i d li less)
            (λ le. subst (λ n. HasMet desk p.seen q'.seen (slice_index_or ws n d) (slice_index_or (slice_set ws' k x) n d)) (omega arith) (here d)) (cases_lt i k);
        same = λ i d li le. get_or-set_other ws' k i x d (λ e. omega arith) ∙ so_far.same i d li (omega arith);
      }
