-- A storm has the promised histories, where its workers did what they are to do and a pass met all
-- others.
use Rattle.std.proofs.Common.{◌≡◌, ℕ, zero, suc, ◌+◌, ◌-◌, ◌<◌, ◌≤◌, false, eqb, List, [], ◌∷◌, ◌++◌, length, slice_index_or, refl, sym, ap, subst, ◌∙◌, arith, ◌⊎◌, inl, inr}
use Rattle.std.specs.List.{All, AllByRecursion}
use Rattle.std.proofs.lemmas.Bool.{cases_lt, ne_eqb}
use Rattle.desk.specs.declared.step.Step.{Step}
use Rattle.desk.specs.declared.step.Step.TheVariants as steps
use Rattle.desk.specs.declared.step.Counts.{Counts}
use Rattle.desk.specs.History.{Call, GoesOn, AreHanded}
use Rattle.desk.specs.Shared.{Pass, Desk}
use Rattle.desk.specs.Shown.{Shown}
use Rattle.rules.specs.RuleSet.{RuleSet}
use Rattle.choose.specs.Kits.{rules_of}
use Rattle.crew.specs.declared.worker.Worker.{Worker}
use Rattle.crew.specs.Made.{BeginsWith, IsReportOrCount, steps_of, newcomer, IsReport}
use Rattle.crew.specs.Cycles.{OneCycle, Cycles, HasCycled}
use Rattle.crew.specs.Crew.{Each, IsDumped, enlisted}
use Rattle.storm.specs.inside.Stages.{HasFed, HasReported, HasScheduled, IsIdle}
use Rattle.storm.specs.Storm.{IsStorm, desk_for}
use Rattle.crew.proofs.Going.{begins_trans, goes_begins, sandwich, same_steps}
use Rattle.crew.proofs.Cycling.{cycles_in, last_seen}
use Rattle.crew.proofs.Enlisting.{enlisted_at, enlisted_length}

-- ---- passes that no desk handed out

none_handed : (n pass : ℕ) (l : List Call) → AreHanded n l → n ≤ pass → steps_of pass l ≡ []
none_handed n pass [] h le = refl
none_handed n pass (c ∷ l) h le =
    let other : eqb c.pass pass ≡ false = ne_eqb c.pass pass (λ is. omega (arith, h.0)) in
    rw other (none_handed n pass l h.1 le)

-- ---- reports

report_or_count : (made : List Step) → AllByRecursion IsReport made → AllByRecursion IsReportOrCount made
report_or_count [] r = tt
report_or_count (e ∷ made) r = (one e r.0, report_or_count made r.1)
  where
    one : (e : Step) → IsReport e → IsReportOrCount e
    one (steps.Event event) r = absurd r
    one steps.Pop r = absurd r
    one (steps.Assume uid node) r = absurd r
    one (steps.BindDone uid ticket) r = tt
    one (steps.Forget uid ticket) r = tt
    one (steps.Fail uid how) r = absurd r
    one (steps.Tick now) r = absurd r
    one steps.Count r = absurd r

-- ---- what each did

some_of : {X : Type 0} (xs : List X) → 0 < length xs → X
some_of [] lt = absurd (omega arith)
some_of (x ∷ xs) lt = x

fed_from : {J : Type 0} (fed : List Step) (n : ℕ) (w w' : Worker J (Unit {0})) → w ≡ record { pass = newcomer n; tool = tt; failed = false } → HasFed fed w w' → w'.failed ≡ false → (w'.pass.caller.number ≡ n) × (steps_of n w'.pass.seen ≡ fed)
fed_from {J} fed n w w' is h fine =
    let m = h.told fine in
    let number : w.pass.caller.number ≡ n = ap (λ (x : Worker J (Unit {0})). x.pass.caller.number) is in
    let none : steps_of n w.pass.seen ≡ [] = ap (λ (x : Worker J (Unit {0})). steps_of n x.pass.seen) is in
    (m.number ∙ number, subst (λ k. steps_of k w'.pass.seen ≡ steps_of k w.pass.seen ++ fed) number m.steps ∙ ap (λ t. t ++ fed) none)

reported_from : {J B : Type 0} (n : ℕ) (b : B) (w w' : Worker J B) (l : List Call) → w ≡ record { pass = newcomer n; tool = b; failed = false } → HasReported w w' → GoesOn w'.pass.caller.number w'.pass.seen l → AllByRecursion IsReportOrCount (steps_of n l)
reported_from {J} {B} n b w w' l is h go =
    let number : w.pass.caller.number ≡ n = ap (λ (x : Worker J B). x.pass.caller.number) is in
    let none : steps_of n w.pass.seen ≡ [] = ap (λ (x : Worker J B). steps_of n x.pass.seen) is in
    let made : steps_of n w'.pass.seen ≡ h.made = subst (λ k. steps_of k w'.pass.seen ≡ steps_of k w.pass.seen ++ h.made) number h.makes.steps ∙ ap (λ t. t ++ h.made) none in
    let go' : GoesOn n w'.pass.seen l = subst (λ k. GoesOn k w'.pass.seen l) (h.number ∙ number) go in
    subst (AllByRecursion IsReportOrCount) (sym (same_steps n w'.pass.seen l go' ∙ made)) (report_or_count h.made h.reports)

cycles_from : {J D Kit : Type 0} (answers : Kit → RuleSet) (kits : D → List Kit) (desk : Desk) (n : ℕ) (t : D) (w w' : Worker J D) (made : List OneCycle) (l : List Call) → w ≡ record { pass = newcomer n; tool = t; failed = false }
    → HasCycled (rules_of answers (kits w.tool)) desk w.pass made w'.pass → w'.pass.caller.number ≡ w.pass.caller.number → GoesOn w'.pass.caller.number w'.pass.seen l → Cycles (rules_of answers (kits t)) desk l n made
cycles_from {J} {D} answers kits desk n t w w' made l is h number go =
    let same : w'.pass.caller.number ≡ n = number ∙ ap (λ (x : Worker J D). x.pass.caller.number) is in
    cycles_in (rules_of answers (kits t)) desk (newcomer n) w'.pass made l (subst (λ (x : Worker J D). HasCycled (rules_of answers (kits x.tool)) desk x.pass made w'.pass) is h) (subst (λ k. GoesOn k w'.pass.seen l) same go)

-- ---- the storm

module _ {J D B Kit : Type 0} (answers : Kit → RuleSet) (kits : D → List Kit) (fed : List Step) (deciders : List D) (binders : List B) (counts : Counts) (rows : List Shown)
    (f1 : List (Worker J (Unit {0}))) (c1 : List (Worker J D)) (r1 : List (Worker J B)) (clerk' : Pass) where
  abbrev many : ℕ
  many = 2 + length deciders + length binders

  abbrev desk : Desk
  desk = desk_for (length deciders) (length binders)

  abbrev f0 : List (Worker J (Unit {0}))
  f0 = enlisted 0 (tt ∷ tt ∷ [])

  abbrev c0 : List (Worker J D)
  c0 = enlisted 2 deciders

  abbrev r0 : List (Worker J B)
  r0 = enlisted (2 + length deciders) binders

  module _ (some : 0 < length deciders)
      (told : Each (HasFed fed) f0 f1) (fine : All (λ w. w.failed ≡ false) f1)
      (turned : Each (HasScheduled answers kits desk) c0 c1) (good : All (λ w. w.failed ≡ false) c1)
      (idle : (d : Worker J D) → IsIdle answers kits desk f1 (slice_index_or c0 0 d) (slice_index_or c1 0 d))
      (reported : Each HasReported r0 r1)
      (dump : IsDumped desk (newcomer many) f1 c1 r1 counts rows clerk')
    where
      abbrev d0 : Worker J D
      d0 = record { pass = newcomer 0; tool = some_of deciders some; failed = false }

      abbrev u0 : Worker J (Unit {0})
      u0 = record { pass = newcomer 0; tool = tt; failed = false }

      abbrev last : IsIdle answers kits desk f1 (slice_index_or c0 0 d0) (slice_index_or c1 0 d0)
      last = idle d0

      -- the cycle passes stand where their deciders do
      in_c1 : (place : ℕ) → place < length deciders → place < length c1
      in_c1 place lt = subst (λ n. place < n) (sym (turned.0 ∙ enlisted_length J 2 deciders)) lt

      in_c0 : (place : ℕ) → place < length deciders → place < length c0
      in_c0 place lt = subst (λ n. place < n) (sym (enlisted_length J 2 deciders)) lt

      -- all was fed before the count
      fed_first : BeginsWith dump.counted last.all_fed
      fed_first =
          let w' = slice_index_or c1 0 d0 in
          begins_trans dump.counted last.last.before.seen last.all_fed
          (begins_trans dump.counted w'.pass.seen last.last.before.seen (goes_begins w'.pass.caller.number w'.pass.seen dump.counted (dump.cyclers_stay 0 d0 (in_c1 0 some)))
          (last_seen (rules_of answers (kits (slice_index_or c0 0 d0).tool)) desk (slice_index_or c0 0 d0).pass w'.pass last.made last.last last.cycled.cycled))
          last.after

      -- what a feeder made
      feeder : (i : ℕ) → i < 2 → (steps_of i last.all_fed ≡ fed) × (steps_of i dump.counted ≡ fed)
      feeder i lt =
          let w' = slice_index_or f1 i u0 in
          let lt1 : i < length f1 = subst (λ n. i < n) (sym told.0) lt in
          let made = fed_from fed i (slice_index_or f0 i u0) w' (enlisted_at 0 (tt ∷ tt ∷ []) i u0 tt lt ∙ ap (λ (k : ℕ). record { pass = newcomer k; tool = tt; failed = false }) (omega arith)) (told.1 i u0 lt) (fine i u0 lt1) in
          let go : GoesOn i w'.pass.seen dump.counted = subst (λ k. GoesOn k w'.pass.seen dump.counted) made.0 (dump.feeders_stay i u0 lt1) in
          let before : GoesOn i w'.pass.seen last.all_fed = sandwich i w'.pass.seen last.all_fed dump.counted (last.told i u0 lt1) fed_first go in
          (same_steps i w'.pass.seen last.all_fed before ∙ made.1, same_steps i w'.pass.seen dump.counted go ∙ made.1)

      -- the cycles of the pass at a place: those of the first end with the one that found no pod
      later_cycles : (place : ℕ) → (place < length deciders) ⊎ (length deciders ≤ place) → List OneCycle
      later_cycles place (inl lt) = ((turned.1 place d0 (in_c0 place lt)).made (good place d0 (in_c1 place lt))).0
      later_cycles place (inr le) = []

      cycles_at : ℕ → List OneCycle
      cycles_at zero = last.made ++ last.last ∷ []
      cycles_at (suc k) = later_cycles (suc k) (cases_lt (suc k) (length deciders))

      later_are : (place : ℕ) (d : D) (s : (place < length deciders) ⊎ (length deciders ≤ place)) → place < length deciders → Cycles (rules_of answers (kits (slice_index_or deciders place d))) desk dump.counted (2 + place) (later_cycles place s)
      unfolding later_cycles
      later_are place d (inl lt) _ =
          let made = (turned.1 place d0 (in_c0 place lt)).made (good place d0 (in_c1 place lt)) in
          cycles_from answers kits desk (2 + place) (slice_index_or deciders place d) (slice_index_or c0 place d0) (slice_index_or c1 place d0) made.0 dump.counted (enlisted_at 2 deciders place d0 d lt) made.1 (turned.1 place d0 (in_c0 place lt)).number (dump.cyclers_stay place d0 (in_c1 place lt))
      later_are place d (inr le) lt = absurd (omega arith)

      cycles_are : (place : ℕ) (d : D) → place < length deciders → Cycles (rules_of answers (kits (slice_index_or deciders place d))) desk dump.counted (2 + place) (cycles_at place)
      unfolding cycles_at
      cycles_are zero d lt =
          cycles_from answers kits desk 2 (slice_index_or deciders 0 d) (slice_index_or c0 0 d0) (slice_index_or c1 0 d0) (last.made ++ last.last ∷ []) dump.counted (enlisted_at 2 deciders 0 d0 d lt) last.cycled.cycled (turned.1 0 d0 (in_c0 0 lt)).number (dump.cyclers_stay 0 d0 (in_c1 0 lt))
      cycles_are (suc k) d lt = later_are (suc k) d (cases_lt (suc k) (length deciders)) lt

      -- what all others made
      reporter : (i : ℕ) → i < length binders → AllByRecursion IsReportOrCount (steps_of (2 + length deciders + i) dump.counted)
      reporter i lt =
          let b = some_of binders (omega arith) in
          let e : Worker J B = record { pass = newcomer 0; tool = b; failed = false } in
          let lt0 : i < length r0 = subst (λ n. i < n) (sym (enlisted_length J (2 + length deciders) binders)) lt in
          let lt1 : i < length r1 = subst (λ n. i < n) (sym reported.0) lt0 in
          reported_from (2 + length deciders + i) (slice_index_or binders i b) (slice_index_or r0 i e) (slice_index_or r1 i e) dump.counted (enlisted_at (2 + length deciders) binders i e b lt) (reported.1 i e lt0) (dump.reporters_stay i e lt1)

      other : (pass : ℕ) → 2 + length deciders ≤ pass → AllByRecursion IsReportOrCount (steps_of pass dump.counted)
      other pass le = by (cases_lt pass many) (cases_lt many pass)
        where
          by : (pass < many) ⊎ (many ≤ pass) → (many < pass) ⊎ (pass ≤ many) → AllByRecursion IsReportOrCount (steps_of pass dump.counted)
          by (inl lt) _ = subst (λ n. AllByRecursion IsReportOrCount (steps_of n dump.counted)) (omega arith) (reporter (pass - (2 + length deciders)) (omega arith))
          by (inr ge) (inl gt) = subst (AllByRecursion IsReportOrCount) (sym (none_handed (many + 1) pass dump.counted dump.then_legal.handed (omega arith))) tt
          by (inr ge) (inr le') =
              let is : many ≡ pass = omega arith in
              subst (λ n. AllByRecursion IsReportOrCount (steps_of n dump.counted)) is (subst (AllByRecursion IsReportOrCount) (sym dump.own.steps) (tt, tt))

      pub closing : IsStorm (λ d. rules_of answers (kits d)) deciders desk fed rows counts
      unfolding cycles_at
      closing = record {
        all_fed = last.all_fed;
        counted = dump.counted;
        looked = dump.looked;
        first_legal = last.legal;
        then_legal = dump.then_legal;
        last_legal = dump.last_legal;
        fed_first = fed_first;
        counted_first = dump.counted_first;
        feeders = feeder;
        cycles = cycles_at;
        cyclers = cycles_are;
        idle = (last.last, last.made, refl, (last.cycled.idle, last.after));
        others = other;
        before_count = dump.before_count;
        count = dump.count;
        count_is = dump.count_is;
        ends = dump.ends;
        shown = dump.shown;
      }

      pub closing_looked : closing.looked ≡ dump.looked
      unfolding closing
      closing_looked = refl
