-- What workers have done when one stage followed another.
use Rattle.std.proofs.Common.{◌≡◌, ℕ, zero, suc, ◌<◌, false, List, [], ◌∷◌, ◌++◌, length, slice_index_or, slice_set, sym, ap, subst, ◌∙◌, arith}
use Rattle.std.proofs.lemmas.List.{append_assoc, get_or_default, get_or-set_same, get_or-set_other, length-set}
use Rattle.desk.specs.History.{Call}
use Rattle.desk.specs.declared.step.Step.{Step}
use Rattle.desk.specs.Shared.{Pass, Desk}
use Rattle.rules.specs.RuleSet.{RuleSet}
use Rattle.choose.specs.Kits.{rules_of}
use Rattle.crew.specs.declared.worker.Worker.{Worker}
use Rattle.crew.specs.Made.{BeginsWith, IsInformed}
use Rattle.crew.specs.Cycles.{OneCycle, HasCycled, EndsIdle}
use Rattle.crew.specs.Crew.{ArePassesOf, Each, HasMet, HaveMet}
use Rattle.storm.specs.inside.Stages.{HasFed, HasScheduled, HasFinished, HaveWorked, IsIdle}
use Rattle.crew.proofs.Going.{begins_trans, makes_told, informed_later, later_trans}
use Rattle.crew.proofs.Cycling.{cycle_later, cycled_told, cycled_both}

-- ---- passes stay passes of their desk

module _ {J T : Type 0} (desk : Desk) (P : Worker J T → Worker J T → Type 0) where
  -- workers whose passes keep their numbers stay of the desk
  pub still_passes : ((w w' : Worker J T) → P w w' → w'.pass.caller.number ≡ w.pass.caller.number) → (ws ws' : List (Worker J T)) → ArePassesOf desk ws → Each P ws ws' → ArePassesOf desk ws'
  still_passes keeps ws ws' of each i d lt =
      let lt0 : i < length ws = subst (λ n. i < n) each.0 lt in
      subst (λ n. n < desk.handed) (sym (keeps (slice_index_or ws i d) (slice_index_or ws' i d) (each.1 i d lt0))) (of i d lt0)

-- of what workers left this holds, told of under another name
pub left : {J T : Type 0} (P : Worker J T → Worker J T → Type 0) (ws ws1 ws' : List (Worker J T)) → ws1 ≡ ws' → Each P ws ws1 → Each P ws ws'
left {J} {T} P ws ws1 ws' same each = subst (λ (x : List (Worker J T)). Each P ws x) same each

-- so does what one of them left
pub left_one : {J T : Type 0} (P : Worker J T → Worker J T → Type 0) (w w1 w2 w' : Worker J T) → w1 ≡ w → w2 ≡ w' → P w1 w2 → P w w'
left_one P w w1 w2 w' same same' h = subst (λ x. P x w') same (subst (P w1) same' h)

module _ {J T : Type 0} (desk : Desk) (P : Worker J T → Worker J T → Type 0) (keeps : (w w' : Worker J T) → P w w' → w'.pass.caller.number ≡ w.pass.caller.number) (ws ws1 ws' : List (Worker J T)) where
  -- so their passes stay of the desk
  pub left_passes : ArePassesOf desk ws → ws1 ≡ ws' → Each P ws ws1 → ArePassesOf desk ws'
  left_passes of same each = still_passes desk P keeps ws ws' of (left P ws ws1 ws' same each)

-- ---- feeders that are met

module _ {J : Type 0} (desk : Desk) (fed : List Step) where
  -- who fed, and then was met, fed
  fed_met : (front back : List Call) (w w' w'' : Worker J (Unit {0})) → HasFed fed w w' → HasMet desk front back w' w'' → HasFed fed w w''
  fed_met front back w w' w'' f m = record {
    number = ap (λ (x : Worker J (Unit {0})). x.pass.caller.number) m.same ∙ f.number;
    told = λ fine. makes_told w.pass w'.pass w''.pass fed (f.told (sym (ap (λ (x : Worker J (Unit {0})). x.failed) m.same) ∙ fine))
        (ap (λ (x : Worker J (Unit {0})). x.pass.caller) m.same, m.ahead.goes_on);
  }

  -- `ws1` is what they left, told of under another name
  all_fed_met : (p q : Pass) (ws ws1 ws' ws'' : List (Worker J (Unit {0}))) → HaveMet desk p ws' q ws'' → ws1 ≡ ws' → Each (HasFed fed) ws ws1 → Each (HasFed fed) ws ws''
  all_fed_met p q ws ws1 ws' ws'' met same told1 =
      let told : Each (HasFed fed) ws ws' = subst (λ (x : List (Worker J (Unit {0}))). Each (HasFed fed) ws x) same told1 in
      (met.each.0 ∙ told.0, λ i d lt. fed_met p.seen q.seen (slice_index_or ws i d) (slice_index_or ws' i d) (slice_index_or ws'' i d) (told.1 i d lt) (met.each.1 i d (subst (λ n. i < n) (sym told.0) lt)))

-- ---- the first cycle pass, which makes cycles beside the feeders, and then meets them and goes on
-- alone

-- who made cycles had seen, before the last of them, all that it had seen before the first
first_seen : (rules : RuleSet) (desk : Desk) (p q : Pass) (made : List OneCycle) (c : OneCycle) → HasCycled rules desk p (made ++ c ∷ []) q → BeginsWith c.before.seen p.seen
first_seen rules desk p q [] c h = (informed_later p c.before h.0).1
first_seen rules desk p q (d ∷ made) c h =
    begins_trans c.before.seen d.after.seen p.seen (first_seen rules desk d.after q made c h.2)
    (later_trans p d.before d.after (informed_later p d.before h.0) (cycle_later rules desk d.before d.after d.came h.1)).1

module _ {J D Kit : Type 0} (answers : Kit → RuleSet) (kits : D → List Kit) (desk : Desk) where
  module _ (w w' w'' : Worker J D) (fs fs' : List (Worker J (Unit {0}))) (first : HasScheduled answers kits desk w w') (then : HasFinished answers kits desk fs w' fs' w'') where
    abbrev rules : RuleSet
    rules = rules_of answers (kits w.tool)

    informed : IsInformed w'.pass then.told
    informed = (then.met.caller, then.met.goes_on)

    abbrev beside : w''.failed ≡ false → (made : List OneCycle) × HasCycled rules desk w.pass made w'.pass
    beside fine = first.made (then.before fine)

    abbrev alone : w''.failed ≡ false → (made : List OneCycle) × (last : OneCycle) × EndsIdle rules desk then.told made last w''.pass
    alone fine = subst (λ (ks : List Kit). (made : List OneCycle) × (last : OneCycle) × EndsIdle (rules_of answers ks) desk then.told made last w''.pass) first.same (then.made fine)

    whole : (fine : w''.failed ≡ false) → HasCycled rules desk w.pass (((beside fine).0 ++ (alone fine).0) ++ (alone fine).1 ∷ []) w''.pass
    whole fine =
        let one = (beside fine).0 in
        let other = (alone fine).0 in
        let last = (alone fine).1 in
        subst (λ (made : List OneCycle). HasCycled rules desk w.pass made w''.pass) (sym (append_assoc one other (last ∷ [])))
        (cycled_both rules desk w.pass then.told w''.pass one (other ++ last ∷ []) (cycled_told rules desk w.pass w'.pass then.told one (beside fine).1 informed) (alone fine).2.cycled)

    pub went_on : HasScheduled answers kits desk w w''
    went_on = record {
      number = then.number ∙ first.number;
      same = then.same ∙ first.same;
      made = λ fine. (((beside fine).0 ++ (alone fine).0) ++ (alone fine).1 ∷ [], whole fine);
    }

    pub ended_idle : 0 < length fs → w''.failed ≡ false → IsIdle answers kits desk fs' w w''
    ended_idle some fine = record {
      all_fed = then.told.seen;
      legal = then.met.legal some;
      told = λ i d lt. (then.met.each.1 i d (subst (λ n. i < n) then.met.each.0 lt)).before;
      made = (beside fine).0 ++ (alone fine).0;
      last = (alone fine).1;
      cycled = record { cycled = whole fine; idle = (alone fine).2.idle };
      after = first_seen rules desk then.told w''.pass (alone fine).0 (alone fine).1 (alone fine).2.cycled;
    }

  -- The first of the cycle passes went on, and all others are as they were. `cs1` is what they
  -- left, told of under another name.
  module _ (cs cs1 cs' : List (Worker J D)) (r w'' : Worker J D) (fs fs' : List (Worker J (Unit {0}))) (then : HasFinished answers kits desk fs (slice_index_or cs' 0 r) fs' w'')
      (some : 0 < length cs) (same : cs1 ≡ cs') (each1 : Each (HasScheduled answers kits desk) cs cs1)
    where
      abbrev each : Each (HasScheduled answers kits desk) cs cs'
      each = subst (λ (x : List (Worker J D)). Each (HasScheduled answers kits desk) cs x) same each1

      some' : 0 < length cs'
      some' = subst (λ n. 0 < n) (sym each.0) some

      abbrev then_at : (d : Worker J D) → HasFinished answers kits desk fs (slice_index_or cs' 0 d) fs' w''
      then_at d = subst (λ (x : Worker J D). HasFinished answers kits desk fs x fs' w'') (get_or_default cs' 0 r d some') then

      here : (d : Worker J D) → slice_index_or (slice_set cs' 0 w'') 0 d ≡ w''
      here d = get_or-set_same cs' 0 w'' d some'

      scheduled_at : (i : ℕ) (d : Worker J D) → i < length cs → HasScheduled answers kits desk (slice_index_or cs i d) (slice_index_or (slice_set cs' 0 w'') i d)
      scheduled_at zero d lt = subst (λ (x : Worker J D). HasScheduled answers kits desk (slice_index_or cs 0 d) x) (sym (here d))
          (went_on (slice_index_or cs 0 d) (slice_index_or cs' 0 d) w'' fs fs' (each.1 0 d some) (then_at d))
      scheduled_at (suc i) d lt = subst (λ (x : Worker J D). HasScheduled answers kits desk (slice_index_or cs (suc i) d) x) (sym (get_or-set_other cs' 0 (suc i) w'' d (λ e. omega (arith, e))))
          (each.1 (suc i) d lt)

      all_scheduled : Each (HasScheduled answers kits desk) cs (slice_set cs' 0 w'')
      all_scheduled = (length-set cs' 0 w'' ∙ each.0, scheduled_at)

      first_idle : (fs1 : List (Worker J (Unit {0}))) → fs1 ≡ fs → 0 < length fs1 → (d : Worker J D) → (slice_index_or (slice_set cs' 0 w'') 0 d).failed ≡ false
          → IsIdle answers kits desk fs' (slice_index_or cs 0 d) (slice_index_or (slice_set cs' 0 w'') 0 d)
      first_idle fs1 as_many fed d fine = subst (λ (x : Worker J D). IsIdle answers kits desk fs' (slice_index_or cs 0 d) x) (sym (here d))
          (ended_idle (slice_index_or cs 0 d) (slice_index_or cs' 0 d) w'' fs fs' (each.1 0 d some) (then_at d) (subst (λ (x : List (Worker J (Unit {0}))). 0 < length x) as_many fed) (sym (ap (λ (x : Worker J D). x.failed) (here d)) ∙ fine))

      -- `fs1` is what the feeders left, told of under another name
      pub have_worked : (steps : List Step) (fs0 fs1 : List (Worker J (Unit {0}))) → fs1 ≡ fs → 0 < length fs0 → Each (HasFed steps) fs0 fs1
          → HaveWorked answers kits desk steps fs0 fs' cs (slice_set cs' 0 w'')
      have_worked steps fs0 fs1 as_many fed told = record {
        fed = all_fed_met desk steps (slice_index_or cs' 0 r).pass then.told fs0 fs1 fs fs' then.met as_many told;
        turned = all_scheduled;
        idle = first_idle fs1 as_many (subst (λ n. 0 < n) (sym told.0) fed);
      }

  -- of what feeders and cycle passes left this holds, told of under another name
  pub left_worked : (steps : List Step) (fs fs1 fs' : List (Worker J (Unit {0}))) (cs cs1 cs' : List (Worker J D)) → fs1 ≡ fs' → cs1 ≡ cs'
      → HaveWorked answers kits desk steps fs fs1 cs cs1 → HaveWorked answers kits desk steps fs fs' cs cs'
  left_worked steps fs fs1 fs' cs cs1 cs' same same' worked =
      subst (λ (x : List (Worker J D)). HaveWorked answers kits desk steps fs fs' cs x) same'
      (subst (λ (x : List (Worker J (Unit {0}))). HaveWorked answers kits desk steps fs x cs cs1) same worked)
