-- A storm of a site's script keeps its promise at each of its ends.
use Rattle.std.proofs.Common.{◌≡◌, ◌⊎◌, ◌∙◌, ◌<◌, ◌≤◌, ℕ, Bool, true, false, List, [], ◌∷◌, map, length, Ok, Err, inl, inr, refl, sym, subst, ap, arith, get_or}
use Rattle.std.proofs.lemmas.List.{get_or-map, length-map}
use Rattle.fault_line.specs.declared.unread.PluginUnread.{PluginUnread}
use Rattle.desk.specs.declared.step.Step.{Step}
use Rattle.desk.specs.History.{Call, Legal}
use Rattle.desk.specs.Shared.{Desk}
use Rattle.plugin.specs.Kit.{Ready, rules_of}
use Rattle.choose.specs.Kits as choosing
use Rattle.streams.specs.Device.{DeviceUse, AppendsFront}
use Rattle.streams.specs.declared.fault.RunFault.{RunFault}
use Rattle.streams.specs.declared.fault.RunFault.TheVariants as run_fault
use Rattle.crew.specs.Cycles.{OneCycle, Cycles}
use Rattle.std.specs.Io.KnownBytes.{Appends}
use Rattle.storm.specs.Storm.{IsAudit, IsStormRun, Storms, StormsScript, cycler, desk_for}
use Rattle.command.specs.Words.{SpecSyntax}
use Rattle.fault_line.specs.declared.fault.Fault.{Fault}
use Rattle.fault_line.specs.declared.fault.Fault.TheVariants.{Run}
use Rattle.fault_line.specs.Fault.{status_of}
use Rattle.site_modules.specs.Told.{TellsFailures, TellsFault}
use Rattle.site_modules.specs.Modules.{AreSiteKits, SiteRefused, WhyNoSite}
use Rattle.storm_site.specs.Storm.{IsSiteStorm, SiteStorms, StormFaulty}
use Rattle.storm_site.specs.inside.Storm.{audit_status}
use Rattle.site_modules.proofs.Failures.{Besides, site_status}

-- ---- deciders with one kit each, and their kits

module _ {D : Type 0} (kits_in : D → List (List Ready)) (deciders : List D) (kits : List (List Ready)) (same : map kits_in deciders ≡ map (λ kit. kit ∷ []) kits) where
  as_many : length deciders ≡ length kits
  as_many = sym (length-map deciders kits_in) ∙ (ap length same ∙ length-map kits (λ (kit : List Ready). kit ∷ []))

  by_kit : (place : ℕ) (d : D) (kit : List Ready) → place < length kits → kits_in (get_or deciders place d) ≡ get_or kits place kit ∷ []
  by_kit place d kit lt = sym (get_or-map kits_in deciders place d [] (omega (arith, lt, as_many)))
      ∙ (ap (λ (l : List (List (List Ready))). get_or l place []) same ∙ get_or-map (λ (kit : List Ready). kit ∷ []) kits place kit [] lt)

  cycles_by : (d : D) (desk : Desk) (counted : List Call) (place : ℕ) (made : List OneCycle) (kit : List Ready) → place < length kits
      → Cycles (choosing.rules_of rules_of (kits_in (get_or deciders place d))) desk counted (cycler place) made → Cycles (rules_of (get_or kits place kit)) desk counted (cycler place) made
  cycles_by d desk counted place made kit lt cycles =
      subst (λ (l : List (List Ready)). Cycles (choosing.rules_of rules_of l) desk counted (cycler place) made) (by_kit place d kit lt) cycles

  -- a storm by the deciders is one by their kits
  pub storms_by : D → (binders : ℕ) (fed : List Step) (Wrote : List ℕ → Type 0) (answer : Bool) → Storms (λ d. choosing.rules_of rules_of (kits_in d)) deciders binders fed Wrote answer
      → Storms rules_of kits binders fed Wrote answer
  storms_by d binders fed Wrote answer storms =
      let storm = storms.storm in
      record {
        rows = storms.rows;
        counts = storms.counts;
        storm = record {
          all_fed = storm.all_fed;
          counted = storm.counted;
          looked = storm.looked;
          first_legal = subst (λ (n : ℕ). Legal (desk_for n binders).limits (desk_for n binders).handed storm.all_fed) as_many storm.first_legal;
          then_legal = subst (λ (n : ℕ). Legal (desk_for n binders).limits (desk_for n binders).handed storm.counted) as_many storm.then_legal;
          last_legal = subst (λ (n : ℕ). Legal (desk_for n binders).limits (desk_for n binders).handed storm.looked) as_many storm.last_legal;
          fed_first = storm.fed_first;
          counted_first = storm.counted_first;
          feeders = storm.feeders;
          cycles = storm.cycles;
          cyclers = λ place kit lt. cycles_by d (desk_for (length kits) binders) storm.counted place (storm.cycles place) kit lt
              (subst (λ (n : ℕ). Cycles (choosing.rules_of rules_of (kits_in (get_or deciders place d))) (desk_for n binders) storm.counted (cycler place) (storm.cycles place)) as_many
              (storm.cyclers place d (omega (arith, lt, as_many))));
          idle = storm.idle;
          others = λ pass after. storm.others pass (omega (arith, after, as_many));
          before_count = storm.before_count;
          count = storm.count;
          count_is = storm.count_is;
          ends = storm.ends;
          shown = storm.shown;
        };
        audit = subst (λ (n : ℕ). IsAudit (desk_for n binders) storm.looked storms.rows answer) as_many storms.audit;
        wrote = storms.wrote;
      }

  -- and so of the script's steps
  pub scripts_by : D → (binders : ℕ) (source : DeviceUse) (Wrote : List ℕ → Type 0) (answer : Bool) → StormsScript (λ d. choosing.rules_of rules_of (kits_in d)) deciders binders source Wrote answer
      → StormsScript rules_of kits binders source Wrote answer
  scripts_by d binders source Wrote answer (fed, of, storms) = (fed, of, storms_by d binders fed Wrote answer storms)

first_of_some : {D : Type 0} (deciders : List D) → 0 < length deciders → D
first_of_some [] some = absurd (omega (arith, some))
first_of_some (d ∷ deciders) some = d

-- ---- what is done

module _ (AreGiven : List (List ℕ) → Type 0) (specs : List SpecSyntax) (cycles binders : ℕ) (source out err : DeviceUse) (ended : ℕ) where
  -- nothing was begun
  pub storm_not_begun : (ended ≡ 3) ⊎ (ended ≡ 4) → out.IsUntouched → IsSiteStorm AreGiven specs cycles binders source out err ended
  storm_not_begun (inl three) untouched = record {
    status = inr (inr (inl three));
    done = λ e. absurd (omega (arith, three, e));
    input = λ e. absurd (omega (arith, three, e));
    quiet = λ _. untouched;
    unwritten = λ e. absurd (omega (arith, three, e));
  }
  storm_not_begun (inr four) untouched = record {
    status = inr (inr (inr four));
    done = λ e. absurd (omega (arith, four, e));
    input = λ e. absurd (omega (arith, four, e));
    quiet = λ e. absurd (omega (arith, four, e));
    unwritten = λ _. inl untouched;
  }

  -- there are no kits of the plugins
  pub no_storm_site : (modules : List (List ℕ)) (fault : Fault) → AreGiven modules → WhyNoSite specs modules fault → ended ≡ status_of fault → TellsFault err fault
      → source.IsUntouched → out.IsUntouched → IsSiteStorm AreGiven specs cycles binders source out err ended
  no_storm_site modules fault given why is tells unread unwritten = by (site_status specs modules fault why)
    where
      by : (status_of fault ≡ 1) ⊎ (fault ≡ Run run_fault.NoMemory) → IsSiteStorm AreGiven specs cycles binders source out err ended
      by (inl one) = record {
        status = inr (inl (is ∙ one));
        done = λ e. absurd (omega (arith, is, one, e));
        input = λ _. inr (fault, tells, unwritten, inl ((modules, given, why, one), unread));
        quiet = λ e. absurd (omega (arith, is, one, e));
        unwritten = λ e. absurd (omega (arith, is, one, e));
      }
      by (inr memory) = storm_not_begun (inl (is ∙ ap status_of memory)) unwritten

  module _ {D : Type 0} (kits_in : D → List (List Ready)) (deciders : List D) (kits : List (List Ready)) (modules : List (List ℕ)) (some : 1 ≤ cycles)
      (are : AreSiteKits specs modules cycles kits) (same : map kits_in deciders ≡ map (λ kit. kit ∷ []) kits) (given : AreGiven modules) where
    storms : (Wrote : List ℕ → Type 0) (answer : Bool) → StormsScript (λ d. choosing.rules_of rules_of (kits_in d)) deciders binders source Wrote answer
        → SiteStorms AreGiven specs cycles binders source Wrote answer
    storms Wrote answer told =
        let d = first_of_some deciders (omega (arith, some, are.count, as_many kits_in deciders kits same)) in
        (modules, given, kits, are, scripts_by kits_in deciders kits same d binders source Wrote answer told)

    -- the audit says yes
    pub audit_ok : IsStormRun (λ d. choosing.rules_of rules_of (kits_in d)) deciders binders source out (Ok true) → ended ≡ 0 → IsSiteStorm AreGiven specs cycles binders source out err ended
    audit_ok run is = record {
      status = inl is;
      done = λ _. storms (Appends out.old out.new) true run.done;
      input = λ e. absurd (omega (arith, is, e));
      quiet = λ e. absurd (omega (arith, is, e));
      unwritten = λ e. absurd (omega (arith, is, e));
    }

    -- it says no
    pub audit_failed : IsStormRun (λ d. choosing.rules_of rules_of (kits_in d)) deciders binders source out (Ok false) → ended ≡ 1 → err.IsUntouched
        → IsSiteStorm AreGiven specs cycles binders source out err ended
    audit_failed run is untold = record {
      status = inr (inl is);
      done = λ e. absurd (omega (arith, is, e));
      input = λ _. inl (storms (Appends out.old out.new) false run.done, untold);
      quiet = λ e. absurd (omega (arith, is, e));
      unwritten = λ e. absurd (omega (arith, is, e));
    }

    -- either
    pub audited : (answer : Bool) → IsStormRun (λ d. choosing.rules_of rules_of (kits_in d)) deciders binders source out (Ok answer) → ended ≡ audit_status answer → err.IsUntouched
        → IsSiteStorm AreGiven specs cycles binders source out err ended
    audited true run is untold = audit_ok run is
    audited false run is untold = audit_failed run is untold

    -- no answer was told whole
    pub storm_cut_short : (fault : RunFault) → IsStormRun (λ d. choosing.rules_of rules_of (kits_in d)) deciders binders source out (Err fault) → ended ≡ status_of (Run fault)
        → TellsFault err (Run fault) → IsSiteStorm AreGiven specs cycles binders source out err ended
    storm_cut_short run_fault.NoMemory run is tells = storm_not_begun (inl is) (run.quiet (λ e. cc))
    storm_cut_short run_fault.NoPlace run is tells = storm_not_begun (inl is) (run.quiet (λ e. cc))
    storm_cut_short run_fault.Read run is tells = storm_not_begun (inr is) (run.quiet (λ e. cc))
    storm_cut_short run_fault.Write run is tells = record {
      status = inr (inr (inr is));
      done = λ e. absurd (omega (arith, is, e));
      input = λ e. absurd (omega (arith, is, e));
      quiet = λ e. absurd (omega (arith, is, e));
      unwritten = λ _. let front = run.front refl in inr (tells, front.0, storms (AppendsFront out.old out.new) front.0 front.1);
    }
    storm_cut_short (run_fault.Line number why) run is tells = record {
      status = inr (inl is);
      done = λ e. absurd (omega (arith, is, e));
      input = λ _. inr (Run (run_fault.Line number why), tells, run.quiet (λ e. cc), inr (number, why, refl, run.line number why refl));
      quiet = λ e. absurd (omega (arith, is, e));
      unwritten = λ e. absurd (omega (arith, is, e));
    }

-- ---- what is told of failures

-- the audit answered: no fault is told
pub audit_told : (Left NotBegun : Type 0) (NoFile : PluginUnread → Type 0) (source out err : DeviceUse) (ended : ℕ) (answer : Bool) → ended ≡ audit_status answer → err.IsUntouched
    → source.failures_new ≡ source.failures_old → out.failures_new ≡ out.failures_old → TellsFailures Left NotBegun NoFile source out err ended
audit_told Left NotBegun NoFile source out err ended true is untold reads writes = record {
  quiet = λ _. untold;
  room = λ e. absurd (omega (arith, is, e));
  failed = λ e. absurd (omega (arith, is, e));
  failures_told = λ _. (reads, writes);
}
audit_told Left NotBegun NoFile source out err ended false is untold reads writes = record {
  quiet = λ _. untold;
  room = λ e. absurd (omega (arith, is, e));
  failed = λ e. absurd (omega (arith, is, e));
  failures_told = λ _. (reads, writes);
}

-- what is so besides where a storm ends early
pub besides_storm : {D : Type 0} (NotBegun : Type 0) (NoFile : PluginUnread → Type 0) (kits_in : D → List (List Ready)) (deciders : List D) (binders : ℕ) (source out : DeviceUse) (fault : RunFault)
    → IsStormRun (λ d. choosing.rules_of rules_of (kits_in d)) deciders binders source out (Err fault) → Besides (Unit {0}) NotBegun NoFile source out (Run fault)
besides_storm NotBegun NoFile kits_in deciders binders source out (run_fault.Line number why) run = (run.read_told (λ e. cc), run.write_told (λ e. cc))
besides_storm NotBegun NoFile kits_in deciders binders source out run_fault.NoMemory run = (run.read_told (λ e. cc), run.write_told (λ e. cc))
besides_storm NotBegun NoFile kits_in deciders binders source out run_fault.NoPlace run = (tt, run.quiet (λ e. cc), run.read_told (λ e. cc), run.write_told (λ e. cc))
besides_storm NotBegun NoFile kits_in deciders binders source out run_fault.Read run = inr (run.read refl)
besides_storm NotBegun NoFile kits_in deciders binders source out run_fault.Write run = run.write refl

-- ---- the same, where less is said of what is given

pub storm_given : (A B : List (List ℕ) → Type 0) (specs : List SpecSyntax) (cycles binders : ℕ) (source out err : DeviceUse) (ended : ℕ) → ((modules : List (List ℕ)) → A modules → B modules)
    → IsSiteStorm A specs cycles binders source out err ended → IsSiteStorm B specs cycles binders source out err ended
storm_given A B specs cycles binders source out err ended weaker storm = record {
  status = storm.status;
  done = λ e. storms (Appends out.old out.new) true (storm.done e);
  input = λ e. by (storm.input e);
  quiet = storm.quiet;
  unwritten = λ e. front (storm.unwritten e);
}
  where
    storms : (Wrote : List ℕ → Type 0) (answer : Bool) → SiteStorms A specs cycles binders source Wrote answer → SiteStorms B specs cycles binders source Wrote answer
    storms Wrote answer (modules, given, kits, are, rest) = (modules, weaker modules given, kits, are, rest)

    front : out.IsUntouched ⊎ (TellsFault err (Run run_fault.Write) × (answer : Bool) × SiteStorms A specs cycles binders source (AppendsFront out.old out.new) answer)
        → out.IsUntouched ⊎ (TellsFault err (Run run_fault.Write) × (answer : Bool) × SiteStorms B specs cycles binders source (AppendsFront out.old out.new) answer)
    front (inl untouched) = inl untouched
    front (inr (tells, answer, told)) = inr (tells, answer, storms (AppendsFront out.old out.new) answer told)

    faulty : (fault : Fault) → (SiteRefused A specs fault × source.IsUntouched) ⊎ StormFaulty fault source.old → (SiteRefused B specs fault × source.IsUntouched) ⊎ StormFaulty fault source.old
    faulty fault (inl ((modules, given, why, one), unread)) = inl ((modules, weaker modules given, why, one), unread)
    faulty fault (inr line) = inr line

    by : (SiteStorms A specs cycles binders source (Appends out.old out.new) false × err.IsUntouched)
        ⊎ ((fault : Fault) × TellsFault err fault × out.IsUntouched × ((SiteRefused A specs fault × source.IsUntouched) ⊎ StormFaulty fault source.old))
        → (SiteStorms B specs cycles binders source (Appends out.old out.new) false × err.IsUntouched)
        ⊎ ((fault : Fault) × TellsFault err fault × out.IsUntouched × ((SiteRefused B specs fault × source.IsUntouched) ⊎ StormFaulty fault source.old))
    by (inl (failed, untold)) = inl (storms (Appends out.old out.new) false failed, untold)
    by (inr (fault, tells, unwritten, why)) = inr (fault, tells, unwritten, faulty fault why)
