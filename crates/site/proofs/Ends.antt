-- A run of a site's script keeps its promise at each of its ends.
use Rattle.std.proofs.Common.{◌≡◌, ◌⊎◌, ◌∙◌, ◌≤◌, ℕ, Bool, List, Ok, Err, inl, inr, refl, sym, ap, arith}
use Rattle.plugin.specs.Kit.{Ready, rules_of}
use Rattle.rules.specs.RuleSet.{RuleSet}
use Rattle.choose.specs.Kits as choosing
use Rattle.output_lines.specs.declared.named_rule.NamedRule.{NamedRule}
use Rattle.streams.specs.Device.{DeviceUse}
use Rattle.engine.specs.Run.{IsRun}
use Rattle.output_lines.specs.Telling.{Telling, telling}
use Rattle.streams.specs.declared.fault.RunFault.{RunFault}
use Rattle.streams.specs.declared.fault.RunFault.TheVariants as run_fault
use Rattle.command.specs.Words.{SpecSyntax}
use Rattle.fault_line.specs.declared.fault.Fault.{Fault}
use Rattle.fault_line.specs.declared.fault.Fault.TheVariants.{Run}
use Rattle.fault_line.specs.declared.unread.PluginUnread.{PluginUnread}
use Rattle.fault_line.specs.Fault.{status_of}
use Rattle.site.specs.Run.{IsSiteRun}
use Rattle.site_modules.specs.Told.{TellsFault}
use Rattle.site.specs.Site.{SiteFaulty, SiteFront}
use Rattle.site_modules.specs.Modules.{AreSiteKits, SiteRefused, WhyNoSite, named_of}
use Rattle.site_modules.proofs.Failures.{Besides, site_status}
use Rattle.site.proofs.Quiet.{at_a_line}
use Rattle.site.proofs.SiteOutput.{site_done, site_front, site_line, done_front}

-- what is so besides where a run ends early
pub besides_run : {T : Type 0} (Left NotBegun : Type 0) (NoFile : PluginUnread → Type 0) (rules : RuleSet) (telling : Telling) (source out : DeviceUse) (fault : RunFault)
    → IsRun {T = T} rules telling source out (Err fault) → (fault ≡ run_fault.NoPlace → Left × out.IsUntouched) → Besides Left NotBegun NoFile source out (Run fault)
besides_run Left NotBegun NoFile rules telling source out (run_fault.Line number why) run none = (run.read_told (λ e. cc), run.write_told (λ e. cc))
besides_run Left NotBegun NoFile rules telling source out run_fault.NoMemory run none = (run.read_told (λ e. cc), run.write_told (λ e. cc))
besides_run Left NotBegun NoFile rules telling source out run_fault.NoPlace run none =
    let untouched = none refl in
    (untouched.0, untouched.1, run.read_told (λ e. cc), run.write_told (λ e. cc))
besides_run Left NotBegun NoFile rules telling source out run_fault.Read run none = inr (run.read refl)
besides_run Left NotBegun NoFile rules telling source out run_fault.Write run none = run.write refl

-- ---- what is done

module _ (explains : Bool) (AreGiven : List (List ℕ) → Type 0) (specs : List SpecSyntax) (source out err : DeviceUse) (ended : ℕ) where
  -- nothing was begun
  pub not_begun : (ended ≡ 3) ⊎ (ended ≡ 4) → out.IsUntouched → IsSiteRun explains AreGiven specs source out err ended
  not_begun (inl three) untouched = record {
    status = inr (inr (inl three));
    done = λ e. absurd (omega (arith, three, e));
    input = λ e. absurd (omega (arith, three, e));
    front = inl untouched;
  }
  not_begun (inr four) untouched = record {
    status = inr (inr (inr four));
    done = λ e. absurd (omega (arith, four, e));
    input = λ e. absurd (omega (arith, four, e));
    front = inl untouched;
  }

  -- there are no kits of the plugins
  pub no_site : (modules : List (List ℕ)) (fault : Fault) → AreGiven modules → WhyNoSite specs modules fault → ended ≡ status_of fault → TellsFault err fault
      → source.IsUntouched → out.IsUntouched → IsSiteRun explains AreGiven specs source out err ended
  no_site modules fault given why is tells unread unwritten = by (site_status specs modules fault why)
    where
      by : (status_of fault ≡ 1) ⊎ (fault ≡ Run run_fault.NoMemory) → IsSiteRun explains AreGiven specs source out err ended
      by (inl one) = record {
        status = inr (inl (is ∙ one));
        done = λ e. absurd (omega (arith, is, one, e));
        input = λ _. (fault, tells, inl ((modules, given, why, one), unread, unwritten));
        front = inl unwritten;
      }
      by (inr memory) = not_begun (inl (is ∙ ap status_of memory)) unwritten

  module _ (modules : List (List ℕ)) (workers : ℕ) (kits : List (List Ready)) (named : List NamedRule) (some : 1 ≤ workers) (are : AreSiteKits specs modules workers kits)
      (are_named : named ≡ named_of specs) (given : AreGiven modules) where
    -- the whole script was served
    pub served : {T : Type 0} (x : T) → IsRun (choosing.rules_of rules_of kits) (telling named explains) source out (Ok x) → ended ≡ 0 → IsSiteRun explains AreGiven specs source out err ended
    served x run is =
        let done = site_done explains specs modules workers kits named some are are_named source.old source.new out.old out.new run.done in
        record {
          status = inl is;
          done = λ _. (modules, given, done);
          input = λ e. absurd (omega (arith, is, e));
          front = inr (modules, given, done_front explains specs modules source.old source.new out.old out.new done);
        }

    -- it was not
    pub cut_short : {T : Type 0} (fault : RunFault) → IsRun {T = T} (choosing.rules_of rules_of kits) (telling named explains) source out (Err fault) → ended ≡ status_of (Run fault) → TellsFault err (Run fault)
        → IsSiteRun explains AreGiven specs source out err ended
    cut_short fault run is tells = record {
      status = inr (status_by fault is);
      done = λ e. absurd (no_zero fault (sym is ∙ e));
      input = λ one.
          let line = at_a_line fault (sym is ∙ one) in (
            Run fault,
            tells,
            inr (
              modules,
              given,
              line.0,
              line.1,
              ap Run line.2,
              site_line explains specs modules workers kits named some are are_named source.old out.old out.new line.0 line.1 (run.line line.0 line.1 (ap Err line.2)),
            ),
          );
      front = inr (modules, given, site_front explains specs modules workers kits named some are are_named source.old out.old out.new run.front);
    }
      where
        status_by : (fault : RunFault) → ended ≡ status_of (Run fault) → (ended ≡ 1) ⊎ ((ended ≡ 3) ⊎ (ended ≡ 4))
        status_by (run_fault.Line number why) is = inl is
        status_by run_fault.NoMemory is = inr (inl is)
        status_by run_fault.NoPlace is = inr (inl is)
        status_by run_fault.Read is = inr (inr is)
        status_by run_fault.Write is = inr (inr is)

        no_zero : (fault : RunFault) → status_of (Run fault) ≡ 0 → ⊥
        no_zero (run_fault.Line number why) e = omega (arith, e)
        no_zero run_fault.NoMemory e = omega (arith, e)
        no_zero run_fault.NoPlace e = omega (arith, e)
        no_zero run_fault.Read e = omega (arith, e)
        no_zero run_fault.Write e = omega (arith, e)

-- ---- the same, where less is said of what is given

pub run_given : (explains : Bool) (A B : List (List ℕ) → Type 0) (specs : List SpecSyntax) (source out err : DeviceUse) (ended : ℕ) → ((modules : List (List ℕ)) → A modules → B modules)
    → IsSiteRun explains A specs source out err ended → IsSiteRun explains B specs source out err ended
run_given explains A B specs source out err ended weaker run = record {
  status = run.status;
  done = λ e. let done = run.done e in (done.0, weaker done.0 done.1, done.2);
  input = λ e. let input = run.input e in (input.0, input.1, faulty input.0 input.2);
  front = front run.front;
}
  where
    faulty : (fault : Fault) → (SiteRefused A specs fault × source.IsUntouched × out.IsUntouched) ⊎ SiteFaulty explains A specs fault source.old out.old out.new
        → (SiteRefused B specs fault × source.IsUntouched × out.IsUntouched) ⊎ SiteFaulty explains B specs fault source.old out.old out.new
    faulty fault (inl ((modules, given, why, one), unread, unwritten)) = inl ((modules, weaker modules given, why, one), unread, unwritten)
    faulty fault (inr (modules, given, number, why, is, line)) = inr (modules, weaker modules given, number, why, is, line)

    front : out.IsUntouched ⊎ SiteFront explains A specs source.old out.old out.new → out.IsUntouched ⊎ SiteFront explains B specs source.old out.old out.new
    front (inl untouched) = inl untouched
    front (inr (modules, given, begins)) = inr (modules, weaker modules given, begins)
