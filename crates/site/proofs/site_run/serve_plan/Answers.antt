use Rattle.std.proofs.Common.{◌≡◌, ◌∙◌, ℕ, List, None, map, inl, inr, refl, sym, subst, rules}
use Rattle.command.specs.Words.{syntax_of}
use Rattle.streams.specs.declared.fault.RunFault.TheVariants as run_fault
use Rattle.fault_line.specs.declared.fault.Fault.TheVariants.{Run}
use Rattle.site_modules.specs.Modules.{AreFromFiles}
use Rattle.site.proofs.Ends.{not_begun, run_given}
use Rattle.site_modules.proofs.Failures.{failures_given, modules_status, no_file_failed, no_modules_told, told}
use Rattle.site_modules.proofs.Sites.{many_modules}
use Rattle.site.proofs.site_run.serve_plan.Goals as goal

-- ---- there are no keys

pub returns-in_default : goal.returns-in_default
returns-in_default g c =
    let none : c.args.keys ≡ None = search rules in
    record {
      run = not_begun _ _ _ _ _ _ _ (inr c.report.ensures.status) refl;
      failures = told _ _ _ _ _ _ _ (Run run_fault.Read) c.report.ensures.status c.report.ensures.told (inl (none, refl, refl));
      files_told = λ _. refl;
    }

-- ---- the files were read

pub serve-requires-clause-modules : goal.serve-requires-clause-modules
serve-requires-clause-modules g c κs within =
    let read = rw c.as_slice.ensures.value at c.in-Ok.ensures.modules in
    rw c.as_slice-in-Ok.ensures.value (many_modules (λ m. m.items) (g.F.Files.contents c.args.files.now) c.args.plan.now.specs.items c.in-Ok.modules.items read)

pub returns-in-Ok : goal.returns-in-Ok
returns-in-Ok g c =
    let read = rw c.as_slice.ensures.value at c.in-Ok.ensures.modules in
    let here : AreFromFiles (g.F.Files.contents c.args.files.now) (map syntax_of c.args.plan.now.specs.items) (map (λ m. m.items) c.as_slice-in-Ok.result.now) =
    rw c.as_slice-in-Ok.ensures.value read in
    let weaker : (given : List (List ℕ)) → given ≡ map (λ m. m.items) c.as_slice-in-Ok.result.now
    → AreFromFiles (g.F.Files.contents c.args.files.now) (map syntax_of c.args.plan.now.specs.items) given =
    λ given is. subst (AreFromFiles (g.F.Files.contents c.args.files.now) (map syntax_of c.args.plan.now.specs.items)) (sym is) here in
    record {
      run = run_given _ _ _ _ _ _ _ _ weaker c.serve.ensures.run;
      failures = failures_given _ _ _ (λ _. ⊥) _ _ _ _ _ (λ none. absurd none) (λ name none. absurd none) c.serve.ensures.failures;
      files_told = λ _. c.in-Ok.ensures.read;
    }

-- ---- they weren't

pub returns-in-Err : goal.returns-in-Err
returns-in-Err g c =
    let why = rw c.as_slice.ensures.value at c.in-Err.ensures.failed in
    let old = g.F.Files.failure_count c.args.files.now in
    let new = g.F.Files.failure_count c.modules_in.new.files in
    record {
      run = elim (modules_status (map syntax_of c.args.plan.now.specs.items) old new c.in-Err.unread why) [
        | inl memory ↦ not_begun _ _ _ _ _ _ _ (inl (c.report-in-Err.ensures.status ∙ memory)) refl
        | inr unread ↦ not_begun _ _ _ _ _ _ _ (inr (c.report-in-Err.ensures.status ∙ unread)) refl
      ];
      failures = no_modules_told _ _ _ _ _ _ (map syntax_of c.args.plan.now.specs.items) old new c.in-Err.unread why
          c.report-in-Err.ensures.status c.report-in-Err.ensures.told refl refl refl refl;
      files_told = λ other. no_file_failed (map syntax_of c.args.plan.now.specs.items) old new c.in-Err.unread why (λ four. other (c.report-in-Err.ensures.status ∙ four));
    }
