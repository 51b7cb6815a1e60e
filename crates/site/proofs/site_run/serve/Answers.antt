use Rattle.std.proofs.Common.{◌∙◌, Err, inl, refl, ap, map}
use Rattle.command.specs.Words.{syntax_of}
use Rattle.streams.specs.Device.{use_of}
use Rattle.streams.specs.declared.fault.RunFault.TheVariants.{NoMemory}
use Rattle.fault_line.specs.declared.fault.Fault.TheVariants.{Run}
use Rattle.site.proofs.Ends.{besides_run, cut_short, no_site, not_begun, served}
use Rattle.site_modules.proofs.Failures.{no_site_told, nothing_told, told}
use Rattle.site.proofs.site_run.serve.Goals as goal

-- ---- there are no kits of the plugins

pub returns-in-Err-clause-run : goal.returns-in-Err-clause-run
returns-in-Err-clause-run g c =
    let why = rw c.as_slice.ensures.value at c.in-Err.ensures.refused in
    no_site _ _ _ _ _ _ _ _ c.in-Err.refused refl why c.report.ensures.status c.report.ensures.told refl refl

pub returns-in-Err-clause-failures : goal.returns-in-Err-clause-failures
returns-in-Err-clause-failures g c =
    no_site_told _ _ (λ _. ⊥) _ _ _ _ _ _ c.in-Err.refused c.in-Err.ensures.refused c.report.ensures.status c.report.ensures.told refl refl

-- ---- there is no room for their names and weights

pub returns-in_default-clause-run : goal.returns-in_default-clause-run
returns-in_default-clause-run g c = not_begun _ _ _ _ _ _ _ (inl c.report-in_default.ensures.status) refl

pub returns-in_default-clause-failures : goal.returns-in_default-clause-failures
returns-in_default-clause-failures g c = told _ _ (λ _. ⊥) _ _ _ _ (Run NoMemory) c.report-in_default.ensures.status c.report-in_default.ensures.told (refl, refl)

-- ---- the whole script was served

pub returns-in-Ok-run_with_kits-clause-run : goal.returns-in-Ok-run_with_kits-clause-run
returns-in-Ok-run_with_kits-clause-run g c =
    let made = rw c.as_slice.ensures.value at c.in-Ok.ensures.made in
    let are_named = rw c.as_slice-2.ensures.value at (c.as_slice-3.ensures.value ∙ c.in-Ok-named_in.ensures) in
    served _ _ (map syntax_of c.args.plan.now.specs.items) (use_of g.R.Source.remaining g.R.Source.failure_count c.args.source.now c.run_with_kits.new.source)
    (use_of g.W.Sink.written g.W.Sink.failure_count c.args.out.now c.run_with_kits.new.sink) _ _ (map (λ m. m.items) c.args.modules.now) c.args.plan.now.workers c.in-Ok.kits.items c.as_slice-3.result.now
    c.requires.plan.least_workers made are_named refl _ c.in-Ok-run_with_kits.ensures.run refl

pub returns-in-Ok-run_with_kits-clause-failures : goal.returns-in-Ok-run_with_kits-clause-failures
returns-in-Ok-run_with_kits-clause-failures g c =
    nothing_told _ _ (λ _. ⊥) _ _ _ _ refl refl (c.in-Ok-run_with_kits.ensures.run.read_told (λ e. cc)) (c.in-Ok-run_with_kits.ensures.run.write_told (λ e. cc))

-- ---- it was not

pub returns-clause-run : goal.returns-clause-run
returns-clause-run g c =
    let made = rw c.as_slice.ensures.value at c.in-Ok.ensures.made in
    let are_named = rw c.as_slice-2.ensures.value at (c.as_slice-3.ensures.value ∙ c.in-Ok-named_in.ensures) in
    cut_short _ _ (map syntax_of c.args.plan.now.specs.items) (use_of g.R.Source.remaining g.R.Source.failure_count c.args.source.now c.run_with_kits.new.source)
    (use_of g.W.Sink.written g.W.Sink.failure_count c.args.out.now c.run_with_kits.new.sink) _ _ (map (λ m. m.items) c.args.modules.now) c.args.plan.now.workers c.in-Ok.kits.items c.as_slice-3.result.now
    c.requires.plan.least_workers made are_named refl c.in-Err-run_with_kits.fault c.in-Err-run_with_kits.ensures.run c.report-in-Err-run_with_kits.ensures.status c.report-in-Err-run_with_kits.ensures.told

pub returns-clause-failures : goal.returns-clause-failures
returns-clause-failures g c =
    told _ _ (λ _. ⊥) _ _ _ _ (Run c.in-Err-run_with_kits.fault) c.report-in-Err-run_with_kits.ensures.status c.report-in-Err-run_with_kits.ensures.told
    (besides_run _ _ (λ _. ⊥) _ _ _ _ c.in-Err-run_with_kits.fault c.in-Err-run_with_kits.ensures.run (λ none. c.in-Err-run_with_kits.ensures.no_place (ap Err none)))
