use Rattle.std.proofs.Common.{inl, refl, map, ◌∷◌, []}
use Rattle.command.specs.Words.{syntax_of}
use Rattle.streams.specs.Device.{use_of}
use Rattle.streams.specs.declared.fault.RunFault.TheVariants.{NoMemory}
use Rattle.fault_line.specs.declared.fault.Fault.TheVariants.{Run}
use Rattle.site_modules.proofs.Failures.{no_site_told, told}
use Rattle.storm_site.proofs.StormEnds.{audited, audit_told, besides_storm, no_storm_site, storm_cut_short, storm_not_begun}
use Rattle.storm_site.proofs.storm_site.serve_storm.Goals as goal

-- ---- there are no kits of the plugins

pub returns-in-Err-clause-storm : goal.returns-in-Err-clause-storm
returns-in-Err-clause-storm g c =
    let why = rw c.as_slice.ensures.value at c.in-Err.ensures.refused in
    no_storm_site _ _ _ _ _ _ _ _ _ c.in-Err.refused refl why c.report.ensures.status c.report.ensures.told refl refl

pub returns-in-Err-clause-failures : goal.returns-in-Err-clause-failures
returns-in-Err-clause-failures g c =
    no_site_told _ _ (λ _. ⊥) _ _ _ _ _ _ c.in-Err.refused c.in-Err.ensures.refused c.report.ensures.status c.report.ensures.told refl refl

-- ---- there is no room for those that decide

pub returns-in_default-clause-storm : goal.returns-in_default-clause-storm
returns-in_default-clause-storm g c = storm_not_begun _ _ _ _ _ _ _ _ (inl c.report-in_default.ensures.status) refl

pub returns-in_default-clause-failures : goal.returns-in_default-clause-failures
returns-in_default-clause-failures g c = told _ _ (λ _. ⊥) _ _ _ _ (Run NoMemory) c.report-in_default.ensures.status c.report-in_default.ensures.told (refl, refl)

-- ---- the audit answered

pub returns-in-Ok-storm_by-clause-storm : goal.returns-in-Ok-storm_by-clause-storm
returns-in-Ok-storm_by-clause-storm g c =
    let made = rw c.as_slice.ensures.value at c.in-Ok.ensures.made in
    audited _ (map syntax_of c.args.plan.now.specs.items) _ _ (use_of g.R.Source.remaining g.R.Source.failure_count c.args.source.now c.storm_by.new.source)
    (use_of g.W.Sink.written g.W.Sink.failure_count c.args.out.now c.storm_by.new.out) _ _ (λ d. d.kit ∷ []) c.in-Ok-deciders_of.deciders.items c.in-Ok.kits.items (map (λ m. m.items) c.args.modules.now)
    c.requires.plan.least_cycles made c.in-Ok-deciders_of.ensures refl c.in-Ok-storm_by.is_right c.in-Ok-storm_by.ensures c.status_for.ensures refl

pub returns-in-Ok-storm_by-clause-failures : goal.returns-in-Ok-storm_by-clause-failures
returns-in-Ok-storm_by-clause-failures g c =
    audit_told _ _ (λ _. ⊥) _ _ _ _ c.in-Ok-storm_by.is_right c.status_for.ensures refl (c.in-Ok-storm_by.ensures.read_told (λ e. cc)) (c.in-Ok-storm_by.ensures.write_told (λ e. cc))

-- ---- it did not

pub returns-in-Err-storm_by-clause-storm : goal.returns-in-Err-storm_by-clause-storm
returns-in-Err-storm_by-clause-storm g c =
    let made = rw c.as_slice.ensures.value at c.in-Ok.ensures.made in
    storm_cut_short _ (map syntax_of c.args.plan.now.specs.items) _ _ (use_of g.R.Source.remaining g.R.Source.failure_count c.args.source.now c.storm_by.new.source)
    (use_of g.W.Sink.written g.W.Sink.failure_count c.args.out.now c.storm_by.new.out) _ _ (λ d. d.kit ∷ []) c.in-Ok-deciders_of.deciders.items c.in-Ok.kits.items (map (λ m. m.items) c.args.modules.now)
    c.requires.plan.least_cycles made c.in-Ok-deciders_of.ensures refl c.in-Err-storm_by.fault c.in-Err-storm_by.ensures c.report-in-Err-storm_by.ensures.status c.report-in-Err-storm_by.ensures.told

pub returns-in-Err-storm_by-clause-failures : goal.returns-in-Err-storm_by-clause-failures
returns-in-Err-storm_by-clause-failures g c =
    told _ _ (λ _. ⊥) _ _ _ _ (Run c.in-Err-storm_by.fault) c.report-in-Err-storm_by.ensures.status c.report-in-Err-storm_by.ensures.told
    (besides_storm _ (λ _. ⊥) (λ d. d.kit ∷ []) c.in-Ok-deciders_of.deciders.items c.args.plan.now.binders _ _ c.in-Err-storm_by.fault c.in-Err-storm_by.ensures)
