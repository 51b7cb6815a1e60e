use Rattle.std.proofs.Common.{◌≡◌, ◌∙◌, true, not, ap, length, map, refl, sym, arith}
use Rattle.std.specs.Result.{is_ok}
use Rattle.std.proofs.lemmas.List.{length-map}
use Rattle.std.proofs.lemmas.Option.{slice_get_read}
use Rattle.command.specs.Words.{syntax_of}
use Rattle.streams.specs.declared.fault.RunFault.TheVariants as run_fault
use Rattle.fault_line.specs.declared.fault.Fault.TheVariants.{Run}
use Rattle.plugin.specs.Entries.{configuration_of, configurations_of}
use Rattle.site_modules.proofs.Sites.{plugin_joins, refused_at, all_had}
use Rattle.site_modules.proofs.kits.configured.Goals as goal

pub loop-place-init : goal.loop-place-init
loop-place-init c = rw c.new-site.ensures.items tt

pub returns-in-Err-clause-refused : goal.returns-in-Err-clause-refused
returns-in-Err-clause-refused c =
    let why = rw c.as_slice.ensures.value at c.in-Err.ensures.refused in
    refused_at (λ m. m.items) c.args.specs.now c.args.modules.now (configurations_of c.loop-place.site.items) c.loop-place.place c.index-specs-place.result c.index-modules-place.result c.in-Err.fault
    (slice_get_read c.args.specs.now (length c.args.specs.now) c.loop-place.place c.index-specs-place.result refl c.loop-place-test.true c.index-specs-place.is)
    (slice_get_read c.args.modules.now (length c.args.modules.now) c.loop-place.place c.index-modules-place.result refl (omega (arith, c.loop-place-test.true, c.requires)) c.index-modules-place.is)
    c.loop-place.invariant why

pub loop-place-preserved : goal.loop-place-preserved
loop-place-preserved c =
    let ok : is_ok c.push.result ≡ true = c.is_err.ensures.negation ∙ ap not c.if-is_err.false in
    let made = rw c.as_slice.ensures.value at c.in-Ok.ensures.made in
    plugin_joins (λ m. m.items) configuration_of c.args.specs.now c.args.modules.now c.loop-place.site.items c.push.new.self.items c.loop-place.place c.index-specs-place.result c.index-modules-place.result c.in-Ok.configuration
    (slice_get_read c.args.specs.now (length c.args.specs.now) c.loop-place.place c.index-specs-place.result refl c.loop-place-test.true c.index-specs-place.is)
    (slice_get_read c.args.modules.now (length c.args.modules.now) c.loop-place.place c.index-modules-place.result refl (omega (arith, c.loop-place-test.true, c.requires)) c.index-modules-place.is)
    (rw ok at c.push.ensures.items) c.loop-place.invariant made

pub returns-clause-made : goal.returns-clause-made
returns-clause-made c =
    all_had (map syntax_of c.args.specs.now) (map (λ m. m.items) c.args.modules.now) (configurations_of c.loop-place.site.items) c.loop-place.place
    (omega (arith, length-map c.args.specs.now syntax_of, c.loop-place-test.false))
    (length-map c.args.modules.now (λ m. m.items) ∙ c.requires ∙ sym (length-map c.args.specs.now syntax_of))
    c.loop-place.invariant

pub returns-then-is_err-clause-refused : goal.returns-then-is_err-clause-refused
returns-then-is_err-clause-refused c =
    refused_at (λ m. m.items) c.args.specs.now c.args.modules.now (configurations_of c.loop-place.site.items) c.loop-place.place c.index-specs-place.result c.index-modules-place.result (Run run_fault.NoMemory)
    (slice_get_read c.args.specs.now (length c.args.specs.now) c.loop-place.place c.index-specs-place.result refl c.loop-place-test.true c.index-specs-place.is)
    (slice_get_read c.args.modules.now (length c.args.modules.now) c.loop-place.place c.index-modules-place.result refl (omega (arith, c.loop-place-test.true, c.requires)) c.index-modules-place.is)
    c.loop-place.invariant tt
