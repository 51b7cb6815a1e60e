use Rattle.std.proofs.Common.{true, not, ap, ◌≡◌, ◌∙◌, IfSome, length, map, refl, subst, arith}
use Rattle.std.specs.Result.{is_ok}
use Rattle.std.proofs.lemmas.List.{length-map}
use Rattle.std.proofs.lemmas.Option.{slice_get_read}
use Rattle.command.specs.Words.{syntax_of}
use Rattle.site_modules.specs.Verdict.{front_of}
use Rattle.site_modules.proofs.Sites.{modules_more, no_modules, all_read}
use Rattle.site_modules.proofs.kits.modules_in.Goals as goal

pub loop-place-init : goal.loop-place-init
loop-place-init g c = rw c.new-modules.ensures.items (tt, refl, refl)

pub module_in-requires : goal.module_in-requires
module_in-requires g c = omega (arith, c.loop-place.invariant.2, c.requires)

pub returns-in-Err-clause-failed : goal.returns-in-Err-clause-failed
returns-in-Err-clause-failed g c =
    no_modules c.args.specs.now (g.F.Files.failure_count c.args.files.now) (g.F.Files.failure_count c.loop-place.files) (g.F.Files.failure_count c.module_in.new.files)
    c.loop-place.place c.index-specs-place.result c.in-Err.fault
    (slice_get_read c.args.specs.now (length c.args.specs.now) c.loop-place.place c.index-specs-place.result refl c.loop-place-test.true c.index-specs-place.is)
    c.loop-place.invariant.2 c.in-Err.ensures.failed

pub loop-place-preserved : goal.loop-place-preserved
loop-place-preserved g c =
    let ok : is_ok c.push.result ≡ true = c.is_err.ensures.negation ∙ ap not c.if-is_err.false in
    let front = subst (λ k. IfSome (k c.index-specs-place.result.file.now) (λ whole. c.in-Ok.module.items ≡ front_of whole)) c.loop-place.invariant.1 c.in-Ok.ensures.front in (
      modules_more (λ m. m.items) (g.F.Files.contents c.args.files.now) c.args.specs.now c.loop-place.modules.items c.push.new.self.items c.loop-place.place c.index-specs-place.result c.in-Ok.module
          (slice_get_read c.args.specs.now (length c.args.specs.now) c.loop-place.place c.index-specs-place.result refl c.loop-place-test.true c.index-specs-place.is)
          (rw ok at c.push.ensures.items) c.loop-place.invariant.0 front,
      c.in-Ok.ensures.same ∙ c.loop-place.invariant.1,
      c.in-Ok.ensures.read ∙ c.loop-place.invariant.2,
    )

pub returns-clause-modules : goal.returns-clause-modules
returns-clause-modules g c =
    all_read (g.F.Files.contents c.args.files.now) (map syntax_of c.args.specs.now) (map (λ m. m.items) c.loop-place.modules.items) c.loop-place.place
    (omega (arith, length-map c.args.specs.now syntax_of, c.loop-place-test.false)) c.loop-place.invariant.0

pub returns-clause-read : goal.returns-clause-read
returns-clause-read g c = c.loop-place.invariant.2
