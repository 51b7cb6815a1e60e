use Rattle.std.proofs.Common.{◌≡◌, IfSome, sym, subst}
use Rattle.streams.specs.Device.{use_of}
use Rattle.site_modules.specs.Check.{CannotRead}
use Rattle.site_modules.specs.Verdict.{front_of}
use Rattle.site_modules.proofs.Checks.{file_checked}
use Rattle.site_modules.proofs.check.check_file.Goals as goal

-- the file was read
pub returns-in-Ok-clause-check : goal.returns-in-Ok-clause-check
returns-in-Ok-clause-check g c =
    let known = g.F.Files.contents c.args.files.now c.args.name.now in
    let front : IfSome known (λ whole. c.as_slice.result.now ≡ front_of whole) =
    subst (λ b. IfSome known (λ whole. b ≡ front_of whole)) (sym c.as_slice.ensures.value) c.in-Ok.ensures.front in
    file_checked known c.as_slice.result.now (CannotRead c.args.name.now (g.F.Files.failure_count c.args.files.now) (g.F.Files.failure_count c.read_front.new.self))
    (use_of g.W.Sink.written g.W.Sink.failure_count c.args.out.now c.check_module.new.out) (use_of g.E.Sink.written g.E.Sink.failure_count c.args.err.now c.check_module.new.err)
    c.check_module.result front c.check_module.ensures
