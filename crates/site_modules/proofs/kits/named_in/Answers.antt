use Rattle.std.proofs.Common.{◌≡◌, ◌∙◌, true, not, ap, length, map, refl, arith}
use Rattle.std.specs.Result.{is_ok}
use Rattle.std.proofs.lemmas.List.{length-map, take_all}
use Rattle.std.proofs.lemmas.Option.{slice_get_read}
use Rattle.command.specs.Words.{syntax_of}
use Rattle.site_modules.specs.Modules.{named_of}
use Rattle.site_modules.proofs.Sites.{named_more}
use Rattle.site_modules.proofs.kits.named_in.Goals as goal

pub loop-place-preserved : goal.loop-place-preserved
loop-place-preserved c =
    let ok : is_ok c.push.result ≡ true = c.is_err.ensures.negation ∙ ap not c.if-is_err.false in
    named_more c.args.specs.now c.loop-place.named.items c.push.new.self.items c.loop-place.place c.index-specs-place.result c.copied.result
    (slice_get_read c.args.specs.now (length c.args.specs.now) c.loop-place.place c.index-specs-place.result refl c.loop-place-test.true c.index-specs-place.is)
    c.copied.ensures c.loop-place.invariant (rw ok at c.push.ensures.items)

pub returns : goal.returns
returns c =
    c.loop-place.invariant
    ∙ ap named_of (take_all c.loop-place.place (map syntax_of c.args.specs.now) (omega (arith, length-map c.args.specs.now syntax_of, c.loop-place-test.false)))
