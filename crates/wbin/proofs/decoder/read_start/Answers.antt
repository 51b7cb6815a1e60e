use Rattle.std.proofs.Common.{sym, ap, ◌∙◌}
use Rattle.std.specs.Prelude.{option_map, ◌==◌}
use Rattle.std.proofs.lemmas.Result.{err_from_is_err_and}
use Rattle.wbin.specs.inside.Outline.{Within}
use Rattle.wbin.specs.inside.Decoded.{ReadsWhole}
use Rattle.wbin.proofs.Modules.{inside, contents_are, found_has, starts_at, starts_missing, starts_not}
use Rattle.wbin.proofs.decoder.read_start.Goals as goal

pub read_filling-requires : goal.read_filling-requires
read_filling-requires c = found_has (Within c.args.bytes.now) (λ s. s.id == 8) c.args.sections.now c.in-Some.section c.requires (sym c.in-Some.ensures)

pub returns-in_ok-index-in-Some : goal.returns-in_ok-index-in-Some
unfolding ReadsWhole
returns-in_ok-index-in-Some c =
    starts_at _ (inside c.args.bytes.now c.in-Some.section) c.in_ok-index-in-Some.index
    (contents_are c.args.bytes.now 8 c.args.sections.now ∙ ap (option_map (inside c.args.bytes.now)) (sym c.in-Some.ensures)) c.in_ok-index-in-Some.ensures.read

pub returns-in_err-index-in-Some : goal.returns-in_err-index-in-Some
unfolding ReadsWhole
returns-in_err-index-in-Some c =
    let p = err_from_is_err_and c.from_residual.result c.from_residual.ensures.1 in
    rw (p.1, p.2)
    (λ m. starts_missing _ (inside c.args.bytes.now c.in-Some.section)
    (contents_are c.args.bytes.now 8 c.args.sections.now ∙ ap (option_map (inside c.args.bytes.now)) (sym c.in-Some.ensures)) (c.in_err-index-in-Some.ensures.read m))

pub returns-in-None : goal.returns-in-None
unfolding ReadsWhole
returns-in-None c =
    starts_not _ (contents_are c.args.bytes.now 8 c.args.sections.now ∙ ap (option_map (inside c.args.bytes.now)) (sym c.in-None.ensures))
