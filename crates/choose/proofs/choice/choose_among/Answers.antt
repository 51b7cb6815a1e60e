use Rattle.std.proofs.Common.{◌≡◌, length, map, ap, ◌∙◌}
use Rattle.std.proofs.lemmas.List.{length-map}
use Rattle.desk.specs.Shown.{shown}
use Rattle.choose.proofs.Verdicts.{all_zip_length}
use Rattle.choose.proofs.choice.choose_among.Goals as goal

pub decide-requires : goal.decide-requires
decide-requires g c =
    let same : length c.in-Ok.verdicts.items ≡ length (map shown c.args.rows.now) = all_zip_length _ _ _ c.in-Ok.ensures.are in
    let value : c.as_slice.result.now ≡ c.in-Ok.verdicts.items = c.as_slice.ensures.value in
    ap length value ∙ (same ∙ length-map c.args.rows.now shown)
