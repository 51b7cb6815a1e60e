use Rattle.std.proofs.Common.{refl}
use Rattle.serde_json.specs.View.{view}
use Rattle.std.specs.Prelude.{false}
use Rattle.manifest.specs.Line.{judge_in, row_in}
use Rattle.manifest.specs.Reading.{at_or, flag}
use Rattle.manifest.specs.declared.field.Field.TheVariants as fields
use Rattle.manifest.proofs.Steps.{gives}
use Rattle.manifest.proofs.line.judge_of.Goals as goal

pub returns-in-Ok : goal.returns-in-Ok
unfolding judge_in
returns-in-Ok c =
    let json = view c.args.object.now in
    gives (row_in json) _ _ _ c.in_ok-_version.ensures (gives (at_or fields.Filters false flag json) _ _ _ c.in-Ok.ensures refl)
