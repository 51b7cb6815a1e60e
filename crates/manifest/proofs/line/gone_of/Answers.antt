use Rattle.std.proofs.Common.{refl}
use Rattle.serde_json.specs.View.{view}
use Rattle.manifest.specs.Line.{gone_in, version_in}
use Rattle.manifest.specs.Reading.{at, name}
use Rattle.manifest.specs.declared.field.Field.TheVariants as fields
use Rattle.manifest.proofs.Steps.{gives}
use Rattle.manifest.proofs.line.gone_of.Goals as goal

pub returns-in-Ok : goal.returns-in-Ok
unfolding gone_in
returns-in-Ok c =
    let json = view c.args.object.now in
    gives (version_in json) _ _ _ c.in_ok-version.ensures (gives (at fields.Name name json) _ _ _ c.in-Ok.ensures refl)
