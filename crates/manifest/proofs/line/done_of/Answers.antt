use Rattle.std.proofs.Common.{refl}
use Rattle.serde_json.specs.View.{view}
use Rattle.manifest.specs.Line.{done_in, ticket_in}
use Rattle.manifest.specs.Reading.{at, name}
use Rattle.manifest.specs.declared.field.Field.TheVariants as fields
use Rattle.manifest.proofs.Steps.{gives}
use Rattle.manifest.proofs.line.done_of.Goals as goal

pub returns-in-Ok : goal.returns-in-Ok
unfolding done_in
returns-in-Ok c =
    let json = view c.args.object.now in
    gives (at fields.Uid name json) _ _ _ c.in_ok-uid.ensures (gives (ticket_in json) _ _ _ c.in-Ok.ensures refl)
