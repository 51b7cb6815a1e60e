use Rattle.std.proofs.Common.{◌≡◌, ◌∙◌, List, ℕ, Option, Some, None, Result, Ok, Err, ap, refl, sym}
use Rattle.std.specs.Option.{ok_or}
use Rattle.serde_json.specs.Data.{Data}
use Rattle.serde_json.specs.View.{view}
use Rattle.manifest.specs.declared.command.Command.{Command}
use Rattle.manifest.specs.declared.fault.LineFault.{LineFault}
use Rattle.manifest.specs.declared.fault.LineFault.TheVariants.{BadField}
use Rattle.manifest.specs.declared.field.Field.TheVariants as fields
use Rattle.manifest.specs.declared.operation.Operation.{Operation}
use Rattle.manifest.specs.declared.operation.Operation.TheVariants as operations
use Rattle.manifest.specs.Line.{command_in, fields_of}
use Rattle.manifest.specs.Operation.{operation_named}
use Rattle.manifest.specs.Reading.{◌>>=◌, at, text}
use Rattle.manifest.proofs.Steps.{gives}
use Rattle.manifest.proofs.line.command_of.Goals as goal

-- an object whose operation is known asks for what its fields say, and one of no known operation is
-- faulty
module _ (json : Data) (op : List ℕ) (named : Option Operation) (text_is : at fields.Op text json ≡ Ok op) (named_is : named ≡ operation_named op) where
  known : (operation which : Operation) (y : Result Command LineFault) → named ≡ Some operation → operation ≡ which → fields_of which json ≡ y → command_in json ≡ y
  unfolding command_in
  known operation which y some is says =
      gives (at fields.Op text json) op _ y text_is
      (gives (ok_or (operation_named op) (BadField fields.Op)) operation _ y (ap (λ o. ok_or o (BadField fields.Op)) (sym named_is ∙ some))
      (ap (λ o. fields_of o json) is ∙ says))

  unknown : named ≡ None → command_in json ≡ Err (BadField fields.Op)
  unfolding command_in
  unknown none =
      gives (at fields.Op text json) op _ (Err (BadField fields.Op)) text_is
      (ap (λ o. ok_or o (BadField fields.Op) >>= λ operation. fields_of operation json) (sym named_is ∙ none))

pub returns-in-Cycle : goal.returns-in-Cycle
unfolding fields_of
returns-in-Cycle c =
    known (view c.args.object.now) c.in-Some.op.now c.named.result c.in-Some.ensures c.named.ensures c.in-Some-named.operation operations.Cycle _ c.in-Some-named.is c.in-Cycle.is refl

pub returns-in-Dump : goal.returns-in-Dump
unfolding fields_of
returns-in-Dump c =
    known (view c.args.object.now) c.in-Some.op.now c.named.result c.in-Some.ensures c.named.ensures c.in-Some-named.operation operations.Dump _ c.in-Some-named.is c.in-Dump.is refl

pub returns-in_default-named : goal.returns-in_default-named
returns-in_default-named c =
    unknown (view c.args.object.now) c.in-Some.op.now c.named.result c.in-Some.ensures c.named.ensures c.in_default-named.is
