use Rattle.std.proofs.Common.{◌∙◌, refl, subst, sym}
use Rattle.serde_json.specs.View.{view}
use Rattle.manifest.specs.Line.{version_in}
use Rattle.manifest.specs.Reading.{Answers, Fails, at, name}
use Rattle.manifest.specs.declared.field.Field.TheVariants as fields
use Rattle.manifest.specs.inside.Row.{allocatable_in, node_with}
use Rattle.manifest.proofs.RowParts.{node_parts}
use Rattle.manifest.proofs.Steps.{ends, fails_later, first_fails, gives}
use Rattle.manifest.proofs.line.node_of.Goals as goal

pub returns-in_err-version : goal.returns-in_err-version
returns-in_err-version c =
    let json = view c.args.object.now in
    subst (Answers c.from_residual.result) (sym (node_parts json))
    (ends c.from_residual.result _ (version_in json) _ c.from_residual.ensures.1 c.in_err-version.ensures)

pub returns-in-Err : goal.returns-in-Err
returns-in-Err c =
    let json = view c.args.object.now in
    subst (Fails c.in-Err.fault) (sym (node_parts json))
    (fails_later c.in-Err.fault (version_in json) _ _ c.in_ok-version.ensures
    (first_fails c.in-Err.fault (at fields.Name name json) _ c.in-Err.ensures))

pub returns-in-Err-allocatable_of : goal.returns-in-Err-allocatable_of
returns-in-Err-allocatable_of c =
    let json = view c.args.object.now in
    subst (Fails c.in-Err-allocatable_of.fault) (sym (node_parts json))
    (fails_later c.in-Err-allocatable_of.fault (version_in json) _ _ c.in_ok-version.ensures
    (fails_later c.in-Err-allocatable_of.fault (at fields.Name name json) _ _ c.in-Ok.ensures
    (first_fails c.in-Err-allocatable_of.fault (allocatable_in json) _ c.in-Err-allocatable_of.ensures)))

pub returns-in-Err-node_with : goal.returns-in-Err-node_with
returns-in-Err-node_with c =
    let json = view c.args.object.now in
    subst (Fails c.in-Err-node_with.fault) (sym (node_parts json))
    (fails_later c.in-Err-node_with.fault (version_in json) _ _ c.in_ok-version.ensures
    (fails_later c.in-Err-node_with.fault (at fields.Name name json) _ _ c.in-Ok.ensures
    (fails_later c.in-Err-node_with.fault (allocatable_in json) _ _ c.in-Ok-allocatable_of.ensures
    (first_fails c.in-Err-node_with.fault (node_with c.in-Ok.name c.in-Ok-allocatable_of.allocatable json) _ c.in-Err-node_with.ensures))))

pub returns-in-Ok-node_with : goal.returns-in-Ok-node_with
returns-in-Ok-node_with c =
    let json = view c.args.object.now in
    node_parts json
    ∙ gives (version_in json) _ _ _ c.in_ok-version.ensures
    (gives (at fields.Name name json) _ _ _ c.in-Ok.ensures
    (gives (allocatable_in json) _ _ _ c.in-Ok-allocatable_of.ensures
    (gives (node_with c.in-Ok.name c.in-Ok-allocatable_of.allocatable json) _ _ _ c.in-Ok-node_with.ensures refl)))
