use Rattle.std.proofs.Common.{pos, rules, subst, sym}
use Rattle.serde_json.specs.View.{view}
use Rattle.manifest.specs.Line.{version_in}
use Rattle.manifest.specs.Reading.{Answers, Fails, at, at_or, name, signed}
use Rattle.manifest.specs.declared.field.Field.TheVariants as fields
use Rattle.manifest.specs.inside.Row.{asked_in}
use Rattle.manifest.proofs.RowParts.{row_parts}
use Rattle.manifest.proofs.Steps.{ends, fails_later, first_fails}
use Rattle.manifest.proofs.line.row_of.Goals as goal

pub returns-in_err-version : goal.returns-in_err-version
returns-in_err-version c =
    let json = view c.args.object.now in
    subst (Answers c.from_residual.result) (sym (row_parts json))
    (ends c.from_residual.result _ (version_in json) _ c.from_residual.ensures.1 c.in_err-version.ensures)

pub returns-in-Err : goal.returns-in-Err
returns-in-Err c =
    let json = view c.args.object.now in
    subst (Fails c.in-Err.fault) (sym (row_parts json))
    (fails_later c.in-Err.fault (version_in json) _ _ c.in_ok-version.ensures
    (first_fails c.in-Err.fault (at fields.Uid name json) _ c.in-Err.ensures))

pub returns-in-Err-signed_at : goal.returns-in-Err-signed_at
returns-in-Err-signed_at c =
    let json = view c.args.object.now in
    subst (Fails c.in-Err-signed_at.fault) (sym (row_parts json))
    (fails_later c.in-Err-signed_at.fault (version_in json) _ _ c.in_ok-version.ensures
    (fails_later c.in-Err-signed_at.fault (at fields.Uid name json) _ _ c.in-Ok.ensures
    (first_fails c.in-Err-signed_at.fault (at_or fields.Priority (pos 0) signed json) _ c.in-Err-signed_at.ensures)))

pub returns-in-Err-asked_of : goal.returns-in-Err-asked_of
returns-in-Err-asked_of c =
    let json = view c.args.object.now in
    subst (Fails c.in-Err-asked_of.fault) (sym (row_parts json))
    (fails_later c.in-Err-asked_of.fault (version_in json) _ _ c.in_ok-version.ensures
    (fails_later c.in-Err-asked_of.fault (at fields.Uid name json) _ _ c.in-Ok.ensures
    (fails_later c.in-Err-asked_of.fault (at_or fields.Priority (pos 0) signed json) _ _ c.in-Ok-signed_at.ensures
    (first_fails c.in-Err-asked_of.fault (asked_in json) _ c.in-Err-asked_of.ensures))))

-- (here the priority is read back from its bits)
pub returns-in-Err-pod_with : goal.returns-in-Err-pod_with
returns-in-Err-pod_with c = rw (row_parts (view c.args.object.now)) (search rules)

pub returns-in-Ok-pod_with : goal.returns-in-Ok-pod_with
returns-in-Ok-pod_with c = rw (row_parts (view c.args.object.now)) (search rules)
