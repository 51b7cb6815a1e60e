use Rattle.std.proofs.Common.{refl}
use Rattle.serde_json.specs.View.{view}
use Rattle.manifest.specs.Line.{bound_in, version_in}
use Rattle.manifest.specs.Reading.{at, cpu, memory, name, request}
use Rattle.manifest.specs.declared.field.Field.TheVariants as fields
use Rattle.manifest.proofs.Steps.{ends, fails_later, first_fails, gives}
use Rattle.manifest.proofs.line.bound_of.Goals as goal

pub returns-in_err-version : goal.returns-in_err-version
unfolding bound_in
returns-in_err-version c =
    let json = view c.args.object.now in
    ends c.from_residual.result _ (version_in json) _ c.from_residual.ensures.1 c.in_err-version.ensures

pub returns-in-Err : goal.returns-in-Err
unfolding bound_in
returns-in-Err c =
    let json = view c.args.object.now in
    fails_later c.in-Err.fault (version_in json) _ _ c.in_ok-version.ensures
    (first_fails c.in-Err.fault (at fields.Uid name json) _ c.in-Err.ensures)

pub returns-in-Err-name_at : goal.returns-in-Err-name_at
unfolding bound_in
returns-in-Err-name_at c =
    let json = view c.args.object.now in
    fails_later c.in-Err-name_at.fault (version_in json) _ _ c.in_ok-version.ensures
    (fails_later c.in-Err-name_at.fault (at fields.Uid name json) _ _ c.in-Ok.ensures
    (first_fails c.in-Err-name_at.fault (at fields.Node name json) _ c.in-Err-name_at.ensures))

pub returns-in-Err-cpu_at : goal.returns-in-Err-cpu_at
unfolding bound_in
returns-in-Err-cpu_at c =
    let json = view c.args.object.now in
    fails_later c.in-Err-cpu_at.fault (version_in json) _ _ c.in_ok-version.ensures
    (fails_later c.in-Err-cpu_at.fault (at fields.Uid name json) _ _ c.in-Ok.ensures
    (fails_later c.in-Err-cpu_at.fault (at fields.Node name json) _ _ c.in-Ok-name_at.ensures
    (first_fails c.in-Err-cpu_at.fault (at fields.Cpu cpu json) _ c.in-Err-cpu_at.ensures.value)))

pub returns-in-Err-memory_at : goal.returns-in-Err-memory_at
unfolding bound_in
returns-in-Err-memory_at c =
    let json = view c.args.object.now in
    fails_later c.in-Err-memory_at.fault (version_in json) _ _ c.in_ok-version.ensures
    (fails_later c.in-Err-memory_at.fault (at fields.Uid name json) _ _ c.in-Ok.ensures
    (fails_later c.in-Err-memory_at.fault (at fields.Node name json) _ _ c.in-Ok-name_at.ensures
    (fails_later c.in-Err-memory_at.fault (at fields.Cpu cpu json) _ _ c.in-Ok-cpu_at.ensures.value
    (first_fails c.in-Err-memory_at.fault (at fields.Memory memory json) _ c.in-Err-memory_at.ensures.value))))

pub returns : goal.returns
unfolding bound_in request
returns c =
    let json = view c.args.object.now in
    gives (version_in json) _ _ _ c.in_ok-version.ensures
    (gives (at fields.Uid name json) _ _ _ c.in-Ok.ensures
    (gives (at fields.Node name json) _ _ _ c.in-Ok-name_at.ensures
    (gives (at fields.Cpu cpu json) _ _ _ c.in-Ok-cpu_at.ensures.value
    (gives (at fields.Memory memory json) _ _ _ c.in-Ok-memory_at.ensures.value
    (rw c.request_within.ensures refl)))))
