use Rattle.std.proofs.Common.{codes, rules}
use Rattle.serde_json.specs.View.{view}
use Rattle.objects.specs.Containers.{containers}
use Rattle.objects.specs.PodRequest.{stands, request_by}
use Rattle.objects.proofs.Faults.{fault_first}
use Rattle.objects.proofs.request.request.Goals as goal

pub returns-in_err-init : goal.returns-in_err-init
unfolding request_by
returns-in_err-init c =
    let running = rw c.stands-stands.ensures at c.in_ok-running.ensures.value in
    let fault = rw c.stands-stands.ensures at c.in_err-init.ensures.value in
    rw running
    (fault_first _ c.from_residual-in_err-init.result c.in_err-init.field-0.0
    (containers (stands c.args.how) (codes "initContainers") (codes "initContainerStatuses") (view c.args.pod.now) (view c.args.spec.now)) _
    (search rules) fault)

pub returns : goal.returns
unfolding request_by
returns c =
    let running = rw c.stands-stands.ensures at c.in_ok-running.ensures.value in
    let init = rw c.stands-stands.ensures at c.in_ok-init.ensures.value in
    rw (running, init, ← c.as_slice.ensures.value, ← c.as_slice-2.ensures.value) c.in_all.ensures
