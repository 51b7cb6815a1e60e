use Rattle.objects.specs.Heard.{hears, heard_of}
use Rattle.objects.proofs.Faults.{passed_on}
use Rattle.objects.proofs.heard.heard_of.Goals as goal

pub returns : goal.returns
unfolding heard_of
returns c =
    let version = rw c.object_in.ensures at c.in_ok-version.ensures in
    rw (version, c.in_ok-event.ensures)
    (passed_on (λ heard. hears heard c.value_told.new.out.bytes.items) c.heard_by.result _ c.heard_by.ensures)
