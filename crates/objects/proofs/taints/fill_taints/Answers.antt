use Rattle.std.proofs.Common.{length, refl}
use Rattle.std.proofs.lemmas.Bool.{lt-leb}
use Rattle.objects.specs.NodeRow.{taints}
use Rattle.objects.proofs.Items.{count_of_items_view}
use Rattle.objects.proofs.taints.fill_taints.Goals as goal

pub returns-then-found-gt-MAX_TAINTS : goal.returns-then-found-gt-MAX_TAINTS
unfolding taints
returns-then-found-gt-MAX_TAINTS c =
    let found = c.in_ok-found.found.now in
    rw (c.in_ok-found.ensures, count_of_items_view found, lt-leb (length found) 8 c.if-found-gt-MAX_TAINTS.true) refl
