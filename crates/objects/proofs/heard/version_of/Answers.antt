use Rattle.objects.specs.Heard.{version_in}
use Rattle.objects.proofs.heard.version_of.Goals as goal

pub returns : goal.returns
unfolding version_in
returns c = rw (c.in_ok-meta.ensures, c.in_ok-text.ensures, ← c.as_bytes.ensures.value) c.version_from.ensures
