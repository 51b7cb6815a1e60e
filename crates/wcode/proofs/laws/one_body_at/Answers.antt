use Rattle.wcode.proofs.BodyRead.{body_is}
use Rattle.wcode.proofs.laws.one_body_at.Goals as goal

pub returns : goal.returns
returns c = body_is
