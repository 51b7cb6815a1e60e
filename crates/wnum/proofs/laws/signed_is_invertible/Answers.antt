use Rattle.wnum.proofs.Signs.{from_signed-signed}
use Rattle.wnum.proofs.laws.signed_is_invertible.Goals as goal

pub returns : goal.returns
returns c = from_signed-signed
