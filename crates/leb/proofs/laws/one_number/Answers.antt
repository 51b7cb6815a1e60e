use Rattle.leb.proofs.Grammar.{one_spelling}
use Rattle.leb.proofs.laws.one_number.Goals as goal

pub returns : goal.returns
returns c s bits bytes v w rest more h k = one_spelling s bits bytes v w rest more h k
