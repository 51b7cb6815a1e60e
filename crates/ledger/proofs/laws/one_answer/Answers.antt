use Rattle.ledger.proofs.OneAnswer.{one_answer}
use Rattle.ledger.proofs.laws.one_answer.Goals as goal

pub returns : goal.returns
returns c = one_answer
