use Rattle.translator.proofs.OneLine.{one_answer_a_line}
use Rattle.translator.proofs.laws.one_answer_a_line.Goals as goal

pub returns : goal.returns
returns c = one_answer_a_line
