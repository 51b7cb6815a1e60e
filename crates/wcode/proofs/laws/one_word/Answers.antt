use Rattle.wcode.proofs.Unique.{word_once}
use Rattle.wcode.proofs.laws.one_word.Goals as goal

pub returns : goal.returns
returns c bytes v w rest more h k = word_once bytes v w rest more h k
