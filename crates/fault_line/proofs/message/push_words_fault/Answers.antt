use Rattle.fault_line.proofs.Texts.{three_added}
use Rattle.fault_line.proofs.message.push_words_fault.Goals as goal

pub returns-clause-text : goal.returns-clause-text
returns-clause-text c =
    three_added _ _ _ _ _ _ _ (rw (c.number.ensures, c.name.ensures) at c.push_fault.ensures.text) c.push_misuse.ensures.text c.push.ensures.text
