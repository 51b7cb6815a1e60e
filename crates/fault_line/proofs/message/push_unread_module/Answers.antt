use Rattle.fault_line.proofs.Texts.{two_added}
use Rattle.fault_line.proofs.message.push_unread_module.Goals as goal

pub returns-clause-text : goal.returns-clause-text
returns-clause-text c = two_added _ _ _ _ _ c.push_read.ensures.text c.push_file.ensures.text
