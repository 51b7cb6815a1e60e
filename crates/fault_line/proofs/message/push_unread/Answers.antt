use Rattle.fault_line.proofs.Texts.{five_added}
use Rattle.fault_line.proofs.message.push_unread.Goals as goal

pub returns-clause-text : goal.returns-clause-text
returns-clause-text c =
    five_added _ _ _ _ _ _ _ _ _ _ _ c.push.ensures.text (rw c.as_bytes.ensures.bytes at c.push-2.ensures.text) c.push-3.ensures.text
    c.push_read.ensures.text c.push_file.ensures.text
