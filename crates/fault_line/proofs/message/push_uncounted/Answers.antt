use Rattle.fault_line.proofs.Texts.{five_added}
use Rattle.fault_line.proofs.message.push_uncounted.Goals as goal

pub returns-clause-text : goal.returns-clause-text
returns-clause-text c =
    five_added _ _ _ _ _ _ _ _ _ _ _ c.push.ensures.text c.push_number.ensures.text c.push-2.ensures.text
    (rw (c.object_or_it.ensures.text, c.as_slice.ensures.value) at c.push-3.ensures.text) c.push-4.ensures.text
