use Rattle.fault_line.proofs.Texts.{undecoded_added, untyped_added}
use Rattle.fault_line.proofs.refusal.push_refusal.Goals as goal

pub returns-in-Undecoded-clause-text : goal.returns-in-Undecoded-clause-text
returns-in-Undecoded-clause-text c =
    undecoded_added _ _ _ _ _ c.in-Undecoded.is c.push.ensures.text c.push_bin_fault.ensures.text

pub returns-in-Untyped-clause-text : goal.returns-in-Untyped-clause-text
returns-in-Untyped-clause-text c =
    untyped_added _ _ _ _ _ c.in-Untyped.is c.push-in-Untyped.ensures.text c.push_type_fault.ensures.text
