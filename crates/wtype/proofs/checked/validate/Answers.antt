use Rattle.wtype.proofs.checked.validate.Goals as goal

pub invariant_of-result : goal.invariant_of-result
invariant_of-result c =
    let kept = c.in_ok-notes.ensures in
    (kept.accepted, kept.notes, kept.filter, kept.score)
