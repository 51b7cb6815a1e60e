use Rattle.std.proofs.Common.{[], replicate, ◌∙◌}
use Rattle.desk.specs.inside.Shared.{first_held}
use Rattle.desk.specs.declared.limits.TheConstants.{MAX_PASSES}
use Rattle.desk.proofs.Sharing.{stands_first, first_board, is_board}
use Rattle.desk.proofs.under_lock.new_writer.Goals as goal

-- nothing was done
pub new-requires-3-clause-rule : goal.new-requires-3-clause-rule
new-requires-3-clause-rule g c =
    let book = g.J.Naming.book in
    let limits = g.J.Naming.limits in
    is_board book limits (first_held book limits) c.in-Ok.first (stands_first book limits)
    (c.in-Ok.ensures ∙ (λ i. record { nodes = []; used = []; room = (c.requires.limits i).nodes; calls = replicate MAX_PASSES 0; prefix = c.requires.nothing i }) ∙ first_board book limits)

-- and that is published
pub returns-in-Ok-new-2-clause-shown : goal.returns-in-Ok-new-2-clause-shown
returns-in-Ok-new-2-clause-shown g c =
    c.in-Ok-new-2.ensures.0 ∙ c.in-Ok.ensures
    ∙ (λ i. record { nodes = []; used = []; room = (c.requires.limits i).nodes; calls = replicate MAX_PASSES 0; prefix = c.requires.nothing i })
    ∙ first_board g.J.Naming.book g.J.Naming.limits
