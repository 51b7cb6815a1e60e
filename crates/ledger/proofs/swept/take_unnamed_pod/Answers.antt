use Rattle.std.proofs.Common.{None, Some, is_some, ap, ◌∙◌}
use Rattle.ledger.specs.Lists.{of_pods}
use Rattle.ledger.proofs.Sweeps.{read_slot, named_in, taken_out}
use Rattle.ledger.proofs.swept.take_unnamed_pod.Goals as goal

pub remove_at-requires : goal.remove_at-requires
remove_at-requires c =
    ap is_some (read_slot c.slots.result.now c.args.pods.now c.args.slot c.in-Some-Some.field-0.now c.slots.ensures (c.in-Some-Some.ensures.lookup.3.1 None) ∙ c.in-Some-Some.field-0-is)

pub returns-then-entry-lists-clause-named : goal.returns-then-entry-lists-clause-named
returns-then-entry-lists-clause-named c =
    let there = read_slot c.slots.result.now c.args.pods.now c.args.slot c.in-Some-Some.field-0.now c.slots.ensures (c.in-Some-Some.ensures.lookup.3.1 None) ∙ c.in-Some-Some.field-0-is in
    named_in of_pods c.args.lists c.args.slot c.in-Some-Some.entry c.args.pods.now there c.if-entry-lists.true

pub returns-clause-some : goal.returns-clause-some
returns-clause-some c =
    let there = read_slot c.slots.result.now c.args.pods.now c.args.slot c.in-Some-Some.field-0.now c.slots.ensures (c.in-Some-Some.ensures.lookup.3.1 None) ∙ c.in-Some-Some.field-0-is in
    taken_out of_pods c.args.lists c.args.slot c.in-Some-Some.entry c.remove_at.result c.args.pods.now c.remove_at.new.self c.len-once.ensures.once there c.if-entry-lists.false c.remove_at.ensures.entry c.remove_at.ensures.slots c.remove_at.ensures.map
