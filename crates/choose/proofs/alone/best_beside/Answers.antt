use Rattle.choose.proofs.FirstPlain.{all_lead, is_there}
use Rattle.choose.proofs.alone.best_beside.Goals as goal

-- all nodes are plain
pub returns-then-sought-clause-first : goal.returns-then-sought-clause-first
returns-then-sought-clause-first c =
    all_lead c.args.pod.now c.args.rows.now c.requires.order (c.requires.sought.plain c.if-sought.true) c.first_plain-plain.result c.first_plain-plain.ensures

pub returns-then-sought-clause-there : goal.returns-then-sought-clause-there
returns-then-sought-clause-there c = is_there c.args.pod.now c.args.rows.now c.first_plain-plain.result (c.first_plain-plain.ensures 0)

pub pass_marked-pass-requires-clause-plain : goal.pass_marked-pass-requires-clause-plain
pass_marked-pass-requires-clause-plain c = c.first_plain-plain.ensures 0

pub pass_marked-requires-clause-plain : goal.pass_marked-requires-clause-plain
pass_marked-requires-clause-plain c = c.first_plain-plain.ensures c.pass_marked-pass.result.most
