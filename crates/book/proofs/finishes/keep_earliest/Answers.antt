use Rattle.std.proofs.Common.{arith}
use Rattle.std.proofs.Math.ListN.{length-set}
use Rattle.std.proofs.lemmas.List.{set-get_or}
use Rattle.book.proofs.Earliest.{but_one, earliest_set, lowered, still}
use Rattle.book.proofs.finishes.keep_earliest.Goals as goal

pub returns-then-now-index-clause-kept : goal.returns-then-now-index-clause-kept
returns-then-now-index-clause-kept c =
    lowered c.args.each.now c.args.earliest.now.items c.args.at c.args.before c.requires.here c.requires.kept c.index.result.now c.index.ensures c.if-now-index.true

pub returns-then-now-index-clause-block : goal.returns-then-now-index-clause-block
returns-then-now-index-clause-block c = but_one _ _ _

pub returns-then-before-index-clause-kept : goal.returns-then-before-index-clause-kept
returns-then-before-index-clause-kept c =
    earliest_set c.args.each.now c.args.earliest.now.items c.args.at c.args.before c.requires.here c.requires.kept c.earliest_in.result
    (λ i h same. c.earliest_in.ensures i (omega arith) (omega arith) h)

pub returns-then-before-index-clause-block : goal.returns-then-before-index-clause-block
returns-then-before-index-clause-block c = but_one _ _ _

pub returns-else-before-index-clause-kept : goal.returns-else-before-index-clause-kept
returns-else-before-index-clause-kept c =
    still c.args.each.now c.args.earliest.now.items c.args.at c.args.before c.requires.here c.requires.kept c.index.result.now c.index.ensures c.if-now-index.false

pub returns-else-before-index-clause-block : goal.returns-else-before-index-clause-block
returns-else-before-index-clause-block c = set-get_or _ _ _

pub earliest_in-requires-clause-few : goal.earliest_in-requires-clause-few
earliest_in-requires-clause-few c = omega (arith, c.requires.kept.few, length-set c.args.each.now c.args.at c.args.before)

pub index_mut-requires-then-before-index : goal.index_mut-requires-then-before-index
index_mut-requires-then-before-index c = omega (arith, c.requires.kept.many, c.requires.here, length-set c.args.each.now c.args.at c.args.before, c.args.earliest.now.ok.0)
