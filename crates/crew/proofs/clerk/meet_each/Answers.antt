use Rattle.std.proofs.Common.{◌<◌, sym, subst}
use Rattle.desk.specs.Caller.{Caller}
use Rattle.crew.proofs.Meeting.{all_met, none_met, one_more_met}
use Rattle.crew.proofs.clerk.meet_each.Goals as goal

pub loop-k-init : goal.loop-k-init
loop-k-init g c = none_met c.args.desk.now c.args.clerk.now c.args.workers.now

pub meet-requires-clause-first : goal.meet-requires-clause-first
meet-requires-clause-first g c = subst (λ (x : Caller). x.number < c.args.desk.now.handed) (sym c.loop-k.invariant.caller) c.requires.clerk

-- one more was met
pub loop-k-preserved : goal.loop-k-preserved
loop-k-preserved g c =
    one_more_met c.args.desk.now c.args.clerk.now c.args.workers.now c.loop-k.k c.loop-k.clerk c.meet.new.first c.meet.new.second c.loop-k.workers c.index-workers-k.result c.loop-k-test.true c.loop-k.invariant c.meet.ensures

-- all were met
pub returns : goal.returns
returns g c = all_met c.args.desk.now c.args.clerk.now c.args.workers.now c.loop-k.k c.loop-k.clerk c.loop-k.workers c.loop-k-test.false c.loop-k.invariant
