use Rattle.std.proofs.Common.{◌+◌, ◌-◌, ◌*◌, length}
use Rattle.fleet.proofs.judging.+pieces.Given as goal

abbrev pub decreases-judge_pieces : goal.decreases-judge_pieces
decreases-judge_pieces g l = 4 * length l.kits.now

abbrev pub decreases-judge_both : goal.decreases-judge_both
decreases-judge_both g l = 4 * (length l.kits_here.now + length l.kits_there.now) - 1

abbrev pub decreases-judge_both-mine : goal.decreases-judge_both-mine
decreases-judge_both-mine g l = 4 * length l.kits_here.now + 1

abbrev pub decreases-judge_both-theirs : goal.decreases-judge_both-theirs
decreases-judge_both-theirs g l = 4 * length l.kits_there.now + 1
