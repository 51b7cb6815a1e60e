use Rattle.std.proofs.Common.{◌+◌, ◌≤◌}
use Rattle.std.specs.List.{All}
use Rattle.std.specs.Vec.{vec_len}
use Rattle.pool.specs.Speaking.{SpeaksFor}
use Rattle.pool.proofs.pool.start_each.Given as goal

abbrev pub invariant-loop-kit : goal.invariant-loop-kit
invariant-loop-kit g l =
    All (λ kit. SpeaksFor g.J.Site.Says (g.K.Rules.answers kit)) l.kits.items
    × (vec_len l.helpers + vec_len l.kits ≤ vec_len l.initial.helpers + vec_len l.initial.kits)

abbrev pub decreases-loop-kit : goal.decreases-loop-kit
decreases-loop-kit g l = vec_len l.kits
