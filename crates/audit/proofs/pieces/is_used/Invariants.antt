use Rattle.std.proofs.Common.{◌≡◌, ◌≤◌, ◌*◌, ◌^◌, sum_by, take}
use Rattle.audit.specs.inside.Audit.{sum_in}
use Rattle.audit.proofs.pieces.is_used.Given as goal

-- the sums are those of the pieces so far, each of which adds less than 2^64
abbrev pub invariant-loop-piece : goal.invariant-loop-piece
invariant-loop-piece l =
    (l.cpu ≡ sum_by (λ piece. (sum_in piece l.node).cpu.0) (take l.piece-index l.pieces)) × (l.cpu ≤ l.piece-index * 2 ^ 64)
    × (l.mem ≡ sum_by (λ piece. (sum_in piece l.node).mem.0) (take l.piece-index l.pieces)) × (l.mem ≤ l.piece-index * 2 ^ 64)
    × (l.pods ≡ sum_by (λ piece. (sum_in piece l.node).pods) (take l.piece-index l.pieces)) × (l.pods ≤ l.piece-index * 2 ^ 64)
