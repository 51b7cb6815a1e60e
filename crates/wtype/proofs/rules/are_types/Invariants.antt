use Rattle.std.proofs.Common.{ℕ, ◌<◌, length, take}
use Rattle.std.specs.List.{AllByRecursion}
use Rattle.wtype.proofs.rules.are_types.Given as goal

-- those so far are
abbrev pub invariant-loop-signature : goal.invariant-loop-signature
invariant-loop-signature l = AllByRecursion (λ (s : ℕ). s < length l.types) (take l.signature-index l.signatures)
