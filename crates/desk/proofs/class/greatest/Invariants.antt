use Rattle.std.proofs.Common.{◌≡◌, ℕ, ◌<◌, ◌≤◌, ◌⊎◌, slice_index}
use Rattle.std.specs.List.{AllWithin}
use Rattle.desk.proofs.class.greatest.Given as goal

-- none so far is greater, and one is as great, but for 0
abbrev pub invariant-loop-worth : goal.invariant-loop-worth
invariant-loop-worth l = record {
  most : AllWithin (λ worth. worth ≤ l.most) l.worths 0 l.worth-index;
  there : (l.most ≡ 0) ⊎ ((k : ℕ) × (k < l.worth-index) × (slice_index l.worths k ≡ l.most));
}
