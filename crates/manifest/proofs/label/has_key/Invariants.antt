use Rattle.std.proofs.Common.{◌≡◌, false, take}
use Rattle.std.specs.Prelude.{bytes_eq}
use Rattle.std.specs.List.{list_any}
use Rattle.manifest.proofs.label.has_key.Given as goal

-- none so far has it
abbrev pub invariant-loop-label : goal.invariant-loop-label
invariant-loop-label l = list_any (λ label. bytes_eq label.key l.key) (take l.label-index l.labels) ≡ false
