-- A check of a file is one of its front.
use Rattle.std.proofs.Common.{◌≡◌, ℕ, List, Option, Some, IfSome, inl, inr}
use Rattle.streams.specs.Device.{DeviceUse}
use Rattle.fault_line.specs.declared.unread.FileFault.{FileFault}
use Rattle.site_modules.specs.Check.{IsCheck}
use Rattle.site_modules.specs.Verdict.{front_of}
use Rattle.site_modules.proofs.Verdicts.{fronts_whole, tells_whole}

pub file_checked : (known : Option (List ℕ)) (bytes : List ℕ) (Unread : FileFault → Type 0) (out err : DeviceUse) (ended : ℕ) → IfSome known (λ whole. bytes ≡ front_of whole)
    → IsCheck (Some bytes) (λ _. ⊥) out err ended → IsCheck known Unread out err ended
file_checked known bytes Unread out err ended front checked = record {
  status = checked.status;
  told = λ low. tells_whole known bytes out.old out.new ended front (checked.told low);
  quiet = checked.quiet;
  room = checked.room;
  failed = λ four. elim (checked.failed four) [
    | inl (fault, tells, unread, untouched) ↦ absurd unread
    | inr write ↦ inr write
  ];
  failures_told = checked.failures_told;
  front = elim checked.front [
    | inl kept ↦ inl kept
    | inr told ↦ inr (fronts_whole known bytes out.old out.new front told)
  ];
}
