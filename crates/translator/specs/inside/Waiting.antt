-- Why what waits couldn't be written.
use Rattle.std.specs.Prelude.{◌≡◌, ◌<◌, ℕ}
use Rattle.streams.specs.declared.fault.RunFault.TheVariants as run_fault
use Rattle.fault_line.specs.declared.fault.Fault.TheVariants.{Run}
use Rattle.translator.specs.declared.waiting.Stopped.{Stopped}
use Rattle.translator.specs.declared.waiting.Stopped.TheVariants.{By, Untold}

-- a write of answers failed, or one that tells what is left out
abbrev pub IsUnwritten : (out_old out_new err_old err_new : ℕ) → Stopped → Type 0
IsUnwritten out_old out_new err_old err_new (By (Run run_fault.Write)) = (out_old < out_new) × (err_new ≡ err_old)
IsUnwritten out_old out_new err_old err_new Untold = (err_old < err_new) × (out_new ≡ out_old)
IsUnwritten out_old out_new err_old err_new _ = ⊥
