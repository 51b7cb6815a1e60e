-- Why a plugin has no module.
use Rattle.std.specs.Prelude.{◌≡◌, ◌<◌, ℕ}
use Rattle.streams.specs.declared.fault.RunFault.TheVariants as run_fault
use Rattle.command.specs.Words.{SpecSyntax}
use Rattle.fault_line.specs.Excerpt.{excerpt_of}
use Rattle.fault_line.specs.declared.fault.Fault.{Fault}
use Rattle.fault_line.specs.declared.fault.Fault.TheVariants.{Unread, Run}

-- Why there is no module of the plugin that is configured so, where files have failed this often
-- before and by now: memory was wanting, and none has failed; or its file couldn't be read.
abbrev pub WhyNoModule : SpecSyntax → (failures_old failures_new : ℕ) → Fault → Type 0
WhyNoModule spec failures_old failures_new (Run run_fault.NoMemory) = failures_new ≡ failures_old
WhyNoModule spec failures_old failures_new (Unread unread) =
    (unread.plugin ≡ spec.name) × (unread.fault.file.items ≡ excerpt_of spec.file) × (failures_old < failures_new)
WhyNoModule spec failures_old failures_new _ = ⊥
