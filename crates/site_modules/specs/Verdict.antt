-- What `check` finds of a module's bytes, and the line that tells it.
use Rattle.std.specs.Prelude.{◌≡◌, ◌≢◌, ℕ, List, ◌++◌, codes, take, Option}
use Rattle.std.specs.Io.KnownBytes.{Appends}
use Rattle.wcode.specs.declared.fault.BinFault.TheVariants as bin_fault
use Rattle.wmodule.specs.Syntax.{ModuleSyntax}
use Rattle.wmodule.specs.Grammar.{Spells}
use Rattle.wbody.specs.declared.fault.TypeFault.TheVariants as type_fault
use Rattle.wtype.specs.Accepted as accepted
use Rattle.wtype.specs.Refused.{WhyRefused}
use Rattle.streams.specs.Device.{AppendsFront}
use Rattle.fault_line.specs.Refusal.{refusal_text}
use Rattle.fault_line.specs.declared.refusal.Refusal.{Refusal}
use Rattle.fault_line.specs.declared.refusal.Refusal.TheVariants as refusal
use Rattle.site_modules.specs.declared.verdict.Unaccepted.{Unaccepted}
use Rattle.site_modules.specs.declared.verdict.Unaccepted.TheVariants as unaccepted
use Rattle.site_modules.specs.declared.verdict.Verdict.{Verdict}
use Rattle.site_modules.specs.declared.verdict.Verdict.TheVariants.{Accepted, Refused}

-- as much of a file as tells whether it is a module: one byte more than the longest
abbrev pub front_of : List ℕ → List ℕ
front_of bytes = take 1048577 bytes

-- Why bytes give no accepted module: they spell none, or the one that they spell isn't accepted.
-- Want of memory says nothing of a module, nor does that no instance of it can be made.
abbrev pub IsRefusedFor : List ℕ → Refusal → Type 0
IsRefusedFor bytes (refusal.Undecoded fault) = (fault ≢ bin_fault.NoMemory) × ((m : ModuleSyntax) → Spells bytes m → ⊥)
IsRefusedFor bytes (refusal.Untyped fault) = (m : ModuleSyntax) × Spells bytes m × (fault ≢ type_fault.NoMemory) × WhyRefused m fault × (accepted.Accepted m → ⊥)
IsRefusedFor bytes (refusal.NotReady fault) = ⊥

-- why no accepted module was had from bytes
abbrev pub IsUnaccepted : List ℕ → Unaccepted → Type 0
IsUnaccepted bytes (unaccepted.Refused why) = IsRefusedFor bytes why
IsUnaccepted bytes unaccepted.NoMemory = Unit {0}

-- what bytes are: those of an accepted module, or for this reason not
abbrev pub IsVerdictOn : List ℕ → Verdict → Type 0
IsVerdictOn bytes Accepted = (m : ModuleSyntax) × Spells bytes m × accepted.Accepted m
IsVerdictOn bytes (Refused why) = IsRefusedFor bytes why

-- the exit status that tells it
abbrev pub status_for : Verdict → ℕ
status_for Accepted = 0
status_for (Refused why) = 1

-- the line that tells it
unfoldable pub verdict_line : Verdict → List ℕ
verdict_line Accepted = codes "accepted" ++ codes "\n"
verdict_line (Refused why) = refusal_text why ++ codes "\n"

-- known bytes grow by the line that these bytes deserve, and the status is that verdict's
abbrev pub TellsVerdict : Option (List ℕ) → Option (List ℕ) → ℕ → List ℕ → Type 0
TellsVerdict old new status bytes =
    (verdict : Verdict) × IsVerdictOn bytes verdict × (status ≡ status_for verdict) × Appends old new (verdict_line verdict)

-- known bytes grow by a beginning of that line
abbrev pub TellsFront : Option (List ℕ) → Option (List ℕ) → List ℕ → Type 0
TellsFront old new bytes = (verdict : Verdict) × IsVerdictOn bytes verdict × AppendsFront old new (verdict_line verdict)
