-- What a fault says of a module, and what a verdict does.
use Rattle.std.proofs.Common.{◌≡◌, ◌<◌, ◌⊎◌, ℕ, List, [], length, inl, inr, Option, Some, None, IfSome, sym, subst, ap, arith}
use Rattle.std.proofs.lemmas.Bool.{cases_lt}
use Rattle.std.proofs.lemmas.List.{append-nil, length-take-le, take_all}
use Rattle.std.specs.Io.KnownBytes.{Appends}
use Rattle.streams.specs.Device.{AppendsFront}
use Rattle.std.specs.Prelude.{◌≢◌}
use Rattle.wcode.specs.Fault as bin
use Rattle.wcode.specs.declared.fault.Kind.{Kind}
use Rattle.wcode.specs.declared.fault.BinFault.{BinFault}
use Rattle.wcode.specs.declared.fault.BinFault.TheVariants as bin_fault
use Rattle.wmodule.specs.Syntax.{ModuleSyntax}
use Rattle.wmodule.specs.Grammar.{Spells}
use Rattle.wbody.specs.Fault as type
use Rattle.wbody.specs.declared.fault.TypeFault.{TypeFault}
use Rattle.wbody.specs.declared.fault.TypeFault.TheVariants as type_fault
use Rattle.wtype.specs.Accepted as accepted
use Rattle.wtype.specs.Refused.{WhyRefused}
use Rattle.fault_line.specs.declared.refusal.Refusal.{Refusal}
use Rattle.fault_line.specs.declared.refusal.Refusal.TheVariants as refusal
use Rattle.site_modules.specs.declared.verdict.Unaccepted.{Unaccepted}
use Rattle.site_modules.specs.declared.verdict.Unaccepted.TheVariants as unaccepted
use Rattle.site_modules.specs.Verdict.{IsRefusedFor, IsUnaccepted, IsVerdictOn, TellsFront, TellsVerdict, front_of, status_for}
use Rattle.site_modules.specs.declared.verdict.Verdict.{Verdict}
use Rattle.site_modules.specs.declared.verdict.Verdict.TheVariants.{Accepted, Refused}

-- ---- faults that are no want of memory

pub malformed_says : (kind : Kind) (place : ℕ) → bin_fault.Malformed kind place ≢ bin_fault.NoMemory
malformed_says kind place e = let bad : 1 ≡ 3 = ap bin.number_of e in absurd (omega (arith, bad))

pub float_says : bin_fault.Float ≢ bin_fault.NoMemory
float_says e = let bad : 2 ≡ 3 = ap bin.number_of e in absurd (omega (arith, bad))

pub untyped_says : (function : Option ℕ) (place : ℕ) → type_fault.Untyped function place ≢ type_fault.NoMemory
untyped_says function place e = let bad : 1 ≡ 5 = ap type.number_of e in absurd (omega (arith, bad))

pub import_says : type_fault.BadImport ≢ type_fault.NoMemory
import_says e = let bad : 2 ≡ 5 = ap type.number_of e in absurd (omega (arith, bad))

pub export_says : type_fault.BadExport ≢ type_fault.NoMemory
export_says e = let bad : 3 ≡ 5 = ap type.number_of e in absurd (omega (arith, bad))

pub limit_says : type_fault.OverLimit ≢ type_fault.NoMemory
limit_says e = let bad : 4 ≡ 5 = ap type.number_of e in absurd (omega (arith, bad))

-- ---- what they say

-- of bytes that spell no module
pub undecoded_told : (bytes : List ℕ) (fault : BinFault) (why : Unaccepted) → (fault ≢ bin_fault.NoMemory → (m : ModuleSyntax) → Spells bytes m → ⊥)
    → ((fault ≡ bin_fault.NoMemory) × (why ≡ unaccepted.NoMemory)) ⊎ ((fault ≢ bin_fault.NoMemory) × (why ≡ unaccepted.Refused (refusal.Undecoded fault)))
    → IsUnaccepted bytes why
undecoded_told bytes fault why none (inl (is, e)) = subst (IsUnaccepted bytes) (sym e) tt
undecoded_told bytes fault why none (inr (is, e)) = subst (IsUnaccepted bytes) (sym e) (is, none is)

-- of a module that isn't accepted
pub untyped_told : (bytes : List ℕ) (m : ModuleSyntax) (fault : TypeFault) (why : Unaccepted) → Spells bytes m → WhyRefused m fault → (accepted.Accepted m → fault ≡ type_fault.NoMemory)
    → ((fault ≡ type_fault.NoMemory) × (why ≡ unaccepted.NoMemory)) ⊎ ((fault ≢ type_fault.NoMemory) × (why ≡ unaccepted.Refused (refusal.Untyped fault)))
    → IsUnaccepted bytes why
untyped_told bytes m fault why spells refused whole (inl (is, e)) = subst (IsUnaccepted bytes) (sym e) tt
untyped_told bytes m fault why spells refused whole (inr (is, e)) = subst (IsUnaccepted bytes) (sym e) (m, spells, is, refused, λ all. is (whole all))

-- ---- the front of a file

-- a whole text is a beginning of it
pub whole_front : (old new : Option (List ℕ)) (text : List ℕ) → Appends old new text → AppendsFront old new text
whole_front old new text e = (text, [], sym (append-nil text), e)

-- what is longer than a module spells none
too_long : (bytes : List ℕ) (m : ModuleSyntax) → 1048576 < length bytes → Spells bytes m → ⊥
too_long bytes m long spells = omega (arith, long, spells.short)

long_refused : (front whole : List ℕ) (why : Refusal) → 1048576 < length front → 1048576 < length whole → IsRefusedFor front why → IsRefusedFor whole why
long_refused front whole (refusal.Undecoded fault) long longer is = (is.0, λ m spells. too_long whole m longer spells)
long_refused front whole (refusal.Untyped fault) long longer is = absurd (too_long front is.0 long is.1)
long_refused front whole (refusal.NotReady fault) long longer is = absurd is

long_verdict : (front whole : List ℕ) (verdict : Verdict) → 1048576 < length front → 1048576 < length whole → IsVerdictOn front verdict → IsVerdictOn whole verdict
long_verdict front whole Accepted long longer is = absurd (too_long front is.0 long is.1)
long_verdict front whole (Refused why) long longer is = long_refused front whole why long longer is

-- what holds of a file's front holds of the file
verdict_whole : (whole : List ℕ) (verdict : Verdict) → IsVerdictOn (front_of whole) verdict → IsVerdictOn whole verdict
verdict_whole whole verdict is = elim (cases_lt 1048576 (length whole)) [
  | inl long ↦ long_verdict (front_of whole) whole verdict (omega (arith, length-take-le 1048577 whole (omega (arith, long)))) long is
  | inr short ↦ subst (λ bytes. IsVerdictOn bytes verdict) (take_all 1048577 whole (omega (arith, short))) is
]

pub tells_whole : (known : Option (List ℕ)) (bytes : List ℕ) (old new : Option (List ℕ)) (status : ℕ) → IfSome known (λ whole. bytes ≡ front_of whole)
    → TellsVerdict old new status bytes → IfSome known (TellsVerdict old new status)
tells_whole None bytes old new status front told = tt
tells_whole (Some whole) bytes old new status front told =
    (told.0, verdict_whole whole told.0 (subst (λ b. IsVerdictOn b told.0) front told.1), told.2, told.3)

pub fronts_whole : (known : Option (List ℕ)) (bytes : List ℕ) (old new : Option (List ℕ)) → IfSome known (λ whole. bytes ≡ front_of whole)
    → TellsFront old new bytes → IfSome known (TellsFront old new)
fronts_whole None bytes old new front told = tt
fronts_whole (Some whole) bytes old new front told =
    (told.0, verdict_whole whole told.0 (subst (λ b. IsVerdictOn b told.0) front told.1), told.2)

-- ---- statuses

-- a verdict's status is one of a check
pub status_is : (verdict : Verdict) (n : ℕ) → n ≡ status_for verdict → (n ≡ 0) ⊎ ((n ≡ 1) ⊎ (n ≡ 4))
status_is Accepted n e = inl e
status_is (Refused why) n e = inr (inl e)
