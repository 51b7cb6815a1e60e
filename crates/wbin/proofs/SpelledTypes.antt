-- Types that are spelled, and bytes that spell none.
use Rattle.std.proofs.Common.{◌≡◌, ◌≢◌, ℕ, ◌+◌, inl, inr, List, ◌∷◌, drop, Some, None, Result, Ok, Err, refl, sym, subst, arith}
use Rattle.wcode.specs.declared.value.ValueType.{ValueType}
use Rattle.wcode.specs.Grammar.{SpellsIndex}
use Rattle.wcode.proofs.Words.{index_once}
use Rattle.wmodule.specs.declared.module.Limits.{Limits}
use Rattle.wmodule.specs.declared.module.ImportKind.TheVariants as imported
use Rattle.wmodule.specs.Grammar.{Byte, SpellsEach, SpellsVector, SpellsValueType, SpellsResults, SpellsFunctionType, SpellsLimits, SpellsTableType, SpellsGlobalType, import_byte, SpellsImportKind}
use Rattle.wbin.specs.inside.Reading.{Nothing, Reads, SpellsBoth}
use Rattle.wcode.specs.declared.fault.BinFault.{BinFault}
use Rattle.wbin.specs.inside.Unique.{byte_once}

pub no_results : (bytes next : List ℕ) → SpellsIndex bytes 0 next → SpellsResults bytes None next
unfolding SpellsEach
no_results bytes next h = (next, h, refl)

pub one_result : (bytes next : List ℕ) (t : ValueType) (rest : List ℕ) → SpellsIndex bytes 1 next → SpellsValueType next t rest → SpellsResults bytes (Some t) rest
unfolding SpellsEach
one_result bytes next t rest h k = (next, h, (rest, k, refl))

pub result_missing : (bytes next : List ℕ) → SpellsIndex bytes 1 next → Nothing SpellsValueType next → Nothing SpellsResults bytes
unfolding SpellsEach
result_missing bytes next h none None rest k = let p = index_once bytes 1 0 next k.0 h k.1 in absurd (omega (arith, p.0))
result_missing bytes next h none (Some t) rest k =
    let p = index_once bytes 1 1 next k.0 h k.1 in none t k.2.0 (subst (λ b. SpellsValueType b t k.2.0) (sym p.1) k.2.1)

pub many_results : (bytes next : List ℕ) (count : ℕ) → SpellsIndex bytes count next → count ≢ 0 → count ≢ 1 → Nothing SpellsResults bytes
many_results bytes next count h p q None rest k = p (index_once bytes count 0 next k.0 h k.1).0
many_results bytes next count h p q (Some t) rest k = q (index_once bytes count 1 next k.0 h k.1).0

pub function_type_missing : (bytes more : List ℕ) → Byte 0x60 bytes more → Nothing (SpellsBoth (SpellsVector SpellsValueType) SpellsResults) more → Nothing SpellsFunctionType bytes
function_type_missing bytes more e none x rest h =
    let p = byte_once 0x60 0x60 bytes more h.0 e h.2 in
    none (x.parameters, x.result) rest (h.1, subst (λ b. SpellsVector SpellsValueType b x.parameters h.1) (sym p.1) h.3, h.4)

pub table_type_missing : (bytes more : List ℕ) → Byte 0x70 bytes more → Nothing SpellsLimits more → Nothing SpellsTableType bytes
table_type_missing bytes more e none x rest h =
    let p = byte_once 0x70 0x70 bytes more h.0 e h.1 in none x rest (subst (λ b. SpellsLimits b x rest) (sym p.1) h.2)

pub most_missing : (bytes more : List ℕ) → bytes ≡ 1 ∷ more → Nothing (SpellsBoth SpellsIndex SpellsIndex) more → Nothing SpellsLimits bytes
most_missing bytes more e none x rest h = elim h [
  | inl a ↦ (let p = byte_once 1 0 bytes more a.0 e a.1 in absurd (omega (arith, p.0)))
  | inr a ↦ (let p = byte_once 1 1 bytes more a.0 e a.3 in none (x.least, a.2) rest (a.1, subst (λ b. SpellsIndex b x.least a.1) (sym p.1) a.5, a.6))
]

-- imports of each kind
pub table_missing : (bytes more : List ℕ) → bytes ≡ 1 ∷ more → Nothing SpellsTableType more → Nothing SpellsImportKind bytes
table_missing bytes more e none (imported.Table x) rest h = let p = byte_once 1 1 bytes more h.0 e h.1 in none x rest (subst (λ b. SpellsTableType b x rest) (sym p.1) h.2)
table_missing bytes more e none x rest h = let p = byte_once 1 (import_byte x) bytes more h.0 e h.1 in absurd (omega (arith, p.0))

pub memory_missing : (bytes more : List ℕ) → bytes ≡ 2 ∷ more → Nothing SpellsLimits more → Nothing SpellsImportKind bytes
memory_missing bytes more e none (imported.Memory x) rest h = let p = byte_once 2 2 bytes more h.0 e h.1 in none x rest (subst (λ b. SpellsLimits b x rest) (sym p.1) h.2)
memory_missing bytes more e none x rest h = let p = byte_once 2 (import_byte x) bytes more h.0 e h.1 in absurd (omega (arith, p.0))

pub global_missing : (bytes more : List ℕ) → bytes ≡ 3 ∷ more → Nothing SpellsGlobalType more → Nothing SpellsImportKind bytes
global_missing bytes more e none (imported.Global x) rest h = let p = byte_once 3 3 bytes more h.0 e h.1 in none x rest (subst (λ b. SpellsGlobalType b x rest) (sym p.1) h.2)
global_missing bytes more e none x rest h = let p = byte_once 3 (import_byte x) bytes more h.0 e h.1 in absurd (omega (arith, p.0))

pub table_type_reads : (bytes : List ℕ) (at : ℕ) (r : Result (Limits × ℕ) BinFault) → Byte 0x70 (drop at bytes) (drop (at + 1) bytes) → Reads SpellsLimits (λ l. l) bytes (at + 1) r
    → Reads SpellsTableType (λ l. l) bytes at r
unfolding Reads
table_type_reads bytes at (Ok x) e h = (h.0, (drop (at + 1) bytes, e, h.1))
table_type_reads bytes at (Err f) e h = λ m. table_type_missing (drop at bytes) (drop (at + 1) bytes) e (h m)
