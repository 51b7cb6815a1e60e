-- Why a module is refused: the first of the four parts that isn't so.
use Rattle.std.specs.Prelude.{◌≡◌, ℕ, ◌+◌, ◌<◌, Option, Some, None, ⊤, length, slice_get}
use Rattle.wmodule.specs.Syntax.{FunctionSyntax, ModuleSyntax}
use Rattle.wbody.specs.declared.fault.TypeFault.{TypeFault}
use Rattle.wbody.specs.declared.fault.TypeFault.TheVariants.{Untyped, BadImport, BadExport, OverLimit, NoMemory}
use Rattle.wtype.specs.Accepted.{ImportsRight, RulesKept, FunctionTyped, ModuleTyped, ExportsRight, ModuleSmall}

-- The function with this index, where imported functions count first, is the first whose body has
-- no typing.
pub record FirstUntyped (m : ModuleSyntax) (index : ℕ) : Type 0 where
  pub place : ℕ
  pub counted : index ≡ length m.imports + place
  pub function : FunctionSyntax
  pub function_is : slice_get m.functions place ≡ Some function
  pub untyped : FunctionTyped m function → ⊥
  pub before : (earlier : ℕ) (f : FunctionSyntax) → earlier < place → slice_get m.functions earlier ≡ Some f → FunctionTyped m f

-- a rule that is broken, or a function
abbrev pub WhyUntyped : ModuleSyntax → Option ℕ → Type 0
WhyUntyped m None = RulesKept m → ⊥
WhyUntyped m (Some index) = RulesKept m × FirstUntyped m index

-- what a fault says; want of memory says nothing of the module
abbrev pub WhyRefused : ModuleSyntax → TypeFault → Type 0
WhyRefused m (Untyped function place) = ImportsRight m × WhyUntyped m function
WhyRefused m BadImport = ImportsRight m → ⊥
WhyRefused m BadExport = ImportsRight m × ModuleTyped m × (ExportsRight m → ⊥)
WhyRefused m OverLimit = ImportsRight m × ModuleTyped m × ExportsRight m × (ModuleSmall m → ⊥)
WhyRefused m NoMemory = ⊤
