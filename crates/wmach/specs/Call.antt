-- What is called of a module, the laws of all calls, and what a machine is seen as.
use Rattle.std.specs.Prelude.{◌≡◌, ℕ, ◌<◌, ◌≤◌, List, Option, Some, None, IfSome, option_map}
use Rattle.std.specs.List.{AllByRecursion}
use Rattle.wcode.specs.declared.value.ValueType.{ValueType}
use Rattle.wcode.specs.declared.value.ValueType.TheVariants.{I32, I64}
use Rattle.wcode.specs.Operators.{type_of}
use Rattle.wmodule.specs.Syntax.{ModuleSyntax, ModuleParts, module_of}
use Rattle.wtype.specs.Accepted.{Accepted, export_named, filter_name, score_name}
use Rattle.wmach.specs.declared.export.Export.{Export}
use Rattle.wmach.specs.declared.export.Export.TheVariants.{Filter, Score, Start}
use Rattle.wmach.specs.declared.outcome.Outcome.{Outcome}
use Rattle.wmach.specs.declared.outcome.Outcome.TheVariants as outcome
use Rattle.wmach.specs.Configuration.{Store, Setting, Configuration}
use Rattle.wmach.specs.Operands.{InRange}
pub use Rattle.wstore.specs.Values.{first_value}
pub use Rattle.wstore.specs.Store.{first_memory, first_table, first_store}
use Rattle.wmach.specs.Fits.{StoreFits, StoreTyped}
use Rattle.wmach.specs.Outcome.{Chain, Stuck, call_of, cost_of, HasOutcome}

-- the function that is called, by its index, if it is there
abbrev pub called_function : ModuleSyntax → Export → Option ℕ
called_function m Filter = option_map (λ e. e.index) (export_named filter_name m.exports)
called_function m Score = option_map (λ e. e.index) (export_named score_name m.exports)
called_function m Start = m.start

-- No chain of reductions of a call leads to where neither a rule applies nor the call has ended:
-- whatever accepted module, store that keeps its types and limits, records, and function that can
-- be called.
abbrev pub NeverStuck : Type 0
NeverStuck =
    (setting : Setting) (store : Store) (export : Export) (function : ℕ) →
    Accepted (setting.module_syntax) → StoreTyped (setting.module_syntax) store →
    called_function (setting.module_syntax) export ≡ Some function →
    (n cost : ℕ) (c : Configuration) → Chain setting n (call_of store function) cost c → ¬ (Stuck setting c)

-- A call ends in one way: with the same fuel two outcomes of it are one, and so are the stores that
-- they leave.
abbrev pub OneOutcome : Type 0
OneOutcome =
    (setting : Setting) (before : Store) (function fuel : ℕ) (first second : Outcome) (after_first after_second : Store) →
    HasOutcome setting before function fuel first after_first → HasOutcome setting before function fuel second after_second →
    (first ≡ second) × (after_first ≡ after_second)

-- a record is bytes
abbrev pub RecordsFit : (ℕ → Option (List ℕ)) → Type 0
RecordsFit records = (import : ℕ) → IfSome (records import) (λ bytes. AllByRecursion (λ byte. byte < 256) bytes)

-- the type of what a call gives
abbrev pub result_type : Export → Option ValueType
result_type Filter = Some I32
result_type Score = Some I64
result_type Start = None

-- a value of an outcome is of this type and in range, or there is none where none is given
abbrev pub ResultFits : Option ValueType → Outcome → Type 0
ResultFits t (outcome.Value result cost) = (option_map type_of result ≡ t) × IfSome result InRange
ResultFits t (outcome.Trap name cost) = Unit {0}
ResultFits t (outcome.Exhausted cost) = Unit {0}

-- What a call leaves, however it ends: a store that fits the module, so that it can be called
-- again, and of a function that returned just its result.
pub record CallLeaves (m : ModuleSyntax) (export : Export) (outcome : Outcome) (after : Store) : Type 0 where
  pub store : StoreFits m after
  pub result : ResultFits (result_type export) outcome

abbrev pub WhatACallLeaves : Type 0
WhatACallLeaves =
    (setting : Setting) (before : Store) (export : Export) (function : ℕ) →
    Accepted (setting.module_syntax) → StoreFits (setting.module_syntax) before → RecordsFit setting.records →
    called_function (setting.module_syntax) export ≡ Some function →
    (fuel : ℕ) (outcome : Outcome) (after : Store) → HasOutcome setting before function fuel outcome after → CallLeaves (setting.module_syntax) export outcome after

-- an outcome of a call
pub record SomeOutcome (setting : Setting) (before : Store) (function fuel : ℕ) : Type 0 where
  pub outcome : Outcome
  pub after : Store
  pub is : HasOutcome setting before function fuel outcome after

-- Every call ends: whatever accepted module, store that fits it, records and function that can be
-- called, and however much fuel.
abbrev pub CallsEnd : Type 0
CallsEnd =
    (setting : Setting) (before : Store) (export : Export) (function : ℕ) →
    Accepted (setting.module_syntax) → StoreFits (setting.module_syntax) before →
    called_function (setting.module_syntax) export ≡ Some function →
    (fuel : ℕ) → SomeOutcome setting before function fuel

-- No call costs more than its fuel.
abbrev pub CostWithinFuel : Type 0
CostWithinFuel =
    (setting : Setting) (before : Store) (function fuel : ℕ) (outcome : Outcome) (after : Store) →
    HasOutcome setting before function fuel outcome after → cost_of outcome ≤ fuel

-- the call ended before its fuel did
abbrev pub HasEnded : Outcome → Type 0
HasEnded (outcome.Value result cost) = Unit {0}
HasEnded (outcome.Trap name cost) = Unit {0}
HasEnded (outcome.Exhausted cost) = ⊥

-- With more fuel a call that ended ends alike, at the same cost.
abbrev pub MoreFuelChangesNothing : Type 0
MoreFuelChangesNothing =
    (setting : Setting) (before : Store) (function fuel more : ℕ) (outcome : Outcome) (after : Store) →
    fuel ≤ more → HasEnded outcome → HasOutcome setting before function fuel outcome after → HasOutcome setting before function more outcome after

-- no records are given to a start function
abbrev pub records_for : Export → (ℕ → Option (List ℕ)) → ℕ → Option (List ℕ)
records_for Filter records = records
records_for Score records = records
records_for Start records = λ import. None

-- what a machine is seen as: its module, its store, and the image that the store can be brought
-- back to
pub record MachineState : Type 0 where
  pub content : ModuleParts
  pub store : Store
  pub image : Store

-- a new one: the module's first store, which is also the image
abbrev pub first_machine : ModuleParts → MachineState
first_machine p = record { content = p; store = first_store (module_of p); image = first_store (module_of p) }

-- a call of a machine, and the machine after it: module and image stay, and the outcome and the
-- store are the call's
pub record Calls (before : MachineState) (export : Export) (records : ℕ → Option (List ℕ)) (fuel : ℕ) (outcome : Outcome) (after : MachineState) : Type 0 where
  pub content : after.content ≡ before.content
  pub image : after.image ≡ before.image
  pub function : ℕ
  pub function_is : called_function (module_of before.content) export ≡ Some function
  pub ends : HasOutcome (record { module_syntax = module_of before.content; records = records_for export records }) before.store function fuel outcome after.store

-- The first store of an accepted module fits it.
abbrev pub FirstStoreFits : Type 0
FirstStoreFits = (m : ModuleSyntax) → Accepted m → StoreFits m (first_store m)
