-- Calls of an instance: each begins from the image.
use Rattle.std.specs.Prelude.{◌≡◌, ℕ, Some}
use Rattle.wmodule.specs.Syntax.{module_of}
use Rattle.wmach.specs.declared.export.Export.{Export}
use Rattle.wmach.specs.declared.outcome.Outcome.{Outcome}
use Rattle.wmach.specs.Outcome.{HasOutcome}
use Rattle.wmach.specs.Call.{MachineState, called_function}
use Rattle.whost.specs.declared.records.Records.{Records}
use Rattle.whost.specs.Handed.{record_of}

-- A call from the image: its outcome and the store that it leaves are the call's of this export's
-- function from there, whatever the store was before.
pub record CallsFromImage (before : MachineState) (export : Export) (records : Records) (fuel : ℕ) (outcome : Outcome) (after : MachineState) : Type 0 where
  pub function : ℕ
  pub function_is : called_function (module_of before.content) export ≡ Some function
  pub ends : HasOutcome (record { module_syntax = module_of before.content; records = record_of records }) before.image function fuel outcome after.store

-- Instances of one module with one image give one outcome, with the same records and fuel, whatever
-- each was called for before, and leave one store.
abbrev pub CallsAgree : Type 0
CallsAgree =
    (first second first_after second_after : MachineState) (export : Export) (records : Records) (fuel : ℕ) (one other : Outcome) →
    first.content ≡ second.content → first.image ≡ second.image →
    CallsFromImage first export records fuel one first_after → CallsFromImage second export records fuel other second_after →
    (one ≡ other) × (first_after.store ≡ second_after.store)
