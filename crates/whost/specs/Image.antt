-- What a module's calls begin from: its segments written, and its start function run (WebAssembly
-- Core 1.0, 4.5.4).
use Rattle.std.specs.Prelude.{◌≡◌, ℕ, List, Option, Some, None, All, fold}
use Rattle.wmodule.specs.Syntax.{ElementSyntax, DataSyntax, ModuleSyntax}
use Rattle.wstore.specs.Store.{Store, first_store}
use Rattle.wstore.specs.Segments.{ElementsFit, DataFits, with_elements, with_data}
use Rattle.wmach.specs.declared.outcome.Outcome.{Outcome}
use Rattle.wmach.specs.declared.outcome.Outcome.TheVariants as outcome
use Rattle.wmach.specs.Outcome.{HasOutcome}

-- each element segment of the module lies within a store's table, and each data segment within its
-- memory
pub record InBounds (m : ModuleSyntax) (store : Store) : Type 0 where
  pub elements : All (λ s. ElementsFit s store) m.element_segments
  pub data_segments : All (λ s. DataFits s store) m.data_segments

-- a store with element segments written, one after the other, and with data segments
abbrev pub with_all_elements : List ElementSyntax → Store → Store
with_all_elements segments store = fold (λ before s. with_elements s before) store segments

abbrev pub with_all_data : List DataSyntax → Store → Store
with_all_data segments store = fold (λ before s. with_data s before) store segments

-- a store with all the module's segments written, the element segments first
unfoldable pub with_segments : ModuleSyntax → Store → Store
with_segments m store = with_all_data m.data_segments (with_all_elements m.element_segments store)

-- how a function of the module ends that is given no record
abbrev pub EndsAlone : ModuleSyntax → Store → (function fuel : ℕ) → Outcome → (after : Store) → Type 0
EndsAlone m before function fuel outcome after =
    HasOutcome (record { module_syntax = m; records = λ import. None }) before function fuel outcome after

-- The start function, if there is one, has returned within its fuel, and the store is what it left.
abbrev pub Started : ModuleSyntax → Option ℕ → (before : Store) → (fuel : ℕ) → (after : Store) → Type 0
Started m None before fuel after = after ≡ before
Started m (Some function) before fuel after = (cost : ℕ) × EndsAlone m before function fuel (outcome.Value None cost) after

-- The start function is there, and it ends otherwise.
abbrev pub StartEnds : ModuleSyntax → (before : Store) → (fuel : ℕ) → (ℕ → Outcome) → Type 0
StartEnds m before fuel outcome =
    (function : ℕ) × (cost : ℕ) × (after : Store) × (m.start ≡ Some function) × EndsAlone m before function fuel (outcome cost) after

-- The image of a module, with so much fuel for its start function: all segments are in bounds of
-- the first store and written into it, and then start has returned, or there is none.
pub record IsImage (m : ModuleSyntax) (fuel : ℕ) (image : Store) : Type 0 where
  pub in_bounds : InBounds m (first_store m)
  pub started : Started m m.start (with_segments m (first_store m)) fuel image
