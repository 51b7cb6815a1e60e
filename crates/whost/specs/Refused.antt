-- Why there is no instance of a module: the numbers and names of the refusals, and when each comes.
use Rattle.std.specs.Prelude.{◌≡◌, ℕ, List, Any, All, codes}
use Rattle.wmodule.specs.Syntax.{ModuleSyntax}
use Rattle.wstore.specs.Store.{Store, first_store}
use Rattle.wstore.specs.Segments.{ElementsFit, DataFits}
use Rattle.wmach.specs.declared.outcome.Outcome.TheVariants as outcome
use Rattle.whost.specs.declared.fault.InstanceFault.{InstanceFault}
use Rattle.whost.specs.declared.fault.InstanceFault.TheVariants.{DataOutOfBounds, ElementOutOfBounds, StartTrap, StartExhausted, NoMemory}
use Rattle.whost.specs.Image.{InBounds, with_segments, StartEnds, IsImage}

-- a fault's number
abbrev pub number_of : InstanceFault → ℕ
number_of DataOutOfBounds = 1
number_of ElementOutOfBounds = 2
number_of (StartTrap trap) = 3
number_of StartExhausted = 4
number_of NoMemory = 5

-- a fault's name
abbrev pub name_of : InstanceFault → List ℕ
name_of DataOutOfBounds = codes "DataOutOfBounds"
name_of ElementOutOfBounds = codes "ElementOutOfBounds"
name_of (StartTrap trap) = codes "StartTrap"
name_of StartExhausted = codes "StartExhausted"
name_of NoMemory = codes "NoMemory"

-- Some element segment passes the end of a store's table; or none does, and some data segment
-- passes the end of its memory.
abbrev pub BoundsRefused : ModuleSyntax → Store → InstanceFault → Type 0
BoundsRefused m store ElementOutOfBounds = Any (λ s. ¬ (ElementsFit s store)) m.element_segments
BoundsRefused m store DataOutOfBounds =
    All (λ s. ElementsFit s store) m.element_segments × Any (λ s. ¬ (DataFits s store)) m.data_segments
BoundsRefused m store _ = ⊥

-- what stands where a start function's end keeps a module from being made an instance
abbrev pub StartRefused : ModuleSyntax → (before : Store) → (fuel : ℕ) → InstanceFault → Type 0
StartRefused m before fuel (StartTrap trap) = StartEnds m before fuel (outcome.Trap trap)
StartRefused m before fuel StartExhausted = StartEnds m before fuel outcome.Exhausted
StartRefused m before fuel _ = ⊥

-- what stands where a module is refused, with so much fuel for its start function
abbrev pub WhyRefused : ModuleSyntax → (fuel : ℕ) → InstanceFault → Type 0
WhyRefused m fuel NoMemory = Unit {0}
WhyRefused m fuel ElementOutOfBounds = BoundsRefused m (first_store m) ElementOutOfBounds
WhyRefused m fuel DataOutOfBounds = BoundsRefused m (first_store m) DataOutOfBounds
WhyRefused m fuel fault = InBounds m (first_store m) × StartRefused m (with_segments m (first_store m)) fuel fault

-- A module has one image at most with so much fuel; and where it has one, only want of memory keeps
-- it from being made an instance.
pub record OneImage : Type 0 where
  pub same : (m : ModuleSyntax) (fuel : ℕ) (image other : Store) → IsImage m fuel image → IsImage m fuel other → image ≡ other
  pub whole : (m : ModuleSyntax) (fuel : ℕ) (image : Store) (fault : InstanceFault) → IsImage m fuel image → WhyRefused m fuel fault → fault ≡ NoMemory
