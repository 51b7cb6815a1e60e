-- What a store's fields mean.
use Rattle.std.specs.Prelude.{◌≡◌, ℕ, ◌*◌, ◌≤◌, List, length}
use Rattle.std.specs.Arc.{arc_value}
use Rattle.std.specs.List.{AllByRecursion}
use Rattle.wmem.specs.Memory.{page_size}
use Rattle.wmodule.specs.declared.module.GlobalVariable.{GlobalVariable}
use Rattle.wmodule.specs.Syntax.{ModuleParts, module_of}
use Rattle.wstore.specs.declared.store.Store.TheInside.{Inside}
use Rattle.wstore.specs.Values.{InRange}
use Rattle.wstore.specs.inside.Words.{values_in}
use Rattle.wstore.specs.Store.{cap_of}
use Rattle.wstore.specs.inside.Store.{least_of}
use Rattle.wstore.specs.Fits.{TableFits}
use Rattle.wstore.specs.State.{StoreState}

-- the module that the fields share
abbrev pub parts_of : Inside → ModuleParts
parts_of s = (arc_value s.checked).content

-- memory, globals and table, each as it is and as it was
abbrev pub state_of : Inside → StoreState
state_of s = record {
  checked = arc_value s.checked;
  current = record {
    memory = s.memory.bytes;
    globals = values_in (parts_of s).tables.globals.items s.globals.places;
    table = s.table.places;
  };
  image = record {
    memory = s.memory.image;
    globals = values_in (parts_of s).tables.globals.items s.globals.image;
    table = s.table.image;
  };
}

-- a number for each global, in the range of its type
pub record GlobalsFit (globals : List GlobalVariable) (words : List ℕ) : Type 0 where
  pub as_many : length words ≡ length globals
  pub in_range : AllByRecursion InRange (values_in globals words)

-- what is kept is what the module declares
pub record IsSound (s : Inside) : Type 0 where
  pub cap : s.memory.cap ≡ cap_of (parts_of s).tables.memories.items
  pub least : page_size * least_of (parts_of s).tables.memories.items ≤ length s.memory.image
  pub globals : GlobalsFit (parts_of s).tables.globals.items s.globals.places
  pub image_globals : GlobalsFit (parts_of s).tables.globals.items s.globals.image
  pub table : TableFits (module_of (parts_of s)) (parts_of s).tables.tables.items s.table.places
  pub image_table : TableFits (module_of (parts_of s)) (parts_of s).tables.tables.items s.table.image
