-- What instructions can read and write besides locals (WebAssembly Core 1.0, 4.2.3), and what it is
-- at first (4.5.3).
use Rattle.std.specs.Prelude.{ℕ, ◌*◌, List, [], ◌∷◌, Option, Some, None, map, replicate, min}
use Rattle.wcode.specs.declared.value.Value.{Value}
use Rattle.wmem.specs.Memory.{page_size, most_pages}
use Rattle.wmodule.specs.declared.module.Limits.{Limits}
use Rattle.wmodule.specs.Syntax.{GlobalSyntax, ModuleSyntax}
use Rattle.wstore.specs.Values.{first_value}

-- The bytes of the memory, the globals, and for each element of the table the index of a function,
-- or none.
pub record Store : Type 0 where
  pub memory : List ℕ
  pub globals : List Value
  pub table : List (Option ℕ)

-- The most pages that a memory of these limits grows to: what is declared, and no more than there
-- may be.
abbrev pub most_of : Option ℕ → ℕ
most_of None = most_pages
most_of (Some most) = min most most_pages

abbrev pub cap_of : List Limits → ℕ
cap_of [] = 0
cap_of (l ∷ ls) = most_of l.most

-- bytes of a memory of so many pages at first, if there is one
abbrev pub first_memory : List Limits → List ℕ
first_memory [] = []
first_memory (l ∷ ls) = replicate (l.least * page_size) 0

abbrev pub first_table : List Limits → List (Option ℕ)
first_table [] = []
first_table (l ∷ ls) = replicate l.least None

-- The store of a module at first: a memory of zeros, the globals at their constants, an empty table
-- (4.5.3).
abbrev pub first_store : ModuleSyntax → Store
first_store m = record {
  memory = first_memory m.memories;
  globals = map (λ (g : GlobalSyntax). first_value g.first g.kind.value) m.globals;
  table = first_table m.tables;
}
