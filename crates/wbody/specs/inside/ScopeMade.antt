-- How the scope of a body is made.
use Rattle.std.specs.Prelude.{◌≡◌}
use Rattle.wmodule.specs.declared.module.Tables.{Tables}
use Rattle.wmodule.specs.declared.module.FunctionType.{FunctionType}
use Rattle.wmodule.specs.declared.module.FunctionCode.{FunctionCode}
use Rattle.wbody.specs.declared.scope.Scope.{Scope}
use Rattle.wbody.specs.Context.{is_there}

-- a scope is made of the tables, of the body's code and of its function's type
pub record ScopeIs (t : Tables) (type : FunctionType) (code : FunctionCode) (s : Scope) : Type 0 where
  pub types : s.types.now ≡ t.types.items
  pub imports : s.imports.now ≡ t.imports.items
  pub signatures : s.signatures.now ≡ t.signatures.items
  pub globals : s.globals.now ≡ t.globals.items
  pub has_table : s.has_table ≡ is_there t.tables.items
  pub has_memory : s.has_memory ≡ is_there t.memories.items
  pub parameters : s.parameters.now ≡ type.parameters.items
  pub locals : s.locals.now ≡ code.locals.items
  pub result : s.result ≡ type.result
