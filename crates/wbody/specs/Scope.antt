-- What the code's scopes and open blocks are seen as.
use Rattle.wmodule.specs.declared.module.ImportKind.{ImportKind}
use Rattle.wmodule.specs.declared.module.ImportKind.TheVariants as imported

-- a function is imported, and nothing else
abbrev pub IsFunctionImport : ImportKind → Type 0
IsFunctionImport (imported.Function index) = Unit {0}
IsFunctionImport (imported.Table l) = ⊥
IsFunctionImport (imported.Memory l) = ⊥
IsFunctionImport (imported.Global t) = ⊥
