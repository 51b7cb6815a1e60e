-- What is under way, typed (WebAssembly Core 1.0, the soundness appendix).
use Rattle.std.proofs.Common.{◌≡◌, List, [], ◌∷◌, ◌++◌, Option, Some, length, reverse, map}
use Rattle.std.specs.Prelude.{slice_get}
use Rattle.wcode.specs.declared.value.ValueType.{ValueType}
use Rattle.wmodule.specs.Syntax.{Signature, ModuleSyntax}
use Rattle.wbody.specs.Context.{Operands, Context, at_most_one, function_types, is_there}
use Rattle.wbody.specs.Typing.{Typed}
use Rattle.wmach.specs.Configuration.{Execution, instructions, label, frame, invoke, trap}
use Rattle.wmach.specs.Fits.{types_of}

-- in a module, with these locals, labels and result
abbrev pub inner_context : ModuleSyntax → List ValueType → List Operands → Option Operands → Context
inner_context m locals labels result = record {
  types = m.types;
  functions = function_types m;
  has_table = is_there m.tables;
  has_memory = is_there m.memories;
  globals = map (λ g. g.kind) m.globals;
  locals = locals;
  labels = labels;
  result = result;
}

-- what is under way leaves these operands, where its frame has these locals, it stands under these
-- labels, and a return carries this
abbrev pub ExecutionTyped : ModuleSyntax → List ValueType → List Operands → Option Operands → Execution → Operands → Type 0
ExecutionTyped m locals labels result (instructions values rest) after =
    Typed (inner_context m locals labels result) rest (types_of values) after
ExecutionTyped m locals labels result (label below arity continuation inside rest) after =
    (carries : Operands) × (leaves : Operands) ×
    (length carries ≡ arity) ×
    Typed (inner_context m locals labels result) continuation carries leaves ×
    ExecutionTyped m locals (carries ∷ labels) result inside leaves ×
    Typed (inner_context m locals labels result) rest (leaves ++ types_of below) after
ExecutionTyped m outer labels result (frame below arity locals inside rest) after =
    (leaves : Operands) ×
    (length leaves ≡ arity) ×
    ExecutionTyped m (types_of locals) [] (Some leaves) inside leaves ×
    Typed (inner_context m outer labels result) rest (leaves ++ types_of below) after
ExecutionTyped m locals labels result (invoke values function rest) after =
    (type : Signature) × (below : Operands) ×
    (slice_get (function_types m) function ≡ Some (Some type)) ×
    (types_of values ≡ reverse type.parameters ++ below) ×
    Typed (inner_context m locals labels result) rest (at_most_one type.result ++ below) after
ExecutionTyped m locals labels result (trap t) after = Unit {0}
