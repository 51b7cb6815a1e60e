-- What the evaluator's trees are seen as, in the definitions.
use Rattle.std.specs.Prelude.{ℕ, zero, suc, List, [], Option, None, option_map, map}
use Rattle.wcode.specs.Syntax.{Body, done, plain, block, loop, if_else, br_table}
use Rattle.wmodule.specs.Syntax.{FunctionSyntax, ModuleSyntax, signature_of, import_of}
use Rattle.wmach.specs.Configuration as machine
use Rattle.wplain.specs.declared.code.Code.{Code}
use Rattle.wplain.specs.declared.code.Code.TheVariants as code
use Rattle.wplain.specs.declared.setting.Function.{Function}
use Rattle.wplain.specs.declared.setting.Program.{Program}
use Rattle.wplain.specs.declared.setting.Records.{Records}
use Rattle.wplain.specs.declared.setting.Setting.{Setting}

abbrev pub body_of_code : Code → Body
body_of_code code.Done = done
body_of_code (code.Plain' p a rest) = plain p (body_of_code rest)
body_of_code (code.Block' t a inside b rest) = block t (body_of_code inside) (body_of_code rest)
body_of_code (code.Loop' t a inside b rest) = loop t (body_of_code inside) (body_of_code rest)
body_of_code (code.If' t a then_arm b else_arm c rest) = if_else t (body_of_code then_arm) (body_of_code else_arm) (body_of_code rest)
body_of_code (code.BrTable' labels default a rest) = br_table labels.items default (body_of_code rest)

abbrev pub function_of : Function → FunctionSyntax
function_of f = record { signature = f.signature; locals = f.locals.items; body = body_of_code f.body }

abbrev pub syntax_of : Program → ModuleSyntax
syntax_of p = record {
  types = map signature_of p.types.items;
  imports = map import_of p.imports.items;
  functions = map function_of p.functions.items;
  tables = p.tables.items;
  memories = p.memories.items;
  globals = [];
  exports = [];
  start = None;
  element_segments = [];
  data_segments = [];
}

abbrev pub records_of : Records → ℕ → Option (List ℕ)
records_of r zero = option_map (λ v. v.items) r.pod
records_of r (suc zero) = option_map (λ v. v.items) r.node
records_of r (suc (suc zero)) = option_map (λ v. v.items) r.second_pod
records_of r (suc (suc (suc zero))) = option_map (λ v. v.items) r.second_node
records_of r (suc (suc (suc (suc n)))) = None

abbrev pub setting_of : Setting → machine.Setting
setting_of s = record { module_syntax = syntax_of s.program; records = records_of s.records }
