use Rattle.std.proofs.Common.{Some, ap, ◌∙◌, map}
use Rattle.std.specs.Prelude.{slice_get, option_and_then}
use Rattle.wmodule.specs.declared.module.ImportKind.{ImportKind}
use Rattle.wbody.proofs.Found.{imported_type, imported_at, own_at}
use Rattle.wbody.proofs.scope.Scope.function.Goals as goal

pub returns-in-Function : goal.returns-in-Function
returns-in-Function c c' s =
    let imports = c.args.self.now.imports.now in
    let i = c.in-Some.import.now in
    let others = map (λ x. slice_get c'.types x) c.args.self.now.signatures.now in
    ap (λ l. option_and_then (λ t. t) (slice_get l c.args.index)) s.functions
    ∙ ap (option_and_then (λ t. t)) (imported_at c'.types imports others c.args.index i s.imports c.in-Some.ensures.lookup.3.0 c.in-Some.ensures.lookup.1 ∙ ap (λ (k : ImportKind). Some (imported_type c'.types k)) c.in-Function.is)
    ∙ c.listed.ensures c' s

pub returns-in_default : goal.returns-in_default
returns-in_default c c' s =
    let imports = c.args.self.now.imports.now in
    let others = map (λ x. slice_get c'.types x) c.args.self.now.signatures.now in
    ap (λ l. option_and_then (λ t. t) (slice_get l c.args.index)) s.functions
    ∙ ap (option_and_then (λ t. t)) (own_at c'.types imports others c.args.index s.imports (c.in_default.ensures.lookup.3))
    ∙ c.own.ensures c' s
