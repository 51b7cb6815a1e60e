use Rattle.std.proofs.Common.{rules, ◌≡◌, ◌∙◌, ◌++◌, Some, map, ap, subst}
use Rattle.std.specs.Prelude.{slice_get, option_and_then}
use Rattle.wmodule.specs.Syntax.{import_of, signature_of}
use Rattle.wbody.specs.Context.{imported_functions}
use Rattle.wplain.specs.Seen.{syntax_of, function_of}
use Rattle.wplain.proofs.calls.type_of.Goals as goal

pub returns : goal.returns
returns c =
    let m = syntax_of c.args.program.now in
    let one = subst (λ is. slice_get (imported_functions m.types (map import_of is) ++ map (λ f. slice_get m.types f.signature) (map function_of c.as_slice-functions.result.now)) c.args.function ≡ Some (slice_get m.types c.in_ok-index.index)) c.as_slice-imports.ensures.value (c.in_ok-index.ensures m.types) in
    let at = subst (λ fs. slice_get (imported_functions m.types m.imports ++ map (λ f. slice_get m.types f.signature) (map function_of fs)) c.args.function ≡ Some (slice_get m.types c.in_ok-index.index)) c.as_slice-functions.ensures.value one in
    let found : slice_get m.types c.in_ok-index.index ≡ Some (signature_of c.in_ok-t.t.now) = search rules in
    ap (option_and_then (λ x. x)) at ∙ found
