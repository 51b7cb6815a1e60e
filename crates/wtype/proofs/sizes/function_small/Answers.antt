use Rattle.std.proofs.Common.{◌≡◌, ◌<◌, List, Some, None, length, get_or, sym, ap, ◌∙◌, subst, arith}
use Rattle.std.specs.Prelude.{slice_get}
use Rattle.wmodule.specs.declared.module.Tables.{Tables}
use Rattle.wmodule.specs.declared.module.LocalRun.{LocalRun}
use Rattle.wmodule.specs.Placed.{Stands}
use Rattle.wmodule.specs.Syntax.{Signature, FunctionSyntax, module_of, signature_of, function_with, code_in, locals_of}
use Rattle.wtype.proofs.Sized.{the_function, the_signature, resized}
use Rattle.wtype.proofs.sizes.function_small.Goals as goal

pub returns-in-Some : goal.returns-in-Some
returns-in-Some c f type f_at type_at =
    let p = c.args.decoded.now in
    let k = c.args.place in
    let stands = subst (Stands p.bytes) c.tables-tables.ensures.tables c.tables-tables.ensures.stands in
    let within_c : k < length p.tables.codes.items = omega (arith, c.requires, p.tables.codes.ok.0) in
    let within_s : k < length p.tables.signatures.items = omega (arith, stands.places.as_many) in
    let s = c.index.result.now in
    let code = c.index-in-Some.result.now in
    let s_is : s ≡ get_or p.tables.signatures.items k s = subst (λ (t : Tables). s ≡ get_or t.signatures.items k s) c.tables-tables.ensures.tables c.index.ensures in
    let code_is : code ≡ get_or p.tables.codes.items k code = subst (λ (t : Tables). code ≡ get_or t.codes.items k code) c.tables-tables.ensures.tables c.index-in-Some.ensures in
    let here = the_function p k s code within_s within_c s_is code_is in
    let f_is : function_with s (code_in p.bytes code) ≡ f = cc (here, f_at) in
    let t = signature_of c.in-Some.found.now in
    let listed : slice_get (module_of p).types s ≡ Some t = c.in-Some.ensures in
    let t_is : t ≡ type = cc (listed, type_at, ap (λ (g : FunctionSyntax). slice_get (module_of p).types g.signature) f_is) in
    resized c.fits.result c.len.result (length type.parameters) (length (locals_of c.as_slice.result.now)) (length f.locals) c.args.greatest
    (c.len.ensures ∙ c.in-Some.found.now.parameters.ok.0 ∙ ap (λ (x : Signature). length x.parameters) t_is)
    (ap (λ (l : List LocalRun). length (locals_of l)) c.as_slice.ensures.value ∙ ap (λ (g : FunctionSyntax). length g.locals) f_is)
    c.fits.ensures

pub returns-in-None : goal.returns-in-None
returns-in-None c f type f_at type_at few =
    let p = c.args.decoded.now in
    let k = c.args.place in
    let stands = subst (Stands p.bytes) c.tables-tables.ensures.tables c.tables-tables.ensures.stands in
    let within_c : k < length p.tables.codes.items = omega (arith, c.requires, p.tables.codes.ok.0) in
    let within_s : k < length p.tables.signatures.items = omega (arith, stands.places.as_many) in
    let s = c.index.result.now in
    let s_is : s ≡ get_or p.tables.signatures.items k s = subst (λ (t : Tables). s ≡ get_or t.signatures.items k s) c.tables-tables.ensures.tables c.index.ensures in
    let same = the_signature p k s f within_s within_c s_is f_at in
    let none : slice_get (module_of p).types s ≡ None = c.in-None.ensures in
    let there : slice_get (module_of p).types s ≡ Some type = ap (slice_get (module_of p).types) (sym same) ∙ type_at in
    absurd (cc (none, there))
