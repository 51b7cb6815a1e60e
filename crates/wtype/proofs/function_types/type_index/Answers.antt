use Rattle.std.proofs.Common.{◌≡◌, ◌-◌, ℕ, List, Some, length, get_or, sym, ap, ◌∙◌, subst, arith}
use Rattle.std.specs.Prelude.{slice_get, option_map}
use Rattle.wmodule.specs.declared.module.Tables.{Tables}
use Rattle.wmodule.specs.declared.module.ImportKind.{ImportKind}
use Rattle.wmodule.specs.Placed.{Stands}
use Rattle.wmodule.specs.Syntax.{module_of}
use Rattle.wtype.proofs.FunctionTypes.{imported_type, imported_at, own_at, only_functions, copied_is}
use Rattle.wtype.proofs.function_types.type_index.Goals as goal

pub returns-in-Function : goal.returns-in-Function
returns-in-Function c =
    let p = c.args.decoded.now in
    let stands = subst (Stands p.bytes) c.tables-tables.ensures.tables c.tables-tables.ensures.stands in
    let i = c.index.result.now in
    let count : c.len.result ≡ length p.tables.imports.items = subst (λ (t : Tables). c.len.result ≡ length t.imports.items) c.tables-tables.ensures.tables (omega (arith, c.tables-tables.result.now.imports.ok.0)) in
    let is : i ≡ get_or p.tables.imports.items c.args.index i = subst (λ (t : Tables). i ≡ get_or t.imports.items c.args.index i) c.tables-tables.ensures.tables c.index.ensures in
    imported_at p c.args.index i c.requires stands.places.as_many (omega arith) is ∙ ap (λ (kind : ImportKind). Some (imported_type (module_of p).types kind)) c.in-Function.is

pub returns-in_default : goal.returns-in_default
returns-in_default c =
    let p = c.args.decoded.now in
    let i = c.index.result.now in
    let count : c.len.result ≡ length p.tables.imports.items = subst (λ (t : Tables). c.len.result ≡ length t.imports.items) c.tables-tables.ensures.tables (omega (arith, c.tables-tables.result.now.imports.ok.0)) in
    let is : i ≡ get_or p.tables.imports.items c.args.index i = subst (λ (t : Tables). i ≡ get_or t.imports.items c.args.index i) c.tables-tables.ensures.tables c.index.ensures in
    absurd (only_functions p c.args.index i c.requires (omega arith) is c.in_default.not-Function)

pub returns-else-place-len : goal.returns-else-place-len
returns-else-place-len c =
    let p = c.args.decoded.now in
    let stands = subst (Stands p.bytes) c.tables-tables.ensures.tables c.tables-tables.ensures.stands in
    let k = c.args.index - c.len-else-place-len.result in
    let first : c.len.result ≡ length p.tables.imports.items = subst (λ (t : Tables). c.len.result ≡ length t.imports.items) c.tables-tables.ensures.tables (omega (arith, c.tables-tables.result.now.imports.ok.0)) in
    let count : c.len-else-place-len.result ≡ length p.tables.imports.items = subst (λ (t : Tables). c.len-else-place-len.result ≡ length t.imports.items) c.tables-tables.ensures.tables (omega (arith, c.tables-tables.result.now.imports.ok.0)) in
    let list : c.deref.result.now ≡ p.tables.signatures.items = c.deref.ensures.value ∙ ap (λ (t : Tables). t.signatures.items) c.tables-tables.ensures.tables in
    let got : c.copied.result ≡ slice_get p.tables.signatures.items k = c.copied.ensures ∙ copied_is c.deref.result.now k c.get.result c.get.ensures.lookup.0 c.get.ensures.lookup.1 ∙ ap (λ (l : List ℕ). slice_get l k) list in
    own_at p c.args.index c.requires stands.places.as_many (omega (arith, c.if-place-len.false))
    ∙ ap (λ n. option_map (slice_get (module_of p).types) (slice_get p.tables.signatures.items (c.args.index - n))) (sym count)
    ∙ ap (option_map (slice_get (module_of p).types)) (sym got)
