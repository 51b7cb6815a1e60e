use Rattle.std.proofs.Common.{◌≡◌, ◌+◌, false, Err, length, sym, ap, ◌∙◌, subst, arith, vec_len}
use Rattle.std.specs.Prelude.{slice_get, is_err}
use Rattle.std.proofs.lemmas.List.{length-map}
use Rattle.wmodule.specs.declared.module.Tables.{Tables}
use Rattle.wmodule.specs.Placed.{Stands}
use Rattle.wmodule.specs.Syntax.{module_of, import_of}
use Rattle.wbody.specs.BodyTyped.{BodyTyped}
use Rattle.wtype.proofs.Sized.{functions_count, some_at, with_last, after_push, after_push_len, function_typed, told, functions_imported, not_typed}
use Rattle.wtype.proofs.bodies.type_bodies.Goals as goal

pub type_body-requires-clause-imports : goal.type_body-requires-clause-imports
type_body-requires-clause-imports c = let m = module_of c.args.decoded.now in functions_imported m m.imports c.requires.imports

pub returns-in-Err-clause-refused : goal.returns-in-Err-clause-refused
returns-in-Err-clause-refused c =
    let p = c.args.decoded.now in
    let m = module_of p in
    let k = c.bodies.place in
    let stands = subst (Stands p.bytes) c.tables-tables.ensures.tables c.tables-tables.ensures.stands in
    let count = functions_count p stands.places.as_many in
    let codes : c.len-place-end.result ≡ vec_len p.tables.codes = c.len-place-end.ensures ∙ ap (λ (t : Tables). vec_len t.codes) c.tables-tables.ensures.tables in
    let a = some_at m.functions k (omega (arith, p.tables.codes.ok.0, c.bodies-test.true)) in
    let imports : c.len.result ≡ length m.imports = subst (λ (t : Tables). c.len.result ≡ length t.imports.items) c.tables-tables.ensures.tables (omega (arith, c.tables-tables.result.now.imports.ok.0)) ∙ sym (length-map p.tables.imports.items import_of) in
    told m c.in-Err.fault c.of_function.result (c.len.result + k) c.in-Err.ensures.refused c.of_function.ensures.untyped c.of_function.ensures.same c.requires.imports
    (λ function place e. (
      c.requires.rules,
      record {
        place = k;
        counted = ap (λ n. n + k) imports;
        function = a.element;
        function_is = a.is;
        untyped = not_typed m k a.element a.is (c.in-Err.ensures.untyped function place (ap (λ f. Err f) e));
        before = λ earlier f h is. (let n = some_at c.bodies.notes.items earlier (omega (arith, c.bodies.notes.ok.0, c.bodies.invariant.0)) in function_typed p earlier f n.element is (c.bodies.invariant.1 earlier n.element n.is));
      },
    ))

pub bodies-preserved : goal.bodies-preserved
bodies-preserved c =
    let p = c.args.decoded.now in
    let fine : is_err c.push.result ≡ false = sym c.is_err.ensures.value ∙ c.if-is_err.false in
    let items = after_push c.push.result c.push.new.self.items c.bodies.notes.items c.in-Ok.found fine c.push.ensures.items in
    let place : c.bodies.place ≡ length c.bodies.notes.items = sym c.bodies.invariant.0 ∙ c.bodies.notes.ok.0 in
    let last = subst (λ k. BodyTyped p k c.in-Ok.found) place c.in-Ok.ensures.typed in
    let each = with_last (λ k n. BodyTyped p k n) c.bodies.notes.items c.in-Ok.found c.bodies.invariant.1 last in (
      after_push_len c.push.result (vec_len c.push.new.self) (vec_len c.bodies.notes) fine c.push.ensures.len ∙ ap (λ n. n + 1) c.bodies.invariant.0,
      λ k n e. each k n (ap (λ l. slice_get l k) (sym items) ∙ e),
    )

pub returns-clause-typed : goal.returns-clause-typed
returns-clause-typed c =
    let p = c.args.decoded.now in
    let stands = subst (Stands p.bytes) c.tables-tables.ensures.tables c.tables-tables.ensures.stands in
    let count = functions_count p stands.places.as_many in
    let codes : c.len-place-end.result ≡ vec_len p.tables.codes = c.len-place-end.ensures ∙ ap (λ (t : Tables). vec_len t.codes) c.tables-tables.ensures.tables in
    record { count = omega (arith, count, c.bodies.notes.ok.0, c.bodies.invariant.0, c.bodies-test.false, c.bodies.auto.place-end, p.tables.codes.ok.0); each = c.bodies.invariant.1 }

pub returns-clause-many : goal.returns-clause-many
returns-clause-many c =
    let p = c.args.decoded.now in
    let codes : c.len-place-end.result ≡ vec_len p.tables.codes = c.len-place-end.ensures ∙ ap (λ (t : Tables). vec_len t.codes) c.tables-tables.ensures.tables in
    omega (arith, c.bodies.invariant.0, c.bodies-test.false, c.bodies.auto.place-end)
