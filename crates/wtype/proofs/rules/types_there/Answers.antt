use Rattle.std.proofs.Common.{◌≡◌, ◌<◌, ℕ, List, length, map, sym, ap, ◌∙◌, subst}
use Rattle.std.proofs.lemmas.List.{length-map}
use Rattle.std.specs.List.{AllByRecursion}
use Rattle.wmodule.specs.declared.module.Tables.{Tables}
use Rattle.wmodule.specs.Placed.{Stands}
use Rattle.wmodule.specs.Syntax.{Code, module_of, signature_of, code_in}
use Rattle.wtype.proofs.Kept.{same_test, types_found, types_within}
use Rattle.wtype.proofs.rules.types_there.Goals as goal

pub returns : goal.returns
returns c =
    let p = c.args.decoded.now in
    let types = (module_of p).types in
    let stands = subst (Stands p.bytes) c.tables-tables.ensures.tables c.tables-tables.ensures.stands in
    let codes : List Code = map (code_in p.bytes) p.tables.codes.items in
    let many : length p.tables.signatures.items ≡ length codes = stands.places.as_many ∙ sym (length-map p.tables.codes.items (code_in p.bytes)) in
    let signatures : c.as_slice-2.result.now ≡ p.tables.signatures.items = c.as_slice-2.ensures.value ∙ ap (λ (t : Tables). t.signatures.items) c.tables-tables.ensures.tables in
    let count : length c.as_slice.result.now ≡ length types = ap length (c.as_slice.ensures.value ∙ ap (λ (t : Tables). t.types.items) c.tables-tables.ensures.tables) ∙ sym (length-map p.tables.types.items signature_of) in
    same_test c.are_types.result c.are_types.ensures
    (λ all. types_found types p.tables.signatures.items codes (subst (λ (l : List ℕ). AllByRecursion (λ s. s < length types) l) signatures (subst (λ n. AllByRecursion (λ s. s < n) c.as_slice-2.result.now) count all)))
    (λ all. subst (λ n. AllByRecursion (λ s. s < n) c.as_slice-2.result.now) (sym count) (subst (λ (l : List ℕ). AllByRecursion (λ s. s < length types) l) (sym signatures) (types_within types p.tables.signatures.items codes many all)))
