use Rattle.std.proofs.Common.{◌≡◌, List, Bool, map, sym, ap, ◌∙◌, subst}
use Rattle.std.specs.Bool.{MatchBool}
use Rattle.std.specs.List.{AllByRecursion}
use Rattle.wmodule.specs.declared.module.Tables.{Tables}
use Rattle.wmodule.specs.declared.module.Export.{Export}
use Rattle.wmodule.specs.Syntax.{ExportSyntax, module_of, export_of}
use Rattle.wtype.specs.Accepted.{NamesSomething, ExportsNamed, DistinctNames}
use Rattle.wtype.proofs.Each.{all_mapped, all_unmapped, if_ok_by}
use Rattle.wtype.proofs.Kept.{same_test, on_true, on_false}
use Rattle.wtype.proofs.rules.exports_kept.Goals as goal

pub returns-then-are_there : goal.returns-then-are_there
returns-then-are_there c =
    let p = c.args.decoded.now in
    let m = module_of p in
    let list : c.as_slice-exports.result.now ≡ p.tables.exports.items = c.as_slice-exports.ensures.value ∙ ap (λ (t : Tables). t.exports.items) c.tables.ensures.tables in
    let found : AllByRecursion (λ (e : Export). NamesSomething m e.kind e.index) c.as_slice-exports.result.now = on_true _ c.are_there.result c.if-are_there.true c.are_there.ensures in
    let named : AllByRecursion (λ (e : ExportSyntax). NamesSomething m e.kind e.index) m.exports = all_mapped (λ (e : ExportSyntax). NamesSomething m e.kind e.index) export_of p.tables.exports.items (subst (AllByRecursion (λ (e : Export). NamesSomething m e.kind e.index)) list found) in
    let D : List Export → Bool → Type 0 = λ l d. MatchBool d (DistinctNames (map export_of l)) (DistinctNames (map export_of l) → ⊥) in
    if_ok_by (D c.as_slice-exports.result.now) (λ (kept : Bool). MatchBool kept (ExportsNamed m) (ExportsNamed m → ⊥)) c.have_distinct_names.result
    (λ d h. same_test d (subst (λ l. D l d) list h) (λ distinct. record { named = named; distinct = distinct }) (λ x. x.distinct))
    c.have_distinct_names.ensures

pub returns-else-are_there : goal.returns-else-are_there
returns-else-are_there c x =
    let p = c.args.decoded.now in
    let m = module_of p in
    let list : c.as_slice-exports.result.now ≡ p.tables.exports.items = c.as_slice-exports.ensures.value ∙ ap (λ (t : Tables). t.exports.items) c.tables.ensures.tables in
    let missing : AllByRecursion (λ (e : Export). NamesSomething m e.kind e.index) c.as_slice-exports.result.now → ⊥ = on_false _ c.are_there.result c.if-are_there.false c.are_there.ensures in
    missing (subst (AllByRecursion (λ (e : Export). NamesSomething m e.kind e.index)) (sym list) (all_unmapped (λ (e : ExportSyntax). NamesSomething m e.kind e.index) export_of p.tables.exports.items x.named))
