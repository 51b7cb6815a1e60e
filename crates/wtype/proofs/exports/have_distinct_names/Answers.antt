use Rattle.std.proofs.Common.{◌≡◌, ◌≢◌, ℕ, ◌+◌, ◌<◌, length, get_or, drop, add-one, Bool, true, false, not, List, [], ◌∷◌, ◌++◌, map, take, refl, sym, ap, ◌∙◌, subst}
use Rattle.std.proofs.lemmas.List.{take_more, map-append, take_all}
use Rattle.std.specs.List.{AllByRecursion}
use Rattle.wmodule.specs.Syntax.{ExportSyntax, export_of}
use Rattle.wtype.specs.Accepted.{DistinctNames}
use Rattle.wtype.proofs.Names.{HasNames, OnlyNames, Among, distinct_more, none_of, has_more, only_none, only_more, not_distinct}
use Rattle.wtype.proofs.Each.{split}
use Rattle.wmodule.specs.declared.module.Export.{Export}
use Rattle.wtype.proofs.exports.have_distinct_names.Goals as goal

not_false : (b : Bool) → false ≡ not b → b ≡ true
not_false true e = refl
not_false false e = absurd (cc)

not_true : (b : Bool) → true ≡ not b → b ≡ false
not_true true e = absurd (cc)
not_true false e = refl

whole : (xs : List Export) (i : ℕ) (x : Export) → i < length xs → x ≡ get_or xs i x → map export_of xs ≡ map export_of (take i xs) ++ export_of x ∷ map export_of (drop (i + 1) xs)
whole xs i x within is = split export_of xs i x within is ∙ ap (λ n. map export_of (take i xs) ++ export_of x ∷ map export_of (drop n xs)) (sym (add-one i))

pub loop-export-init : goal.loop-export-init
loop-export-init c = (tt, tt, only_none _ c.new-names.ensures.empty)

pub loop-export-preserved : goal.loop-export-preserved
loop-export-preserved c =
    let xs = c.args.exports.now in
    let i = c.loop-export.export-index in
    let x = c.export-item.result in
    let front = map export_of (take i xs) in
    let more : map export_of (take (i + 1) xs) ≡ front ++ export_of x ∷ [] =
    ap (map export_of) (take_more xs i x c.loop-export-test.true ∙ ap (λ y. take i xs ++ y ∷ []) (sym c.export-item.is)) ∙ map-append export_of (take i xs) (x ∷ []) in
    let absent = not_true _ (sym c.if-not-branch.false ∙ c.in_ok-insert.ensures.added) in
    let named : c.as_slice.result.now ≡ (export_of x).name = c.as_slice.ensures.value in
    let none = none_of c.loop-export.names c.as_slice.result front c.loop-export.invariant.1 absent in (
      subst DistinctNames (sym more) (distinct_more front (export_of x) c.loop-export.invariant.0 (subst (λ (n : List ℕ). AllByRecursion (λ (e : ExportSyntax). e.name ≢ n) front) named none)),
      subst (HasNames c.insert.new.self) (sym more) (has_more c.loop-export.names c.insert.new.self c.as_slice.result front (export_of x) named c.loop-export.invariant.1 c.in_ok-insert.ensures.updates),
      subst (OnlyNames c.insert.new.self) (sym more) (only_more c.loop-export.names c.insert.new.self c.as_slice.result front (export_of x) named c.loop-export.invariant.2 c.in_ok-insert.ensures.updates),
    )

pub returns : goal.returns
returns c = subst (λ l. DistinctNames (map export_of l)) (take_all c.loop-export.export-index c.args.exports.now c.loop-export-test.false) c.loop-export.invariant.0

pub returns-then-not-branch : goal.returns-then-not-branch
returns-then-not-branch c all =
    let xs = c.args.exports.now in
    let i = c.loop-export.export-index in
    let x = c.export-item.result in
    let front = map export_of (take i xs) in
    let present = not_false _ (sym c.if-not-branch.true ∙ c.in_ok-insert.ensures.added) in
    let named : c.as_slice.result.now ≡ (export_of x).name = c.as_slice.ensures.value in
    let among : Among (export_of x).name front = subst (λ (n : List ℕ). Among n front) named (c.loop-export.invariant.2 c.as_slice.result present) in
    not_distinct front (export_of x) (map export_of (drop (i + 1) xs)) among (subst DistinctNames (whole xs i x c.loop-export-test.true c.export-item.is) all)
