use Rattle.std.proofs.Common.{◌≡◌, List, length, map, sym, subst, arith}
use Rattle.std.specs.Vec.{with_items}
use Rattle.std.proofs.lemmas.List.{with_items_is}
use Rattle.desk.specs.declared.class.Class.{Class}
use Rattle.desk.specs.declared.snapshot.Row.{Row}
use Rattle.desk.specs.Shown.{shown}
use Rattle.desk.specs.inside.Kept.{AreKept}
use Rattle.desk.proofs.pass.write_since.Goals as goal

-- what is kept is what the rows are worth
pub returns-clause-kept : goal.returns-clause-kept
returns-clause-kept c =
    let rows = c.write_all.new.rows in
    let classes = c.write_all.new.classes in
    let as_many : length rows ≡ c.args.rows.len = omega (arith, c.write_all.auto.rows, c.as_mut_slice.ensures.len) in
    let as_many_classes : length classes ≡ c.if_less-kept.result.classes.len = omega (arith, c.write_all.auto.classes, c.as_mut_slice-2.ensures.len) in
    λ kept.
    subst (λ (l : List Class). AreKept (map shown (with_items c.args.rows rows).items) l) (sym (with_items_is c.if_less-kept.result.classes classes as_many_classes))
    (subst (λ (l : List Row). AreKept (map shown l) classes) (sym (with_items_is c.args.rows rows as_many))
    (c.write_all.ensures.kept
    (subst (λ (l : List Class). AreKept (map shown c.as_mut_slice.result.now) l) (sym c.as_mut_slice-2.ensures.value)
    (subst (λ (l : List Row). AreKept (map shown l) c.if_less-kept.result.classes.items) (sym c.as_mut_slice.ensures.value) (c.if_less-kept.ensures _ kept)))))
