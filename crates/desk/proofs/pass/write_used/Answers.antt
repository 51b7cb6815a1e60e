use Rattle.std.proofs.Common.{◌≡◌, ◌∙◌, List, ap, length, map, sym, subst, arith}
use Rattle.std.specs.Vec.{with_items}
use Rattle.std.proofs.lemmas.List.{with_items_is}
use Rattle.desk.specs.declared.class.Class.{Class}
use Rattle.desk.specs.declared.snapshot.Row.{Row}
use Rattle.desk.specs.Shown.{shown}
use Rattle.desk.specs.inside.Kept.{AreKept}
use Rattle.desk.specs.inside.LastLook.{uses_of}
use Rattle.desk.specs.inside.NodeCalls.{nodes_of}
use Rattle.desk.proofs.pass.write_used.Goals as goal

-- the nodes stay
pub returns-clause-nodes : goal.returns-clause-nodes
returns-clause-nodes c =
    let rows = c.write_each.new.rows in
    let as_many : length rows ≡ c.args.rows.len = omega (arith, c.write_each.auto.rows, c.as_mut_slice.ensures.len) in
    ap nodes_of (with_items_is c.args.rows rows as_many) ∙ c.write_each.ensures.nodes ∙ ap nodes_of c.as_mut_slice.ensures.value

-- and so much is used of them
pub returns-clause-used : goal.returns-clause-used
returns-clause-used c =
    let rows = c.write_each.new.rows in
    let as_many : length rows ≡ c.args.rows.len = omega (arith, c.write_each.auto.rows, c.as_mut_slice.ensures.len) in
    ap uses_of (with_items_is c.args.rows rows as_many) ∙ c.write_each.ensures.used

-- and what is kept is what the rows are worth with that
pub returns-clause-kept : goal.returns-clause-kept
returns-clause-kept c =
    let rows = c.write_each.new.rows in
    let classes = c.write_each.new.classes in
    let as_many : length rows ≡ c.args.rows.len = omega (arith, c.write_each.auto.rows, c.as_mut_slice.ensures.len) in
    let as_many_classes : length classes ≡ c.args.kept.classes.len = omega (arith, c.write_each.auto.classes, c.as_mut_slice-2.ensures.len) in
    λ kept.
    subst (λ (l : List Class). AreKept (map shown (with_items c.args.rows rows).items) l) (sym (with_items_is c.args.kept.classes classes as_many_classes))
    (subst (λ (l : List Row). AreKept (map shown l) classes) (sym (with_items_is c.args.rows rows as_many))
    (c.write_each.ensures.kept
    (subst (λ (l : List Class). AreKept (map shown c.as_mut_slice.result.now) l) (sym c.as_mut_slice-2.ensures.value)
    (subst (λ (l : List Row). AreKept (map shown l) c.args.kept.classes.items) (sym c.as_mut_slice.ensures.value) kept))))
