use Rattle.std.proofs.Common.{◌<◌, length, set, sym, subst, arith}
use Rattle.std.proofs.lemmas.List.{get_or-set_other, length-set}
use Rattle.std.proofs.lemmas.List.Elements.{AllWithin-more_set}
use Rattle.desk.specs.Shown.{shown}
use Rattle.desk.specs.inside.Kept.{IsClass}
use Rattle.desk.proofs.class.renew_all.Goals as goal

-- one class more is of the nodes with this one
pub loop-k-preserved : goal.loop-k-preserved
loop-k-preserved c nodes lt same kept =
    let known = c.loop-k.invariant nodes lt same kept in
    let classes = c.loop-k.classes in
    let k = c.loop-k.k in
    let new = c.renew.new.self in
    let there : k < length classes = omega (arith, c.loop-k.auto.classes, c.loop-k-test.true) in
    let old = known.1 k c.index-classes-k.result (omega arith) there in (
      AllWithin-more_set classes k new there (IsClass (set nodes c.args.at (shown c.args.row.now))) known.0 (c.renew.ensures nodes lt same old),
      λ i d from to.
          subst (IsClass nodes) (sym (get_or-set_other classes k i new d (λ e. omega arith)))
          (known.1 i d (omega arith) (omega (arith, length-set classes k new))),
    )
