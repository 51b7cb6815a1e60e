use Rattle.std.proofs.Common.{◌≡◌, ◌+◌, ◌<◌, List, length, map, take, get_or, refl, sym, ap, subst, ◌∙◌, arith}
use Rattle.std.proofs.lemmas.List.{get_or_default, length-map}
use Rattle.desk.specs.declared.class.Class.{Class}
use Rattle.desk.specs.declared.snapshot.Row.{Row}
use Rattle.desk.specs.Shown.{shown}
use Rattle.desk.specs.inside.Kept.{AreKept}
use Rattle.desk.specs.inside.LastLook.{uses_of}
use Rattle.desk.specs.inside.NodeCalls.{nodes_of}
use Rattle.desk.proofs.LastLook.{same_use, set_use}
use Rattle.desk.proofs.pass.write_each.Goals as goal
use Rattle.desk.proofs.pass.write_each.Goals.{then-not-are_same, else-not-are_same}

-- one row more has what is used now
pub loop-at-preserved : goal.loop-at-preserved
loop-at-preserved c =
    let at = c.loop-at.at in
    let rows = c.loop-at.rows in
    let used = c.args.used.now in
    let known = c.loop-at.invariant in
    let lt : at < length used = omega (arith, c.loop-at-test.true, known.last) in
    let there : at < length rows = omega (arith, lt, known.many) in
    elim c.if-not-are_same.branch [
      | then-not-are_same w ↦
          let uses : uses_of c.if-not-are_same.rows ≡ _ = ap uses_of w.rows-is ∙ w.write_total.ensures.used in record {
            last = refl;
            many = known.many ∙ sym (ap length w.rows-is ∙ w.write_total.auto.rows);
            nodes = ap nodes_of w.rows-is ∙ w.write_total.ensures.nodes ∙ known.nodes;
            used = ap (take (at + 1)) uses ∙ set_use (uses_of rows) used at _ (omega (arith, there, length-map rows (λ (r : Row). r.used))) lt (get_or_default used at _ _ lt) known.used;
            kept = λ kept.
                subst (λ (l : List Row). AreKept (map shown l) c.if-not-are_same.classes) (sym w.rows-is)
                (subst (λ (l : List Class). AreKept (map shown w.write_total.new.rows) l) (sym w.classes-is) (w.write_total.ensures.kept (known.kept kept)));
          }
      | else-not-are_same w ↦ record {
        last = refl;
        many = known.many ∙ sym (ap length w.rows-is);
        nodes = ap nodes_of w.rows-is ∙ known.nodes;
        used = ap (λ (l : List Row). take (at + 1) (uses_of l)) w.rows-is
            ∙ same_use rows used at (get_or rows at c.index-rows-at.result) _ there lt (get_or_default rows at c.index-rows-at.result _ there) (c.are_same.ensures w.if-not-are_same.false) known.used;
        kept = λ kept.
            subst (λ (l : List Row). AreKept (map shown l) c.if-not-are_same.classes) (sym w.rows-is)
            (subst (λ (l : List Class). AreKept (map shown rows) l) (sym w.classes-is) (known.kept kept));
      }
    ]
