use Rattle.std.proofs.Common.{sym, subst}
use Rattle.std.specs.List.{AllByRecursion}
use Rattle.plugin.specs.inside.Kept.{LineHolds}
use Rattle.plugin.proofs.KeptLemmas.{all_inserted}
use Rattle.plugin.proofs.kept.insert_line.Goals as goal
use Rattle.plugin.proofs.kept.insert_line.Goals.{then-len-ge-MAX_NODES, else-len-ge-MAX_NODES}

pub returns-in_default : goal.returns-in_default
returns-in_default c = λ plugins pod hold.
    elim c.if-len-ge-MAX_NODES.branch [
      | then-len-ge-MAX_NODES w ↦ subst (λ v. AllByRecursion (LineHolds plugins pod) v.items) (sym w.lines-is) (subst (AllByRecursion (LineHolds plugins pod)) (sym w.clear.ensures.items) tt)
      | else-len-ge-MAX_NODES w ↦ subst (λ v. AllByRecursion (LineHolds plugins pod) v.items) (sym w.lines-is) hold
    ]

pub returns-in-Ok : goal.returns-in-Ok
returns-in-Ok c = λ plugins pod hold.
    (let all : AllByRecursion (LineHolds plugins pod) c.if-len-ge-MAX_NODES.lines.items = elim c.if-len-ge-MAX_NODES.branch [
      | then-len-ge-MAX_NODES w ↦ subst (λ v. AllByRecursion (LineHolds plugins pod) v.items) (sym w.lines-is) (subst (AllByRecursion (LineHolds plugins pod)) (sym w.clear.ensures.items) tt)
      | else-len-ge-MAX_NODES w ↦ subst (λ v. AllByRecursion (LineHolds plugins pod) v.items) (sym w.lines-is) hold
    ] in
    subst (AllByRecursion (LineHolds plugins pod)) (sym c.insert-full.ensures.items) (all_inserted (LineHolds plugins pod) _ _ _ _ all (c.new.ensures plugins pod)))
