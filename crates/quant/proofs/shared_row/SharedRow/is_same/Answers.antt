use Rattle.std.proofs.Common.{sym, ◌∙◌, refl}
use Rattle.quant.proofs.PackedLemmas.{row_same}
use Rattle.quant.proofs.shared_row.SharedRow.is_same.Goals as goal

pub returns : goal.returns
returns c = λ t.
    let mine = c.args.self.now in
    let theirs = c.args.other.now in
    row_same mine.node theirs.node
    (sym mine.allocatable_is ∙ c.if-not-are_same_amounts.ensures refl ∙ theirs.allocatable_is)
    (sym mine.unschedulable_is ∙ c.if-not-are_same_marks.ensures refl ∙ theirs.unschedulable_is)
    (sym mine.taints_are ∙ sym c.as_slice.ensures.value ∙ c.if-not-are_same_bytes.ensures refl ∙ c.as_slice-2.ensures.value ∙ theirs.taints_are)
    (sym mine.labels_are ∙ sym c.as_slice-3.ensures.value ∙ c.are_same_bytes-2.ensures t ∙ c.as_slice-4.ensures.value ∙ theirs.labels_are)
