use Rattle.std.proofs.Common.{◌≡◌, ◌∙◌, ◌&&◌, ◌++◌, not, true, false, nat_le, length, refl, sym}
use Rattle.objects.specs.Suffix.{suffix_named}
use Rattle.objects.specs.Quantity.{is_zero}
use Rattle.objects.proofs.Read.{no_digits, in_front, behind, both_zero, not_both_zero, quantity_by, refused_by, negative_by, told_by}
use Rattle.objects.proofs.Suffixes.{read_small}
use Rattle.objects.proofs.quantity.read.Goals as goal
use Rattle.objects.proofs.quantity.read.Goals.{else-is_empty-via-then-is_empty+else-is_empty-2, else-is_empty-via-else-is_empty, then-are_zeros, else-are_zeros, else-minus-via-then-minus+else-not-is_zero, else-minus-via-else-minus}

pub amount-amount-requires-clause-tens : goal.amount-amount-requires-clause-tens
amount-amount-requires-clause-tens c =
    (read_small _ _ c.suffix_named.result c.of_nothing.result c.in_ok-suffix.suffix c.suffix_named.ensures c.of_nothing.ensures c.in_ok-suffix.was).tens

pub amount-amount-requires-clause-tenths : goal.amount-amount-requires-clause-tenths
amount-amount-requires-clause-tenths c =
    (read_small _ _ c.suffix_named.result c.of_nothing.result c.in_ok-suffix.suffix c.suffix_named.ensures c.of_nothing.ensures c.in_ok-suffix.was).tenths

pub amount-amount-requires-clause-twos : goal.amount-amount-requires-clause-twos
amount-amount-requires-clause-twos c =
    (read_small _ _ c.suffix_named.result c.of_nothing.result c.in_ok-suffix.suffix c.suffix_named.ensures c.of_nothing.ensures c.in_ok-suffix.was).twos

pub returns-then-is_empty-2 : goal.returns-then-is_empty-2
returns-then-is_empty-2 c =
    let whole = c.split_digits.result.0.now in
    let fraction = c.split_fraction.result.0.now in
    no_digits whole fraction _ _ c.if-is_empty.ensures c.if-is_empty-2.ensures
    ∙ sym (quantity_by c.args.rounding c.args.places c.args.most c.args.text.now c.split_sign-minus.result.0 c.split_sign-minus.result.1.now whole
    c.split_digits.result.1.now fraction c.split_fraction.result.1.now (suffix_named c.split_fraction.result.1.now) c.split_sign-minus.ensures.minus c.split_sign-minus.ensures.rest
    c.split_digits.ensures.digits c.split_digits.ensures.rest c.split_fraction.ensures.digits c.split_fraction.ensures.rest refl)

pub returns-in_err-suffix : goal.returns-in_err-suffix
returns-in_err-suffix c =
    let whole = c.split_digits.result.0.now in
    let fraction = c.split_fraction.result.0.now in
    let some : nat_le 1 (length (whole ++ fraction)) ≡ true =
    elim c.else-is_empty.branch [
      | else-is_empty-via-then-is_empty+else-is_empty-2 w ↦ behind whole fraction w.if-is_empty-2.ensures
      | else-is_empty-via-else-is_empty w ↦ in_front whole fraction w.if-is_empty.ensures
    ] in
    let zero : c.if-are_zeros.is_zero ≡ is_zero (whole ++ fraction) =
    elim c.if-are_zeros.branch [
      | then-are_zeros w ↦ both_zero whole fraction c.are_zeros.result w.are_zeros-is_zero.result _ c.are_zeros.ensures w.if-are_zeros.true w.are_zeros-is_zero.ensures w.is_zero-is
      | else-are_zeros w ↦ not_both_zero whole fraction c.are_zeros.result _ c.are_zeros.ensures w.if-are_zeros.false w.is_zero-is
    ] in
    refused_by whole fraction c.suffix_named.result c.of_nothing.result _ c.if-are_zeros.is_zero c.in_err-suffix.field-0.0 c.from_residual.result some zero
    c.of_nothing.ensures c.in_err-suffix.was c.from_residual.ensures.1
    ∙ sym (quantity_by c.args.rounding c.args.places c.args.most c.args.text.now c.split_sign-minus.result.0 c.split_sign-minus.result.1.now whole
    c.split_digits.result.1.now fraction c.split_fraction.result.1.now c.suffix_named.result c.split_sign-minus.ensures.minus c.split_sign-minus.ensures.rest
    c.split_digits.ensures.digits c.split_digits.ensures.rest c.split_fraction.ensures.digits c.split_fraction.ensures.rest c.suffix_named.ensures)

pub returns-then-not-is_zero : goal.returns-then-not-is_zero
returns-then-not-is_zero c =
    let whole = c.split_digits.result.0.now in
    let fraction = c.split_fraction.result.0.now in
    let some : nat_le 1 (length (whole ++ fraction)) ≡ true =
    elim c.else-is_empty.branch [
      | else-is_empty-via-then-is_empty+else-is_empty-2 w ↦ behind whole fraction w.if-is_empty-2.ensures
      | else-is_empty-via-else-is_empty w ↦ in_front whole fraction w.if-is_empty.ensures
    ] in
    let zero : c.if-are_zeros.is_zero ≡ is_zero (whole ++ fraction) =
    elim c.if-are_zeros.branch [
      | then-are_zeros w ↦ both_zero whole fraction c.are_zeros.result w.are_zeros-is_zero.result _ c.are_zeros.ensures w.if-are_zeros.true w.are_zeros-is_zero.ensures w.is_zero-is
      | else-are_zeros w ↦ not_both_zero whole fraction c.are_zeros.result _ c.are_zeros.ensures w.if-are_zeros.false w.is_zero-is
    ] in
    negative_by c.args.rounding c.args.places c.args.most whole fraction c.suffix_named.result c.of_nothing.result c.if-are_zeros.is_zero
    c.split_sign-minus.result.0 c.in_ok-suffix.suffix some zero c.of_nothing.ensures c.in_ok-suffix.was c.if-minus.true c.if-not-is_zero.true
    ∙ sym (quantity_by c.args.rounding c.args.places c.args.most c.args.text.now c.split_sign-minus.result.0 c.split_sign-minus.result.1.now whole
    c.split_digits.result.1.now fraction c.split_fraction.result.1.now c.suffix_named.result c.split_sign-minus.ensures.minus c.split_sign-minus.ensures.rest
    c.split_digits.ensures.digits c.split_digits.ensures.rest c.split_fraction.ensures.digits c.split_fraction.ensures.rest c.suffix_named.ensures)

pub returns : goal.returns
returns c =
    let whole = c.split_digits.result.0.now in
    let fraction = c.split_fraction.result.0.now in
    let some : nat_le 1 (length (whole ++ fraction)) ≡ true =
    elim c.else-is_empty.branch [
      | else-is_empty-via-then-is_empty+else-is_empty-2 w ↦ behind whole fraction w.if-is_empty-2.ensures
      | else-is_empty-via-else-is_empty w ↦ in_front whole fraction w.if-is_empty.ensures
    ] in
    let zero : c.if-are_zeros.is_zero ≡ is_zero (whole ++ fraction) =
    elim c.if-are_zeros.branch [
      | then-are_zeros w ↦ both_zero whole fraction c.are_zeros.result w.are_zeros-is_zero.result _ c.are_zeros.ensures w.if-are_zeros.true w.are_zeros-is_zero.ensures w.is_zero-is
      | else-are_zeros w ↦ not_both_zero whole fraction c.are_zeros.result _ c.are_zeros.ensures w.if-are_zeros.false w.is_zero-is
    ] in
    let above : (c.split_sign-minus.result.0 && not c.if-are_zeros.is_zero) ≡ false =
    elim c.else-minus.branch [
      | else-minus-via-then-minus+else-not-is_zero w ↦ rw (w.if-minus.true, w.if-not-is_zero.false) refl
      | else-minus-via-else-minus w ↦ rw w.if-minus.false refl
    ] in
    c.told_within.ensures _ c.amount-amount.ensures
    ∙ told_by c.args.rounding c.args.places c.args.most whole fraction c.suffix_named.result c.of_nothing.result c.if-are_zeros.is_zero
    c.split_sign-minus.result.0 c.in_ok-suffix.suffix some zero c.of_nothing.ensures c.in_ok-suffix.was above
    ∙ sym (quantity_by c.args.rounding c.args.places c.args.most c.args.text.now c.split_sign-minus.result.0 c.split_sign-minus.result.1.now whole
    c.split_digits.result.1.now fraction c.split_fraction.result.1.now c.suffix_named.result c.split_sign-minus.ensures.minus c.split_sign-minus.ensures.rest
    c.split_digits.ensures.digits c.split_digits.ensures.rest c.split_fraction.ensures.digits c.split_fraction.ensures.rest c.suffix_named.ensures)
