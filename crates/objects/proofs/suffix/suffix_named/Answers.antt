use Rattle.std.proofs.Common.{◌≡◌, ◌-◌, ◌==◌, ◌||◌, false, Ok, Err, cond, codes, bytes_eq, length, get_or, take, drop, ap, sym, ◌∙◌, eq-eqb, ne_eqb}
use Rattle.objects.specs.declared.fault.QuantityFault.TheVariants.{NotAQuantity}
use Rattle.objects.specs.Suffix.{exponent}
use Rattle.objects.proofs.Suffixes.{none_is_one, longer_text}
use Rattle.objects.proofs.suffix.suffix_named.Goals as goal
use Rattle.objects.proofs.suffix.suffix_named.Goals.{then-letter-eq101, else-letter-eq101}

pub returns-in_default : goal.returns-in_default
returns-in_default c = ap Ok c.power_of_ten.ensures ∙ none_is_one c.args.text.now c.in_default.len_below

pub returns-then-letter-eq69 : goal.returns-then-letter-eq69
returns-then-letter-eq69 c =
    let text = c.args.text.now in
    let letter = get_or text 0 0 in
    let rest = take (length text - 1) (drop 1 text) in
    let other : bytes_eq rest (codes "i") ≡ false = ap (bytes_eq rest) (sym c.as_slice.ensures) ∙ sym c.eq.ensures ∙ c.if-eq.false in
    let either : (letter == 101 || letter == 69) ≡ c.if-letter-eq101.value =
    elim c.if-letter-eq101.branch [
      | then-letter-eq101 w ↦ let is = eq-eqb letter 101 w.if-letter-eq101.true in rw is (sym is ∙ sym w.value-is)
      | else-letter-eq101 w ↦ rw (ne_eqb letter 101 w.if-letter-eq101.false) (sym w.value-is)
    ] in
    c.read_exponent.ensures
    ∙ sym (longer_text text c.in-len1-up.len_at_least c.if-is_empty.ensures other ∙ ap (λ b. cond b (exponent rest) (Err NotAQuantity)) (either ∙ c.if-letter-eq69.true))

pub returns-else-letter-eq69 : goal.returns-else-letter-eq69
returns-else-letter-eq69 c =
    let text = c.args.text.now in
    let letter = get_or text 0 0 in
    let rest = take (length text - 1) (drop 1 text) in
    let other : bytes_eq rest (codes "i") ≡ false = ap (bytes_eq rest) (sym c.as_slice.ensures) ∙ sym c.eq.ensures ∙ c.if-eq.false in
    let either : (letter == 101 || letter == 69) ≡ c.if-letter-eq101.value =
    elim c.if-letter-eq101.branch [
      | then-letter-eq101 w ↦ let is = eq-eqb letter 101 w.if-letter-eq101.true in rw is (sym is ∙ sym w.value-is)
      | else-letter-eq101 w ↦ rw (ne_eqb letter 101 w.if-letter-eq101.false) (sym w.value-is)
    ] in
    sym (longer_text text c.in-len1-up.len_at_least c.if-is_empty.ensures other ∙ ap (λ b. cond b (exponent rest) (Err NotAQuantity)) (either ∙ c.if-letter-eq69.false))
