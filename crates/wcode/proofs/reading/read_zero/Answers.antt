use Rattle.std.proofs.Common.{◌∙◌, ◌∷◌, ◌+◌, ◌<◌, length, drop, refl, sym, ap, arith}
use Rattle.leb.proofs.Digits.{at_place}
use Rattle.wcode.specs.Grammar.{one}
use Rattle.wcode.specs.inside.Shown.{Reads}
use Rattle.wcode.proofs.reading.read_zero.Goals as goal

pub returns-then-bytes-zero-eq0 : goal.returns-then-bytes-zero-eq0
unfolding Reads
returns-then-bytes-zero-eq0 c =
    let b = c.args.bytes.now in
    let within : c.args.zero < length b = omega arith in
    (omega arith, one c.args.p, refl, (refl, at_place b c.args.zero within ∙ ap (λ n. n ∷ drop (c.args.zero + 1) b) c.if-bytes-zero-eq0.true))

pub returns-else-bytes-zero-eq0 : goal.returns-else-bytes-zero-eq0
unfolding Reads
returns-else-bytes-zero-eq0 c =
    let b = c.args.bytes.now in
    let within : c.args.zero < length b = omega arith in
    λ w rest h. (let e = sym (at_place b c.args.zero within) ∙ h.1 in c.if-bytes-zero-eq0.false (cc e))
