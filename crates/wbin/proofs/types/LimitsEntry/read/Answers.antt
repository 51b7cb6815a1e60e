use Rattle.std.proofs.Common.{◌≡◌, ◌+◌, ◌∷◌, drop, inl, inr, refl, subst}
use Rattle.std.proofs.lemmas.Result.{err_from_is_err_and}
use Rattle.wbin.specs.inside.Reading.{Reads}
use Rattle.wbin.proofs.SpelledTypes.{most_missing}
use Rattle.wbin.proofs.types.LimitsEntry.read.Goals as goal

pub returns-in_err-least-2 : goal.returns-in_err-least-2
unfolding Reads
returns-in_err-least-2 c =
    let rest = drop (c.args.at + 1) c.args.bytes.now in
    let p = err_from_is_err_and c.from_residual-in_err-least-2.result c.from_residual-in_err-least-2.ensures.1 in
    rw (p.1, p.2)
    (λ m. most_missing (drop c.args.at c.args.bytes.now) rest (subst (λ b. drop c.args.at c.args.bytes.now ≡ b ∷ rest) c.if-byte-eq1.true c.in_ok-byte.ensures.found) (c.in_err-least-2.ensures m))

pub returns-in_ok-least : goal.returns-in_ok-least
unfolding Reads
returns-in_ok-least c =
    let rest = drop (c.args.at + 1) c.args.bytes.now in
    let e = c.in_ok-least.ensures.read in
    (e.0, inl (rest, subst (λ b. drop c.args.at c.args.bytes.now ≡ b ∷ rest) c.if-byte-eq0.true c.in_ok-byte.ensures.found, refl, e.1))

pub returns-in_ok-least-2 : goal.returns-in_ok-least-2
unfolding Reads
returns-in_ok-least-2 c =
    let rest = drop (c.args.at + 1) c.args.bytes.now in
    let e = c.in_ok-least-2.ensures in
    (e.0, inr (rest, e.1.0, c.in_ok-least-2.most, subst (λ b. drop c.args.at c.args.bytes.now ≡ b ∷ rest) c.if-byte-eq1.true c.in_ok-byte.ensures.found, refl, e.1.1, e.1.2))
