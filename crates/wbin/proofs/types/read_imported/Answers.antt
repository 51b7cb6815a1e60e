use Rattle.std.proofs.Common.{◌≡◌, ◌+◌, ◌∷◌, drop, subst}
use Rattle.std.proofs.lemmas.Result.{err_from_is_err_and}
use Rattle.wbin.specs.inside.Reading.{Reads}
use Rattle.wbin.proofs.SpelledTypes.{table_missing, memory_missing, global_missing}
use Rattle.wbin.proofs.types.read_imported.Goals as goal

pub returns-in_err-limits : goal.returns-in_err-limits
unfolding Reads
returns-in_err-limits c =
    let rest = drop (c.args.at + 1) c.args.bytes.now in
    let p = err_from_is_err_and c.from_residual-in_err-limits.result c.from_residual-in_err-limits.ensures.1 in
    rw (p.1, p.2)
    (λ m. table_missing (drop c.args.at c.args.bytes.now) rest (subst (λ b. drop c.args.at c.args.bytes.now ≡ b ∷ rest) c.if-byte-eq1.true c.requires.byte) (c.in_err-limits.ensures m))

pub returns-in_err-limits-2 : goal.returns-in_err-limits-2
unfolding Reads
returns-in_err-limits-2 c =
    let rest = drop (c.args.at + 1) c.args.bytes.now in
    let p = err_from_is_err_and c.from_residual-in_err-limits-2.result c.from_residual-in_err-limits-2.ensures.1 in
    rw (p.1, p.2)
    (λ m. memory_missing (drop c.args.at c.args.bytes.now) rest (subst (λ b. drop c.args.at c.args.bytes.now ≡ b ∷ rest) c.if-byte-eq2.true c.requires.byte) (c.in_err-limits-2.ensures m))

pub returns-in_err-global : goal.returns-in_err-global
unfolding Reads
returns-in_err-global c =
    let rest = drop (c.args.at + 1) c.args.bytes.now in
    let p = err_from_is_err_and c.from_residual-in_err-global.result c.from_residual-in_err-global.ensures.1 in
    rw (p.1, p.2)
    (λ m. global_missing (drop c.args.at c.args.bytes.now) rest (subst (λ b. drop c.args.at c.args.bytes.now ≡ b ∷ rest) c.if-byte-eq3.true c.requires.byte) (c.in_err-global.ensures m))

pub returns-in_ok-signature : goal.returns-in_ok-signature
unfolding Reads
returns-in_ok-signature c =
    let rest = drop (c.args.at + 1) c.args.bytes.now in
    let e = c.in_ok-signature.ensures.read in
    (e.0, (rest, subst (λ b. drop c.args.at c.args.bytes.now ≡ b ∷ rest) c.if-byte-eq0.true c.requires.byte, e.1))

pub returns-in_ok-limits : goal.returns-in_ok-limits
unfolding Reads
returns-in_ok-limits c =
    let rest = drop (c.args.at + 1) c.args.bytes.now in
    let e = c.in_ok-limits.ensures in
    (e.0, (rest, subst (λ b. drop c.args.at c.args.bytes.now ≡ b ∷ rest) c.if-byte-eq1.true c.requires.byte, e.1))

pub returns-in_ok-limits-2 : goal.returns-in_ok-limits-2
unfolding Reads
returns-in_ok-limits-2 c =
    let rest = drop (c.args.at + 1) c.args.bytes.now in
    let e = c.in_ok-limits-2.ensures in
    (e.0, (rest, subst (λ b. drop c.args.at c.args.bytes.now ≡ b ∷ rest) c.if-byte-eq2.true c.requires.byte, e.1))

pub returns-in_ok-global : goal.returns-in_ok-global
unfolding Reads
returns-in_ok-global c =
    let rest = drop (c.args.at + 1) c.args.bytes.now in
    let e = c.in_ok-global.ensures in
    (e.0, (rest, subst (λ b. drop c.args.at c.args.bytes.now ≡ b ∷ rest) c.if-byte-eq3.true c.requires.byte, e.1))
