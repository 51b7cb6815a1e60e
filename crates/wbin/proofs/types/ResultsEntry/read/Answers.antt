use Rattle.std.proofs.Common.{drop, subst}
use Rattle.std.proofs.lemmas.Result.{err_from_is_err_and}
use Rattle.wcode.specs.Grammar.{SpellsIndex}
use Rattle.wbin.specs.inside.Reading.{Reads}
use Rattle.wbin.proofs.SpelledTypes.{no_results, one_result, result_missing, many_results}
use Rattle.wbin.proofs.types.ResultsEntry.read.Goals as goal

pub returns-then-count-eq0 : goal.returns-then-count-eq0
unfolding Reads
returns-then-count-eq0 c =
    let a = c.in_ok-count in
    let f = drop c.args.at c.args.bytes.now in
    let l = drop a.next c.args.bytes.now in
    (a.ensures.read.0, no_results f l (subst (λ n. SpellsIndex f n l) c.if-count-eq0.true a.ensures.read.1))

pub returns-in_ok-t : goal.returns-in_ok-t
unfolding Reads
returns-in_ok-t c =
    let a = c.in_ok-count in
    let b = c.in_ok-t in
    let f = drop c.args.at c.args.bytes.now in
    let l = drop a.next c.args.bytes.now in
    (b.ensures.0, one_result f l b.t (drop b.end c.args.bytes.now) (subst (λ n. SpellsIndex f n l) c.if-count-eq1.true a.ensures.read.1) b.ensures.1)

pub returns-in_err-t : goal.returns-in_err-t
unfolding Reads
returns-in_err-t c =
    let a = c.in_ok-count in
    let f = drop c.args.at c.args.bytes.now in
    let l = drop a.next c.args.bytes.now in
    let p = err_from_is_err_and c.from_residual-in_err-t.result c.from_residual-in_err-t.ensures.1 in
    rw (p.1, p.2) (λ m. result_missing f l (subst (λ n. SpellsIndex f n l) c.if-count-eq1.true a.ensures.read.1) (c.in_err-t.ensures m))

pub returns-else-count-eq1 : goal.returns-else-count-eq1
unfolding Reads
returns-else-count-eq1 c =
    let a = c.in_ok-count in
    λ m. many_results (drop c.args.at c.args.bytes.now) (drop a.next c.args.bytes.now) a.count a.ensures.read.1 c.if-count-eq0.false c.if-count-eq1.false
