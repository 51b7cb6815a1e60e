use Rattle.std.proofs.Common.{drop, refl, subst}
use Rattle.std.proofs.lemmas.Result.{err_from_is_err_and}
use Rattle.wcode.specs.Grammar.{table, SpellsIndex}
use Rattle.wcode.specs.inside.Shown.{Reads}
use Rattle.wcode.proofs.Words.{labels_none, default_none}
use Rattle.wcode.proofs.reading.read_table.Goals as goal

pub returns : goal.returns
unfolding Reads
returns c =
    let l = c.in_ok-last.ensures.found in
    let all = drop c.in_ok-count.labels_at c.args.bytes.now in
    let last = drop c.in_ok-last.last c.args.bytes.now in
    let default = c.in_ok-end.field-0-0 in (
      c.in_ok-end.ensures.end,
      table l.0 default,
      (l.0, default, last, drop c.in_ok-end.end c.args.bytes.now, refl, l.1, c.in_ok-count.ensures.end, l.2, c.in_ok-end.ensures.found),
      (
        l.0,
        default,
        refl,
        (all, last, subst (λ n. SpellsIndex (drop c.args.at c.args.bytes.now) n all) l.1 c.in_ok-count.ensures.found, l.2, c.in_ok-end.ensures.found),
      ),
    )

pub returns-in_err-end : goal.returns-in_err-end
unfolding Reads
returns-in_err-end c =
    let l = c.in_ok-last.ensures.found in
    let p = err_from_is_err_and c.from_residual-in_err-end.result c.from_residual-in_err-end.ensures.1 in
    rw (p.1)
    (λ w rest h. default_none (drop c.args.at c.args.bytes.now) (drop c.in_ok-count.labels_at c.args.bytes.now) (drop c.in_ok-last.last c.args.bytes.now) l.0 c.in_ok-count.count c.in_ok-count.ensures.found l.1 l.2 c.in_err-end.ensures.none h.0 h.1 rest h.3)

pub returns-in_err-last : goal.returns-in_err-last
unfolding Reads
returns-in_err-last c =
    let p = err_from_is_err_and c.from_residual-in_err-last.result c.from_residual-in_err-last.ensures.1 in
    rw (p.1)
    (λ w rest h. labels_none (drop c.args.at c.args.bytes.now) (drop c.in_ok-count.labels_at c.args.bytes.now) c.in_ok-count.count c.in_ok-count.ensures.found c.in_err-last.ensures.none h.0 h.1 rest h.3)
