use Rattle.std.proofs.Common.{drop, subst, sym}
use Rattle.std.proofs.lemmas.List.{map-id}
use Rattle.std.proofs.lemmas.Result.{err_from_is_err_and}
use Rattle.wcode.specs.Grammar.{SpellsIndex, SpellsExpr}
use Rattle.wmodule.specs.Syntax.{expression_in}
use Rattle.wmodule.specs.Grammar.{SpellsVector}
use Rattle.wbin.specs.inside.Reading.{Reads}
use Rattle.wbin.specs.inside.Unique.{both_once, index_spelled_once, expression_once}
use Rattle.wbin.proofs.section_entries.ElementSegmentPart.read.Goals as goal

pub returns-clause-read : goal.returns-clause-read
unfolding Reads
returns-clause-read c =
    let a = c.in_ok-table in
    let b = c.in_ok-functions in
    let k = a.ensures.read.1 in
    (b.ensures.0, (k.0, drop a.next c.args.bytes.now, k.1, k.2, subst (λ l. SpellsVector SpellsIndex (drop a.next c.args.bytes.now) l (drop b.end c.args.bytes.now)) (map-id b.functions.items) b.ensures.1))

pub returns-in_err-functions-clause-read : goal.returns-in_err-functions-clause-read
unfolding Reads
returns-in_err-functions-clause-read c =
    let p = err_from_is_err_and c.from_residual-in_err-functions.result c.from_residual-in_err-functions.ensures.1 in
    rw (p.1, p.2)
    (λ m x rest h.
    (let a = c.in_ok-table in
    let q = both_once SpellsIndex SpellsExpr index_spelled_once expression_once (drop c.args.at c.args.bytes.now) (a.table, expression_in c.args.bytes.now a.offset) (x.table, x.offset)
    (drop a.next c.args.bytes.now) h.1 a.ensures.read.1 (h.0, h.2, h.3) in
    c.in_err-functions.ensures m x.functions rest (subst (λ b. SpellsVector SpellsIndex b x.functions rest) (sym q.1) h.4)))

pub returns-in_err-table-clause-read : goal.returns-in_err-table-clause-read
unfolding Reads
returns-in_err-table-clause-read c =
    let p = err_from_is_err_and c.from_residual.result c.from_residual.ensures.1 in
    rw (p.1, p.2) (λ m x rest h. c.in_err-table.ensures.read m (x.table, x.offset) h.1 (h.0, h.2, h.3))
