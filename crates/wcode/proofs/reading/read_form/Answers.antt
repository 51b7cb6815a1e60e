use Rattle.std.proofs.Common.{◌+◌, drop, sym, subst}
use Rattle.std.proofs.lemmas.Result.{err_from_is_err_and}
use Rattle.wcode.specs.Grammar.{SpellsForm}
use Rattle.wcode.specs.inside.Shown.{Reads}
use Rattle.wcode.proofs.Words.{call_indirect_reads}
use Rattle.wcode.proofs.reading.read_form.Goals as goal

pub returns-in_ok-n-in-CallIndirect : goal.returns-in_ok-n-in-CallIndirect
returns-in_ok-n-in-CallIndirect c =
    let a = c.in_ok-n-in-CallIndirect in
    subst (λ f. Reads c.args.bytes.now f (c.args.at + 1) c.read_zero.result) (sym c.in-CallIndirect.is)
    (call_indirect_reads c.args.bytes.now (c.args.at + 1) a.zero a.n c.read_zero.result a.ensures.found c.read_zero.ensures)

pub returns-in_err-arg-in-Load : goal.returns-in_err-arg-in-Load
unfolding Reads
returns-in_err-arg-in-Load c =
    let p = err_from_is_err_and c.from_residual-in_err-arg-in-Load.result c.from_residual-in_err-arg-in-Load.ensures.1 in
    rw (p.1)
    (λ w rest h.
    (let k = subst (λ f. SpellsForm f (drop (c.args.at + 1) c.args.bytes.now) w rest) c.in-Load.is h in c.in_err-arg-in-Load.ensures.none k.0 rest k.2))

pub returns-in_err-arg-in-Store : goal.returns-in_err-arg-in-Store
unfolding Reads
returns-in_err-arg-in-Store c =
    let p = err_from_is_err_and c.from_residual-in_err-arg-in-Store.result c.from_residual-in_err-arg-in-Store.ensures.1 in
    rw (p.1)
    (λ w rest h.
    (let k = subst (λ f. SpellsForm f (drop (c.args.at + 1) c.args.bytes.now) w rest) c.in-Store.is h in c.in_err-arg-in-Store.ensures.none k.0 rest k.2))
