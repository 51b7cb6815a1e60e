use Rattle.std.proofs.Common.{inl, get_or, refl}
use Rattle.std.proofs.lemmas.Option.{slice_get-get_or}
use Rattle.wmach.proofs.calls.invoke.Goals as goal

pub returns-then-index-code-clause-invoked : goal.returns-then-index-code-clause-invoked
returns-then-index-code-clause-invoked g c =
    let records = c.args.code.now.records.now in
    let import = get_or records c.args.function 0 in
    inl (import, slice_get-get_or records c.args.function 0 c.if-index-code.true, refl, c.hand_over.ensures)
