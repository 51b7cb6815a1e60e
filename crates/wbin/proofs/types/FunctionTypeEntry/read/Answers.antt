use Rattle.std.proofs.Common.{◌+◌, drop}
use Rattle.std.proofs.lemmas.List.{map-id}
use Rattle.std.proofs.lemmas.Result.{err_from_is_err_and}
use Rattle.wbin.specs.inside.Reading.{Reads}
use Rattle.wbin.proofs.SpelledTypes.{function_type_missing}
use Rattle.wbin.proofs.types.FunctionTypeEntry.read.Goals as goal

pub returns : goal.returns
unfolding Reads
returns c =
    let e = c.in_ok-found.ensures in
    let v = simp map-id at e.1.1 in
    (e.0, (drop (c.args.at + 1) c.args.bytes.now, e.1.0, c.in_ok-expect_byte.ensures.found, v, e.1.2))

pub returns-in_err-found : goal.returns-in_err-found
unfolding Reads
returns-in_err-found c =
    let p = err_from_is_err_and c.from_residual-in_err-found.result c.from_residual-in_err-found.ensures.1 in
    rw (p.1, p.2)
    (λ m. function_type_missing (drop c.args.at c.args.bytes.now) (drop (c.args.at + 1) c.args.bytes.now) c.in_ok-expect_byte.ensures.found (c.in_err-found.ensures m))
