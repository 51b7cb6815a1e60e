use Rattle.std.proofs.Common.{drop, take, length, ◌-◌}
use Rattle.wbin.specs.inside.Reading.{Reads}
use Rattle.wbin.specs.inside.Codes.{ReadsCode}
use Rattle.wbin.proofs.CodeContents.{code_missing}
use Rattle.wbin.proofs.Places.{code_found}
use Rattle.wbin.proofs.code.FunctionCodePart.read.Goals as goal

pub returns-in-Ok-clause-read : goal.returns-in-Ok-clause-read
unfolding Reads
returns-in-Ok-clause-read c =
    let a = c.in_ok-contents in
    (a.ensures.read.0, (code_found c.args.bytes.now c.args.at (a.end - length a.contents.now) a.end a.contents.now c.in-Ok.code a.ensures.read.1 a.ensures.place.2 c.in-Ok.ensures).0)

pub returns-in-Ok-clause-placed : goal.returns-in-Ok-clause-placed
unfolding Reads
returns-in-Ok-clause-placed c =
    let a = c.in_ok-contents in
    (code_found c.args.bytes.now c.args.at (a.end - length a.contents.now) a.end a.contents.now c.in-Ok.code a.ensures.read.1 a.ensures.place.2 c.in-Ok.ensures).1

pub returns-in-Err-clause-read : goal.returns-in-Err-clause-read
unfolding Reads ReadsCode
returns-in-Err-clause-read c =
    let a = c.in_ok-contents in
    λ m. code_missing (drop c.args.at c.args.bytes.now) a.contents.now (drop (a.end - length a.contents.now) (take a.end c.args.bytes.now)) (drop a.end c.args.bytes.now) a.ensures.read.1 a.ensures.place.2
    (c.in-Err.ensures (λ d. m (c.fenced_body.ensures d)))
