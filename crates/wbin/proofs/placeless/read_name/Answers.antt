use Rattle.std.proofs.Common.{drop, ◌∙◌, sym}
use Rattle.wbin.specs.inside.Reading.{Reads}
use Rattle.wbin.proofs.Sized.{name_none, not_utf8, is_utf8}
use Rattle.wbin.proofs.placeless.read_name.Goals as goal

pub returns-else-is_ok-clause-read : goal.returns-else-is_ok-clause-read
unfolding Reads
returns-else-is_ok-clause-read c =
    let a = c.in-Ok in λ m. name_none (drop c.args.at c.args.bytes.now) a.name.now (drop a.next c.args.bytes.now) a.ensures.read.1
    (not_utf8 _ _ a.name.now c.from_utf8.result (sym c.is_ok.ensures.value ∙ c.if-is_ok.false) c.from_utf8.ensures.cases)

pub returns-then-is_ok-clause-read : goal.returns-then-is_ok-clause-read
unfolding Reads
returns-then-is_ok-clause-read c =
    let a = c.in-Ok in (a.ensures.read.0, (a.ensures.read.1, is_utf8 _ _ a.name.now c.from_utf8.result (sym c.is_ok.ensures.value ∙ c.if-is_ok.true) c.from_utf8.ensures.cases))
