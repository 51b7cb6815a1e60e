use Rattle.std.proofs.Common.{drop, subst, arith}
use Rattle.wmodule.specs.Grammar.{SpellsBytes}
use Rattle.wbin.specs.inside.Reading.{Reads}
use Rattle.wbin.proofs.placed.ContentsPart.read.Goals as goal

pub returns-clause-read : goal.returns-clause-read
unfolding Reads
returns-clause-read c =
    let a = c.in_ok-contents.ensures in
    (a.read.0, subst (λ x. SpellsBytes (drop c.args.at c.args.bytes.now) x (drop c.in_ok-contents.end c.args.bytes.now)) a.place.2 a.read.1)

pub returns-clause-placed : goal.returns-clause-placed
unfolding Reads
returns-clause-placed c = let a = c.in_ok-contents.ensures in (omega arith, a.read.0)
