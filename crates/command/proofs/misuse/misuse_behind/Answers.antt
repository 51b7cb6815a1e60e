use Rattle.std.proofs.Common.{◌∙◌, sym}
use Rattle.command.proofs.MisuseLemmas.{goes_on, stops}
use Rattle.command.proofs.misuse.misuse_behind.Goals as goal

pub loop-at-preserved : goal.loop-at-preserved
loop-at-preserved g c =
    c.loop-at.invariant
    ∙ goes_on g.S.AsStr.text c.args.verb c.loop-at.read_as c.read_behind-read_as.result c.args.args.now c.loop-at.at c.index-args-at.result c.as_str-word.result.now c.wrong_word.result
    c.loop-at-test.true c.index-args-at.is c.as_str-word.ensures c.wrong_word.ensures c.in_default.is c.read_behind-read_as.ensures

pub returns-in-Some : goal.returns-in-Some
returns-in-Some g c =
    sym (c.loop-at.invariant
    ∙ stops g.S.AsStr.text c.args.verb c.loop-at.read_as c.args.args.now c.loop-at.at c.index-args-at.result c.as_str-word.result.now c.wrong_word.result c.in-Some.misuse
    c.loop-at-test.true c.index-args-at.is c.as_str-word.ensures c.wrong_word.ensures c.in-Some.is)
