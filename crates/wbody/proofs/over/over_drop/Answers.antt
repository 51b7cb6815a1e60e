use Rattle.std.proofs.Common.{◌+◌, ◌≤◌, get_or, length, arith}
use Rattle.wbody.specs.Typing.{drops}
use Rattle.wbody.proofs.KindForms.{form_drop}
use Rattle.wbody.proofs.PlainWords.{plain_here, over_plain}
use Rattle.wbody.proofs.over.over_drop.Goals as goal

pub returns : goal.returns
returns c =
    over_plain c.args.scope.now c.args.bytes.now c.args.at (c.args.at + 1) drops c.drop_one.result c.and.result c.args.stack.now c.drop_one.new.self
    (plain_here c.args.scope.now c.args.bytes.now c.args.at drops c.requires.within (form_drop _ c.requires.known) (λ floor height within. omega arith))
    c.drop_one.ensures c.and.ensures
