use Rattle.std.proofs.Common.{◌+◌, ◌≤◌, [], ◌∷◌, get_or, length, arith}
use Rattle.wcode.specs.Opcodes.{form}
use Rattle.wbody.specs.Typing.{takes_gives}
use Rattle.wbody.proofs.KindForms.{form_one}
use Rattle.wbody.proofs.PlainWords.{plain_here, few_more, over_plain}
use Rattle.wbody.proofs.over.over_one.Goals as goal

pub returns : goal.returns
returns c =
    let t = c.args.t in
    let g = c.args.gives in
    over_plain c.args.scope.now c.args.bytes.now c.args.at (c.args.at + 1) _ c.change_one.result c.and.result c.args.stack.now c.change_one.new.self
    (plain_here c.args.scope.now c.args.bytes.now c.args.at (takes_gives (t ∷ []) (g ∷ [])) c.requires.within (form_one _ t g c.requires.known) (few_more (t ∷ []) (g ∷ []) (omega arith)))
    c.change_one.ensures c.and.ensures
