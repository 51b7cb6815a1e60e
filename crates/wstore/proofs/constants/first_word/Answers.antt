use Rattle.std.proofs.Common.{◌≡◌, ◌∙◌, Some, sym}
use Rattle.wcode.specs.Syntax.{constant_of}
use Rattle.wmodule.specs.Syntax.{expression_in}
use Rattle.wtype.proofs.ConstantFound.{spelled}
use Rattle.wstore.proofs.Numbers.{first_word_read}
use Rattle.wstore.proofs.constants.first_word.Goals as goal

pub returns-in-Some : goal.returns-in-Some
returns-in-Some c =
    let m = c.args.decoded.now in
    let place = c.args.global.first in
    let read : Some c.in-Some.value ≡ constant_of (expression_in m.bytes place) =
    sym c.in-Some.is ∙ c.read_constant.ensures (expression_in m.bytes place) _ (spelled m.bytes c.bytes.result.now place c.bytes.ensures c.requires) in
    c.word.ensures ∙ first_word_read (expression_in m.bytes place) c.args.global.kind.value _ read

pub returns-in-None : goal.returns-in-None
returns-in-None c =
    let m = c.args.decoded.now in
    let place = c.args.global.first in
    first_word_read (expression_in m.bytes place) c.args.global.kind.value _
    (sym c.in-None.is ∙ c.read_constant.ensures (expression_in m.bytes place) _ (spelled m.bytes c.bytes.result.now place c.bytes.ensures c.requires))
