use Rattle.std.proofs.Common.{◌≡◌, ◌∙◌, Some, sym}
use Rattle.wcode.specs.Syntax.{constant_of}
use Rattle.wmodule.specs.Syntax.{expression_in}
use Rattle.wtype.proofs.ConstantFound.{spelled}
use Rattle.wstore.proofs.Numbers.{offset_read}
use Rattle.wstore.proofs.constants.offset_at.Goals as goal

pub returns-in-Some : goal.returns-in-Some
returns-in-Some c =
    let bytes = c.args.decoded.now.bytes in
    let place = c.args.offset in
    let read : Some c.in-Some.value ≡ constant_of (expression_in bytes place) =
    sym c.in-Some.is ∙ c.read_constant.ensures (expression_in bytes place) _ (spelled bytes c.bytes.result.now place c.bytes.ensures c.requires) in
    c.place.ensures ∙ offset_read (expression_in bytes place) _ read

pub returns-in-None : goal.returns-in-None
returns-in-None c =
    let bytes = c.args.decoded.now.bytes in
    let place = c.args.offset in
    offset_read (expression_in bytes place) _
    (sym c.in-None.is ∙ c.read_constant.ensures (expression_in bytes place) _ (spelled bytes c.bytes.result.now place c.bytes.ensures c.requires))
