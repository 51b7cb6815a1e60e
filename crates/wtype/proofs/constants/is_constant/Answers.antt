use Rattle.std.proofs.Common.{◌≡◌, Some, sym, ◌∙◌, rules}
use denote.Enum.Bare.{same_true, same_false}
use Rattle.wcode.specs.contracts.value.ValueType.{the_type}
use Rattle.wcode.specs.Syntax.{constant_of}
use Rattle.wmodule.specs.Syntax.{expression_in}
use Rattle.wtype.specs.Accepted.{ConstantOf}
use Rattle.wtype.proofs.ConstantFound.{on_bool, constant_read, constant_typed, no_constant, spelled}
use Rattle.wtype.proofs.constants.is_constant.Goals as goal

pub returns-in-Some : goal.returns-in-Some
returns-in-Some c =
    let t = c.args.wanted in
    let e = expression_in c.args.decoded.now.bytes c.args.place in
    let v = c.in-Some.value in
    let read : Some v ≡ constant_of e = sym c.in-Some.is ∙ c.read_constant.ensures e _ (spelled c.args.decoded.now.bytes c.bytes.result.now c.args.place c.bytes.ensures c.requires) in
    on_bool {P = ConstantOf t e} {Q = ConstantOf t e → ⊥} c.eq.result (λ h. constant_read t e v read c.type_of_value.ensures.range (sym c.type_of_value.ensures.value ∙ same_true the_type (search rules) _ _ (sym c.eq.ensures ∙ h))) (λ h x. same_false the_type _ _ (sym c.eq.ensures ∙ h) (c.type_of_value.ensures.value ∙ constant_typed t e v read x))

pub returns-in-None : goal.returns-in-None
returns-in-None c =
    let e = expression_in c.args.decoded.now.bytes c.args.place in
    no_constant c.args.wanted e (sym c.in-None.is ∙ c.read_constant.ensures e _ (spelled c.args.decoded.now.bytes c.bytes.result.now c.args.place c.bytes.ensures c.requires))
