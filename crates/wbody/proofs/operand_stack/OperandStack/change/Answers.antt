use Rattle.std.proofs.Common.{◌++◌, reverse, Option, sym, subst, Ok}
use Rattle.wcode.specs.declared.value.ValueType.{ValueType}
use Rattle.wbody.specs.Context.{at_most_one}
use Rattle.wbody.specs.Typing.{takes_gives}
use Rattle.wbody.specs.inside.OperandStack.{Changes}
use Rattle.wbody.proofs.Changed.{taken_both, missing_both, untaken, taken_alone, taken_given}
use Rattle.wbody.proofs.operand_stack.OperandStack.change.Goals as goal

pub returns-then-not-take_at_most_one : goal.returns-then-not-take_at_most_one
returns-then-not-take_at_most_one c =
    let a = c.take_at_most_one in
    let s = c.args.self.now in
    let above = at_most_one c.args.above in
    let types = reverse c.args.types.now in
    untaken (above ++ types) (at_most_one c.args.gives) a.result s a.new.self a.new.self c.if-not-take_at_most_one.true (missing_both above types a.result s a.new.self c.if-not-take_at_most_one.true a.ensures)

pub returns-then-not-take_all : goal.returns-then-not-take_all
returns-then-not-take_all c =
    let a = c.take_at_most_one in
    let b = c.take_all in
    let s = c.args.self.now in
    let above = at_most_one c.args.above in
    let types = reverse c.args.types.now in
    untaken (above ++ types) (at_most_one c.args.gives) b.result s b.new.self b.new.self c.if-not-take_all.true
    (taken_both above types a.result b.result s a.new.self b.new.self c.if-not-take_at_most_one.false a.ensures b.ensures)

pub returns-in-None : goal.returns-in-None
returns-in-None c =
    let a = c.take_at_most_one in
    let b = c.take_all in
    let s = c.args.self.now in
    let above = at_most_one c.args.above in
    let types = reverse c.args.types.now in
    subst (λ (g : Option ValueType). Changes (takes_gives (above ++ types) (at_most_one g)) (Ok tt) s b.new.self) (sym c.in-None.is)
    (taken_alone (above ++ types) b.result s b.new.self c.if-not-take_all.false
    (taken_both above types a.result b.result s a.new.self b.new.self c.if-not-take_at_most_one.false a.ensures b.ensures))

pub returns-in-Some : goal.returns-in-Some
returns-in-Some c =
    let a = c.take_at_most_one in
    let b = c.take_all in
    let s = c.args.self.now in
    let above = at_most_one c.args.above in
    let types = reverse c.args.types.now in
    subst (λ (g : Option ValueType). Changes (takes_gives (above ++ types) (at_most_one g)) c.give.result s c.give.new.self) (sym c.in-Some.is)
    (taken_given (above ++ types) c.in-Some.t b.result c.give.result s b.new.self c.give.new.self c.if-not-take_all.false
    (taken_both above types a.result b.result s a.new.self b.new.self c.if-not-take_at_most_one.false a.ensures b.ensures) c.give.ensures)
