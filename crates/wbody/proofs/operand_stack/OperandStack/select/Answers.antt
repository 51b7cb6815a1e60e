use Rattle.std.proofs.Common.{refl, sym}
use Rattle.wbody.proofs.Changed.{nothing_selects, none_selected, first_missing, second_missing, both_differ, one_selected}
use Rattle.wbody.proofs.operand_stack.OperandStack.select.Goals as goal

pub returns-then-not-take : goal.returns-then-not-take
returns-then-not-take c = nothing_selects c.take.result c.args.self.now c.take.new.self c.take.new.self c.if-not-take.true c.take.ensures

pub returns-in_default : goal.returns-in_default
returns-in_default c =
    let m = c.take.new.self in
    none_selected c.take.result c.args.self.now m c.take_any.new.self c.if-not-take.false c.take.ensures (first_missing m (c.in_default.ensures.missing refl))

pub returns-in_default-take_any : goal.returns-in_default-take_any
returns-in_default-take_any c =
    let m = c.take.new.self in
    let k = c.take_any.new.self in
    none_selected c.take.result c.args.self.now m c.take_any-2.new.self c.if-not-take.false c.take.ensures (second_missing m k c.in-Some.ensures.taken (c.in_default-take_any.ensures.missing refl))

pub returns-in_default-common_of : goal.returns-in_default-common_of
returns-in_default-common_of c =
    let m = c.take.new.self in
    let k = c.take_any.new.self in
    let a = c.in-Some.ensures in
    none_selected c.take.result c.args.self.now m c.take_any-2.new.self c.if-not-take.false c.take.ensures
    (both_differ m k c.in-Some.first c.in-Some-take_any.second a.taken a.top c.in-Some-take_any.ensures.top (sym c.in_default-common_of.ensures))

pub returns : goal.returns
returns c =
    let m = c.take.new.self in
    let k = c.take_any.new.self in
    let l = c.take_any-2.new.self in
    let a = c.in-Some.ensures in
    let b = c.in-Some-take_any.ensures in
    one_selected c.take.result c.give.result c.args.self.now m k l c.give.new.self c.in-Some.first c.in-Some-take_any.second c.in-Some-common_of.both c.if-not-take.false c.take.ensures
    a.taken a.top a.same c.take_any.ensures.greatest b.taken b.top b.same c.take_any-2.ensures.greatest (sym c.in-Some-common_of.ensures) c.give.ensures
