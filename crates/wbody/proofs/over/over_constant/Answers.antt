use Rattle.std.proofs.Common.{[], ◌∷◌, rules}
use Rattle.wcode.specs.declared.value.ValueType.TheVariants.{I32, I64}
use Rattle.wcode.specs.declared.value.Value.TheVariants as values
use Rattle.wbody.specs.Typing.{takes_gives}
use Rattle.wbody.proofs.PlainWords.{constant_here, over_plain}
use Rattle.wbody.proofs.over.over_constant.Goals as goal

pub returns-in-I32 : goal.returns-in-I32
returns-in-I32 c =
    let i = c.i32_at-n in
    over_plain c.args.scope.now c.args.bytes.now c.args.at i.result.1 (takes_gives [] (I32 ∷ [])) c.put.result c.and.result c.args.stack.now c.put.new.self
    (constant_here c.args.scope.now c.args.bytes.now c.args.at i.result.1 (values.I32 i.result.0) i.ensures.word i.ensures.end.0 i.ensures.end.1 (search rules))
    c.put.ensures c.and.ensures

pub returns-in-I64 : goal.returns-in-I64
returns-in-I64 c =
    let i = c.i64_at-n in
    over_plain c.args.scope.now c.args.bytes.now c.args.at i.result.1 (takes_gives [] (I64 ∷ [])) c.put-in-I64.result c.and-in-I64.result c.args.stack.now c.put-in-I64.new.self
    (constant_here c.args.scope.now c.args.bytes.now c.args.at i.result.1 (values.I64 i.result.0) i.ensures.word i.ensures.end.0 i.ensures.end.1 (search rules))
    c.put-in-I64.ensures c.and-in-I64.ensures
