-- What the code's effects are seen as.
use Rattle.std.specs.Prelude.{◌++◌, reverse}
use Rattle.wbody.specs.declared.operand_stack.Effect.{Effect}
use Rattle.wbody.specs.declared.operand_stack.Effect.TheVariants as effects
use Rattle.wbody.specs.Context.{at_most_one}
use Rattle.wbody.specs.Typing.{PlainType, takes_gives, drops, selects, ends, untyped}

-- the type of an instruction that does this
abbrev pub effect_type : Effect → PlainType
effect_type (effects.Moves above types gives) = takes_gives (at_most_one above ++ reverse types.now) (at_most_one gives)
effect_type effects.Drops = drops
effect_type effects.Selects = selects
effect_type (effects.Ends types) = ends (reverse types.now)
effect_type effects.Untyped = untyped
