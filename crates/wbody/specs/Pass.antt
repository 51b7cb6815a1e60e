-- The typing of a body as it is done, from the first instruction to the last: with what is known of
-- the operands so far (WebAssembly Core 1.0, the appendix on validation).
use Rattle.std.specs.Prelude.{[], ◌∷◌, Bool, true, false, ◌&&◌}
use Rattle.wcode.specs.declared.value.ValueType.{ValueType}
use Rattle.wcode.specs.declared.value.ValueType.TheVariants.{I32, I64}
use Rattle.wbody.specs.Context.{Operands}

-- one type is another
abbrev pub same_type : ValueType → ValueType → Bool
same_type I32 I32 = true
same_type I32 I64 = false
same_type I64 I32 = false
same_type I64 I64 = true

-- these operands are those
abbrev pub same_types : Operands → Operands → Bool
same_types [] [] = true
same_types [] (u ∷ us) = false
same_types (t ∷ ts) [] = false
same_types (t ∷ ts) (u ∷ us) = same_type t u && same_types ts us
