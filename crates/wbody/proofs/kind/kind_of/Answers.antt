use Rattle.std.proofs.Common.{refl, sym, ap, arith}
use Rattle.wcode.specs.declared.value.ValueType.TheVariants.{I32, I64}
use Rattle.wcode.specs.Opcodes.{form}
use Rattle.wbody.specs.declared.kind.Kind.TheVariants as kinds
use Rattle.wbody.specs.inside.Kinds.{form_kind}
use Rattle.wbody.proofs.KindForms.{kinds_in}
use Rattle.wbody.proofs.kind.kind_of.Goals as goal

pub returns-in-26 : goal.returns-in-26
unfolding form
returns-in-26 c e = ap (λ n. form_kind (form n)) (sym c.in-26.is)

pub returns-in-32 : goal.returns-in-32
unfolding form
returns-in-32 c e = ap (λ n. form_kind (form n)) (sym c.in-32.is)

pub returns-in-33 : goal.returns-in-33
unfolding form
returns-in-33 c e = ap (λ n. form_kind (form n)) (sym c.in-33.is)

pub returns-in-34 : goal.returns-in-34
unfolding form
returns-in-34 c e = ap (λ n. form_kind (form n)) (sym c.in-34.is)

pub returns-in-40 : goal.returns-in-40
unfolding form
returns-in-40 c e = ap (λ n. form_kind (form n)) (sym c.in-40.is)

pub returns-in-41 : goal.returns-in-41
unfolding form
returns-in-41 c e = ap (λ n. form_kind (form n)) (sym c.in-41.is)

pub returns-in-44 : goal.returns-in-44
unfolding form
returns-in-44 c e = ap (λ n. form_kind (form n)) (sym c.in-44.is)

pub returns-in-45 : goal.returns-in-45
unfolding form
returns-in-45 c e = ap (λ n. form_kind (form n)) (sym c.in-45.is)

pub returns-in-46 : goal.returns-in-46
unfolding form
returns-in-46 c e = ap (λ n. form_kind (form n)) (sym c.in-46.is)

pub returns-in-47 : goal.returns-in-47
unfolding form
returns-in-47 c e = ap (λ n. form_kind (form n)) (sym c.in-47.is)

pub returns-in-48 : goal.returns-in-48
unfolding form
returns-in-48 c e = ap (λ n. form_kind (form n)) (sym c.in-48.is)

pub returns-in-49 : goal.returns-in-49
unfolding form
returns-in-49 c e = ap (λ n. form_kind (form n)) (sym c.in-49.is)

pub returns-in-50 : goal.returns-in-50
unfolding form
returns-in-50 c e = ap (λ n. form_kind (form n)) (sym c.in-50.is)

pub returns-in-51 : goal.returns-in-51
unfolding form
returns-in-51 c e = ap (λ n. form_kind (form n)) (sym c.in-51.is)

pub returns-in-52 : goal.returns-in-52
unfolding form
returns-in-52 c e = ap (λ n. form_kind (form n)) (sym c.in-52.is)

pub returns-in-53 : goal.returns-in-53
unfolding form
returns-in-53 c e = ap (λ n. form_kind (form n)) (sym c.in-53.is)

pub returns-in-54 : goal.returns-in-54
unfolding form
returns-in-54 c e = ap (λ n. form_kind (form n)) (sym c.in-54.is)

pub returns-in-55 : goal.returns-in-55
unfolding form
returns-in-55 c e = ap (λ n. form_kind (form n)) (sym c.in-55.is)

pub returns-in-58 : goal.returns-in-58
unfolding form
returns-in-58 c e = ap (λ n. form_kind (form n)) (sym c.in-58.is)

pub returns-in-59 : goal.returns-in-59
unfolding form
returns-in-59 c e = ap (λ n. form_kind (form n)) (sym c.in-59.is)

pub returns-in-60 : goal.returns-in-60
unfolding form
returns-in-60 c e = ap (λ n. form_kind (form n)) (sym c.in-60.is)

pub returns-in-61 : goal.returns-in-61
unfolding form
returns-in-61 c e = ap (λ n. form_kind (form n)) (sym c.in-61.is)

pub returns-in-62 : goal.returns-in-62
unfolding form
returns-in-62 c e = ap (λ n. form_kind (form n)) (sym c.in-62.is)

pub returns-in-65 : goal.returns-in-65
unfolding form
returns-in-65 c e = ap (λ n. form_kind (form n)) (sym c.in-65.is)

pub returns-in-66 : goal.returns-in-66
unfolding form
returns-in-66 c e = ap (λ n. form_kind (form n)) (sym c.in-66.is)

pub returns-in-69 : goal.returns-in-69
unfolding form
returns-in-69 c e = ap (λ n. form_kind (form n)) (sym c.in-69.is)

pub returns-in-80 : goal.returns-in-80
unfolding form
returns-in-80 c e = ap (λ n. form_kind (form n)) (sym c.in-80.is)

pub returns-in-167 : goal.returns-in-167
unfolding form
returns-in-167 c e = ap (λ n. form_kind (form n)) (sym c.in-167.is)

pub returns-in-70-to-79 : goal.returns-in-70-to-79
returns-in-70-to-79 c e = kinds_in 70 10 (kinds.Two I32 I32) c.args.opcode refl (omega arith) (omega arith)

pub returns-in-81-to-90 : goal.returns-in-81-to-90
returns-in-81-to-90 c e = kinds_in 81 10 (kinds.Two I64 I32) c.args.opcode refl (omega arith) (omega arith)

pub returns-in-103-to-105 : goal.returns-in-103-to-105
returns-in-103-to-105 c e = kinds_in 103 3 (kinds.One I32 I32) c.args.opcode refl (omega arith) (omega arith)

pub returns-in-106-to-120 : goal.returns-in-106-to-120
returns-in-106-to-120 c e = kinds_in 106 15 (kinds.Two I32 I32) c.args.opcode refl (omega arith) (omega arith)

pub returns-in-121-to-123 : goal.returns-in-121-to-123
returns-in-121-to-123 c e = kinds_in 121 3 (kinds.One I64 I64) c.args.opcode refl (omega arith) (omega arith)

pub returns-in-124-to-138 : goal.returns-in-124-to-138
returns-in-124-to-138 c e = kinds_in 124 15 (kinds.Two I64 I64) c.args.opcode refl (omega arith) (omega arith)

pub returns-in-172-to-173 : goal.returns-in-172-to-173
returns-in-172-to-173 c e = kinds_in 172 2 (kinds.One I32 I64) c.args.opcode refl (omega arith) (omega arith)

pub returns-in-192-to-193 : goal.returns-in-192-to-193
returns-in-192-to-193 c e = kinds_in 192 2 (kinds.One I32 I32) c.args.opcode refl (omega arith) (omega arith)

pub returns-in-194-to-196 : goal.returns-in-194-to-196
returns-in-194-to-196 c e = kinds_in 194 3 (kinds.One I64 I64) c.args.opcode refl (omega arith) (omega arith)
