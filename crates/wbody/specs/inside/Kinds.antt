-- What the instruction of an opcode does to the operands, as far as its opcode tells it.
use Rattle.wcode.specs.declared.value.ValueType.TheVariants.{I32, I64}
use Rattle.wcode.specs.declared.operator.CvtOp.{CvtOp}
use Rattle.wcode.specs.declared.operator.CvtOp.TheVariants.{WrapI64, ExtendI32S, ExtendI32U, Extend8S, Extend16S, Extend32S}
use Rattle.wcode.specs.declared.instruction.Plain.{Plain}
use Rattle.wcode.specs.declared.instruction.Plain.TheVariants as plains
use Rattle.wcode.specs.declared.opcode.Form.{Form}
use Rattle.wcode.specs.declared.opcode.Form.TheVariants as forms
use Rattle.wcode.specs.declared.opcode.Indexed.{Indexed}
use Rattle.wcode.specs.declared.opcode.Indexed.TheVariants as indexed
use Rattle.wbody.specs.declared.kind.Kind.{Kind}
use Rattle.wbody.specs.declared.kind.Kind.TheVariants as kinds

abbrev pub convert_kind : CvtOp → Kind
convert_kind WrapI64 = kinds.One I64 I32
convert_kind ExtendI32S = kinds.One I32 I64
convert_kind ExtendI32U = kinds.One I32 I64
convert_kind (Extend8S t) = kinds.One t t
convert_kind (Extend16S t) = kinds.One t t
convert_kind Extend32S = kinds.One I64 I64

abbrev pub plain_kind : Plain → Kind
plain_kind (plains.Unary t op) = kinds.One t t
plain_kind (plains.Test t op) = kinds.One t I32
plain_kind (plains.Binary t op) = kinds.Two t t
plain_kind (plains.Relation t op) = kinds.Two t I32
plain_kind (plains.Convert op) = convert_kind op
plain_kind plains.Drop = kinds.Drop
plain_kind _ = kinds.Other

abbrev pub indexed_kind : Indexed → Kind
indexed_kind indexed.LocalGet = kinds.LocalGet
indexed_kind indexed.LocalSet = kinds.LocalSet
indexed_kind indexed.LocalTee = kinds.LocalTee
indexed_kind _ = kinds.Other

abbrev pub form_kind : Form → Kind
form_kind (forms.Plain p) = plain_kind p
form_kind (forms.Indexed i) = indexed_kind i
form_kind (forms.Load op) = kinds.Load op
form_kind (forms.Store op) = kinds.Store op
form_kind (forms.Const t) = kinds.Constant t
form_kind _ = kinds.Other
