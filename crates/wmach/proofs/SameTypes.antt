-- What `==` says of two lists of types.
use Rattle.std.proofs.Common.{◌≡◌, List, [], ◌∷◌, refl}
use lib.Pointwise.{pointwise}
use Rattle.wcode.specs.declared.value.ValueType.{ValueType}
use Rattle.wcode.specs.declared.value.ValueType.TheVariants.{I32, I64}
use Rattle.wcode.specs.contracts.value.ValueTypePartialEq.TheImpl.{eq-value}
use Rattle.wbody.specs.Pass.{same_types}

-- it compares them one by one
pub pointwise_same : (ts us : List ValueType) → pointwise eq-value.it ts us ≡ same_types ts us
pointwise_same [] [] = refl
pointwise_same [] (u ∷ us) = refl
pointwise_same (t ∷ ts) [] = refl
pointwise_same (I32 ∷ ts) (I32 ∷ us) = pointwise_same ts us
pointwise_same (I32 ∷ ts) (I64 ∷ us) = refl
pointwise_same (I64 ∷ ts) (I32 ∷ us) = refl
pointwise_same (I64 ∷ ts) (I64 ∷ us) = pointwise_same ts us
