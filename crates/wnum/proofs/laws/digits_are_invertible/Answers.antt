use Rattle.std.proofs.Common.{◌∙◌, mod-eq_of_lt}
use Rattle.wnum.proofs.Digits.{from_ibits-ibits}
use Rattle.wnum.proofs.laws.digits_are_invertible.Goals as goal

pub returns : goal.returns
returns c = λ N i h. from_ibits-ibits N i ∙ mod-eq_of_lt h
