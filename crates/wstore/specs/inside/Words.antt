-- Globals as numbers, beside the module's list that has their types.
use Rattle.std.specs.Prelude.{ℕ, List, [], ◌∷◌}
use Rattle.wcode.specs.declared.value.Value.{Value}
use Rattle.wmodule.specs.declared.module.GlobalVariable.{GlobalVariable}
use Rattle.wmodule.specs.Syntax.{expression_in}
use Rattle.wstore.specs.Values.{value_of, word_of, first_value}

-- numbers as values, each of its global's type
abbrev pub values_in : List GlobalVariable → List ℕ → List Value
values_in [] words = []
values_in (g ∷ gs) [] = []
values_in (g ∷ gs) (word ∷ words) = value_of g.kind.value word ∷ values_in gs words

-- the number of a global's first value
abbrev pub first_word_of : List ℕ → GlobalVariable → ℕ
first_word_of bytes g = word_of (first_value (expression_in bytes g.first) g.kind.value)
