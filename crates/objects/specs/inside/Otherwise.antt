-- What a reader of a list puts where it is no list.
use Rattle.std.specs.Prelude.{ℕ, List, [], Option, Some, None}
use Rattle.objects.specs.LeftOut.{left_out}

-- a name, if there is one
abbrev pub otherwise : Option (List ℕ) → List ℕ
otherwise None = []
otherwise (Some what) = left_out what []
