-- Whether labels stand in rising order of their keys' bytes.
use Rattle.std.specs.Prelude.{Bool, true, not, ◌&&◌, List, [], ◌∷◌}
use Rattle.quant.specs.declared.objects.Label.{Label}
use Rattle.quant.specs.Name.{is_before}

-- no key comes before the one in front of it
abbrev pub are_in_order : List Label → Bool
are_in_order [] = true
are_in_order (label ∷ []) = true
are_in_order (label ∷ next ∷ rest) = not (is_before next.key label.key) && are_in_order (next ∷ rest)
