-- Labels in rising order of their keys' bytes.
use Rattle.std.specs.Prelude.{List, [], ◌∷◌, if◌then◌else◌}
use Rattle.quant.specs.declared.objects.Label.{Label}
use Rattle.quant.specs.Name.{is_before}

-- a label among labels that are in order: behind each whose key comes before its own
abbrev pub put_in_order : Label → List Label → List Label
put_in_order label [] = label ∷ []
put_in_order label (first ∷ rest) =
    if is_before first.key label.key then first ∷ put_in_order label rest else label ∷ first ∷ rest

-- the labels in rising order of their keys; where keys are equal, as they came
abbrev pub in_key_order : List Label → List Label
in_key_order [] = []
in_key_order (label ∷ rest) = put_in_order label (in_key_order rest)
