-- What is packed of a row's labels, as texts with their lengths.
use Rattle.std.specs.Prelude.{ℕ, List, ◌∷◌, ◌++◌, length}
use Rattle.quant.specs.declared.objects.Label.{Label}

-- a text: its length and its bytes
abbrev pub packed_text : List ℕ → List ℕ
packed_text text = length text ∷ text

-- a label: its key and its value
abbrev pub packed_label : Label → List ℕ
packed_label label = packed_text label.key ++ packed_text label.value
