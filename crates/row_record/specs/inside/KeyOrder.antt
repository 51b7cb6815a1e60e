-- The label at a place.
use Rattle.std.specs.Prelude.{ℕ, List, [], slice_index_or}
use Rattle.quant.specs.declared.objects.Label.{Label}

-- the label at a place, and an empty one past the end
abbrev pub label_at : List Label → ℕ → Label
label_at labels place = slice_index_or labels place (record { key = []; value = [] })
