-- What a row has packed of its labels.
use Rattle.std.specs.Prelude.{◌≡◌, ℕ, ◌≤◌, true, List, length}
use Rattle.std.specs.List.{flat_map}
use Rattle.quant.specs.declared.objects.Label.{Label}
use Rattle.quant.specs.LabelOrder.{are_in_order}
use Rattle.quant.specs.Packed.{packed_label}

-- each label that stands in order, as its key and its value
pub record ArePacked (labels : List Label) (packed : List ℕ) : Type 0 where
  pub in_order : are_in_order labels ≡ true
  pub bytes : packed ≡ flat_map packed_label labels
  pub short : length packed ≤ 4096
