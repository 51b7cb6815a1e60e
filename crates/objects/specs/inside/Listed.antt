-- An amount in a field of amounts, where an object may stand that has the field.
use Rattle.std.specs.Prelude.{ℕ, List, Option, Result}
use Rattle.serde_json.specs.Data.{Data}
use Rattle.objects.specs.declared.resource.Resource.{Resource}
use Rattle.objects.specs.Amounts.{under}
use Rattle.objects.specs.LeftOut.{Fault}
use Rattle.objects.specs.Quantity.{◌>>=◌, key_of}

abbrev pub listed : (holder part : List ℕ) → Resource → Option Data → Result (Option Data) Fault
listed holder part resource value = under holder part value >>= under part (key_of resource)
