-- What a line of a script can say: names and texts in their limits, and no key twice.
use Rattle.std.specs.Prelude.{◌≤◌, Bool, ◌&&◌, not, List, bytes_eq}
use Rattle.std.specs.List.{list_any}
use Rattle.quant.specs.Name.{is_name, is_text}
use Rattle.quant.specs.Effect.{same_effect}
use Rattle.quant.specs.declared.limits.TheConstants.{MAX_VERSION}
use Rattle.quant.specs.declared.version.Version.{Version}
use Rattle.quant.specs.declared.objects.Label.{Label}
use Rattle.quant.specs.declared.taint.Taint.{Taint}
use Rattle.quant.specs.declared.taint.Toleration.{Toleration}
use Rattle.manifest.specs.Rows.{lawful}

-- a label whose key no label before it has
unfoldable pub says_label : List Label → Label → Bool
says_label before label =
    is_name label.key && is_text label.value && not (list_any (λ other. bytes_eq other.key label.key) before)

-- a taint whose key and effect no taint before it has together
unfoldable pub says_taint : List Taint → Taint → Bool
says_taint before taint =
    is_name taint.key && is_text taint.value
    && not (list_any (λ other. bytes_eq other.key taint.key && same_effect other.effect taint.effect) before)

-- a toleration that has a key with Equal, and no value with Exists
unfoldable pub says_toleration : List Toleration → Toleration → Bool
says_toleration before t = is_text t.key && is_text t.value && lawful t.operator t.key t.value

-- a version of an event
pub record IsVersion (version : Version) : Type 0 where
  pub least : 1 ≤ version.0
  pub most : version.0 ≤ MAX_VERSION
