-- The labels, taints, tolerations and containers of a line. An item's type is told before its
-- values: that it is an array of so many texts.
use Rattle.std.specs.Prelude.{ℕ, Bool, ◌&&◌, ◌||◌, not, List, [], codes, bytes_eq, Option, Some, None, Result, Ok, Err, option_map, if◌then◌else◌}
use Rattle.std.specs.List.{list_any}
use Rattle.std.specs.Option.{ok_or}
use Rattle.serde_json.specs.Data.{Data}
use Rattle.quant.specs.declared.objects.Label.{Label}
use Rattle.quant.specs.declared.taint.Taint.{Taint}
use Rattle.quant.specs.declared.taint.Toleration.{Toleration}
use Rattle.quant.specs.declared.taint.Effect.{Effect}
use Rattle.quant.specs.declared.taint.Effect.TheVariants.{NoSchedule, PreferNoSchedule, NoExecute}
use Rattle.quant.specs.declared.taint.Operator.{Operator}
use Rattle.quant.specs.declared.taint.Operator.TheVariants.{Equal, Exists}
use Rattle.quant.specs.declared.amount.Request.{Request}
use Rattle.quant.specs.Effect.{same_effect}
use Rattle.manifest.specs.declared.field.Field.{Field}
use Rattle.manifest.specs.declared.fault.LineFault.{LineFault}
use Rattle.manifest.specs.declared.fault.LineFault.TheVariants.{BadField}
use Rattle.manifest.specs.Reading.{◌>>=◌, name_from, text_from, cpu_from, memory_from, request}
use Rattle.manifest.specs.Item.{parts, part}

-- a taint's effect, by its name
unfoldable pub effect_named : List ℕ → Option Effect
effect_named bytes =
    if bytes_eq bytes (codes "NoSchedule") then Some NoSchedule
    else if bytes_eq bytes (codes "PreferNoSchedule") then Some PreferNoSchedule
    else if bytes_eq bytes (codes "NoExecute") then Some NoExecute
    else None

-- a toleration's effect: the empty text is none, which stands for every effect
unfoldable pub effect_or_none : List ℕ → Option (Option Effect)
effect_or_none bytes = if bytes_eq bytes [] then Some None else option_map Some (effect_named bytes)

-- a toleration's operator, by its name; the empty text stands for Equal
unfoldable pub operator_named : List ℕ → Option Operator
operator_named bytes =
    if bytes_eq bytes [] || bytes_eq bytes (codes "Equal") then Some Equal
    else if bytes_eq bytes (codes "Exists") then Some Exists
    else None

-- with Equal there is a key, and with Exists there is no value
abbrev pub lawful : Operator → (key value : List ℕ) → Bool
lawful Equal key value = not (bytes_eq key [])
lawful Exists key value = bytes_eq value []

-- [key, value], where no label before it has the key
unfoldable pub label : Field → List Label → Data → Result Label LineFault
label field before item = do
  found ← parts 2 field item
  key ← part 0 field found
  value ← part 1 field found
  key ← name_from field key
  value ← text_from field value
  if list_any (λ other. bytes_eq other.key key) before then Err (BadField field) else Ok (record { key = key; value = value })

-- [key, value, effect], where no taint before it has both the key and the effect
unfoldable pub taint : Field → List Taint → Data → Result Taint LineFault
taint field before item = do
  found ← parts 3 field item
  key ← part 0 field found
  value ← part 1 field found
  effect ← part 2 field found
  key ← name_from field key
  value ← text_from field value
  effect ← ok_or (effect_named effect) (BadField field)
  if list_any (λ other. bytes_eq other.key key && same_effect other.effect effect) before then Err (BadField field) else Ok (record { key = key; value = value; effect = effect })

-- [key, operator, value, effect]
unfoldable pub toleration : Field → List Toleration → Data → Result Toleration LineFault
toleration field before item = do
  found ← parts 4 field item
  key ← part 0 field found
  operator ← part 1 field found
  value ← part 2 field found
  effect ← part 3 field found
  key ← text_from field key
  operator ← ok_or (operator_named operator) (BadField field)
  value ← text_from field value
  effect ← ok_or (effect_or_none effect) (BadField field)
  if lawful operator key value then Ok (record { key = key; operator = operator; value = value; effect = effect }) else Err (BadField field)

-- [cpu, mem]: what a container asks
unfoldable pub container : Field → List Request → Data → Result Request LineFault
container field before item = do
  found ← parts 2 field item
  cpu ← part 0 field found
  mem ← part 1 field found
  cpu ← cpu_from field cpu
  mem ← memory_from field mem
  request field cpu mem
