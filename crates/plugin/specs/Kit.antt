-- What a kit is seen as, and what its plugins say.
use Rattle.std.specs.Prelude.{◌≡◌, ℕ, List, map, ◌⊎◌, Option, Some, None, slice_get, slice_set}
use Rattle.std.specs.List.{AllZip}
use Rattle.wmodule.specs.Syntax.{ModuleParts, module_of}
use Rattle.wstore.specs.Store.{Store}
use Rattle.wmach.specs.declared.export.Export.{Export}
use Rattle.wmach.specs.declared.export.Export.TheVariants as export
use Rattle.wmach.specs.declared.outcome.Outcome.{Outcome}
use Rattle.wmach.specs.Call.{MachineState, called_function}
use Rattle.whost.specs.Calls.{CallsFromImage}
use Rattle.whost.specs.Image.{IsImage}
use Rattle.whost.specs.declared.records.Records.{Records}
use Rattle.whost.specs.Handed.{told_of}
use Rattle.rules.specs.declared.verdict.FilterVerdict.{FilterVerdict}
use Rattle.rules.specs.declared.verdict.FilterVerdict.TheVariants as filter
use Rattle.rules.specs.declared.verdict.ScoreVerdict.{ScoreVerdict}
use Rattle.rules.specs.declared.verdict.ScoreVerdict.TheVariants as score
use Rattle.plugin.specs.Verdict.{filter_said, score_said}
use Rattle.rules.specs.RuleSet.{RuleSet, Told}
use Rattle.plugin.specs.Plugins.{Configured}

-- A plugin that is ready to be asked: how much its score counts, the fuel of each call, its module,
-- and the image from which each call begins.
pub record Ready : Type 0 where
  pub weight : ℕ
  pub fuel : ℕ
  pub content : ModuleParts
  pub image : Store

-- A plugin's instance in a kit: the plugin, ready to be asked, and what the instance's store is
-- now. No answer tells of the store, since each call begins from the image.
pub record InstanceState : Type 0 where
  pub ready : Ready
  pub store : Store

-- the plugins of a kit, whatever their instances' stores are
abbrev pub ready_parts : List InstanceState → List Ready
ready_parts kit = map (λ i. i.ready) kit

-- an instance is where its calls begin
abbrev pub IsAtImage : InstanceState → Type 0
IsAtImage i = i.store ≡ i.ready.image

-- its instance, as it is before its first call
abbrev pub at_image : Ready → MachineState
at_image plugin = record { content = plugin.content; store = plugin.image; image = plugin.image }

-- the plugin has this to be called
abbrev pub called : Ready → Export → Option ℕ
called plugin export = called_function (module_of plugin.content) export

-- A call of the plugin, which begins from its image with these records, ends with this outcome.
pub record Ends (plugin : Ready) (export : Export) (told : Records) (outcome : Outcome) : Type 0 where
  pub after : MachineState
  pub calls : CallsFromImage (at_image plugin) export told plugin.fuel outcome after

-- What a plugin says of a pod and a node: what is said by how its call ends, or, where it has
-- nothing to be called, this.
abbrev pub Says : {Verdict : Type 0} → Ready → Export → (without : Verdict) → (said : Outcome → Verdict) → (told : Records) → Verdict → Type 0
Says plugin export without said told verdict =
    ((called plugin export ≡ None) × (verdict ≡ without))
    ⊎ ((outcome : Outcome) × Ends plugin export told outcome × (verdict ≡ said outcome))

-- its filter says this; a plugin without one lets the node pass
abbrev pub FilterSays : Ready → (told : Records) → FilterVerdict → Type 0
FilterSays plugin told verdict = Says plugin export.Filter filter.Passes filter_said told verdict

-- its score says this; a plugin without one gives 0
abbrev pub ScoreSays : Ready → (told : Records) → ScoreVerdict → Type 0
ScoreSays plugin told verdict = Says plugin export.Score (score.Good 0) score_said told verdict

-- the records by which plugins are told of a pod, and of a node with what is used of it
abbrev pub records_of : Told → Records
records_of told = told_of told.pod told.node told.used

-- what the plugins of a kit say, each at its place, by these records
abbrev pub rules_of : List Ready → RuleSet
rules_of kit = record {
  weights = map (λ p. p.weight) kit;
  Filters = λ place told verdict. (p : Ready) × (slice_get kit place ≡ Some p) × FilterSays p (records_of told) verdict;
  Scores = λ place told verdict. (p : Ready) × (slice_get kit place ≡ Some p) × ScoreSays p (records_of told) verdict;
}

-- a plugin that is ready is this one, from its image
pub record IsReadyOf (plugin : Configured) (ready : Ready) : Type 0 where
  pub weight : ready.weight ≡ plugin.weight
  pub fuel : ready.fuel ≡ plugin.fuel
  pub content : ready.content ≡ plugin.content
  pub image : IsImage (module_of plugin.content) plugin.fuel ready.image

-- a kit of the plugins has each of them ready, in their order
abbrev pub IsKitOf : List Configured → List Ready → Type 0
IsKitOf plugins kit = AllZip IsReadyOf plugins kit

-- Of all instances only the one at a place has changed, and of it only its store.
pub record OnlyItsStore (place : ℕ) (old new : List InstanceState) : Type 0 where
  pub instance : InstanceState
  pub there : slice_get old place ≡ Some instance
  pub store : Store
  pub others : new ≡ slice_set old place (record instance { store = store })
