-- Why a plugin isn't configured, or none is ready: the numbers and names of the refusals, and when
-- each comes.
use Rattle.std.specs.Prelude.{◌≡◌, ℕ, ◌<◌, List, length, take, Some, slice_get, codes}
use Rattle.std.specs.List.{All}
use Rattle.wmodule.specs.Syntax.{module_of}
use Rattle.wstore.specs.Store.{Store}
use Rattle.whost.specs.Image.{IsImage}
use Rattle.whost.specs.Refused.{WhyRefused}
use Rattle.plugin.specs.declared.fault.AddFault.{AddFault}
use Rattle.plugin.specs.declared.fault.AddFault.TheVariants.{Twice, Full, NoMemory}
use Rattle.plugin.specs.declared.fault.KitFault.{KitFault}
use Rattle.plugin.specs.declared.fault.NoKits.{NoKits}
use Rattle.plugin.specs.declared.fault.NoKits.TheVariants as no_kits
use Rattle.plugin.specs.Plugins.{Configured, IsTaken}

-- a fault's number
abbrev pub number_of : AddFault → ℕ
number_of Twice = 1
number_of Full = 2
number_of NoMemory = 3

-- a fault's name
abbrev pub name_of : AddFault → List ℕ
name_of Twice = codes "Twice"
name_of Full = codes "Full"
name_of NoMemory = codes "NoMemory"

-- what stands where a plugin of this name isn't added to the plugins
abbrev pub WhyNotAdded : List Configured → (name : List ℕ) → AddFault → Type 0
WhyNotAdded plugins name Twice = IsTaken plugins name
WhyNotAdded plugins name Full = (¬ (IsTaken plugins name)) × (length plugins ≡ 16)
WhyNotAdded plugins name NoMemory = (¬ (IsTaken plugins name)) × (length plugins < 16)

-- a plugin's module has an image
abbrev pub HasImage : Configured → Type 0
HasImage plugin = (image : Store) × IsImage (module_of plugin.content) plugin.fuel image

-- what stands where a plugin, which is named, isn't ready to be asked
pub record WhyNotReady (plugin : Configured) (fault : KitFault) : Type 0 where
  pub named : fault.plugin ≡ plugin.name
  pub why : WhyRefused (module_of plugin.content) plugin.fuel fault.fault

-- What stands where there is no kit of the plugins: one of them isn't ready, and each in front of
-- it has an image.
pub record WhyNoKit (plugins : List Configured) (fault : KitFault) : Type 0 where
  pub place : ℕ
  pub plugin : Configured
  pub there : slice_get plugins place ≡ Some plugin
  pub fails : WhyNotReady plugin fault
  pub before : All HasImage (take place plugins)

-- what stands where there are no kits of the plugins; want of memory says nothing of them
abbrev pub WhyNoKits : List Configured → NoKits → Type 0
WhyNoKits plugins (no_kits.NotReady fault) = WhyNoKit plugins fault
WhyNoKits plugins no_kits.NoMemory = Unit {0}
