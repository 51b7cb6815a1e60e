-- A site's plugins: what the words configure, with what the files have.
use Rattle.std.specs.Prelude.{◌≡◌, ◌≢◌, ◌⊎◌, ◌<◌, ℕ, List, [], ◌∷◌, length, map, take, Option, Some, IfSome, slice_get}
use Rattle.std.specs.List.{All, AllZip}
use Rattle.wmodule.specs.Syntax.{module_of}
use Rattle.wmodule.specs.Grammar.{Spells}
use Rattle.wtype.specs.Accepted.{Accepted}
use Rattle.whost.specs.declared.fault.InstanceFault.TheVariants as instance_fault
use Rattle.plugin.specs.declared.fault.KitFault.{KitFault}
use Rattle.plugin.specs.Plugins.{Configured}
use Rattle.plugin.specs.Kit.{Ready, IsKitOf}
use Rattle.plugin.specs.Refused.{WhyNoKit}
use Rattle.output_lines.specs.declared.named_rule.NamedRule.{NamedRule}
use Rattle.streams.specs.declared.fault.RunFault.TheVariants as run_fault
use Rattle.command.specs.Words.{SpecSyntax}
use Rattle.fault_line.specs.declared.fault.Fault.{Fault}
use Rattle.fault_line.specs.declared.fault.Fault.TheVariants.{Plugin, Unread, Run}
use Rattle.fault_line.specs.declared.unread.PluginUnread.{PluginUnread}
use Rattle.fault_line.specs.Excerpt.{excerpt_of}
use Rattle.fault_line.specs.declared.refusal.Refusal.TheVariants.{NotReady}
use Rattle.fault_line.specs.Fault.{status_of}
use Rattle.site_modules.specs.Verdict.{IsRefusedFor, front_of}

-- the names and weights that plugins are given
abbrev pub named_of : List SpecSyntax → List NamedRule
named_of specs = map (λ s. record { name = s.name; weight = s.weight }) specs

-- A plugin is the one that the words configure, and its module the one that these bytes spell,
-- which is accepted.
pub record IsPlugin (spec : SpecSyntax) (bytes : List ℕ) (plugin : Configured) : Type 0 where
  pub name : plugin.name ≡ spec.name
  pub weight : plugin.weight ≡ spec.weight
  pub fuel : plugin.fuel ≡ spec.fuel
  pub spells : Spells bytes (module_of plugin.content)
  pub accepted : Accepted (module_of plugin.content)

-- plugins are those that the words configure, each with the bytes of its module, in their order
abbrev pub ArePlugins : List SpecSyntax → (modules : List (List ℕ)) → List Configured → Type 0
ArePlugins [] [] [] = Unit {0}
ArePlugins (spec ∷ specs) (bytes ∷ modules) (plugin ∷ plugins) = IsPlugin spec bytes plugin × ArePlugins specs modules plugins
ArePlugins _ _ _ = ⊥

-- The modules are what the plugins' files have, where that is known. Of a file no more is read than
-- tells that it is longer than a module may be.
abbrev pub AreFromFiles : (contents : List ℕ → Option (List ℕ)) → List SpecSyntax → (modules : List (List ℕ)) → Type 0
AreFromFiles contents specs modules = AllZip (λ spec bytes. IfSome (contents spec.file) (λ whole. bytes ≡ front_of whole)) specs modules

-- A plugin's file couldn't be read, where files have failed this often before and by now: the words
-- configure the plugin by this file.
pub record UnreadPlugin (specs : List SpecSyntax) (failures_old failures_new : ℕ) (unread : PluginUnread) : Type 0 where
  pub place : ℕ
  pub spec : SpecSyntax
  pub spec_is : slice_get specs place ≡ Some spec
  pub named : spec.name ≡ unread.plugin
  pub file : unread.fault.file.items ≡ excerpt_of spec.file
  pub failed : failures_old < failures_new

-- Why there are no modules of the plugins that the words configure: memory was wanting, and no file
-- has failed; or a plugin's file couldn't be read.
abbrev pub WhyNoModules : List SpecSyntax → (failures_old failures_new : ℕ) → Fault → Type 0
WhyNoModules specs failures_old failures_new (Run run_fault.NoMemory) = failures_new ≡ failures_old
WhyNoModules specs failures_old failures_new (Unread unread) = UnreadPlugin specs failures_old failures_new unread
WhyNoModules specs failures_old failures_new _ = ⊥

-- so many kits are those of one site
pub record AreSiteKits (specs : List SpecSyntax) (modules : List (List ℕ)) (workers : ℕ) (kits : List (List Ready)) : Type 0 where
  pub plugins : List Configured
  pub are : ArePlugins specs modules plugins
  pub all : All (IsKitOf plugins) kits
  pub count : length kits ≡ workers

-- Why a plugin of this name can't be had from these bytes: they spell no module, or one that isn't
-- accepted. Want of memory says nothing of them.
abbrev pub WhyNoPlugin : (name bytes : List ℕ) → Fault → Type 0
WhyNoPlugin name bytes (Run run_fault.NoMemory) = Unit {0}
WhyNoPlugin name bytes (Plugin named why) = (named ≡ name) × IsRefusedFor bytes why
WhyNoPlugin name bytes _ = ⊥

-- The module of a plugin is refused, or memory was wanting for it; each plugin in front of it can
-- be had.
pub record ModuleRefused (specs : List SpecSyntax) (modules : List (List ℕ)) (fault : Fault) : Type 0 where
  pub place : ℕ
  pub spec : SpecSyntax
  pub bytes : List ℕ
  pub spec_is : slice_get specs place ≡ Some spec
  pub bytes_are : slice_get modules place ≡ Some bytes
  pub before : List Configured
  pub are : ArePlugins (take place specs) (take place modules) before
  pub why : WhyNoPlugin spec.name bytes fault

-- What is told where a kit can't be made: the plugin and why, but that memory was wanting is told
-- as such.
abbrev pub IsToldAs : KitFault → Fault → Type 0
IsToldAs kit fault = ((kit.fault ≡ instance_fault.NoMemory) × (fault ≡ Run run_fault.NoMemory))
    ⊎ ((kit.fault ≢ instance_fault.NoMemory) × (fault ≡ Plugin kit.plugin (NotReady kit.fault)))

-- there is no kit of these plugins
pub record NoKit (plugins : List Configured) (fault : Fault) : Type 0 where
  pub kit : KitFault
  pub why : WhyNoKit plugins kit
  pub told : IsToldAs kit fault

-- All modules are accepted, and there is no kit of them.
pub record KitRefused (specs : List SpecSyntax) (modules : List (List ℕ)) (fault : Fault) : Type 0 where
  pub plugins : List Configured
  pub are : ArePlugins specs modules plugins
  pub none : NoKit plugins fault

-- why there are no kits of the plugins that the words configure
abbrev pub WhyNoSite : List SpecSyntax → (modules : List (List ℕ)) → Fault → Type 0
WhyNoSite specs modules fault = (fault ≡ Run run_fault.NoMemory) ⊎ (ModuleRefused specs modules fault ⊎ KitRefused specs modules fault)

-- a plugin's module is refused
abbrev pub SiteRefused : (AreGiven : List (List ℕ) → Type 0) → List SpecSyntax → Fault → Type 0
SiteRefused AreGiven specs fault = (modules : List (List ℕ)) × AreGiven modules × WhyNoSite specs modules fault × (status_of fault ≡ 1)
