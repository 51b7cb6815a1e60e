-- What a table of plugins is seen as.
use Rattle.std.specs.Prelude.{List, map}
use Rattle.std.specs.Arc.{arc_value}
use Rattle.wmodule.specs.Syntax.{ModuleParts}
use Rattle.plugin.specs.declared.plugins.Plugin.{Plugin}
use Rattle.plugin.specs.declared.kits.Configuration.{Configuration}
use Rattle.plugin.specs.Plugins.{Configured}

-- a plugin with its module
abbrev pub configured_as : Plugin → ModuleParts → Configured
configured_as plugin content = record { name = plugin.name; weight = plugin.weight; fuel = plugin.fuel; content = content }

-- the same, as a site configures it
abbrev pub configuration_of : Configuration → Configured
configuration_of c = configured_as c.plugin (arc_value c.checked).content

abbrev pub configurations_of : List Configuration → List Configured
configurations_of site = map configuration_of site
