-- How a kit's instances are made, one after the other.
use Rattle.std.specs.Prelude.{◌≡◌, ◌≤◌, List, [], ◌∷◌, ◌++◌, length}
use Rattle.std.specs.List.{All}
use Rattle.plugin.specs.Plugins.{Configured, IsWeight}
use Rattle.plugin.specs.Kit.{InstanceState, IsAtImage, IsReadyOf}

-- there is one more instance, behind the others: it is of this plugin, and where its calls begin
pub record OneMoreReady (plugin : Configured) (old new : List InstanceState) : Type 0 where
  pub instance : InstanceState
  pub joined : new ≡ old ++ instance ∷ []
  pub is : IsReadyOf plugin instance.ready
  pub at_image : IsAtImage instance
  pub weight : IsWeight instance.ready.weight

-- there are at most 16 instances, and the score of each one's plugin counts 1 to 10 times
pub record AreInstances (kit : List InstanceState) : Type 0 where
  pub most : length kit ≤ 16
  pub weights : All (λ i. IsWeight i.ready.weight) kit
