-- How far an answer reaches.
use Rattle.std.specs.Prelude.{◌≡◌}
use Rattle.whost.specs.declared.records.Records.{Records}
use Rattle.plugin.specs.declared.asked.Reach.{Reach}
use Rattle.plugin.specs.declared.asked.Reach.TheVariants as reach

-- what is said by some records is said by these others too
abbrev pub Reaches : Reach → (records told : Records) → Type 0
Reaches reach.Class records told = told.pod.third ≡ records.pod.third
Reaches reach.Row records told = (told.pod.third ≡ records.pod.third) × (told.node.third ≡ records.node.third)
Reaches reach.Node records told = (told.pod.third ≡ records.pod.third) × (told.node ≡ records.node)
Reaches reach.Here records told = told ≡ records
