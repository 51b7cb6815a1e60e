-- What a kit notes of a pod and a node.
use Rattle.std.specs.Prelude.{ℕ, List}
use Rattle.quant.specs.declared.amount.Res.{Res}
use Rattle.quant.specs.declared.objects.Node.{Node}
use Rattle.whost.specs.declared.records.Records.{Records}
use Rattle.plugin.specs.declared.answers.Heard.{Heard}
use Rattle.plugin.specs.declared.answers.Known.{Known}
use Rattle.plugin.specs.declared.asked.Reach.{Reach}
use Rattle.plugin.specs.declared.shown.Shown.{Shown}
use Rattle.plugin.specs.Kit.{Ready}
use Rattle.plugin.specs.inside.Answers.{AnswersHold}
use Rattle.plugin.specs.inside.Asked.{Reaches}
use Rattle.plugin.specs.inside.Kept.{Hear, HearOfAll, Holds}

-- what is known is what the plugins say by these records
pub record IsKnown (plugins : List Ready) (records : Records) (known : Known) : Type 0 where
  pub always : AnswersHold (Hear plugins records) known.always
  pub by_used : AnswersHold (Hear plugins records) known.by_used

-- the plugin at a place said this by these records, and it reaches so far
abbrev pub HeardOf : List Ready → Records → (place : ℕ) → Heard → Reach → Type 0
HeardOf plugins records place said reach = (told : Records) → Reaches reach records told → Hear plugins told place said

-- what is noted is what the plugins say of all nodes, and of this node with so much used of it, for
-- the pod's class
pub record IsOfNode (plugins : List Ready) (shown : Shown) (node : Node) (used : Res) : Type 0 where
  pub of_all : AnswersHold (HearOfAll plugins shown.class) shown.of_all
  pub known : Holds plugins shown.class node used shown.known
