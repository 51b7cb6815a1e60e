-- What is kept of what rules said, for classes of pods.
use Rattle.std.specs.Prelude.{◌≡◌, ℕ, List, Some, slice_get}
use Rattle.std.specs.List.{AllByRecursion}
use Rattle.quant.specs.declared.amount.Res.{Res}
use Rattle.quant.specs.declared.objects.Node.{Node}
use Rattle.row_record.specs.Record.{node_bytes3}
use Rattle.whost.specs.Handed.{node_records}
use Rattle.whost.specs.declared.records.Records.{Records}
use Rattle.plugin.specs.declared.answers.Heard.{Heard}
use Rattle.plugin.specs.declared.answers.Heard.TheVariants as heard
use Rattle.plugin.specs.declared.answers.Known.{Known}
use Rattle.plugin.specs.declared.asked.Reach.{Reach}
use Rattle.plugin.specs.declared.asked.Reach.TheVariants as reach
use Rattle.plugin.specs.declared.kept.Line.{Line}
use Rattle.plugin.specs.declared.kept.Class.{Class}
use Rattle.plugin.specs.declared.kept.Kept.{Kept}
use Rattle.plugin.specs.Kit.{Ready, FilterSays, ScoreSays}
use Rattle.plugin.specs.inside.Answers.{AnswersHold}

-- the plugin at a place, if there is one, says this by these records
abbrev pub Hear : List Ready → (told : Records) → (place : ℕ) → Heard → Type 0
Hear plugins told place (heard.Filter said) = (p : Ready) → slice_get plugins place ≡ Some p → FilterSays p told said
Hear plugins told place (heard.Score said) = (p : Ready) → slice_get plugins place ≡ Some p → ScoreSays p told said

-- it says this of each pod that has this record of version 3, and of all nodes
abbrev pub HearOfAll : List Ready → (pod : List ℕ) → (place : ℕ) → Heard → Type 0
HearOfAll plugins pod place heard = (told : Records) → told.pod.third ≡ pod → Hear plugins told place heard

-- it says this of each pod that has this record of version 3, and of this node's row, whatever is
-- used of it
abbrev pub HearAlways : List Ready → (pod : List ℕ) → Node → (place : ℕ) → Heard → Type 0
HearAlways plugins pod node place heard =
    (told : Records) → told.pod.third ≡ pod → told.node.third ≡ node_bytes3 node → Hear plugins told place heard

-- the same, where so much is used
abbrev pub HearNow : List Ready → (pod : List ℕ) → Node → (used : Res) → (place : ℕ) → Heard → Type 0
HearNow plugins pod node used place heard =
    (told : Records) → told.pod.third ≡ pod → told.node ≡ node_records node used → Hear plugins told place heard

-- what was heard just now, and how far it reaches
abbrev pub NewlyHeard : List Ready → (pod : List ℕ) → Node → (used : Res) → (place : ℕ) → Heard → Reach → Type 0
NewlyHeard plugins pod node used place heard reach.Class = HearOfAll plugins pod place heard
NewlyHeard plugins pod node used place heard reach.Row = HearAlways plugins pod node place heard
NewlyHeard plugins pod node used place heard reach.Node = HearNow plugins pod node used place heard
NewlyHeard plugins pod node used place heard reach.Here = Unit {0}

-- what is known of a node's row with so much used is what the plugins say
pub record Holds (plugins : List Ready) (pod : List ℕ) (node : Node) (used : Res) (known : Known) : Type 0 where
  pub always : AnswersHold (HearAlways plugins pod node) known.always
  pub by_used : AnswersHold (HearNow plugins pod node used) known.by_used

abbrev pub LineHolds : List Ready → (pod : List ℕ) → Line → Type 0
LineHolds plugins pod line = Holds plugins pod line.node line.used line.known

-- what is kept of all nodes, and of each, is what the plugins say
pub record ClassHolds (plugins : List Ready) (class : Class) : Type 0 where
  pub of_all : AnswersHold (HearOfAll plugins class.pod.items) class.of_all
  pub lines : AllByRecursion (LineHolds plugins class.pod.items) class.lines.items

-- all that is kept is what the plugins say
abbrev pub KeptHolds : List Ready → Kept → Type 0
KeptHolds plugins kept = AllByRecursion (ClassHolds plugins) kept.classes.items
