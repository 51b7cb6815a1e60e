-- Calm histories: in one no node loses room, and the cluster binds a pod only where it was placed
-- already.
use Rattle.std.specs.Prelude.{◌≡◌, List, ◌∷◌, ◌++◌, Some, ⊤}
use Rattle.std.specs.Bool.{IsTrue}
use Rattle.std.specs.List.{All}
use Rattle.quant.specs.declared.event.Event.TheVariants.{NodeSet, PodBound}
use Rattle.quant.specs.declared.objects.Node.{Node}
use Rattle.book.specs.declared.place.Place.{Place}
use Rattle.book.specs.Totals.{IsWithin}
use Rattle.desk.specs.declared.step.Step.{Step}
use Rattle.desk.specs.declared.step.Step.TheVariants.{Event}
use Rattle.desk.specs.History.{Call, is_accepted, accepted, row_in, place_of}
use Rattle.desk.specs.Shown.{Shown}

-- no row that an accepted call gave the node has more of anything than this one
abbrev pub KeepsRoom : List Call → Node → Type 0
KeepsRoom before node =
    All (λ c. (row : Node) → accepted (row_in node.name) c ≡ Some (Some row) → IsWithin row.allocatable node.allocatable) before

-- a step that is calm after these calls: a node keeps its room, and a pod is bound where it has its
-- place, with its request
abbrev pub IsCalmStep : List Call → Step → Type 0
IsCalmStep before (Event (NodeSet version node)) = KeepsRoom before node
IsCalmStep before (Event (PodBound version uid node request)) =
    (place : Place) × (place_of before uid ≡ Some place) × (place.node ≡ node) × (place.request ≡ request)
IsCalmStep before _ = ⊤

-- each accepted step is calm after the calls before it
abbrev pub IsCalm : List Call → Type 0
IsCalm l = (before later : List Call) (c : Call) → l ≡ before ++ c ∷ later → IsTrue (is_accepted c.reply) → IsCalmStep before c.step

-- of nothing more is used than the node has
abbrev pub HasRoom : Shown → Type 0
HasRoom shown = IsWithin shown.used shown.node.allocatable
