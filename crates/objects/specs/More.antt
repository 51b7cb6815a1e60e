-- A pod that asks for more never takes less of its node: with more containers, or with more of a
-- resource for one of them, for its overhead or as a whole.
use Rattle.std.specs.Prelude.{◌≡◌, ◌⊎◌, ℕ, true, List, codes, Result, Ok, Err}
use Rattle.serde_json.specs.Data.{Data, Items, no_items, item}
use Rattle.quant.specs.declared.amount.Request.{Request}
use Rattle.objects.specs.declared.amounts.Part.{Part}
use Rattle.objects.specs.declared.amounts.Part.TheVariants.{Asked, Overhead}
use Rattle.objects.specs.declared.request.Reckoned.TheVariants.{Standing}
use Rattle.objects.specs.LeftOut.{Fault}
use Rattle.objects.specs.Reading.{field, spelled, items_of}
use Rattle.objects.specs.Amounts.{amount_in}
use Rattle.objects.specs.PodRequest.{request}
use Rattle.objects.specs.Enough.{IsNoMore, AreNoLess}
use Rattle.objects.specs.Parts.{array_of, goes_on}

-- an object tells no less than another in a part, of each resource
abbrev pub TellsNoLess : Part → (holder : List ℕ) → (less more : Data) → Type 0
TellsNoLess part holder less more = AreNoLess (λ r. amount_in part holder r less) (λ r. amount_in part holder r more)

-- a container of the same name asks for no less than another, and goes on running if that does
pub record AsksNoLess (key : List ℕ) (less more : Data) : Type 0 where
  pub name : spelled (codes "name") less ≡ spelled (codes "name") more
  pub goes : goes_on less ≡ true → goes_on more ≡ true
  pub asks : TellsNoLess Asked key less more

-- the containers of a list stand in another one, in their order, and ask for no less there: others
-- may stand between them
abbrev pub AreAmong : (key : List ℕ) → (less more : Items) → Type 0
AreAmong key no_items more = Unit {0}
AreAmong key (item x xs) no_items = ⊥
AreAmong key (item x xs) (item y ys) = (AsksNoLess key x y × AreAmong key xs ys) ⊎ AreAmong key (item x xs) ys

-- likewise of lists that may not be read: one that can't be counts as the most
abbrev pub ListsNoLess : (key : List ℕ) → (less more : Result Items Fault) → Type 0
ListsNoLess key less (Err e) = Unit {0}
ListsNoLess key (Ok xs) (Ok ys) = AreAmong key xs ys
ListsNoLess key (Err e) (Ok ys) = ⊥

-- one pod asks for no less than another. One without a container counts as the most: with a first
-- container it may count for less
pub record NeedsNoLess (less more : Data) : Type 0 where
  pub some : array_of (field (codes "containers") less) ≡ no_items → array_of (field (codes "containers") more) ≡ no_items
  pub running : ListsNoLess (codes "containers") (items_of (codes "containers") (field (codes "containers") less)) (items_of (codes "containers") (field (codes "containers") more))
  pub init : ListsNoLess (codes "initContainers") (items_of (codes "initContainers") (field (codes "initContainers") less)) (items_of (codes "initContainers") (field (codes "initContainers") more))
  pub overhead : TellsNoLess Overhead (codes "spec") less more
  pub whole : TellsNoLess Asked (codes "spec") less more

-- so it counts for no less, by one status
abbrev pub MoreCountsNoLess : Type 0
MoreCountsNoLess =
    (pod less more : Data) (a b : Request) → NeedsNoLess less more → request Standing pod less ≡ Ok a → request Standing pod more ≡ Ok b → IsNoMore a b
