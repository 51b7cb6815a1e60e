-- What the end of a list says of what it didn't name.
use Rattle.std.specs.Prelude.{◌≡◌, ℕ, ◌+◌, Bool, true, false, not, ◌||◌, ◌==◌, List, filter, Option, None, Some, if◌then◌else◌}
use Rattle.std.specs.FinMap.{FinMap, get, keys, len}
use Rattle.book.specs.Cluster.{name_cmp, Cluster, Nodes, Places}
use Rattle.book.specs.declared.limits.Limits.{Limits}
use Rattle.book.specs.declared.place.Place.{Place}
use Rattle.quant.specs.declared.objects.Node.{Node}
use Rattle.ledger.specs.declared.known.Known.{Known}
use Rattle.ledger.specs.declared.known.Seen.{Seen}
use Rattle.ledger.specs.declared.known.Stage.{Stage}
use Rattle.ledger.specs.declared.known.Stage.TheVariants.{Waits, Asked, Stands}

-- how the objects of a kind, which are known as X, stand in a book, as Y, and what of a book is
-- none of theirs
pub record Side (X Y R : Type 0) : Type 0 where
  pub list : X → ℕ  -- how many lists had begun when an object was last told
  pub stands : X → Bool  -- whether it stands in the book
  pub table : Cluster → FinMap name_cmp Y
  pub rest : Cluster → R

-- a pod stands in the book unless it waits
abbrev pub has_place : Stage → Bool
has_place (Waits request) = false
has_place (Asked request ticket asking) = true
has_place Stands = true

abbrev pub of_pods : Side Known Place (Nodes × Limits × ℕ)
of_pods = record { list = λ known. known.list; stands = λ known. has_place known.stage; table = λ c. c.places; rest = λ c. (c.nodes, c.limits, c.ticket) }

abbrev pub of_nodes : Side Seen Node (Places × Limits × ℕ)
of_nodes = record { list = λ seen. seen.list; stands = λ seen. true; table = λ c. c.nodes; rest = λ c. (c.places, c.limits, c.ticket) }

-- where `list` is how many lists had begun when an object was last told
module _ {X : Type 0} (list : X → ℕ) (lists : ℕ) where
  -- an object was told since so many lists had begun, or isn't known at all
  abbrev pub is_named : Option X → Bool
  is_named None = true
  is_named (Some known) = list known == lists

  -- the names of those that are known and weren't told since, in the order of their bytes
  abbrev pub unnamed_in : FinMap name_cmp X → List (List ℕ)
  unnamed_in known = filter (λ name. not (is_named (get known name))) (keys known)

module _ {X Y R : Type 0} (side : Side X Y R) (lists : ℕ) where
  -- what stands in the book of an object stays
  abbrev pub is_left : Option X → Bool
  is_left None = true
  is_left (Some known) = (side.list known == lists) || not (side.stands known)

  -- the objects that a list named stay, and what stands of them in the book, and the others are gone
  pub record IsSwept (old new : FinMap name_cmp X) (book left : Cluster) : Type 0 where
    pub known : (name : List ℕ) → get new name ≡ (if is_named side.list lists (get old name) then get old name else None)
    pub standing : (name : List ℕ) → get (side.table left) name ≡ (if is_left (get old name) then get (side.table book) name else None)
    pub rest : side.rest left ≡ side.rest book
    -- the book has one version more for each that is gone
    pub version : left.version + len (side.table left) ≡ book.version + len (side.table book)
