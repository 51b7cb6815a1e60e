-- What the book of a cluster knows.
use Rattle.std.specs.Prelude.{ℕ, List}
use Rattle.std.specs.declared.cmp.Ordering.{Ordering}
use Rattle.std.specs.Ordering.{nat_cmp}
use Rattle.std.specs.Cmp.Lexicographic.{slice_cmp}
use Rattle.std.specs.FinMap.{FinMap, empty}
use Rattle.quant.specs.declared.objects.Node.{Node}
use Rattle.book.specs.declared.place.Place.{Place}
use Rattle.book.specs.declared.limits.Limits.{Limits}

-- names in the order of their bytes
abbrev pub name_cmp : List ℕ → List ℕ → Ordering
name_cmp = slice_cmp nat_cmp

-- the nodes that are there, by name
abbrev pub Nodes : Type 0
Nodes = FinMap name_cmp Node

-- the places of pods, by uid
abbrev pub Places : Type 0
Places = FinMap name_cmp Place

-- the state of a book
pub record Cluster : Type 0 where
  pub limits : Limits
  pub version : ℕ  -- of the last accepted event, and 0 before the first
  pub nodes : Nodes
  pub places : Places
  pub ticket : ℕ  -- the last that was given, and 0 before the first: the next one is one more

-- the state before any step
abbrev pub opening : Limits → Cluster
opening limits = record { limits = limits; version = 0; nodes = empty; places = empty; ticket = 0 }
