-- What a pass keeps of what nodes are worth to pods of a request.
use Rattle.std.specs.Prelude.{◌≡◌, true, List, map}
use Rattle.std.specs.List.{All}
use Rattle.desk.specs.Shown.{Shown}
use Rattle.desk.specs.Worth.{ArePlain, worth}
use Rattle.desk.specs.declared.class.Class.{Class}

-- what is kept for a request is what these nodes are worth to it
pub record IsClass (nodes : List Shown) (class : Class) : Type 0 where
  pub worths : class.worths.items ≡ map (worth class.request) nodes
  pub plain : class.all_plain ≡ true → ArePlain nodes

abbrev pub AreKept : List Shown → List Class → Type 0
AreKept nodes classes = All (IsClass nodes) classes
