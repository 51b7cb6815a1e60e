-- What an audit says of a look and a book.
use Rattle.std.specs.Prelude.{◌≡◌, List}
use Rattle.std.specs.List.{All}
use Rattle.book.specs.Cluster.{Places}
use Rattle.book.specs.Used.{used}
use Rattle.desk.specs.Shown.{Shown}

-- each row shows as used the sum over the places on its node
abbrev pub ShowsSums : List Shown → Places → Type 0
ShowsSums rows places = All (λ row. row.used ≡ used places row.node.name) rows
