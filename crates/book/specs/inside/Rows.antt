-- When rows are in order, and what their list keeps beside them.
use Rattle.std.specs.Prelude.{◌≡◌, ℕ, ◌≤◌, IsTrue, vec_len, vec_capacity}
use Rattle.std.specs.FinMap.{is_sorted}
use Rattle.std.specs.Global.{Vec}
use Rattle.quant.specs.declared.amount.Res.{Res}
use Rattle.quant.specs.declared.objects.Node.{Node}
use Rattle.book.specs.Cluster.{name_cmp}
use Rattle.book.specs.Rows.{Rows, named}

-- the names strictly rise
abbrev pub IsInOrder : Rows → Type 0
IsInOrder rows = IsTrue (is_sorted name_cmp (named rows))

-- the rows are in order, with as many amounts beside them, and there is room for as many as there
-- may be
pub record IsListed (rows : Vec Node) (used : Vec Res) (room : ℕ) : Type 0 where
  pub in_order : IsInOrder rows.items
  pub in_room : vec_len rows ≤ room
  pub reserved : room ≤ vec_capacity rows
  pub beside : vec_len used ≡ vec_len rows
  pub reserved_beside : room ≤ vec_capacity used
