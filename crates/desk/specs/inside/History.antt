-- What a history leaves of a desk.
use Rattle.std.specs.Prelude.{◌≡◌, List}
use Rattle.desk.specs.Machine.{opening}
use Rattle.desk.specs.declared.limits.TheConstants.{MAX_PASSES}
use Rattle.desk.specs.inside.Caller.{Core}
use Rattle.desk.specs.History.{Call, state_after, Legal}

-- a legal history leaves a desk with one owner so
pub record Leaves (l : List Call) (desk : Core) : Type 0 where
  pub legal : Legal desk.state.cluster.limits MAX_PASSES l
  pub state : desk.state ≡ state_after (opening desk.state.cluster.limits) l
