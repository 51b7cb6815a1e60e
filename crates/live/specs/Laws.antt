-- What holds of all lines that tell of a cluster: they are one history of a ledger, and have one
-- output.
use Rattle.std.specs.Prelude.{◌≡◌, ℕ, List, ◌++◌}
use Rattle.rules.specs.RuleSet.{RuleSet}
use Rattle.output_lines.specs.declared.named_rule.NamedRule.{NamedRule}
use Rattle.objects.specs.Site.{Site}
use Rattle.ledger.specs.Laws.{EachCountsOnce, Follows, Line}
use Rattle.ledger.specs.State.{State}
use Rattle.live_desk.specs.State.{Live}
use Rattle.live.specs.Live.{AreAnswered, IsBegun, IsWhole, first_state, manner}

-- the lines told the ledger a history, in which each bind was asked of it
pub record IsHistory (state : State) : Type 0 where
  pub told : List Line
  pub follows : Follows first_state.ledger told state

-- whatever lines were answered, in whatever order: the ledger was told one history, and each pod
-- counts as it was last told or as a bind of it was asked for, once, and no other counts
pub record IsKept (state : State) : Type 0 where
  pub history : IsHistory state
  pub once : EachCountsOnce state

abbrev pub LinesAreKept : RuleSet → Type 0
LinesAreKept rules =
    (site : Site) (named : List NamedRule) (lines texts : List (List ℕ)) (state : Live) → AreAnswered (manner site rules named) first_state lines texts state → IsKept state.ledger

-- there is one output of an input
abbrev pub OneLiveOutput : RuleSet → Type 0
OneLiveOutput rules =
    (site : Site) (named : List NamedRule) (input one other : List ℕ) → IsWhole (manner site rules named) input one → IsWhole (manner site rules named) input other → one ≡ other

-- and what was written before an early end begins it
abbrev pub FrontsBeginIt : RuleSet → Type 0
FrontsBeginIt rules =
    (site : Site) (named : List NamedRule) (input front whole : List ℕ) → IsBegun (manner site rules named) input front → IsWhole (manner site rules named) input whole
    → (rest : List ℕ) × (whole ≡ front ++ rest)
