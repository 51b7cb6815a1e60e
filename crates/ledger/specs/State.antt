-- What a ledger knows.
use Rattle.std.specs.Prelude.{ℕ, Bool, false, not, ◌&&◌}
use Rattle.std.specs.FinMap.{FinMap, empty}
use Rattle.book.specs.Cluster.{name_cmp, Cluster, opening as empty_book}
use Rattle.book.specs.declared.limits.Limits.{Limits}
use Rattle.ledger.specs.declared.known.Known.{Known}
use Rattle.ledger.specs.declared.known.Seen.{Seen}
use Rattle.ledger.specs.declared.known.Heard.{Heard}
use Rattle.ledger.specs.declared.known.LeftOut.{LeftOut}

-- what a ledger knows
pub record State : Type 0 where
  pub cluster : Cluster  -- the nodes' rows, and what counts on each node: pods that stand there, and binds whose end isn't known
  pub room : ℕ  -- how many pods may be known
  pub pods : FinMap name_cmp Known  -- by uid
  pub nodes : FinMap name_cmp Seen  -- by name
  pub of_nodes : Heard
  pub of_pods : Heard
  pub rested : Bool  -- the server does nothing any more that was asked before the ledger was made
  pub left_out : LeftOut  -- whether a pod on a node had no room

-- nothing was heard
abbrev pub unheard : Heard
unheard = record { lists = 0; listing = false; fresh = false; listed = false; hears = false }

-- the state before anything is told
abbrev pub opening : Limits → ℕ → State
opening limits room =
    record {
      cluster = empty_book limits;
      room = room;
      pods = empty;
      nodes = empty;
      of_nodes = unheard;
      of_pods = unheard;
      rested = false;
      left_out = record { any = false; list = 0 };
    }

-- a kind is heard: a watch is open that goes on where a list ended
abbrev pub is_heard : Heard → Bool
is_heard h = h.hears && h.listed

-- a bind may be asked for: nodes and pods are heard, and each pod on a node has its room
abbrev pub is_open : State → Bool
is_open s = is_heard s.of_nodes && is_heard s.of_pods && not s.left_out.any
