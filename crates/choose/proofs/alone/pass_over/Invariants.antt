use Rattle.std.proofs.Common.{◌≡◌, ◌<◌, ◌≤◌, length, map, take, IfSome}
use Rattle.quant.specs.Request.{greatest_by}
use Rattle.desk.specs.Shown.{shown}
use Rattle.choose.specs.declared.best.Worth.TheVariants.{Total}
use Rattle.choose.specs.Choice.{count_of}
use Rattle.choose.specs.inside.Alone.{judged_alone, least_after}
use Rattle.choose.specs.inside.Finding.{StandsFirst}
use Rattle.choose.proofs.alone.pass_over.Given as goal

-- of the nodes so far this one goes first; it stands among them, and a node that is worth more goes
-- before it
abbrev pub invariant-loop-at : goal.invariant-loop-at
invariant-loop-at l = record {
  last : l.at-end ≡ length l.rows;
  first : StandsFirst (Total l.most) (judged_alone l.pod (map shown l.rows)) (take l.at (judged_alone l.pod (map shown l.rows))) l.first;
  gone : IfSome l.first (λ found. found.at < l.at);
  least : l.least ≡ least_after l.first;
  few : l.least ≤ 100001;
  greatest : l.greatest ≡ greatest_by (λ node. count_of node.verdict) (take l.at (judged_alone l.pod (map shown l.rows)));
}
