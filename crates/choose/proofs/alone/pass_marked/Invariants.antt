use Rattle.std.proofs.Common.{◌≡◌, ℕ, ◌<◌, true, length, map, take, IfSome}
use Rattle.std.specs.Prelude.{slice_index_or}
use Rattle.quant.specs.Request.{greatest_by}
use Rattle.desk.specs.declared.snapshot.Row.{Row}
use Rattle.desk.specs.Plain.{is_plain}
use Rattle.desk.specs.Shown.{shown}
use Rattle.choose.specs.Choice.{count_of}
use Rattle.choose.specs.inside.Alone.{judged_alone}
use Rattle.choose.specs.inside.Plain.{GoesAfter, IsPassing}
use Rattle.choose.proofs.alone.pass_marked.Given as goal

-- neither a plain node nor one of those so far goes before what was found
abbrev pub invariant-loop-at : goal.invariant-loop-at
invariant-loop-at l = record {
  last : l.at-end ≡ length l.rows;
  there : IfSome l.first (IsPassing l.most (judged_alone l.pod (map shown l.rows)));
  plain : (k : ℕ) (row : Row) → k < length l.rows → row ≡ slice_index_or l.rows k row → is_plain row.node ≡ true → GoesAfter l.most (judged_alone l.pod (map shown l.rows)) l.first k;
  gone : (k : ℕ) → k < l.at → GoesAfter l.most (judged_alone l.pod (map shown l.rows)) l.first k;
  greatest : l.greatest ≡ greatest_by (λ node. count_of node.verdict) (take l.at (judged_alone l.pod (map shown l.rows)));
}
