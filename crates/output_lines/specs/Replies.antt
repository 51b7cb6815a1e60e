-- The lines that answer a step, and those that show a desk.
use Rattle.std.specs.Prelude.{ℕ, List, ◌++◌}
use Rattle.std.specs.List.{flat_map}
use Rattle.desk.specs.declared.step.Reply.{Reply}
use Rattle.desk.specs.declared.step.Reply.TheVariants.{Counts, Refused}
use Rattle.desk.specs.Shown.{Shown}
use Rattle.output_lines.specs.Text.{ok_line, refused_line, node_line, places_line, queue_line, clock_line}

-- the lines that answer a step. No step that a line asks for gives a pod or a ticket: a cycle does
unfoldable pub reply_lines : Reply → List ℕ
reply_lines (Counts n) = places_line n.bound n.assumed ++ queue_line n.active n.backoff n.unschedulable n.in_flight ++ clock_line n.clock.0 n.version.0
reply_lines (Refused why) = refused_line why
reply_lines _ = ok_line

-- the lines of a snapshot: its nodes in order
abbrev pub snapshot_lines : List Shown → List ℕ
snapshot_lines rows = flat_map (λ row. node_line row.node row.used) rows
