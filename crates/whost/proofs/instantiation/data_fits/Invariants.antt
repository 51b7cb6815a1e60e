-- The segments that were passed fit.
use Rattle.std.proofs.Common.{ℕ, ◌<◌, get_or}
use Rattle.wmodule.specs.Syntax.{DataSyntax, module_of}
use Rattle.wstore.specs.Segments.{DataFits}
use Rattle.whost.proofs.instantiation.data_fits.Given as goal

abbrev pub invariant-loop-segment : goal.invariant-loop-segment
invariant-loop-segment l = (k : ℕ) (d : DataSyntax) → k < l.segment → DataFits (get_or (module_of l.machine.content).data_segments k d) l.machine.store
