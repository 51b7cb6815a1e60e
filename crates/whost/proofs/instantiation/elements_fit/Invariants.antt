-- The segments that were passed fit.
use Rattle.std.proofs.Common.{ℕ, ◌<◌, get_or}
use Rattle.wmodule.specs.Syntax.{ElementSyntax, module_of}
use Rattle.wstore.specs.Segments.{ElementsFit}
use Rattle.whost.proofs.instantiation.elements_fit.Given as goal

abbrev pub invariant-loop-segment : goal.invariant-loop-segment
invariant-loop-segment l = (k : ℕ) (d : ElementSyntax) → k < l.segment → ElementsFit (get_or (module_of l.machine.content).element_segments k d) l.machine.store
