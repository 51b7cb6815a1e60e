use Rattle.std.specs.Io.KnownBytes.{Keeps}
use Rattle.site_modules.proofs.device.write_some.Given as goal

-- a write that was interrupted writes nothing
abbrev pub invariant-loop : goal.invariant-loop
invariant-loop g l = Keeps (g.W.Write.contents l.initial.writer) (g.W.Write.contents l.writer)
