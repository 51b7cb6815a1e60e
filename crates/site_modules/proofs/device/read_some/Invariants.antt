use Rattle.std.specs.Io.KnownBytes.{Keeps}
use Rattle.site_modules.proofs.device.read_some.Given as goal

-- a read that was interrupted takes no bytes
abbrev pub invariant-loop : goal.invariant-loop
invariant-loop g l = Keeps (g.R.Read.remaining l.initial.reader) (g.R.Read.remaining l.reader)
