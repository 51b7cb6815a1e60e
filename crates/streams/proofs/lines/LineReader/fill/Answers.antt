use Rattle.std.proofs.Common.{◌≡◌, length, drop, ap, sym, subst, arith}
use Rattle.std.proofs.lemmas.List.{length-take}
use Rattle.std.specs.Io.KnownBytes.{Consumes}
use Rattle.streams.proofs.Pieces.{written-front}
use Rattle.streams.proofs.lines.LineReader.fill.Goals as goal

pub returns-clause-left : goal.returns-clause-left
returns-clause-left g c =
    let new = c.read.new.buffer in
    let old = c.self.inside.buffer in
    let long : length new ≡ old.len = omega arith in
    omega (arith, c.in-Ok.ensures.left, ap length (written-front new (drop (length new) old.items) old.len c.in-Ok.end long), length-take c.in-Ok.end new)

pub returns-clause-read : goal.returns-clause-read
returns-clause-read g c =
    let new = c.read.new.buffer in
    let old = c.self.inside.buffer in
    let long : length new ≡ old.len = omega arith in
    subst (Consumes (g.R.Source.remaining c.args.source.now) (g.R.Source.remaining c.read.new.self)) (sym (written-front new (drop (length new) old.items) old.len c.in-Ok.end long)) c.in-Ok.ensures.bytes.0
