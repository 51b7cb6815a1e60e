use Rattle.std.proofs.Common.{◌≡◌, ◌<◌, ◌∙◌, refl, subst, rules}
use Rattle.std.specs.Io.KnownBytes.{Appends}
use Rattle.streams.specs.Device.{AppendsFront}
use Rattle.storm.proofs.Ending.{told, untold, unwritten}
use Rattle.storm.proofs.one_storm.close_and_tell.Goals as goal

-- there was no memory for what is to be told
pub returns-in_default : goal.returns-in_default
returns-in_default g c = untold _ _ _ _ _ _ _ c.close-book.ensures refl refl

-- the write failed
pub returns-then-is_err : goal.returns-then-is_err
returns-then-is_err g c =
    let begun : AppendsFront (g.W.Sink.written c.args.sink.now) (g.W.Sink.written c.write_all.new.sink) c.deref.result.now = search rules in
    let front = subst (AppendsFront (g.W.Sink.written c.args.sink.now) (g.W.Sink.written c.write_all.new.sink)) (c.deref.ensures.value ∙ c.in-Ok.ensures.text) begun in
    let more : g.W.Sink.failure_count c.args.sink.now < g.W.Sink.failure_count c.write_all.new.sink = search rules in
    unwritten _ _ _ _ _ _ _ c.in-Ok.is_right c.close-book.ensures c.in-Ok.ensures.says front more

-- all was written
pub returns : goal.returns
returns g c =
    let whole : Appends (g.W.Sink.written c.args.sink.now) (g.W.Sink.written c.write_all.new.sink) c.deref.result.now = search rules in
    let wrote = subst (Appends (g.W.Sink.written c.args.sink.now) (g.W.Sink.written c.write_all.new.sink)) (c.deref.ensures.value ∙ c.in-Ok.ensures.text) whole in
    let same : g.W.Sink.failure_count c.write_all.new.sink ≡ g.W.Sink.failure_count c.args.sink.now = search rules in
    told _ _ _ _ _ _ _ _ c.close-book.ensures c.in-Ok.ensures.says wrote same
