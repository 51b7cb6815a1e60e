use Rattle.std.proofs.Common.{◌+◌, ◌-◌, ◌∙◌, length, refl, subst, sym}
use Rattle.std.proofs.KnownBytes.{Consumes-trans}
use Rattle.std.proofs.lemmas.Slice.{take-put_mid}
use Rattle.std.specs.Io.KnownBytes.{Consumes}
use Rattle.site_modules.proofs.Fronts.{filled}
use Rattle.site_modules.proofs.folder.fill.Goals as goal

pub loop-at-preserved : goal.loop-at-preserved
loop-at-preserved g c =
    let so_far = c.loop-at.invariant in
    let read = c.in_ok-n.ensures in
    let put = filled c.loop-at.at c.in_ok-n.n c.loop-at.buffer c.read.new.buffer _ so_far.0 read.bound.0
    (take-put_mid c.loop-at.at (length c.loop-at.buffer - c.loop-at.at) c.loop-at.buffer c.read.new.buffer (c.loop-at.at + length c.read.new.buffer) refl so_far.0) in (
      put.0,
      subst (Consumes (g.R.Source.remaining c.args.source.now) (g.R.Source.remaining c.read.new.self)) (sym put.1)
          (Consumes-trans _ _ _ _ _ so_far.1 read.bytes.0),
      read.failed ∙ so_far.2,
    )
