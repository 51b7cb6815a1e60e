use Rattle.std.proofs.Common.{◌≡◌, length, arith}
use Rattle.storm_site.proofs.stand_in.storm_by.Goals as goal

pub returns : goal.returns
returns g c =
    let many : length c.loop-stand_in.boxes.items ≡ c.args.binders = omega (arith, c.loop-stand_in.invariant, c.loop-stand_in-test.false, c.len.ensures) in
    rw many at c.storm.ensures
