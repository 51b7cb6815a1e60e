use Rattle.std.proofs.Common.{◌≤◌, arith}
use Rattle.wmem.proofs.tracked.Tracked.extend.Goals as goal

pub overflow_mul-pages : goal.overflow_mul-pages
overflow_mul-pages c =
    let room : c.args.pages ≤ c.self.inside.noted.room = rw (← c.self.view_is) at c.requires in
    record { fits = omega (arith, room, c.self.invariant.1, c.self.inside.bytes.small) }
