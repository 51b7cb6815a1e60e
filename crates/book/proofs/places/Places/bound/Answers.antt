use Rattle.std.proofs.Common.{◌≡◌, ap, arith}
use Rattle.name_table.specs.Slots.{map_of}
use Rattle.book.specs.Used.{bound}
use Rattle.book.proofs.TotalLemmas.{bound_or_assumed}
use Rattle.book.proofs.places.Places.bound.Goals as goal

-- each place is bound or assumed
pub overflow_sub-result : goal.overflow_sub-result
overflow_sub-result c = omega (arith, bound_or_assumed (map_of c.self.inside.by_uid), c.self.invariant.counted.assumed, c.len.ensures.len)

pub returns : goal.returns
returns c =
    let same : bound (map_of c.self.inside.by_uid) ≡ bound c.args.self.now.map = ap (λ t. bound t.map) c.self.view_is in
    omega (arith, bound_or_assumed (map_of c.self.inside.by_uid), c.self.invariant.counted.assumed, c.len.ensures.len, same)
