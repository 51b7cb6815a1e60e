use Rattle.std.proofs.Common.{◌≡◌, ◌<◌, true, false, length, get_or, arith, length-set}
use Rattle.wmem.proofs.NotedLemmas.{note_listed, listed_room}
use Rattle.wmem.proofs.noted.NotedPages.note_first.Goals as goal

pub push_reserved-requires : goal.push_reserved-requires
push_reserved-requires c =
    let noted = c.self.inside in
    let within : c.args.page < length noted.is_noted.items = rw (← c.self.view_is) at c.requires.within in
    let fresh : get_or noted.is_noted.items c.args.page true ≡ false = rw (← c.self.view_is) at c.requires.fresh in
    let room = listed_room noted.is_noted.items noted.order.items _ c.args.page c.self.invariant.0 within fresh in
    omega (arith, noted.order.ok.0, c.self.invariant.1)

pub invariant_of-self : goal.invariant_of-self
invariant_of-self c =
    let noted = c.self.inside in
    let within : c.args.page < length noted.is_noted.items = rw (← c.self.view_is) at c.requires.within in
    let fresh : get_or noted.is_noted.items c.args.page true ≡ false = rw (← c.self.view_is) at c.requires.fresh in (
      rw c.push_reserved.ensures.items (note_listed noted.is_noted.items noted.order.items _ _ c.args.page c.self.invariant.0 within fresh),
      omega (arith, length-set noted.is_noted.items c.args.page true, c.self.invariant.1, c.push_reserved.ensures.capacity),
      omega (arith, c.self.invariant.2, c.push_reserved.ensures.capacity),
    )
