use Rattle.std.proofs.Common.{◌≡◌}
use Rattle.std.specs.FinMap.{len}
use Rattle.desk.proofs.Expiring.{AreSome, IsSeen}
use Rattle.desk.proofs.desk_core.expire_all.Given as goal

-- some of the places that expire are gone
abbrev pub invariant-loop-uid : goal.invariant-loop-uid
invariant-loop-uid l = record {
  book : l.book ≡ record l.fn.book { places = l.book.places };
  limit : l.queue.limit ≡ l.fn.queue.limit;
  gone : AreSome l.fn.book.places l.book.places l.fn.queue l.queue l.now;
  seen : IsSeen l.any l.fn.book.places l.book.places l.now;
}

abbrev pub decreases-loop-uid : goal.decreases-loop-uid
decreases-loop-uid l = len l.book.places
