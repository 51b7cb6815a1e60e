use Rattle.std.proofs.Common.{◌∙◌, ap, subst, arith}
use Rattle.std.specs.FinMap.{remove}
use Rattle.name_table.specs.Slots.{map_of}
use Rattle.book.specs.Expiry.{IsFirstExpired, NoneExpired}
use Rattle.book.specs.declared.place.Place.{Place}
use Rattle.book.specs.inside.Tables.{Held}
use Rattle.book.proofs.FinishLemmas.{gathered_for, first_expired, none_expired, too_early}
use Rattle.book.proofs.places.Places.expire.Goals as goal

-- nothing expires as early
pub returns-then-now-lt-EXPIRY-clause-none : goal.returns-then-now-lt-EXPIRY-clause-none
returns-then-now-lt-EXPIRY-clause-none c = too_early c.args.self.now.map c.args.now (omega arith)

pub invariant_of-self : goal.invariant_of-self
invariant_of-self c = record {
  counted = c.self.invariant.counted;
  timed = c.self.invariant.timed;
  room = rw c.first.ensures.names (omega (arith, c.self.invariant.room, c.gather.ensures.room));
  gathered = gathered_for (map_of c.self.inside.by_uid) c.first.new.self.limit _ c.first.new.self.names.items c.first.new.self.given c.first.ensures.gathered (c.first.ensures.limit ∙ c.gather.ensures.limit);
}

-- none of those that were gathered has its place still
pub returns-in_default-clause-none : goal.returns-in_default-clause-none
returns-in_default-clause-none c =
    (subst (λ (t : Held Place). NoneExpired t.map c.args.now) c.self.view_is
    (none_expired (map_of c.self.inside.by_uid) c.args.now (omega arith) c.if-now-lt-EXPIRY.false c.in_default.ensures.none))

-- the first of those that were gathered and have it
pub returns-clause-first : goal.returns-clause-first
returns-clause-first c =
    subst (λ (t : Held Place). IsFirstExpired t.map c.args.now c.in-Some.uid) c.self.view_is
    (first_expired (map_of c.self.inside.by_uid) c.args.now c.in-Some.uid (omega arith) c.if-now-lt-EXPIRY.false c.in-Some.ensures.finished c.in-Some.ensures.least)

-- it goes
pub invariant_of-self-2 : goal.invariant_of-self-2
invariant_of-self-2 c = record {
  counted = c.self.invariant.counted;
  timed = c.self.invariant.timed;
  room = rw c.first.ensures.names (omega (arith, c.self.invariant.room, c.gather.ensures.room));
  gathered = gathered_for (map_of c.self.inside.by_uid) c.first.new.self.limit _ c.first.new.self.names.items c.first.new.self.given c.first.ensures.gathered (c.first.ensures.limit ∙ c.gather.ensures.limit);
}

pub returns-clause-gone : goal.returns-clause-gone
returns-clause-gone c = c.remove.ensures.gone ∙ ap (λ (t : Held Place). record t { map = remove t.map c.in-Some.uid }) c.self.view_is
