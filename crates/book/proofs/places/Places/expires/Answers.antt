use Rattle.std.proofs.Common.{◌≡◌, true, subst, ◌∙◌, arith}
use Rattle.std.proofs.lemmas.Bool.{leb-true}
use Rattle.std.specs.FinMap.{get}
use Rattle.name_table.specs.Slots.{map_of}
use Rattle.book.specs.Expiry.{is_expired}
use Rattle.book.specs.inside.Tables.{Held}
use Rattle.book.specs.declared.place.Place.{Place}
use Rattle.book.proofs.FinishLemmas.{expired_by}
use Rattle.book.proofs.places.Places.expires.Goals as goal

-- what has finished as long ago expires
pub returns-then-now-ge-EXPIRY-clause-some : goal.returns-then-now-ge-EXPIRY-clause-some
returns-then-now-ge-EXPIRY-clause-some c is =
    let finished = c.any_finished.ensures.some is in
    (finished.0, subst (λ (t : Held Place). is_expired t.map c.args.now finished.0 ≡ true) c.self.view_is (expired_by c.args.now (omega arith) (get (map_of c.self.inside.by_uid) finished.0) c.if-now-ge-EXPIRY.true ∙ finished.1))

pub returns-else-now-ge-EXPIRY-clause-some : goal.returns-else-now-ge-EXPIRY-clause-some
returns-else-now-ge-EXPIRY-clause-some c is = absurd (let late = leb-true 30000 c.args.now.0 is in omega (arith, late, c.if-now-ge-EXPIRY.false))
