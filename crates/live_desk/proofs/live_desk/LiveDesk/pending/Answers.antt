use Rattle.std.proofs.Common.{◌≡◌, ◌∙◌, Bool, true, false, sym, ap, refl, rules}
use Rattle.std.specs.FinMap.{get}
use Rattle.live_desk.specs.State.{Live, Offer}
use Rattle.live_desk.specs.Telling.{is_newest}
use Rattle.live_desk.proofs.Asking.{was_not, was_offered}
use Rattle.live_desk.proofs.live_desk.LiveDesk.pending.Goals as goal

-- what is known then, where the pod is there to place or isn't
abbrev offer_as : Bool → Live → Offer
offer_as there state = record { is_there = there; state = state }

pub returns-then-not-is_newest : goal.returns-then-not-is_newest
returns-then-not-is_newest g c =
    let told = rw (c.copied.ensures, c.deref.ensures, c.deref-2.ensures) at c.alone-answer.ensures.told in
    let older : is_newest c.args.version c.args.pod.request (get c.alone-answer.new.self.ledger.pods c.args.pod.uid) ≡ false = search rules in
    was_not _ _ _ _ _ _ told c.alone-answer.ensures.desk older refl

pub returns-then-not-there : goal.returns-then-not-there
returns-then-not-there g c =
    let told = rw (c.copied.ensures, c.deref.ensures, c.deref-2.ensures) at c.alone-answer.ensures.told in
    let newest : is_newest c.args.version c.args.pod.request (get c.alone-answer.new.self.ledger.pods c.args.pod.uid) ≡ true = search rules in
    let there = ap (λ (b : Bool). offer_as b c.offer.new.self) (sym c.if-not-there.true) ∙ c.in-Ok.ensures in
    was_offered _ _ _ _ _ _ false told c.alone-answer.ensures.desk newest there

pub returns : goal.returns
returns g c =
    let told = rw (c.copied.ensures, c.deref.ensures, c.deref-2.ensures) at c.alone-answer.ensures.told in
    let newest : is_newest c.args.version c.args.pod.request (get c.alone-answer.new.self.ledger.pods c.args.pod.uid) ≡ true = search rules in
    let there = ap (λ (b : Bool). offer_as b c.offer.new.self) (sym c.if-not-there.false) ∙ c.in-Ok.ensures in
    was_offered _ _ _ _ _ _ true told c.alone-answer.ensures.desk newest there
