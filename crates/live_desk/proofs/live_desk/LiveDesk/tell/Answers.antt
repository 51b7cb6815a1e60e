use Rattle.std.proofs.Common.{◌≡◌, true, false, refl, rules}
use Rattle.live_desk.specs.Telling.{takes}
use Rattle.live_desk.proofs.Asking.{not_taken, taken}
use Rattle.live_desk.proofs.live_desk.LiveDesk.tell.Goals as goal

pub returns-then-not-takes : goal.returns-then-not-takes
returns-then-not-takes g c =
    let left : takes c.alone-answer.result ≡ false = search rules in
    not_taken _ _ _ _ _ c.alone-answer.ensures.told c.alone-answer.ensures.desk left refl

pub returns-in-Ok-change : goal.returns-in-Ok-change
returns-in-Ok-change g c =
    let took : takes c.alone-answer.result ≡ true = search rules in
    let names = rw c.deref.ensures.value at c.in-Ok-change.ensures in
    taken _ _ _ _ _ c.alone-answer.ensures.told c.alone-answer.ensures.desk _ _ took c.in-Ok.ensures.names c.in-Ok.ensures.change names
