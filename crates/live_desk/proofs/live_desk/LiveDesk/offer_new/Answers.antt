use Rattle.std.proofs.Common.{◌≡◌, ◌∙◌, true, None, ap, rules}
use Rattle.std.specs.FinMap.{insert}
use Rattle.quant.specs.declared.objects.Pod.{Pod}
use Rattle.live_desk.specs.State.{Live, has_room}
use Rattle.live_desk.proofs.Asking.{accepted, refused}
use Rattle.live_desk.proofs.live_desk.LiveDesk.offer_new.Goals as goal

pub returns-in-Refused : goal.returns-in-Refused
returns-in-Refused g c =
    let room : has_room c.args.self.now ≡ true = search rules in
    refused c.args.self.now c.next_version-version.new.self c.answer_step.new.self _ _ _ room c.next_version-version.ensures.numbered c.next_version-version.ensures.version
    c.in-Ok-answer_step.ensures.reply c.in-Ok-answer_step.ensures.after _ c.in-Refused.is

pub returns : goal.returns
returns g c =
    let room : has_room c.args.self.now ≡ true = search rules in
    let was = c.self-2.view_is in
    let row : c.in-Ok.row ≡ c.args.pod = c.in-Ok.ensures in
    let uid : c.copied-uid.result ≡ c.args.pod.uid = c.copied-uid.ensures ∙ ap (λ (p : Pod). p.uid) (c.deref.ensures ∙ row) in
    accepted c.args.self.now c.next_version-version.new.self c.answer_step.new.self _ _ _ room c.next_version-version.ensures.numbered c.next_version-version.ensures.version
    c.in-Ok-answer_step.ensures.reply c.in-Ok-answer_step.ensures.after _ c.in_default-reply.not-Refused
    (λ i. record {
      ledger = (was i).ledger;
      desk = (was i).desk;
      offered = (c.insert.ensures.map ∙ (λ j. insert (was j).offered (uid j) (record { pod = row j; ticket = None }))) i;
      room = (c.insert.ensures.room ∙ ap (λ (s : Live). s.room) was) i;
      told = (was i).told;
    })
