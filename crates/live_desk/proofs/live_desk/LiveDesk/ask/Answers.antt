use Rattle.live_desk.proofs.Asking.{denied, granted}
use Rattle.live_desk.proofs.live_desk.LiveDesk.ask.Goals as goal

pub returns-in-Granted : goal.returns-in-Granted
returns-in-Granted g c =
    let told = rw (c.copied-pod.ensures, c.copied-there.ensures) at c.in-Granted.ensures.told in
    granted _ _ _ _ _ _ _ _ told c.in-Granted.ensures.desk c.in-Ok.ensures

pub returns-in-Ok-step : goal.returns-in-Ok-step
returns-in-Ok-step g c =
    let told = rw (c.copied-pod.ensures, c.copied-there.ensures) at c.alone-answer.ensures.told in
    let given_up = rw c.copied-pod-2.ensures at c.in-Ok-step.ensures in
    denied _ _ _ _ _ _ _ _ c.in_default.not-Granted told c.alone-answer.ensures.desk given_up
