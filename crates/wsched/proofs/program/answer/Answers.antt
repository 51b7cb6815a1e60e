use Rattle.std.proofs.Common.{map, refl, ap}
use Rattle.wsched.proofs.Answered.{of_words, unread}
use Rattle.wsched.proofs.program.answer.Goals as goal

pub returns-in-Ok : goal.returns-in-Ok
returns-in-Ok g c =
    of_words _ _ _ _ _ _ (λ given. map g.S.AsStr.text given.items) _ _ _ c.in-Ok.is (ap (map g.S.AsStr.text) c.as_slice.ensures.value) c.answer_words.ensures

-- the words couldn't be read
pub returns-in-Err : goal.returns-in-Err
returns-in-Err g c =
    unread _ _ _ _ _ _ (λ given. map g.S.AsStr.text given.items) _ c.in-Err.unread c.in-Err.is c.report.ensures.status c.report.ensures.told
    (record { unopened = refl; opens = refl; unread = refl; reads = refl; unwritten = refl; same = refl; writes = refl })
