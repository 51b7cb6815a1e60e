use Rattle.std.proofs.Common.{◌∙◌, ◌++◌, ap}
use Rattle.live.proofs.live_run.answer_line.Goals as goal

-- the answer waits behind what waited
pub returns-clause-answered : goal.returns-clause-answered
returns-clause-answered g c = record {
  text = c.in-Ok.text.items;
  answered = c.in-Ok.ensures.answered;
  behind = c.in-Ok-extend_from_slice.ensures.items ∙ ap (λ text. c.args.waits.now.items ++ text) c.deref.ensures.value;
}
