use Rattle.std.proofs.Common.{◌∙◌, ap, subst}
use Rattle.desk.specs.Machine as machine
use Rattle.desk.specs.declared.step.Step.TheVariants.{Count}
use Rattle.streams.specs.TextBuilder.{Adds}
use Rattle.streams.proofs.Built.{adds_both}
use Rattle.output_lines.specs.Replies.{reply_lines, snapshot_lines}
use Rattle.session.specs.Answers.{State, text_of}
use Rattle.session.proofs.Filled.{text_lines}
use Rattle.session.proofs.session.dump.Goals as goal

pub returns-clause-lines : goal.returns-clause-lines
returns-clause-lines g c = text_lines c.args.desk.now Count c.in-Ok.ensures.lines

pub returns-clause-text : goal.returns-clause-text
unfolding text_of
returns-clause-text g c =
    let replies = c.in-Ok-apply.ensures.reply ∙ ap (λ (s : State). machine.reply s 0 Count) c.show.ensures.state in
    adds_both c.args.text.now c.show.new.text c.push_reply.new.out (snapshot_lines (machine.snapshot c.args.desk.now.cluster)) (reply_lines (machine.reply c.args.desk.now 0 Count))
    c.in-Ok.ensures.text (subst (λ r. Adds c.show.new.text c.push_reply.new.out (reply_lines r)) replies c.push_reply.ensures)
