use Rattle.std.proofs.Common.{◌++◌, ◌∙◌, ap, subst, sym}
use Rattle.desk.specs.Machine as machine
use Rattle.session.specs.Answers.{text_of}
use Rattle.streams.specs.TextBuilder.{Adds}
use Rattle.output_lines.specs.Replies.{reply_lines}
use Rattle.session.proofs.Filled.{plain_lines}
use Rattle.session.proofs.session.do_step.Goals as goal

pub returns-clause-text : goal.returns-clause-text
unfolding text_of
returns-clause-text g c =
    let lines = reply_lines (machine.reply c.args.desk.now 0 c.args.step) in
    subst (Adds c.args.text.now c.push_reply.new.out) (ap reply_lines c.in-Ok.ensures.reply ∙ ap (λ t. t ++ lines) (sym c.requires.plain)) c.push_reply.ensures

pub returns-clause-lines : goal.returns-clause-lines
returns-clause-lines g c = plain_lines c.args.desk.now c.args.step c.requires.plain
