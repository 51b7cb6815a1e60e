use Rattle.std.proofs.Common.{arith}
use Rattle.plugin.proofs.KeptLemmas.{line_set}
use Rattle.plugin.proofs.kept.Class.note_line.Goals as goal

pub returns-clause-keeps : goal.returns-clause-keeps
returns-clause-keeps c = λ plugins hold says.
    line_set plugins c.args.self.now.pod.items c.args.self.now.lines.items c.args.line c.index_mut.result.now c.note.new.self (omega (arith, c.if-line-len.false, c.len.ensures)) c.index_mut.ensures.value
    (λ h. c.note.ensures plugins c.args.self.now.pod.items h says) hold
