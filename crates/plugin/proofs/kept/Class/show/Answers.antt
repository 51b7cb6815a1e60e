use Rattle.plugin.proofs.KeptLemmas.{line_at, line_set}
use Rattle.plugin.proofs.kept.Class.show.Goals as goal

pub returns-in-Some-clause-keeps : goal.returns-in-Some-clause-keeps
returns-in-Some-clause-keeps c = λ plugins hold.
    record {
      of_all = hold.of_all;
      lines = line_set plugins c.args.self.now.pod.items c.args.self.now.lines.items c.in-Some.line c.index_mut.result.now c.show-is_changed.new.self c.in-Some.ensures c.index_mut.ensures.value
          (λ h. c.show-is_changed.ensures.keeps plugins c.args.self.now.pod.items h) hold.lines;
    }

pub returns-in-Some-clause-known : goal.returns-in-Some-clause-known
returns-in-Some-clause-known c = λ plugins hold.
    c.show-is_changed.ensures.known plugins c.args.self.now.pod.items
    (line_at plugins c.args.self.now.pod.items c.args.self.now.lines.items c.in-Some.line c.index_mut.result.now c.in-Some.ensures c.index_mut.ensures.value hold.lines)

pub returns-in-None-clause-keeps : goal.returns-in-None-clause-keeps
returns-in-None-clause-keeps c = λ plugins hold. c.take_in.ensures.keeps plugins (record { of_all = hold.of_all; lines = hold.lines })

pub returns-in-None-clause-known : goal.returns-in-None-clause-known
returns-in-None-clause-known c = λ plugins hold. c.take_in.ensures.known plugins c.args.self.now.pod.items
