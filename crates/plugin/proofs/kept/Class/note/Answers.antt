use Rattle.std.proofs.Common.{sym, ap, subst}
use Rattle.plugin.specs.declared.answers.Answers.{Answers}
use Rattle.plugin.specs.declared.asked.Reach.{Reach}
use Rattle.plugin.specs.inside.Kept.{ClassHolds, NewlyHeard}
use Rattle.plugin.proofs.KeptLemmas.{lines_changed, noted_of_all}
use Rattle.plugin.proofs.kept.Class.note.Goals as goal

pub returns-in-Class-clause-keeps : goal.returns-in-Class-clause-keeps
returns-in-Class-clause-keeps c = λ plugins hold says.
    subst (λ (a : Answers). ClassHolds plugins (record c.args.self.now { of_all = a })) (sym c.note.ensures)
    (noted_of_all plugins c.args.self.now c.args.place c.args.heard hold
    (subst (λ (r : Reach). NewlyHeard plugins c.args.self.now.pod.items c.args.node.now c.args.used.now c.args.place c.args.heard r) c.in-Class.is says))

pub returns-in_default : goal.returns-in_default
returns-in_default c = record {
  pod = c.note_line.ensures.pod;
  keeps = λ plugins hold says.
      lines_changed plugins c.args.self.now c.note_line.new.self (ap (λ v. v.items) c.note_line.ensures.pod) c.note_line.ensures.of_all hold
      (c.note_line.ensures.keeps plugins hold.lines says);
}
