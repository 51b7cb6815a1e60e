use Rattle.std.proofs.Common.{sym, subst}
use Rattle.plugin.specs.declared.answers.Answers.{Answers}
use Rattle.plugin.specs.declared.asked.Reach.{Reach}
use Rattle.plugin.specs.inside.Kept.{Holds, NewlyHeard}
use Rattle.plugin.proofs.KeptLemmas.{note_known, note_now}
use Rattle.plugin.proofs.answers.Known.note.Goals as goal

pub returns-in-Row : goal.returns-in-Row
returns-in-Row c = λ plugins pod node used hold says.
    subst (λ (a : Answers). Holds plugins pod node used (record { always = a; by_used = c.args.self.now.by_used })) (sym c.note.ensures)
    (note_known plugins pod node used c.args.self.now c.args.place c.args.heard hold (subst (λ (r : Reach). NewlyHeard plugins pod node used c.args.place c.args.heard r) c.in-Row.is says))

pub returns-in-Node : goal.returns-in-Node
returns-in-Node c = λ plugins pod node used hold says.
    subst (λ (a : Answers). Holds plugins pod node used (record { always = c.args.self.now.always; by_used = a })) (sym c.note-in-Node.ensures)
    (note_now plugins pod node used c.args.self.now c.args.place c.args.heard hold (subst (λ (r : Reach). NewlyHeard plugins pod node used c.args.place c.args.heard r) c.in-Node.is says))
