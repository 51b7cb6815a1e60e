use Rattle.std.proofs.Common.{IfOk, sym, subst}
use Rattle.desk.specs.inside.Board.{IsSubject}
use Rattle.desk.proofs.desk_core.Core.subject_of.Goals as goal

-- an event is the step's
pub returns-in-Event : goal.returns-in-Event
returns-in-Event c = subst (λ e. IfOk c.subject_of_event.result (IsSubject c.args.self.now.state.cluster e)) (sym c.in-Event.is) (c.subject_of_event.ensures c.args.self.now.state.cluster)
