use Rattle.std.proofs.Common.{sym, ap, subst}
use Rattle.desk.specs.inside.Board.{IsChange}
use Rattle.desk.specs.inside.Caller.{Core}
use Rattle.desk.specs.declared.change.Change.TheVariants.{Nothing}
use Rattle.desk.proofs.Noted.{nobody_change}
use Rattle.desk.proofs.desk_core.Core.take_of_nobody.Goals as goal

-- nothing changed
pub returns : goal.returns
returns c =
    let s = c.args.self.now.state in
    record {
      said_is = c.take_call.ensures.said;
      after_is = c.take_call.ensures.after;
      changed = subst (IsChange s.cluster Nothing) (sym (ap (λ (d : Core). d.state.cluster) c.take_call.ensures.after)) (nobody_change s c.args.pass c.args.step c.requires.subject);
    }
