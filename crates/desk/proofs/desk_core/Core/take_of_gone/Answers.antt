use Rattle.std.proofs.Common.{◌≡◌, sym, ap, subst, ◌∙◌}
use Rattle.std.specs.FinMap.{entries}
use Rattle.book.specs.Cluster.{Cluster}
use Rattle.book.specs.Rows.{named, rows_in, IsRowOf, IsGapFor}
use Rattle.desk.specs.inside.Board.{IsChange}
use Rattle.desk.specs.inside.Done.{is_refused}
use Rattle.desk.specs.inside.Caller.{Core}
use Rattle.desk.specs.declared.change.Change.TheVariants.{Nothing, Gone}
use Rattle.desk.proofs.Noted.{gone_refused_change, gone_taken_change, gone_there}
use Rattle.desk.proofs.desk_core.Core.take_of_gone.Goals as goal

pub returns-then-is_refused : goal.returns-then-is_refused
returns-then-is_refused c =
    let s = c.args.self.now.state in
    let cluster = ap (λ (d : Core). d.state.cluster) c.self.view_is in
    let listed = subst (λ (k : Cluster). named (rows_in k.nodes) ≡ entries k.nodes) cluster c.find_row-found.ensures.listed in
    record {
      said_is = c.take_call-said.ensures.said;
      after_is = c.take_call-said.ensures.after;
      changed =
          subst (IsChange s.cluster Nothing) (sym (ap (λ (d : Core). d.state.cluster) c.take_call-said.ensures.after))
          (gone_refused_change s c.args.pass c.args.step listed c.args.name.now c.requires.subject (ap is_refused (sym c.take_call-said.ensures.said) ∙ sym c.is_refused.ensures ∙ c.if-is_refused.true));
    }

pub returns-in-Ok : goal.returns-in-Ok
returns-in-Ok c =
    let s = c.args.self.now.state in
    let cluster = ap (λ (d : Core). d.state.cluster) c.self.view_is in
    let listed = subst (λ (k : Cluster). named (rows_in k.nodes) ≡ entries k.nodes) cluster c.find_row-found.ensures.listed in
    let found = subst (λ (k : Cluster). IsRowOf (rows_in k.nodes) c.args.name.now c.in-Ok.at) cluster c.in-Ok.ensures.found in
    record {
      said_is = c.take_call-said.ensures.said;
      after_is = c.take_call-said.ensures.after;
      changed =
          subst (IsChange s.cluster (Gone c.in-Ok.at)) (sym (ap (λ (d : Core). d.state.cluster) c.take_call-said.ensures.after))
          (gone_taken_change s c.args.pass c.args.step listed c.args.name.now c.requires.subject (ap is_refused (sym c.take_call-said.ensures.said) ∙ sym c.is_refused.ensures ∙ c.if-is_refused.false) c.in-Ok.at found);
    }

-- it was there
pub returns-in-Err : goal.returns-in-Err
returns-in-Err c =
    let s = c.args.self.now.state in
    let cluster = ap (λ (d : Core). d.state.cluster) c.self.view_is in
    let listed = subst (λ (k : Cluster). named (rows_in k.nodes) ≡ entries k.nodes) cluster c.find_row-found.ensures.listed in
    let gap = subst (λ (k : Cluster). IsGapFor (rows_in k.nodes) c.args.name.now c.in-Err.field-0) cluster c.in-Err.ensures.absent in
    absurd (gone_there s c.args.pass c.args.step listed c.args.name.now c.requires.subject (ap is_refused (sym c.take_call-said.ensures.said) ∙ sym c.is_refused.ensures ∙ c.if-is_refused.false) c.in-Err.field-0 gap)
