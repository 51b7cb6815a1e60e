use Rattle.std.proofs.Common.{◌≡◌, ◌≤◌, length, sym, ap, subst, ◌∙◌}
use Rattle.std.specs.FinMap.{entries}
use Rattle.quant.specs.declared.objects.Node.{Node}
use Rattle.book.specs.Cluster.{Cluster}
use Rattle.book.specs.Rows.{named, rows_in, IsRowOf, IsGapFor}
use Rattle.book.specs.Used.{used}
use Rattle.desk.specs.inside.Board.{IsChange, IsNoted}
use Rattle.desk.specs.inside.Done.{is_refused}
use Rattle.desk.specs.inside.Caller.{Core}
use Rattle.desk.specs.declared.change.Change.{Change}
use Rattle.desk.specs.declared.change.Change.TheVariants.{Nothing, Set, Come}
use Rattle.desk.proofs.Noted.{set_refused_change, set_taken_change, come_taken_change}
use Rattle.desk.proofs.desk_core.Core.take_of_node.Goals as goal
use Rattle.desk.proofs.desk_core.Core.take_of_node.Goals.{in-Ok, in-Err}
use Rattle.desk.specs.Machine.{after}

pub returns-then-is_refused : goal.returns-then-is_refused
returns-then-is_refused c =
    let s = c.args.self.now.state in
    let cluster = ap (λ (d : Core). d.state.cluster) c.self.view_is in
    let listed = subst (λ (k : Cluster). named (rows_in k.nodes) ≡ entries k.nodes) cluster c.find_row-found.ensures.listed in
    record {
      said_is = c.take_call-said.ensures.said;
      after_is = c.take_call-said.ensures.after;
      changed =
          subst (IsChange s.cluster Nothing) (sym (ap (λ (d : Core). d.state.cluster) c.take_call-said.ensures.after))
          (set_refused_change s c.args.pass c.args.step listed c.args.node c.requires.subject (ap is_refused (sym c.take_call-said.ensures.said) ∙ sym c.is_refused.ensures ∙ c.if-is_refused.true));
    }

-- its row is another, or it comes
pub returns : goal.returns
returns c =
    let s = c.args.self.now.state in
    let cluster = ap (λ (d : Core). d.state.cluster) c.self.view_is in
    let listed = subst (λ (k : Cluster). named (rows_in k.nodes) ≡ entries k.nodes) cluster c.find_row-found.ensures.listed in
    let good = ap is_refused (sym c.take_call-said.ensures.said) ∙ sym c.is_refused.ensures ∙ c.if-is_refused.false in
    let new : c.take_call-said.new.self.state.cluster ≡ (after s c.args.pass c.args.step).cluster = ap (λ (d : Core). d.state.cluster) c.take_call-said.ensures.after in
    let noted : (change : Change) → IsChange s.cluster change c.take_call-said.new.self.state.cluster → IsNoted c.args.self.now c.args.pass c.args.step c.take_call-said.result change c.take_call-said.new.self =
    λ change changed. record { said_is = c.take_call-said.ensures.said; after_is = c.take_call-said.ensures.after; changed = changed } in
    elim c.match-found.branch [
      | in-Ok w ↦
          let found = subst (λ (n : Node). IsRowOf (rows_in s.cluster.nodes) n.name w.in-Ok.at) c.deref.ensures (subst (λ (k : Cluster). IsRowOf (rows_in k.nodes) c.deref.result.now.name w.in-Ok.at) cluster w.in-Ok.ensures.found) in
          subst (λ r. IsNoted c.args.self.now c.args.pass c.args.step r.0 r.1 c.take_call-said.new.self) (sym w.result-is)
          (noted (Set w.in-Ok.at c.args.node) (subst (IsChange s.cluster (Set w.in-Ok.at c.args.node)) (sym new) (set_taken_change s c.args.pass c.args.step listed c.args.node c.requires.subject good w.in-Ok.at found)))
      | in-Err w ↦
          let gap = subst (λ (n : Node). IsGapFor (rows_in s.cluster.nodes) n.name w.in-Err.at) c.deref.ensures (subst (λ (k : Cluster). IsGapFor (rows_in k.nodes) c.deref.result.now.name w.in-Err.at) cluster w.in-Err.ensures.absent) in
          let within = subst (λ (k : Cluster). w.in-Err.at ≤ length (rows_in k.nodes)) cluster w.in-Err.ensures.in_range in
          let amount = w.used.ensures ∙ ap (λ (n : Node). used c.self-2.inside.book.places n.name) w.deref-in-Err.ensures ∙ ap (λ (d : Core). used d.state.cluster.places c.args.node.name) c.self-2.view_is ∙ ap (λ (k : Cluster). used k.places c.args.node.name) new in
          subst (λ r. IsNoted c.args.self.now c.args.pass c.args.step r.0 r.1 c.take_call-said.new.self) (sym w.result-is)
          (noted (Come w.in-Err.at w.used.result c.args.node) (subst (IsChange s.cluster (Come w.in-Err.at w.used.result c.args.node)) (sym new) (come_taken_change s c.args.pass c.args.step listed c.args.node c.requires.subject good w.in-Err.at w.used.result gap within amount)))
    ]
