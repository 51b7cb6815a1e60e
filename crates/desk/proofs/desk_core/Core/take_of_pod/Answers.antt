use Rattle.std.proofs.Common.{◌≡◌, sym, ap, subst, ◌∙◌}
use Rattle.std.specs.FinMap as fin
use Rattle.book.specs.Cluster.{Cluster}
use Rattle.book.specs.Rows.{named, rows_in}
use Rattle.desk.specs.inside.Board.{IsChange}
use Rattle.desk.specs.inside.Caller.{Core}
use Rattle.desk.specs.declared.change.Change.TheVariants.{Used}
use Rattle.desk.proofs.Changes.{listed_by, pod_change}
use Rattle.desk.proofs.Noted.{nodes_stay, others_stay}
use Rattle.desk.proofs.desk_core.Core.take_of_pod.Goals as goal

-- what is used of two nodes may be new
pub returns : goal.returns
returns c =
    let s = c.args.self.now.state in
    let d = c.take_call-said.new.self in
    let uid = c.args.uid.now in
    let new = ap (λ (x : Core). x.state.cluster) c.take_call-said.ensures.after in
    let listed = subst (λ (k : Cluster). named (rows_in k.nodes) ≡ fin.entries k.nodes) (ap (λ (x : Core). x.state.cluster) c.self.view_is) (listed_by c.rows.result.now c.self.inside.book.nodes c.rows.ensures) in
    let nodes = ap (λ (k : Cluster). k.nodes) new ∙ nodes_stay s c.args.pass c.args.step uid c.requires.subject in
    record {
      said_is = c.take_call-said.ensures.said;
      after_is = c.take_call-said.ensures.after;
      changed =
          subst (λ change. IsChange s.cluster change d.state.cluster) (λ i. Used (sym c.total_at.ensures i) (sym c.total_at-2.ensures i))
          (pod_change s.cluster d.state.cluster uid c.row_under-before.result c.row_under-now.result listed nodes
          (λ q other. ap (λ (k : Cluster). fin.get k.places q) new ∙ others_stay s c.args.pass c.args.step uid c.requires.subject q other) c.row_under-before.ensures c.row_under-now.ensures);
    }
