use Rattle.std.proofs.Common.{◌≡◌, ◌≤◌, ◌++◌, length, ap, ◌∙◌, arith}
use Rattle.std.proofs.lemmas.List.{length-map}
use Rattle.std.specs.FinMap.{entries}
use Rattle.std.specs.Vec.{vec_len, vec_capacity}
use Rattle.book.specs.Cluster.{Cluster}
use Rattle.desk.specs.inside.Board.{used_in}
use Rattle.desk.specs.inside.Caller.{Core}
use Rattle.desk.proofs.Changes.{all_change}
use Rattle.desk.proofs.Noted.{all_nodes, all_room}
use Rattle.desk.proofs.desk_core.Core.take_of_all.Goals as goal

-- what is used of each is told
pub returns : goal.returns
returns c =
    let s = c.args.self.now.state in
    let d = c.take_call-said.new.self in
    let new = ap (λ (x : Core). x.state.cluster) c.take_call-said.ensures.after in
    let items = rw c.unwrap.ensures at c.extend_from_slice.ensures.items in
    let all : c.extend_from_slice.new.self.items ≡ used_in d.state.cluster =
    items ∙ ap (λ l. l ++ c.used_of_rows.result.now) (all_room s.cluster c.args.step c.args.used c.requires.subject).0 ∙ c.used_of_rows.ensures ∙ ap (λ (x : Core). used_in x.state.cluster) c.self.view_is in
    record {
      said_is = c.take_call-said.ensures.said;
      after_is = c.take_call-said.ensures.after;
      changed = all_change s.cluster d.state.cluster c.extend_from_slice.new.self (ap (λ (k : Cluster). k.nodes) new ∙ all_nodes s c.args.pass c.args.step c.args.used c.requires.subject) all;
    }

pub take_call-said-requires-clause-first : goal.take_call-said-requires-clause-first
take_call-said-requires-clause-first c = c.requires.first_is

-- there is room for what is used of each
pub unwrap-requires : goal.unwrap-requires
unwrap-requires c =
    let s = c.args.self.now.state in
    let room = all_room s.cluster c.args.step c.args.used c.requires.subject in
    let new = ap (λ (x : Core). x.state.cluster) c.take_call-said.ensures.after in
    let nodes = ap (λ (k : Cluster). k.nodes) new ∙ all_nodes s c.args.pass c.args.step c.args.used c.requires.subject in
    let used : length c.used_of_rows.result.now ≡ length (used_in c.take_call-said.new.self.state.cluster) = ap length (c.used_of_rows.ensures ∙ ap (λ (x : Core). used_in x.state.cluster) c.self.view_is) in
    let many : length (used_in c.take_call-said.new.self.state.cluster) ≡ length (entries s.cluster.nodes) = length-map (entries c.take_call-said.new.self.state.cluster.nodes) _ ∙ ap (λ k. length (entries k)) nodes in
    let none : vec_len c.args.used ≡ 0 = c.args.used.ok.0 ∙ ap length room.0 in
    let fits : length (entries s.cluster.nodes) ≤ vec_capacity c.args.used = room.1 in
    c.extend_from_slice.ensures.succeeds (omega arith)
