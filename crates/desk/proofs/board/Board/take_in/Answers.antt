-- There is room for the node's row and for what is used of it.
use Rattle.std.proofs.Common.{◌≡◌, ℕ, ◌+◌, ◌<◌, ◌≤◌, Bool, true, List, length, sym, ap, ◌∙◌, arith}
use Rattle.std.specs.Prelude.{◌&&◌, if◌then◌else◌}
use Rattle.std.specs.Vec.{vec_len, vec_capacity}
use Rattle.std.specs.List.{insert}
use Rattle.std.proofs.lemmas.Bool.{le-leb, lt-ltb}
use Rattle.quant.specs.declared.amount.Res.{Res}
use Rattle.quant.specs.declared.objects.Node.{Node}
use Rattle.desk.specs.declared.change.Change.TheVariants.{Come}
use Rattle.desk.specs.inside.Board.{Board, can_come, nodes_after, used_after}
use Rattle.desk.proofs.board.Board.take_in.Goals as goal

-- it comes where it has a place and there is room
comes : (at many room : ℕ) → at ≤ many → many < room → can_come at many room ≡ true
comes at many room le lt = λ i. le-leb at many le i && lt-ltb many room lt i

nodes_come : (room at : ℕ) (u : Res) (node : Node) (nodes : List Node) → at ≤ length nodes → length nodes < room → nodes_after room (Come at u node) nodes ≡ insert nodes at node
unfolding nodes_after
nodes_come room at u node nodes le lt = ap (λ (b : Bool). if b then insert nodes at node else nodes) (comes at (length nodes) room le lt)

used_comes : (room at : ℕ) (u : Res) (node : Node) (used : List Res) → at ≤ length used → length used < room → used_after room (Come at u node) used ≡ insert used at u
unfolding used_after
used_comes room at u node used le lt = ap (λ (b : Bool). if b then insert used at u else used) (comes at (length used) room le lt)

pub unwrap-requires : goal.unwrap-requires
unwrap-requires c =
    let i = c.self.invariant in
    let len = c.len-then-at-len.ensures in
    let room = c.if-len-self.true in
    let fits : c.self.inside.room ≤ vec_capacity c.self.inside.nodes = i.1 in
    c.insert.ensures.succeeds (omega arith)

pub unwrap-requires-then-len-self : goal.unwrap-requires-then-len-self
unwrap-requires-then-len-self c =
    let i = c.self.invariant in
    let len = c.len-then-at-len.ensures in
    let room = c.if-len-self.true in
    let same : vec_len c.self.inside.used ≡ vec_len c.self.inside.nodes = i.0 in
    let fits : c.self.inside.room ≤ vec_capacity c.self.inside.used = i.2 in
    c.insert-then-len-self.ensures.succeeds (omega arith)

pub invariant_of-self : goal.invariant_of-self
invariant_of-self c =
    let i = c.self.invariant in
    let nodes = c.insert.new.self in
    let used = c.insert-then-len-self.new.self in
    let nodes_len : vec_len nodes ≡ vec_len c.self.inside.nodes + 1 = rw c.unwrap.ensures at c.insert.ensures.len in
    let used_len : vec_len used ≡ vec_len c.self.inside.used + 1 = rw c.unwrap-then-len-self.ensures at c.insert-then-len-self.ensures.len in
    let nodes_room : vec_capacity c.self.inside.nodes ≤ vec_capacity nodes = c.insert.ensures.capacity in
    let used_room : vec_capacity c.self.inside.used ≤ vec_capacity used = c.insert-then-len-self.ensures.capacity in
    let same : vec_len c.self.inside.used ≡ vec_len c.self.inside.nodes = i.0 in
    let nodes_fits : c.self.inside.room ≤ vec_capacity c.self.inside.nodes = i.1 in
    let used_fits : c.self.inside.room ≤ vec_capacity c.self.inside.used = i.2 in
    (omega arith, omega arith, omega arith, i.3)

pub returns-then-len-self-clause-nodes : goal.returns-then-len-self-clause-nodes
returns-then-len-self-clause-nodes c =
    let b = c.args.self.now in
    let at = c.args.at in
    let node = c.args.node.now in
    let room : c.self.inside.room ≡ b.room = ap (λ (b : Board). b.room) c.self.view_is in
    let many : c.len.result ≡ length b.nodes = c.len.ensures ∙ c.self.inside.nodes.ok.0 ∙ ap (λ (b : Board). length b.nodes) c.self.view_is in
    let as_many : length b.used ≡ length b.nodes = omega (arith, c.self.invariant.0, c.self.inside.nodes.ok.0, c.self.inside.used.ok.0, ap (λ (b : Board). length b.nodes) c.self.view_is, ap (λ (b : Board). length b.used) c.self.view_is) in
    let le : at ≤ length b.nodes = omega (arith, c.if-at-len.true, many) in
    let lt : length b.nodes < b.room = omega (arith, c.if-len-self.true, c.len-then-at-len.ensures, c.len.ensures, many, room) in
    let put : c.insert.new.self.items ≡ insert c.self.inside.nodes.items at c.in-Ok.node = rw c.unwrap.ensures at c.insert.ensures.items in
    let laid : c.insert-then-len-self.new.self.items ≡ insert c.self.inside.used.items at c.args.used = rw c.unwrap-then-len-self.ensures at c.insert-then-len-self.ensures.items in
    let nodes = put ∙ (λ i. insert (c.self.view_is i).nodes at (c.in-Ok.ensures i)) ∙ sym (nodes_come b.room at c.args.used node b.nodes le lt) in
    let used = laid ∙ ap (λ (b : Board). insert b.used at c.args.used) c.self.view_is ∙ sym (used_comes b.room at c.args.used node b.used (omega (arith, le, as_many)) (omega (arith, lt, as_many))) in
    λ t. record (c.self.view_is t) { nodes = nodes t; used = used t }
