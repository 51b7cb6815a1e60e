-- The block is there, and no other head's place is the one that is written.
use Rattle.std.proofs.Common.{◌≡◌, ◌+◌, ◌*◌, ◌/◌, ◌%◌, ◌<◌, ◌≤◌, length, get_or, set, ap, ◌∙◌, arith}
use Rattle.std.proofs.lemmas.List.{get_or_read}
use Rattle.name_table.specs.inside.Written.{listed, head_at}
use Rattle.name_table.proofs.WrittenLemmas.{listed_many, head_there, head_set, heads_after}
use Rattle.name_table.proofs.heads.Heads.set.Goals as goal

pub open-requires-clause-a_block : goal.open-requires-clause-a_block
open-requires-clause-a_block c =
    let h = c.self.inside in
    let many = listed_many (head_at h.blocks.items h.written.items h.end) h.len c.args.self.now c.self.view_is in
    let within = c.self.invariant.within in
    let len = h.blocks.ok.0 in
    omega arith

pub index-requires : goal.index-requires
index-requires c =
    let h = c.self.inside in
    let many = listed_many (head_at h.blocks.items h.written.items h.end) h.len c.args.self.now c.self.view_is in
    let within = c.self.invariant.within in
    let len = h.blocks.ok.0 in
    let as_many = c.open.ensures.as_many in
    omega arith

pub index_mut-requires : goal.index_mut-requires
index_mut-requires c =
    let h = c.self.inside in
    let k = c.args.chain in
    let blocks = c.open.new.blocks in
    let written = c.open.new.written in
    let many = listed_many (head_at h.blocks.items h.written.items h.end) h.len c.args.self.now c.self.view_is in
    let within = c.self.invariant.within in
    let len = h.blocks.ok.0 in
    let as_many = c.open.ensures.as_many in
    let len_now = blocks.ok.0 in
    let lt : k / 1024 < length blocks.items = omega arith in
    let block : c.index.result.now ≡ get_or blocks.items (k / 1024) 0 = get_or_read blocks.items (k / 1024) c.index.result.now lt c.index.ensures 0 in
    let there = head_there blocks.items written.items c.open.ensures.blocks k lt c.open.ensures.there in
    let long = written.ok.0 in
    omega arith

pub returns : goal.returns
returns c =
    let h = c.self.inside in
    let k = c.args.chain in
    let v = c.args.head in
    let blocks = c.open.new.blocks in
    let written = c.open.new.written in
    let many = listed_many (head_at h.blocks.items h.written.items h.end) h.len c.args.self.now c.self.view_is in
    let within = c.self.invariant.within in
    let len = h.blocks.ok.0 in
    let as_many = c.open.ensures.as_many in
    let len_now = blocks.ok.0 in
    let lt : k / 1024 < length blocks.items = omega arith in
    let all : h.len ≤ 1024 * length blocks.items = omega arith in
    let block : c.index.result.now ≡ get_or blocks.items (k / 1024) 0 = get_or_read blocks.items (k / 1024) c.index.result.now lt c.index.ensures 0 in
    (λ t. listed (head_at blocks.items (set written.items (block t * 1024 + k % 1024) v) h.end) h.len)
    ∙ head_set blocks.items written.items c.open.ensures.blocks h.end h.len k v (omega arith) all c.open.ensures.there
    ∙ ap (λ hs. set hs k v) (heads_after h.blocks.items h.written.items blocks.items written.items h.end h.len c.open.ensures.same ∙ c.self.view_is)
