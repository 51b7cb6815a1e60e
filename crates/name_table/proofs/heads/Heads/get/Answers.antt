-- A head whose block was never written is the end.
use Rattle.std.proofs.Common.{◌≡◌, ◌+◌, ◌*◌, ◌/◌, ◌%◌, ◌<◌, length, get_or, ◌∙◌, arith}
use Rattle.std.proofs.lemmas.List.{get_or_read}
use Rattle.name_table.specs.inside.Written.{head_at}
use Rattle.name_table.proofs.WrittenLemmas.{listed_many, listed_read}
use Rattle.name_table.proofs.heads.Heads.get.Goals as goal

pub index-requires : goal.index-requires
index-requires c =
    let h = c.self.inside in
    let many = listed_many (head_at h.blocks.items h.written.items h.end) h.len c.args.self.now c.self.view_is in
    let within = c.self.invariant.within in
    let len = h.blocks.ok.0 in
    omega arith

pub returns-in-Some : goal.returns-in-Some
returns-in-Some c =
    let h = c.self.inside in
    let k = c.args.chain in
    let many = listed_many (head_at h.blocks.items h.written.items h.end) h.len c.args.self.now c.self.view_is in
    let within = c.self.invariant.within in
    let lt : k / 1024 < length h.blocks.items = omega arith in
    let block : c.index.result.now ≡ get_or h.blocks.items (k / 1024) 0 = get_or_read h.blocks.items (k / 1024) c.index.result.now lt c.index.ensures 0 in
    c.in-Some.ensures.lookup.4 (omega arith) h.end ∙ (λ t. get_or (c.deref.ensures.value t) (block t * 1024 + k % 1024) h.end)
    ∙ listed_read (head_at h.blocks.items h.written.items h.end) h.len c.args.self.now k c.self.view_is c.requires

pub returns-in-None : goal.returns-in-None
returns-in-None c =
    let h = c.self.inside in
    let k = c.args.chain in
    let many = listed_many (head_at h.blocks.items h.written.items h.end) h.len c.args.self.now c.self.view_is in
    let within = c.self.invariant.within in
    let lt : k / 1024 < length h.blocks.items = omega arith in
    let block : c.index.result.now ≡ get_or h.blocks.items (k / 1024) 0 = get_or_read h.blocks.items (k / 1024) c.index.result.now lt c.index.ensures 0 in
    c.in-None.ensures.lookup.4 (omega arith) h.end ∙ (λ t. get_or (c.deref.ensures.value t) (block t * 1024 + k % 1024) h.end)
    ∙ listed_read (head_at h.blocks.items h.written.items h.end) h.len c.args.self.now k c.self.view_is c.requires
