-- There is room for as many blocks as there are, and the new one is the last.
use Rattle.std.proofs.Common.{◌≡◌, ℕ, ◌+◌, ◌*◌, ◌/◌, ◌<◌, ◌≤◌, ◌++◌, length, replicate, set, sym, subst, ap, ◌∙◌, arith, vec_len, vec_capacity, get_or-set_same}
use Rattle.name_table.specs.inside.Written.{unwritten, head_at, AreBlocks}
use Rattle.name_table.proofs.WrittenLemmas.{blocks_end, block_room, blocks_more, head_more, longer}
use Rattle.name_table.proofs.heads.write.Goals as goal

pub unwrap-requires : goal.unwrap-requires
unwrap-requires c =
    let blocks = c.args.blocks.now in
    let written = c.args.written.now in
    let len = c.len-len.result in
    let is : len ≡ length written.items = c.len-len.ensures ∙ written.ok.0 in
    let last = blocks_end blocks.items written.items c.requires.blocks len is in
    let within : c.args.block < length blocks.items = let many = blocks.ok.0 in omega arith in
    let room = block_room blocks.items written.items c.requires.blocks c.args.block (len / 1024) c.args.end within c.requires.new last.0 last.1 in
    let many = blocks.ok.0 in
    let fits : 1024 * vec_len blocks ≤ vec_capacity written = c.requires.room in
    c.resize.ensures.succeeds (omega arith)

pub returns-clause-blocks : goal.returns-clause-blocks
returns-clause-blocks c =
    let blocks = c.args.blocks.now in
    let written = c.args.written.now in
    let len = c.len-len.result in
    let end = c.args.end in
    let is : len ≡ length written.items = c.len-len.ensures ∙ written.ok.0 in
    let last = blocks_end blocks.items written.items c.requires.blocks len is in
    let within : c.args.block < length blocks.items = let many = blocks.ok.0 in omega arith in
    let more : len + 1024 ≡ vec_len written + 1024 = ap (λ n. n + 1024) c.len-len.ensures in
    let items = rw c.unwrap.ensures at c.resize.ensures.items in
    let grown : c.resize.new.self.items ≡ written.items ++ replicate 1024 end = items ∙ longer written.items (len + 1024) (vec_len written) 1024 end written.ok.0 more in
    subst (AreBlocks (set blocks.items c.args.block (len / 1024))) (sym grown)
    (blocks_more blocks.items written.items c.requires.blocks c.args.block (len / 1024) end within c.requires.new last.0 last.1)

pub returns-clause-same : goal.returns-clause-same
returns-clause-same c k =
    let blocks = c.args.blocks.now in
    let written = c.args.written.now in
    let len = c.len-len.result in
    let end = c.args.end in
    let is : len ≡ length written.items = c.len-len.ensures ∙ written.ok.0 in
    let last = blocks_end blocks.items written.items c.requires.blocks len is in
    let within : c.args.block < length blocks.items = let many = blocks.ok.0 in omega arith in
    let more : len + 1024 ≡ vec_len written + 1024 = ap (λ n. n + 1024) c.len-len.ensures in
    let items = rw c.unwrap.ensures at c.resize.ensures.items in
    let grown : c.resize.new.self.items ≡ written.items ++ replicate 1024 end = items ∙ longer written.items (len + 1024) (vec_len written) 1024 end written.ok.0 more in
    ap (λ w. head_at (set blocks.items c.args.block (len / 1024)) w end k) grown
    ∙ head_more blocks.items written.items c.requires.blocks c.args.block (len / 1024) end within c.requires.new last.0 last.1 k

pub returns-clause-there : goal.returns-clause-there
returns-clause-there c =
    let blocks = c.args.blocks.now in
    let written = c.args.written.now in
    let len = c.len-len.result in
    let is : len ≡ length written.items = c.len-len.ensures ∙ written.ok.0 in
    let last = blocks_end blocks.items written.items c.requires.blocks len is in
    let within : c.args.block < length blocks.items = let many = blocks.ok.0 in omega arith in
    subst (λ (n : ℕ). n < unwritten) (sym (get_or-set_same blocks.items c.args.block (len / 1024) 0 within)) last.1
