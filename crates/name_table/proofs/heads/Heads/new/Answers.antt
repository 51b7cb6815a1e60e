-- None is written.
use Rattle.std.proofs.Common.{◌≡◌, ◌+◌, ◌/◌, [], length, replicate, ap, ◌∙◌, arith}
use Rattle.std.proofs.lemmas.List.{length-replicate}
use Rattle.name_table.specs.inside.Written.{unwritten, listed, head_at}
use Rattle.name_table.proofs.WrittenLemmas.{blocks_new, heads_new}
use Rattle.name_table.proofs.heads.Heads.new.Goals as goal

pub returns : goal.returns
returns c =
    let n = c.args.len / 1024 + 1 in
    let blocks : c.in-Ok.blocks.items ≡ replicate n unwritten = c.in-Ok.ensures.items_if_clones_equal (λ y h. cc) in
    let written : c.in-Ok-with_capacity.written.items ≡ [] = c.in-Ok-with_capacity.ensures.items in
    (λ t. listed (head_at (blocks t) (written t) c.args.end) c.args.len) ∙ heads_new n c.args.end c.args.len

pub invariant_of-result : goal.invariant_of-result
invariant_of-result c =
    let n = c.args.len / 1024 + 1 in
    let few = c.requires in
    let blocks : c.in-Ok.blocks.items ≡ replicate n unwritten = c.in-Ok.ensures.items_if_clones_equal (λ y h. cc) in
    let many : length c.in-Ok.blocks.items ≡ n = ap length blocks ∙ length-replicate n unwritten in
    record {
      apart = blocks_new c.in-Ok.blocks.items c.in-Ok-with_capacity.written.items n blocks c.in-Ok-with_capacity.ensures.items (omega arith);
      within = omega arith;
      room = omega (arith, many, c.in-Ok-with_capacity.ensures.capacity);
    }
