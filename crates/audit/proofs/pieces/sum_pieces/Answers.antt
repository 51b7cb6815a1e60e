use Rattle.std.proofs.Common.{◌∙◌, ap}
use Rattle.rayon.specs.Lists.{chunks_size, chunks_slice, map_base}
use Rattle.audit.proofs.Summing.{is_short, pieces_are, pieces_have}
use Rattle.audit.proofs.pieces.sum_pieces.Goals as goal

-- each piece is short enough to be summed
pub collect-requires-clause-ready : goal.collect-requires-clause-ready
collect-requires-clause-ready g c κs within = λ k d lt x is.
    let chunks = ap map_base c.with_min_len.ensures.base ∙ c.map.ensures.base in
    (is_short _ _ k d x.now (ap chunks_size chunks ∙ c.par_chunks.ensures.size) lt is, λ y given. tt)

-- the pieces have together what all slots have
pub returns : goal.returns
returns g c =
    let chunks = ap map_base c.with_min_len.ensures.base ∙ c.map.ensures.base in
    let collected = c.in_ok-collect.ensures in
    let mapped = collected.1 in
    pieces_have (λ v. v.items) c.in_ok-collect.field-0 c.args.slots.now mapped.0 collected.0
    (mapped.1 ∙ pieces_are _ _ c.args.slots.now (ap chunks_size chunks ∙ c.par_chunks.ensures.size) (ap chunks_slice chunks ∙ c.par_chunks.ensures.slice))
    mapped.2 collected.2
