use Rattle.std.proofs.Common.{◌≡◌, ◌∙◌, ℕ, ◌-◌, ◌<◌, ◌++◌, length, subst, arith}
use Rattle.pieces.specs.Pieces.{places_of, nodes_of}
use Rattle.pool.specs.inside.Speaking.{AreSaid}
use Rattle.pieces.proofs.Cutting.{all_pieces, back_pieces, begins_first}
use Rattle.pool.proofs.Collecting.{said_of_both, said_of_all, said_are}
use Rattle.pool.proofs.pool.judge_and_collect.Goals as goal

pub returns-clause-are : goal.returns-clause-are
returns-clause-are g c =
    let asked = c.args.order.now in
    let vs = c.judge_said.new.verdicts in
    let ws = c.collect.new.verdicts in
    let many : length c.args.helpers.now ≡ asked.pieces - 1 = omega (arith, c.requires.pieces) in
    said_are g.J.Site.Says (g.K.Rules.answers c.args.home.now) asked.pod c.requires.speaks asked.snapshot (vs ++ ws)
    (said_of_all g.J.Site.Says asked.pod asked.snapshot asked.pieces (vs ++ ws) (omega (arith, c.requires.pieces))
    (said_of_both g.J.Site.Says asked.pod asked.snapshot asked.pieces 0 asked.pieces vs ws (omega (arith, c.requires.pieces)) (omega (arith, c.requires.pieces)) c.judge_said.ensures.are
    (subst (λ n. AreSaid g.J.Site.Says asked.pod (nodes_of asked.snapshot asked.pieces 1 n) ws) many c.collect.ensures.are)))

pub collect-requires-clause-pieces : goal.collect-requires-clause-pieces
collect-requires-clause-pieces g c =
    let n : ℕ = length c.args.order.now.snapshot in
    let p : ℕ = c.args.order.now.pieces in
    let some : 0 < p = omega (arith, c.requires.pieces) in
    let many : length c.args.helpers.now ≡ p - 1 = omega (arith, c.requires.pieces) in
    let places : length c.split_at_mut-here.result.1.now ≡ n - places_of n p 0 1 =
    omega (arith, c.split_at_mut-here.ensures.back_len, c.begin-at.ensures.place, begins_first n p some, c.requires.places) in
    rw (many, places) (back_pieces n p 0 p 1 n (omega (arith, c.requires.pieces, c.requires.some)) (all_pieces n p some (omega (arith, c.requires.pieces, c.requires.few))))

pub returns-clause-stays : goal.returns-clause-stays
returns-clause-stays g c = c.collect.ensures.stays ∙ c.judge_said.ensures.stays
