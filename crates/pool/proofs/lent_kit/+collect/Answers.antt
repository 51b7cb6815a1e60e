use Rattle.std.proofs.Common.{◌≡◌, ◌∙◌, ℕ, ◌+◌, ◌-◌, length, arith, sym, subst}
use Rattle.pieces.specs.Pieces.{places_of, nodes_of, ArePieces}
use Rattle.pool.specs.Speaking.{SpeaksFor}
use Rattle.pool.specs.inside.Speaking.{AreSaid}
use Rattle.pieces.proofs.Cutting.{back_pieces, front_within}
use Rattle.pool.proofs.Collecting.{said_of_both}
use Rattle.pool.proofs.lent_kit.+collect.Goals as goal

pub split_at_mut-here-requires : goal.split_at_mut-here-requires
split_at_mut-here-requires g t c =
    let within = front_within (length c.args.order.now.snapshot) c.args.order.now.pieces c.args.first (length c.args.helpers.now) 1 (length c.args.verdicts.now) (omega (arith, c.requires.pieces.some)) c.requires.pieces in
    omega (arith, within, c.places_of-at.ensures.all)

pub collect-requires : goal.collect-requires
collect-requires g t c κs within =
    let nodes : ℕ = length c.args.order.now.snapshot in
    let pieces : ℕ = c.args.order.now.pieces in
    let many : ℕ = length c.args.helpers.now in
    let kits : length c.split_at_mut-mine.result.1.now ≡ many - 1 = omega (arith, c.split_at_mut-mine.ensures.back_len) in
    let places : length c.split_at_mut-here.result.1.now ≡ length c.args.verdicts.now - places_of nodes pieces c.args.first 1 =
    omega (arith, c.split_at_mut-here.ensures.back_len, c.places_of-at.ensures.all) in (
      omega (arith, kits, c.requires.pieces.some),
      (
        within.0,
        (
          within.1.0,
          (
            within.1.1.0,
            (
              within.1.1.1.0,
              (
                within.1.1.1.1,
                (
                  rw (kits, places) (back_pieces nodes pieces c.args.first many 1 (length c.args.verdicts.now) (omega (arith, c.requires.pieces.some)) c.requires.pieces),
                  subst (λ kit. SpeaksFor g.J.Site.Says (g.K.Rules.answers kit)) (sym c.fill-2.ensures.stays) c.requires.speaks,
                ),
              ),
            ),
          ),
        ),
      ),
    )

pub returns-clause-are : goal.returns-clause-are
returns-clause-are g t c =
    let asked = c.args.order.now in
    let many : ℕ = length c.args.helpers.now in
    let kits : length c.split_at_mut-mine.result.1.now ≡ many - 1 = omega (arith, c.split_at_mut-mine.ensures.back_len) in
    said_of_both g.J.Site.Says asked.pod asked.snapshot asked.pieces c.args.first many c.fill-2.new.verdicts c.collect.new.verdicts
    (omega (arith, c.requires.pieces.some, c.requires.pieces.there)) (omega (arith, c.requires.pieces.some)) c.fill-2.ensures.are
    (subst (λ n. AreSaid g.J.Site.Says asked.pod (nodes_of asked.snapshot asked.pieces (c.args.first + 1) n) c.collect.new.verdicts) kits c.collect.ensures.are)

-- the only helper's piece is all of them
pub fill-requires-clause-pieces : goal.fill-requires-clause-pieces
fill-requires-clause-pieces g t c =
    let asked = c.args.order.now in
    subst (λ n. ArePieces (length asked.snapshot) asked.pieces c.args.first n (length c.args.verdicts.now)) (omega arith) c.requires.pieces

pub returns-clause-stays : goal.returns-clause-stays
returns-clause-stays g t c = c.collect.ensures.stays ∙ c.fill-2.ensures.stays
