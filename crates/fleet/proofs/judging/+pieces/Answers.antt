use Rattle.std.proofs.Common.{◌≡◌, ℕ, ◌+◌, ◌-◌, ◌/◌, ◌<◌, ◌++◌, length, map, arith, sym, ◌∙◌, ap, subst}
use Rattle.std.specs.List.{All}
use Rattle.std.proofs.lemmas.List.{map-append}
use Rattle.desk.specs.Shown.{shown}
use Rattle.choose.specs.Choice.{AreVerdicts}
use Rattle.pieces.specs.Pieces.{places_of, nodes_of}
use Rattle.choose.specs.Kits.{JudgeAlike}
use Rattle.pieces.proofs.Cutting.{back_pieces, begins_rise, front_pieces, front_within, nodes_of_both}
use Rattle.fleet.proofs.Together.{alike_front, alike_back, found_by_all}
use Rattle.fleet.proofs.judging.+pieces.Goals as goal

pub judge_pieces-judge_both-requires-clause-pieces_here : goal.judge_pieces-judge_both-requires-clause-pieces_here
judge_pieces-judge_both-requires-clause-pieces_here g t c κs within =
    let nodes : ℕ = length c.args.work.now.rows.now in
    let pieces : ℕ = c.args.work.now.pieces in
    let many : ℕ = length c.args.kits.now in
    let kits : length c.split_at_mut-kits_here.result.0.now ≡ many / 2 = omega (arith, c.split_at_mut-kits_here.ensures.front_len) in
    let places : length c.split_at_mut-here.result.0.now ≡ places_of nodes pieces c.args.first (many / 2) =
    omega (arith, c.split_at_mut-here.ensures.front_len, c.begin.ensures.place, c.begin-2.ensures.place) in
    rw (kits, places) (front_pieces nodes pieces c.args.first many (many / 2) (length c.args.verdicts.now) (omega (arith, c.requires.pieces.some)) (omega arith) c.requires.pieces)

pub judge_pieces-judge_both-requires-clause-pieces_there : goal.judge_pieces-judge_both-requires-clause-pieces_there
judge_pieces-judge_both-requires-clause-pieces_there g t c κs within =
    let nodes : ℕ = length c.args.work.now.rows.now in
    let pieces : ℕ = c.args.work.now.pieces in
    let many : ℕ = length c.args.kits.now in
    let kits : length c.split_at_mut-kits_here.result.1.now ≡ many - many / 2 = omega (arith, c.split_at_mut-kits_here.ensures.back_len) in
    let places : length c.split_at_mut-here.result.1.now ≡ length c.args.verdicts.now - places_of nodes pieces c.args.first (many / 2) =
    omega (arith, c.split_at_mut-here.ensures.back_len, c.begin.ensures.place, c.begin-2.ensures.place) in
    rw (kits, places) (back_pieces nodes pieces c.args.first many (many / 2) (length c.args.verdicts.now) (omega (arith, c.requires.pieces.some)) c.requires.pieces)

pub judge_pieces-judge_both-requires-clause-alike_here : goal.judge_pieces-judge_both-requires-clause-alike_here
judge_pieces-judge_both-requires-clause-alike_here g t c κs within =
    let cut = c.split_at_mut-kits_here in
    alike_front g.K.Rules.answers cut.result.0.now cut.result.1.now (subst (λ kits. JudgeAlike g.K.Rules.answers kits) cut.ensures.value c.requires.alike)

pub judge_pieces-judge_both-requires-clause-alike_there : goal.judge_pieces-judge_both-requires-clause-alike_there
judge_pieces-judge_both-requires-clause-alike_there g t c κs within =
    let cut = c.split_at_mut-kits_here in
    alike_back g.K.Rules.answers cut.result.0.now cut.result.1.now (subst (λ kits. JudgeAlike g.K.Rules.answers kits) cut.ensures.value c.requires.alike)

pub judge_pieces-returns-clause-are : goal.judge_pieces-returns-clause-are
judge_pieces-returns-clause-are g t c =
    let rows = c.args.work.now.rows.now in
    let pieces : ℕ = c.args.work.now.pieces in
    let many : ℕ = length c.args.kits.now in
    let some : 0 < pieces = omega (arith, c.requires.pieces.some, c.requires.pieces.there) in
    let cut = c.split_at_mut-kits_here in
    let front : length cut.result.0.now ≡ many / 2 = omega (arith, cut.ensures.front_len) in
    let back : length cut.result.1.now ≡ many - many / 2 = omega (arith, cut.ensures.back_len) in
    let rows_of_both : nodes_of rows pieces c.args.first (length cut.result.0.now) ++ nodes_of rows pieces (c.args.first + many / 2) (length cut.result.1.now) ≡ nodes_of rows pieces c.args.first many =
    rw (front, back) (nodes_of_both rows pieces c.args.first many (many / 2) some (omega arith)) in
    let both = sym (map-append shown (nodes_of rows pieces c.args.first (length cut.result.0.now)) (nodes_of rows pieces (c.args.first + many / 2) (length cut.result.1.now))) ∙ ap (map shown) rows_of_both in
    let alike : JudgeAlike g.K.Rules.answers (cut.result.0.now ++ cut.result.1.now) = subst (λ kits. JudgeAlike g.K.Rules.answers kits) cut.ensures.value c.requires.alike in
    subst (λ kits. All (λ kit. AreVerdicts (g.K.Rules.answers kit) c.args.work.now.pod.now (map shown (nodes_of rows pieces c.args.first many)) (c.judge_both.new.here ++ c.judge_both.new.there)) kits) (sym cut.ensures.value)
    (found_by_all g.K.Rules.answers cut.result.0.now cut.result.1.now c.args.work.now.pod.now _ _ _ c.judge_both.new.here c.judge_both.new.there alike
    (omega (arith, front, c.requires.pieces.some)) (omega (arith, back, c.requires.pieces.some)) both c.judge_both.ensures.are_here c.judge_both.ensures.are_there)

-- the later pieces begin behind the first ones, which have no more places than all
pub judge_pieces-overflow_sub-at : goal.judge_pieces-overflow_sub-at
judge_pieces-overflow_sub-at g t c =
    let nodes : ℕ = length c.args.work.now.rows.now in
    let pieces : ℕ = c.args.work.now.pieces in
    let some : 0 < pieces = omega (arith, c.requires.pieces.some, c.requires.pieces.there) in
    let half : ℕ = length c.args.kits.now / 2 in
    omega (arith, c.begin.ensures.place, c.begin-2.ensures.place, begins_rise nodes pieces c.args.first (c.args.first + half) some (omega arith))

pub judge_pieces-split_at_mut-here-requires : goal.judge_pieces-split_at_mut-here-requires
judge_pieces-split_at_mut-here-requires g t c =
    let nodes : ℕ = length c.args.work.now.rows.now in
    let many : ℕ = length c.args.kits.now in
    let front = front_within nodes c.args.work.now.pieces c.args.first many (many / 2) (length c.args.verdicts.now) (omega arith) c.requires.pieces in
    omega (arith, c.begin.ensures.place, c.begin-2.ensures.place, front)

pub judge_pieces-returns-clause-stay : goal.judge_pieces-returns-clause-stay
judge_pieces-returns-clause-stay g t c =
    (λ i. c.judge_both.ensures.stay_here i ++ c.judge_both.ensures.stay_there i) ∙ sym c.split_at_mut-kits_here.ensures.value
