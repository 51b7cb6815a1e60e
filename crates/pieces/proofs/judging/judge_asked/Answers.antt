use Rattle.std.proofs.Common.{◌≡◌, length, map, ap, sym, ◌∙◌, subst}
use Rattle.desk.specs.Shown.{shown}
use Rattle.choose.specs.Choice.{AreVerdicts}
use Rattle.pieces.specs.Pieces.{ArePieces, nodes_of}
use Rattle.pieces.proofs.Seen.{as_many, nodes_of_map}
use Rattle.pieces.proofs.judging.judge_asked.Goals as goal

pub returns-clause-are : goal.returns-clause-are
returns-clause-are g c =
    let asked = c.args.asked.now in
    let rules = g.K.Rules.answers c.args.kit.now in
    let nodes : map shown (nodes_of c.rows.result.now asked.pieces c.args.piece 1) ≡ nodes_of asked.snapshot asked.pieces c.args.piece 1 =
    nodes_of_map shown c.rows.result.now asked.pieces c.args.piece 1 ∙ ap (λ ns. nodes_of ns asked.pieces c.args.piece 1) c.rows.ensures in
    subst (λ pod. AreVerdicts rules pod (nodes_of asked.snapshot asked.pieces c.args.piece 1) c.judge_piece.new.verdicts) c.deref.ensures
    (subst (λ ns. AreVerdicts rules c.deref.result.now ns c.judge_piece.new.verdicts) nodes c.judge_piece.ensures.are)

-- as many rows are shown as there are
pub judge_piece-requires : goal.judge_piece-requires
judge_piece-requires g c =
    let asked = c.args.asked.now in
    subst (λ n. ArePieces n asked.pieces c.args.piece 1 (length c.args.verdicts.now)) (sym (as_many c.rows.result.now asked.snapshot c.rows.ensures)) c.requires
