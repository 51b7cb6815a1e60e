use Rattle.pieces.proofs.Cutting.{pieces_are_all}
use Rattle.pieces.proofs.laws.pieces_are_all_nodes.Goals as goal

pub returns : goal.returns
returns c = λ nodes pieces some. pieces_are_all nodes pieces some
