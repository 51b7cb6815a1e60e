use Rattle.std.proofs.Common.{false}
use Rattle.wcode.proofs.Bodies.{body_once}
use Rattle.wcode.proofs.laws.one_expression.Goals as goal

pub returns : goal.returns
returns c bytes body other rest more h k = let p = body_once 256 false bytes body rest h false other more k in (p.1, p.2)
