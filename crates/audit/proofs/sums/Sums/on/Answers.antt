use Rattle.std.proofs.Common.{Some, None}
use Rattle.audit.proofs.Summing.{found}
use Rattle.audit.proofs.sums.Sums.on.Goals as goal

-- a name that stands in the table
pub returns-in-Some : goal.returns-in-Some
returns-in-Some c = found c.args.self.now c.args.node.now (Some c.in-Some.sum.now) c.in-Some.ensures.value

-- a name that doesn't
pub returns-in-None : goal.returns-in-None
returns-in-None c = found c.args.self.now c.args.node.now None c.in-None.ensures.value
