use Rattle.std.proofs.Common.{arith}
use Rattle.wcode.proofs.Table.{form_at}
use Rattle.wcode.proofs.opcode.form_of.Goals as goal

pub returns : goal.returns
returns c = form_at c.args.opcode _ (omega arith)
