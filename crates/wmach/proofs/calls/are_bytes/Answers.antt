use Rattle.std.proofs.Common.{arith}
use Rattle.wstore.proofs.Sizes.{all_bytes}
use Rattle.wmach.proofs.calls.are_bytes.Goals as goal

pub returns : goal.returns
returns c = all_bytes c.args.bytes.now (λ k. omega (arith, c.type_inv.bytes k))
