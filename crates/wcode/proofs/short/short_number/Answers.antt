use Rattle.std.proofs.Common.{arith}
use Rattle.wcode.proofs.ShortWords.{one_byte, two_bytes, three_bytes, four_bytes}
use Rattle.wcode.proofs.short.short_number.Goals as goal

pub returns-then-bytes-at-lt-MORE : goal.returns-then-bytes-at-lt-MORE
returns-then-bytes-at-lt-MORE c =
    let b = c.args.bytes.now in
    (omega arith, omega arith, one_byte b c.args.at (omega arith) (omega arith))

pub returns-then-bytes-at-lt-MORE-2 : goal.returns-then-bytes-at-lt-MORE-2
returns-then-bytes-at-lt-MORE-2 c =
    let b = c.args.bytes.now in
    (omega arith, omega arith, two_bytes b c.args.at (λ i. omega (arith, c.type_inv.bytes i)) (omega arith) (omega arith) (omega arith))

pub returns-then-bytes-at-lt-MORE-3 : goal.returns-then-bytes-at-lt-MORE-3
returns-then-bytes-at-lt-MORE-3 c =
    let b = c.args.bytes.now in
    (omega arith, omega arith, three_bytes b c.args.at (λ i. omega (arith, c.type_inv.bytes i)) (omega arith) (omega arith) (omega arith) (omega arith))

pub returns-then-bytes-at-lt-MORE-4 : goal.returns-then-bytes-at-lt-MORE-4
returns-then-bytes-at-lt-MORE-4 c =
    let b = c.args.bytes.now in
    (omega arith, omega arith, four_bytes b c.args.at (λ i. omega (arith, c.type_inv.bytes i)) (omega arith) (omega arith) (omega arith) (omega arith) (omega arith))
