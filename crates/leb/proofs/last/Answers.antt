use Rattle.std.proofs.Common.{◌-◌, ◌^◌, ◌≤◌, arith}
use Rattle.std.proofs.Math.Pow.{pow_mono}
use Rattle.leb.proofs.last.Goals as goal

pub returns-then-byte-end-clause-within : goal.returns-then-byte-end-clause-within
returns-then-byte-end-clause-within c =
    let h : c.min.result ≤ c.args.left = omega arith in
    let p : 2 ^ c.min.result ≤ 2 ^ c.args.left = pow_mono h in
    omega arith

pub returns-then-byte-end-2-clause-within : goal.returns-then-byte-end-2-clause-within
returns-then-byte-end-2-clause-within c =
    let h : c.min-else-not-signed.result ≤ c.args.left = omega arith in
    let p : 2 ^ c.min-else-not-signed.result ≤ 2 ^ c.args.left = pow_mono h in
    omega arith

pub returns-then-byte-end-3-clause-within : goal.returns-then-byte-end-3-clause-within
returns-then-byte-end-3-clause-within c =
    let h : c.min-else-not-signed.result ≤ c.args.left = omega arith in
    let p : 2 ^ c.min-else-not-signed.result ≤ 2 ^ c.args.left = pow_mono h in
    omega arith

pub returns-then-byte-end-3-clause-below : goal.returns-then-byte-end-3-clause-below
returns-then-byte-end-3-clause-below c _ =
    let h : c.min-else-not-signed.result ≤ c.args.left - 1 = omega arith in
    let p : 2 ^ c.min-else-not-signed.result ≤ 2 ^ (c.args.left - 1) = pow_mono h in
    omega arith
