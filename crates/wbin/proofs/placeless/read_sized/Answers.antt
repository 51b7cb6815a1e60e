use Rattle.std.proofs.Common.{arith}
use Rattle.wbin.specs.inside.Reading.{Reads}
use Rattle.wbin.proofs.Sized.{index_ends, part_length, part_spelled, part_within, part_none}
use Rattle.wbin.proofs.placeless.read_sized.Goals as goal

pub returns-then-end-bytes-clause-read : goal.returns-then-end-bytes-clause-read
unfolding Reads
returns-then-end-bytes-clause-read c =
    let a = c.in_ok-size in λ m. part_none c.args.bytes.now c.args.at a.start a.size a.ensures.read.0 c.if-end-bytes.true a.ensures.read.1

pub returns-clause-read : goal.returns-clause-read
unfolding Reads
returns-clause-read c =
    let a = c.in_ok-size in (c.if-end-bytes.false, part_spelled c.args.bytes.now c.args.at a.start a.size c.if-end-bytes.false a.ensures.read.1)

pub returns-clause-place : goal.returns-clause-place
unfolding Reads
returns-clause-place c =
    let a = c.in_ok-size in
    let l = part_length c.args.bytes.now a.start a.size c.if-end-bytes.false in
    let e = index_ends c.args.bytes.now c.args.at a.size a.start c.requires a.ensures.read.0 a.ensures.read.1 in
    (omega (arith, l), omega (arith, l, e), part_within c.args.bytes.now a.start a.size c.if-end-bytes.false)
