use Rattle.std.proofs.Common.{take, drop, []}
use Rattle.wbin.specs.inside.Reading.{Reads}
use Rattle.wbin.specs.inside.Decoded.{ReadsWhole}
use Rattle.wbin.proofs.Modules.{left_over}
use Rattle.wbin.proofs.Places.{part_filled}
use Rattle.wbin.proofs.decoder.read_filling.Goals as goal

pub returns-else-end-section-clause-read : goal.returns-else-end-section-clause-read
unfolding ReadsWhole
returns-else-end-section-clause-read g c =
    let s = c.args.section in
    let a = c.in-Ok in
    (part_filled g.P.Part.spells g.P.Part.placed g.P.Part.seen g.met.P.Part.kept c.args.bytes.now s.start s.end a.end a.found c.requires.1 c.if-end-section.false a.ensures.read a.ensures.placed).0

pub returns-else-end-section-clause-placed : goal.returns-else-end-section-clause-placed
returns-else-end-section-clause-placed g c =
    let s = c.args.section in
    let a = c.in-Ok in
    (part_filled g.P.Part.spells g.P.Part.placed g.P.Part.seen g.met.P.Part.kept c.args.bytes.now s.start s.end a.end a.found c.requires.1 c.if-end-section.false a.ensures.read a.ensures.placed).1

pub returns-then-end-section-clause-read : goal.returns-then-end-section-clause-read
unfolding Reads ReadsWhole
returns-then-end-section-clause-read g c = λ m x h.
    (let s = c.args.section in
    let a = c.in-Ok in
    let fence = take s.end c.args.bytes.now in
    let p = g.met.P.Part.once (drop s.start fence) (g.P.Part.seen fence a.found) x (drop a.end fence) [] a.ensures.read.1 h in
    left_over c.args.bytes.now a.end s.end c.requires.1 a.ensures.read.0 c.if-end-section.true p.1)

pub returns-in-Err-clause-read : goal.returns-in-Err-clause-read
unfolding Reads ReadsWhole
returns-in-Err-clause-read g c = λ m x h. c.in-Err.ensures.read (λ e. m (c.fenced.ensures.memory e)) x [] h
