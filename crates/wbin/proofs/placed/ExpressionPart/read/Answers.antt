use Rattle.wmodule.specs.declared.module.Place.{Place}
use Rattle.wbin.specs.inside.Reading.{Reads}
use Rattle.wbin.proofs.Places.{stands_found, stands_spelled}
use Rattle.wbin.proofs.placed.ExpressionPart.read.Goals as goal

pub returns-clause-read : goal.returns-clause-read
unfolding Reads
returns-clause-read c =
    let a = c.in_ok-_blocks.ensures in
    let b = c.in_ok-_blocks._blocks.items in
    let p : Place = record { begin = c.args.at; end = c.in_ok-_blocks.end } in
    (a.end.1, stands_spelled c.args.bytes.now p b (stands_found c.args.bytes.now c.args.at c.in_ok-_blocks.end b a.found.0 a.end.0 a.end.1 a.found.1))

pub returns-clause-placed : goal.returns-clause-placed
returns-clause-placed c =
    let a = c.in_ok-_blocks.ensures in
    let b = c.in_ok-_blocks._blocks.items in
    (b, stands_found c.args.bytes.now c.args.at c.in_ok-_blocks.end b a.found.0 a.end.0 a.end.1 a.found.1)
