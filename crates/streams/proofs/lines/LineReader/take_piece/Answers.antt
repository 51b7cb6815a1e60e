use Rattle.std.proofs.Common.{◌≡◌, ◌<◌, ◌++◌, length, rules, take, get_or, slice_range, ◌∙◌, sym}
use Rattle.streams.proofs.Pieces.{range-cut}
use Rattle.streams.proofs.lines.LineReader.take_piece.Goals as goal

pub returns-in-Ok : goal.returns-in-Ok
returns-in-Ok c =
    let inside = c.self.inside in
    let piece = slice_range inside.buffer.items inside.start inside.end in
    let within : c.in-Some.at < length piece = search rules in
    let newline : get_or piece c.in-Some.at 0 ≡ 10 = search rules in
    let stored : c.keep.new.line.items ≡ take c.args.most (c.args.line.now.items ++ take c.in-Some.at piece) = search rules in
    (take c.in-Some.at piece, search rules, stored, sym c.self.view_is ∙ range-cut inside.buffer.items inside.start inside.end c.in-Some.at within newline)
