use Rattle.std.proofs.Common.{◌++◌, codes, subst}
use Rattle.streams.specs.TextBuilder.{Adds}
use Rattle.streams.proofs.Built.{adds_both}
use Rattle.output_lines.specs.Text.{error_line}
use Rattle.output_lines.proofs.OutputLines.{error_lines}
use Rattle.output_lines.proofs.text.push_error.Goals as goal

pub returns-clause-text : goal.returns-clause-text
unfolding error_line
returns-clause-text c =
    let was = c.args.out.now in
    let uid = c.put_two.new.self in
    let rule = c.put_two-2.new.self in
    let node = c.put_two-3.new.self in
    let cause = c.push_cause.new.out in
    let first = subst (λ name. Adds was uid (name ++ codes " error plugin ")) c.as_bytes.ensures.bytes c.put_two.ensures in
    let third = subst (λ name. Adds rule node (name ++ codes " ")) c.as_bytes-2.ensures.bytes c.put_two-3.ensures in
    let two = adds_both was uid rule _ _ first c.put_two-2.ensures in
    let three = adds_both was rule node _ _ two third in
    let all = adds_both was node cause _ _ three c.push_cause.ensures in
    adds_both was cause c.put.new.self _ _ all c.put.ensures

pub returns-clause-lines : goal.returns-clause-lines
returns-clause-lines c = error_lines _ _ _ _ c.as_bytes.ensures.valid c.requires c.as_bytes-2.ensures.valid
