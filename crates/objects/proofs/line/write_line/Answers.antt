use Rattle.std.proofs.Common.{◌++◌, ◌∙◌, ap}
use Rattle.json.specs.Tree.{json_tokens}
use Rattle.objects.specs.inside.Line.{line_json}
use Rattle.objects.proofs.Lines.{line_told}
use Rattle.objects.proofs.OneLine.{line_one_line}
use Rattle.objects.proofs.line.write_line.Goals as goal

pub returns-clause-meaning : goal.returns-clause-meaning
returns-clause-meaning c =
    let event = c.args.event.now in
    let written = c.write_event.new.writer in
    line_told event written.before written.tokens c.into_inner.result.items c.requires
    (c.in_ok-write_event.ensures.1 ∙ c.new-writer.ensures.before ∙ c.in_ok-with_capacity.ensures.items)
    (c.in_ok-write_event.ensures.0 ∙ ap (λ ts. ts ++ json_tokens (line_json event)) c.new-writer.ensures.tokens)
    c.into_inner.ensures.items c.into_inner.ensures.reads_back c.into_inner.ensures.utf8

pub returns-clause-one_line : goal.returns-clause-one_line
returns-clause-one_line c =
    let event = c.args.event.now in
    let written = c.write_event.new.writer in
    line_one_line event written.before written.tokens c.into_inner.result.items c.requires
    (c.in_ok-write_event.ensures.1 ∙ c.new-writer.ensures.before ∙ c.in_ok-with_capacity.ensures.items)
    (c.in_ok-write_event.ensures.0 ∙ ap (λ ts. ts ++ json_tokens (line_json event)) c.new-writer.ensures.tokens)
    c.into_inner.ensures.items
