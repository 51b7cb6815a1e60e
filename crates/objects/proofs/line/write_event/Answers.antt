use Rattle.std.proofs.Common.{rules}
use Rattle.objects.specs.inside.Line.{line_json}
use Rattle.objects.proofs.line.write_event.Goals as goal

pub returns-in-NodeGone : goal.returns-in-NodeGone
unfolding line_json
returns-in-NodeGone c = search rules

pub returns-in-PodGone : goal.returns-in-PodGone
unfolding line_json
returns-in-PodGone c = search rules
