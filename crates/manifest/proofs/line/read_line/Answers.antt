use Rattle.std.proofs.Common.{◌≡◌, ◌∙◌, ap, codes, rules}
use Rattle.manifest.specs.Line.{meaning}
use Rattle.manifest.proofs.Spelled.{cycle_line, dump_line}
use Rattle.manifest.proofs.Timely.{answer_is_timely}
use Rattle.manifest.proofs.line.read_line.Goals as goal

pub returns-then-eq-clause-value : goal.returns-then-eq-clause-value
returns-then-eq-clause-value c =
    let same : c.args.line.now ≡ codes "{\"op\":\"cycle\"}" = search rules in
    ap meaning same ∙ cycle_line

pub returns-then-eq-2-clause-value : goal.returns-then-eq-2-clause-value
returns-then-eq-2-clause-value c =
    let same : c.args.line.now ≡ codes "{\"op\":\"dump\"}" = search rules in
    ap meaning same ∙ dump_line

pub returns-clause-timely : goal.returns-clause-timely
returns-clause-timely c = answer_is_timely _ _ c.read_object.ensures
