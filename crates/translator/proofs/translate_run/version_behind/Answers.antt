use Rattle.std.proofs.Common.{rules}
use Rattle.translator.proofs.Given.{version_of_none}
use Rattle.translator.proofs.translate_run.version_behind.Goals as goal

pub returns-then-is_empty-clause-next : goal.returns-then-is_empty-clause-next
returns-then-is_empty-clause-next c = λ given is. version_of_none c.args.version given c.args.translation.now (search rules) is
