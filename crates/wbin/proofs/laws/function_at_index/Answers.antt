use Rattle.wbin.proofs.Indices.{function_is}
use Rattle.wbin.proofs.laws.function_at_index.Goals as goal

pub returns : goal.returns
returns c = function_is
