use Rattle.wbin.proofs.Modules.{module_once}
use Rattle.wbin.proofs.laws.one_module.Goals as goal

pub returns : goal.returns
returns c = module_once
