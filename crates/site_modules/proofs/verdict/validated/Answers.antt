use Rattle.wmodule.specs.Syntax.{module_of}
use Rattle.site_modules.proofs.Verdicts.{untyped_told}
use Rattle.site_modules.proofs.verdict.validated.Goals as goal

pub returns-in-Err-clause-refused : goal.returns-in-Err-clause-refused
returns-in-Err-clause-refused c = λ bytes spells.
    untyped_told bytes (module_of c.args.decoded) c.in-Err.fault c.untyped.result spells c.in-Err.ensures.refused c.in-Err.ensures.whole c.untyped.ensures
