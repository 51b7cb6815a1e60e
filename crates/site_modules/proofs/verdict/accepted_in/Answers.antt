use Rattle.site_modules.proofs.Verdicts.{undecoded_told}
use Rattle.site_modules.proofs.verdict.accepted_in.Goals as goal

pub returns-in-Err-clause-refused : goal.returns-in-Err-clause-refused
returns-in-Err-clause-refused c =
    undecoded_told c.args.bytes.now c.in-Err.fault c.undecoded.result c.in-Err.ensures.none c.undecoded.ensures
