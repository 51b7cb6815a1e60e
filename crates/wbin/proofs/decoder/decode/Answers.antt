use Rattle.std.proofs.Common.{sym, subst}
use Rattle.std.proofs.lemmas.Result.{err_from_is_err_and}
use Rattle.wmodule.specs.Placed.{Stands}
use Rattle.wbin.proofs.Modules.{module_is}
use Rattle.wbin.proofs.decoder.decode.Goals as goal

pub returns-in_err-tables-clause-none : goal.returns-in_err-tables-clause-none
returns-in_err-tables-clause-none c =
    let p = err_from_is_err_and c.from_residual.result c.from_residual.ensures.1 in rw (p.1, p.2) c.in_err-tables.ensures.none

pub new-requires : goal.new-requires
new-requires c = subst (λ b. Stands b c.in_ok-tables.tables) (sym c.in-Ok.ensures.items) c.in_ok-tables.ensures.tables

pub returns-clause-module : goal.returns-clause-module
returns-clause-module c =
    module_is c.args.bytes.now c.in-Ok.copy.items c.in_ok-tables.tables c.new.result c.in-Ok.ensures.items c.new.ensures.value c.new.ensures.tables c.in_ok-tables.ensures.tables
