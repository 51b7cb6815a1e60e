use Rattle.std.proofs.Common.{subst}
use Rattle.wmodule.specs.Placed.{Stands}
use Rattle.wmodule.specs.Syntax.{ModuleParts}
use Rattle.wtype.specs.CheckedModule.{NotesAgree}
use Rattle.wmach.proofs.machine.is_checked.Goals as goal

pub returns : goal.returns
returns c = record {
  accepted = c.module.ensures.accepted;
  agree = subst (λ l. NotesAgree c.args.checked.now.content l) c.notes.ensures.value c.notes.ensures.agree;
  placed = subst (λ (p : ModuleParts). Stands p.bytes p.tables) c.module.ensures.value (subst (λ t. Stands c.module.result.now.bytes t) c.tables.ensures.tables c.tables.ensures.stands);
}
