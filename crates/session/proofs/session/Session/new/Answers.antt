use Rattle.std.proofs.Common.{◌∙◌, ap}
use Rattle.desk.specs.Machine as machine
use Rattle.session.proofs.session.Session.new.Goals as goal

pub returns-in-Ok-clause-opening : goal.returns-in-Ok-clause-opening
returns-in-Ok-clause-opening g c = c.in-Ok.ensures.opening ∙ ap machine.opening c.requires.greatest
