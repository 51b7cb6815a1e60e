use Rattle.wbody.proofs.Found.{label_found}
use Rattle.wbody.proofs.scope.Scope.label.Goals as goal

pub returns-then-outwards-levels : goal.returns-then-outwards-levels
returns-then-outwards-levels c = label_found c.args.levels.now c.args.self.now.result c.args.label _ c.carried.result c.if-outwards-levels.true c.carried.ensures
