use Rattle.std.proofs.Common.{set, refl, ap}
use Rattle.desk.specs.Shown.{shown}
use Rattle.desk.proofs.Worths.{class_still}
use Rattle.desk.proofs.class.Class.renew.Goals as goal

-- one node is judged again
pub returns-then-at-len : goal.returns-then-at-len
returns-then-at-len c =
    λ nodes lt same is. class_still nodes c.args.at (shown c.args.row.now) c.args.self.now _ lt same refl refl (ap (set c.args.self.now.worths.items c.args.at) c.worth.ensures) is
