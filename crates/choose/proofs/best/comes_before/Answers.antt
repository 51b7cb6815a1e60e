use Rattle.std.proofs.Common.{◌≡◌, map, rules}
use Rattle.desk.specs.Shown.{shown}
use Rattle.desk.specs.Order.{name_at}
use Rattle.choose.proofs.First.{shown_name}
use Rattle.choose.proofs.best.comes_before.Goals as goal

pub returns : goal.returns
returns c =
    let a : name_at (map shown c.args.rows.now) c.args.a ≡ c.index-rows-a.result.node.name = shown_name c.args.rows.now c.args.a c.index-rows-a.result c.requires.a c.index-rows-a.is in
    let b : name_at (map shown c.args.rows.now) c.args.b ≡ c.index-rows-b.result.node.name = shown_name c.args.rows.now c.args.b c.index-rows-b.result c.requires.b c.index-rows-b.is in
    rw (a, b) (search rules)
