use Rattle.std.proofs.Common.{arith, length}
use Rattle.serde_json.specs.View.{view}
use Rattle.manifest.proofs.Items.{items_out, too_few, too_many}
use Rattle.manifest.proofs.item.items.Goals.{then-len-least-via-then-len-least, then-len-least-via-else-len-least+then-most-len}
use Rattle.manifest.proofs.item.items.Goals as goal

pub returns-then-len-least-clause-value : goal.returns-then-len-least-clause-value
returns-then-len-least-clause-value c =
    let found = c.in-Some.found.now.items in
    items_out (view c.args.value.now) found _ _ _ c.in-Some.ensures (elim c.then-len-least.branch [
      | then-len-least-via-then-len-least w ↦ too_few _ _ (length found) (omega arith)
      | then-len-least-via-else-len-least+then-most-len w ↦ too_many _ _ (length found) (omega arith)
    ])
