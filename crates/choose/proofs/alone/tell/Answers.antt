use Rattle.std.proofs.Common.{◌≡◌, true, sym, rules}
use Rattle.desk.specs.Plain.{is_plain}
use Rattle.desk.specs.Shown.{shown}
use Rattle.choose.proofs.OnePass.{plain_count}
use Rattle.choose.proofs.alone.tell.Goals as goal

-- a plain node has no taint
pub returns-clause-told : goal.returns-clause-told
returns-clause-told c =
    let plain : is_plain c.args.row.now.node ≡ true = search rules in λ i.
    record { count = sym (plain_count c.args.pod.now (shown c.args.row.now) plain) i; worth = c.plain_total.ensures.total c.args.most i }
