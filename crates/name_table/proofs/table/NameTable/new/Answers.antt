-- All slots are free.
use Rattle.std.proofs.Common.{◌≡◌, ◌+◌, ◌-◌, ◌≤◌, replicate, sym, ap, subst, ◌∙◌, arith, rules}
use Rattle.name_table.specs.Slots.{Slots}
use Rattle.name_table.specs.inside.Buckets.{IsFiled}
use Rattle.name_table.proofs.TableLemmas.{filed_free}
use Rattle.name_table.proofs.table.NameTable.new.Goals as goal

pub invariant_of-result : goal.invariant_of-result
invariant_of-result g c =
    let b = c.next_power_of_two-buckets.result in
    let some : 1 ≤ b = search rules in
    let back : b - 1 + 1 ≡ b = omega arith in
    let chains = c.in-Ok.chains in
    subst (λ (z : Slots _). IsFiled c.args.keys (b - 1) chains z 0) (sym c.in-Ok-new.ensures)
    (filed_free c.args.keys (b - 1) chains c.args.room c.in-Ok.ensures.woven (c.in-Ok.ensures.heads ∙ (let e : b + 1 ≡ b - 1 + 2 = omega arith in e)) (c.in-Ok.ensures.homes ∙ ap (replicate c.args.room) (sym back)))
