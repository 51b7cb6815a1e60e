use Rattle.std.proofs.Common.{◌≡◌, ◌+◌, ◌/◌, replicate, arith, rules}
use Rattle.book.specs.declared.finishes.TheConstants.{NEVER}
use Rattle.book.proofs.Earliest.{all_alike}
use Rattle.book.proofs.finishes.Finishes.new.Goals as goal

-- each of them is the same
pub invariant_of-result : goal.invariant_of-result
invariant_of-result c =
    let room = c.args.room in
    let each : c.in-Ok.each.items ≡ replicate room NEVER = c.in-Ok.ensures.items_if_clones_equal (λ _ e. search rules) in
    let earliest : c.in-Ok-from_elem.earliest.items ≡ replicate (room / 64 + 1) NEVER = c.in-Ok-from_elem.ensures.items_if_clones_equal (λ _ e. search rules) in
    let first : c.in-Ok-from_elem-2.first.items ≡ replicate ((room / 64 + 1) / 64 + 1) NEVER = c.in-Ok-from_elem-2.ensures.items_if_clones_equal (λ _ e. search rules) in (
      all_alike _ _ room (room / 64 + 1) NEVER each earliest c.requires (omega arith),
      all_alike _ _ (room / 64 + 1) ((room / 64 + 1) / 64 + 1) NEVER earliest first (omega (arith, c.requires)) (omega arith),
    )
