use Rattle.std.proofs.Common.{◌≡◌, ◌<◌, ◌≤◌, ◌-◌, length, arith, ap}
use Rattle.std.proofs.lemmas.List.{get_or_read, length-take-le}
use Rattle.queue.specs.inside.Row.{SlotRow, at}
use Rattle.queue.proofs.Rows.{last_once, popped_front}
use Rattle.queue.proofs.row.Row.pop.Goals as goal

pub returns-clause-gone : goal.returns-clause-gone
returns-clause-gone c =
    let row = c.self.inside in
    let within : row.len ≤ length row.slots.items = omega (arith, c.self.invariant.within, row.slots.ok.0) in
    let some : 0 < row.len = omega (arith, c.requires, ap (λ (r : SlotRow). length r.slots) c.self.view_is, length-take-le row.len row.slots.items within) in
    let read : c.index.result.now ≡ at row.slots.items (row.len - 1) = get_or_read row.slots.items (row.len - 1) c.index.result.now (omega arith) c.index.ensures 0 in
    last_once row.slots.items row.places.items row.len c.index.result.now c.self.invariant.inverse some within read

pub returns-clause-popped : goal.returns-clause-popped
returns-clause-popped c =
    let row = c.self.inside in
    let within : row.len ≤ length row.slots.items = omega (arith, c.self.invariant.within, row.slots.ok.0) in
    let some : 0 < row.len = omega (arith, c.requires, ap (λ (r : SlotRow). length r.slots) c.self.view_is, length-take-le row.len row.slots.items within) in
    let read : c.index.result.now ≡ at row.slots.items (row.len - 1) = get_or_read row.slots.items (row.len - 1) c.index.result.now (omega arith) c.index.ensures 0 in
    popped_front c.args.self.now.slots row.slots.items row.len c.index.result.now (ap (λ (r : SlotRow). r.slots) c.self.view_is) some within read
