-- There is room for as many as there are slots.
use Rattle.std.proofs.Common.{◌≡◌, length, sym, ap, ◌∙◌, arith}
use Rattle.name_table.specs.Slots.{Slots, with_free}
use Rattle.name_table.proofs.FreeLemmas.{free_many}
use Rattle.name_table.proofs.entries.Entries.written.Goals as goal

pub returns : goal.returns
returns g c =
    let v = c.self.inside.written in
    let room = c.self.inside.room in
    let len = v.ok.0 in
    let within = c.self.invariant.0 in
    let many : length c.args.self.now ≡ room = ap (λ (z : Slots _). length z) (sym c.self.view_is) ∙ free_many v.items room (omega arith) in
    (λ t. with_free (c.deref.ensures.value t) (many t)) ∙ c.self.view_is
