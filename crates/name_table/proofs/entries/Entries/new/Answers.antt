use Rattle.std.proofs.Common.{◌≡◌, ◌-◌, None, replicate, ap, ◌∙◌, arith}
use Rattle.name_table.specs.Slots.{Slots, with_free}
use Rattle.name_table.proofs.entries.Entries.new.Goals as goal

-- none is written
pub returns : goal.returns
returns g c =
    let all : c.args.room - 0 ≡ c.args.room = omega arith in
    ap (λ (z : Slots _). with_free z c.args.room) c.in-Ok.ensures.items ∙ ap (λ n. replicate n None) all
