use Rattle.std.proofs.Common.{◌≡◌, ◌∙◌, ℕ, zero, suc, [], None, length, replicate, refl, ap}
use Rattle.std.proofs.lemmas.List.{length-replicate}
use Rattle.std.specs.FinMap as fin
use Rattle.name_table.specs.Slots.{filled, map_of}
use Rattle.live_desk.proofs.live_desk.LiveDesk.new.Goals as goal

-- a table of free slots is as long, and has no name
free : (X : Type 0) (n : ℕ) → filled {X = X} (replicate n None) ≡ []
free X zero = refl
free X (suc n) = free X n

pub returns-in-Ok-tables-clause-opening : goal.returns-in-Ok-tables-clause-opening
returns-in-Ok-tables-clause-opening g c = λ i. record {
  ledger = c.in-Ok-tables.ensures.ledger i;
  desk = c.in-Ok.ensures.opening i;
  offered = (ap map_of c.in-Ok-tables.ensures.offered ∙ ap fin.from_entries (free _ c.args.limits.queued)) i;
  room = (ap length c.in-Ok-tables.ensures.offered ∙ length-replicate c.args.limits.queued None) i;
  told = 0;
}
