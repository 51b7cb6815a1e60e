use Rattle.queue.proofs.Rows.{exchanged, inverse_exchanged}
use Rattle.queue.proofs.row.exchange.Goals as goal

-- each slot's place changes with it
pub returns-clause-inverse : goal.returns-clause-inverse
returns-clause-inverse c = inverse_exchanged c.args.slots.now c.args.places.now c.args.i c.args.j c.requires.inverse c.requires.first c.requires.second

pub returns-clause-swapped : goal.returns-clause-swapped
returns-clause-swapped c = exchanged c.args.slots.now c.args.i c.args.j c.requires.first c.requires.second
