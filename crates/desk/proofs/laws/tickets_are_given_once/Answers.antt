use Rattle.desk.proofs.Tickets.{tickets_once, tickets_in_order}
use Rattle.desk.proofs.laws.tickets_are_given_once.Goals as goal

pub returns-clause-once : goal.returns-clause-once
returns-clause-once c = tickets_once

pub returns-clause-in_order : goal.returns-clause-in_order
returns-clause-in_order c = tickets_in_order
