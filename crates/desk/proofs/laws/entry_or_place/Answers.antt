use Rattle.desk.proofs.Standing.{entry_or_place, goes_with_place}
use Rattle.desk.proofs.laws.entry_or_place.Goals as goal

pub returns-clause-once : goal.returns-clause-once
returns-clause-once c = entry_or_place

pub returns-clause-by_place : goal.returns-clause-by_place
returns-clause-by_place c = goes_with_place
