-- What the evaluator's store is seen as.
use Rattle.wmach.specs.Configuration as machine
use Rattle.wplain.specs.declared.store.Store.{Store}

abbrev pub store_of : Store → machine.Store
store_of s = record { memory = s.memory.bytes; globals = s.globals.items; table = s.table.items }
