use Rattle.wplain.proofs.Reached.{Reached}
use Rattle.wplain.specs.Seen.{setting_of}
use Rattle.wplain.specs.Stores.{store_of}
use Rattle.wplain.proofs.evaluation.outcome_of.Given as goal

abbrev pub invariant-loop-i : goal.invariant-loop-i
invariant-loop-i l = Reached (setting_of l.setting) l.fuel (store_of l.fn.store) l.function (store_of l.store) l.running
