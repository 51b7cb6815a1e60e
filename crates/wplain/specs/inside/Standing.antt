-- What stands inside a label or a frame: what comes next there, and whether it has ended.
use Rattle.std.specs.Prelude.{◌≡◌, ℕ, List, Option, Some, None, ◌==◌, if◌then◌else◌}
use Rattle.wcode.specs.declared.value.Value.{Value}
use Rattle.wcode.specs.Syntax.{done}
use Rattle.wmach.specs.Configuration.{Execution, instructions, trap}
use Rattle.wmach.specs.Outcome.{IsEnd}
use Rattle.wplain.specs.declared.control.Comes.{Comes}
use Rattle.wplain.specs.declared.control.Comes.TheVariants as comes
use Rattle.wplain.specs.declared.control.Ended.{Ended}
use Rattle.wplain.specs.declared.control.Ended.TheVariants as ended

-- the values before a branch to the label so many labels outwards
abbrev pub branched : ℕ → List Value → Comes → Option (List Value)
branched depth values (comes.Branch l) = if l == depth then Some values else None
branched depth values comes.Return = None
branched depth values comes.Other = None

-- the values before a return
abbrev pub returned : List Value → Comes → Option (List Value)
returned values (comes.Branch l) = None
returned values comes.Return = Some values
returned values comes.Other = None

-- it has ended so, or not
abbrev pub EndedAs : Execution → Ended → Type 0
EndedAs e ended.No = IsEnd e → ⊥
EndedAs e (ended.Values vs) = e ≡ instructions vs.now done
EndedAs e (ended.Trap t) = e ≡ trap t
