-- What a step leaves for those who pop.
use Rattle.std.specs.Prelude.{◌≡◌, ℕ, None}
use Rattle.queue.specs.Queue.{next_of}
use Rattle.desk.specs.declared.step.Step.{Step}
use Rattle.desk.specs.declared.step.Reply.{Reply}
use Rattle.desk.specs.Machine.{State, reply, after}

-- where no pod could be popped before a step that was answered so, none can after it
abbrev pub WakesNone : Step → Reply → Type 0
WakesNone e answer = (s : State) (pass : ℕ) → answer ≡ reply s pass e → next_of s.queue ≡ None → next_of (after s pass e).queue ≡ None
