-- What is answered to the lines of a script, by the machine of a desk that has one pass.
use Rattle.std.specs.Prelude.{◌≡◌, ℕ, true, false, List, [], ◌∷◌, ◌++◌, Option, Some, None}
use Rattle.desk.specs.declared.step.Step.{Step}
use Rattle.desk.specs.declared.step.Step.TheVariants as steps
use Rattle.desk.specs.Machine as machine
use Rattle.manifest.specs.declared.command.Command.{Command}
use Rattle.manifest.specs.declared.command.Question.{Question}
use Rattle.manifest.specs.declared.command.Command.TheVariants as commands
use Rattle.rules.specs.RuleSet.{RuleSet}
use Rattle.streams.specs.Greatest.{limits}
use Rattle.cycle.specs.declared.one_cycle.Cycled.{Cycled}
use Rattle.cycle.specs.CycleAlone.{IsCycleAlone}
use Rattle.output_lines.specs.Indented.{AreLines}
use Rattle.output_lines.specs.Replies.{reply_lines, snapshot_lines}
use Rattle.output_lines.specs.Telling.{Telling, TellsNodes, Judges}
use Rattle.output_lines.specs.Text.{cycle_line}

-- the state in which steps are done
abbrev pub State : Type 0
State = machine.State

-- the state before the first line
abbrev pub opening : State
opening = machine.opening limits

-- the step that a command asks for; a dump is a look, and then this step. A cycle is more than a
-- step, and a question is none
abbrev pub step_of : Command → Option Step
step_of (commands.Event event) = Some (steps.Event event)
step_of (commands.Tick now) = Some (steps.Tick now)
step_of commands.Cycle = None
step_of (commands.BindDone uid ticket) = Some (steps.BindDone uid ticket)
step_of (commands.Forget uid ticket) = Some (steps.Forget uid ticket)
step_of commands.Dump = Some steps.Count
step_of (commands.Judge question) = None

-- what a command asks of the rules alone
abbrev pub asked_of : Command → Option Question
asked_of (commands.Judge question) = Some question
asked_of _ = None

-- the state after a step, which is by pass 0; a look changes nothing
unfoldable pub after : State → Step → State
after state step = machine.after state 0 step

-- what is shown besides: where the desk's numbers are asked for, the nodes
abbrev pub look_lines : State → Step → List ℕ
look_lines state steps.Count = snapshot_lines (machine.snapshot state.cluster)
look_lines state _ = []

-- the answer to a step: what is shown, and the lines that answer it
unfoldable pub text_of : State → Step → List ℕ
text_of state step = look_lines state step ++ reply_lines (machine.reply state 0 step)

-- This step is done and answered; or, where there is none, what is asked of the rules, and nothing
-- changes; or, where nothing is, a cycle, with what is told of the nodes, and with what it came to.
-- What is told of nodes is whole lines that begin with two spaces, and the rest is whole lines of
-- which none does.
abbrev pub AnsweredBy : RuleSet → (telling : Telling) → State → Option Step → Option Question → State → List ℕ → Type 0
AnsweredBy rules telling s (Some step) asking s' text = (s' ≡ after s step) × (text ≡ text_of s step) × AreLines false text
AnsweredBy rules telling s None (Some question) s' text = (s' ≡ s) × Judges rules telling.named s question text
AnsweredBy rules telling s None None s' text =
    (came : Cycled) × IsCycleAlone rules s came s'
    × ((told : List ℕ) × TellsNodes rules telling.named telling.explains s told × AreLines true told × AreLines false (cycle_line telling.named came)
    × (text ≡ told ++ cycle_line telling.named came))

-- what a command asks for is done and answered
abbrev pub Answered : RuleSet → (telling : Telling) → State → Command → State → List ℕ → Type 0
Answered rules telling s command s' text = AnsweredBy rules telling s (step_of command) (asked_of command) s' text

-- this is done and answered, and then what is asked later
abbrev pub AllAnswered : RuleSet → (telling : Telling) → State → List Command → State → List ℕ → Type 0
AllAnswered rules telling s [] s' text = (s' ≡ s) × (text ≡ [])
AllAnswered rules telling s (first ∷ later) s' text =
    (between : State) × (answer rest : List ℕ) × Answered rules telling s first between answer × AllAnswered rules telling between later s' rest × (text ≡ answer ++ rest)
