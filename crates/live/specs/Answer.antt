-- How answers are spelled.
use Rattle.std.specs.Prelude.{ℕ, Bool, true, false, ◌&&◌, List, ◌++◌, codes, decimal, length, if◌then◌else◌}
use Rattle.quant.specs.declared.name.Name.{Name}
use Rattle.quant.specs.declared.objects.Pod.{Pod}
use Rattle.book.specs.Refusal.{number_of, name_of}
use Rattle.ledger.specs.declared.event.Answer.{Answer}
use Rattle.ledger.specs.declared.event.Answer.TheVariants.{Told, Old, Full, Granted, Shut, NotWaiting, Refused, Read}
use Rattle.ledger.specs.declared.event.Event.{Event}
use Rattle.ledger.specs.declared.event.Event.TheVariants.{Withheld}
use Rattle.desk.specs.declared.step.Reply.{Reply}
use Rattle.desk.specs.declared.step.Reply.TheVariants as replies
use Rattle.desk.specs.Shown.{Shown}
use Rattle.choose.specs.declared.decision.Verdict.{Verdict}
use Rattle.cycle.specs.declared.one_cycle.Cycled.TheVariants.{Assumed}
use Rattle.output_lines.specs.declared.named_rule.NamedRule.{NamedRule}
use Rattle.output_lines.specs.Replies.{reply_lines, snapshot_lines}
use Rattle.output_lines.specs.Telling.{verdict_lines}
use Rattle.output_lines.specs.Text.{cycle_line, judged_line}
use Rattle.live_desk.specs.declared.live_desk.Taken.{Taken}
use Rattle.live_desk.specs.declared.live_desk.Taken.TheVariants.{Answers, LeftOut}
use Rattle.live_desk.specs.declared.turn.Turn.{Turn}
use Rattle.live_desk.specs.declared.turn.Turn.TheVariants as turns
use Rattle.live_line.specs.declared.field.Field.{Field}
use Rattle.live_line.specs.Field.{key}

-- the word by which the ledger answers
unfoldable pub word : Answer → List ℕ
word Told = codes "told"
word Old = codes "old"
word Full = codes "full"
word (Granted ticket) = codes "granted " ++ decimal ticket.0
word Shut = codes "shut"
word NotWaiting = codes "not-waiting"
word (Refused why) = codes "refused " ++ decimal (number_of why) ++ codes " " ++ name_of why
word Read = codes "read"

-- and what is answered by it alone
unfoldable pub answer_text : Answer → List ℕ
answer_text answer = word answer ++ codes "\n"

-- a pod that isn't to be placed is answered by a word of its own, where it was taken
abbrev pub is_withheld : Event → Bool
is_withheld (Withheld version uid) = true
is_withheld _ = false

abbrev pub is_told : Answer → Bool
is_told Told = true
is_told _ = false

abbrev pub told_word : (is_withheld : Bool) → Answer → List ℕ
told_word is_withheld answer = if is_withheld && is_told answer then codes "withheld" else word answer

-- an event is answered by the word, and by what of its object isn't told
abbrev pub told_text : Event → Answer → (reasons : List ℕ) → List ℕ
told_text event answer reasons = told_word (is_withheld event) answer ++ reasons ++ codes "\n"

-- of what tells nothing
abbrev pub nothing_text : (reasons : List ℕ) → List ℕ
nothing_text reasons = codes "nothing" ++ reasons ++ codes "\n"

-- of an order with a fault in this field
unfoldable pub faulty_text : Field → List ℕ
faulty_text field = codes "faulty " ++ key field ++ codes "\n"

-- of a pod that waits
abbrev pub taken_word : Taken → List ℕ
taken_word (Answers answer) = word answer
taken_word LeftOut = codes "left-out"

abbrev pub taken_text : Taken → (reasons : List ℕ) → List ℕ
taken_text taken reasons = taken_word taken ++ reasons ++ codes "\n"

-- of one that is put aside
abbrev pub aside_text : (was_there : Bool) → List ℕ
aside_text true = answer_text Told
aside_text false = answer_text Old

-- of a moment
abbrev pub tick_text : Reply → List ℕ
tick_text (replies.Refused why) = answer_text (Refused why)
tick_text _ = answer_text Told

-- of a cycle: of a place that may be asked for with the ledger's ticket, and else as a script's
-- cycle, where the rules have these names
unfoldable pub turn_text : List NamedRule → Turn → List ℕ
turn_text named turns.Shut = answer_text Shut
turn_text named (turns.Granted uid node total ticket) = cycle_line named (Assumed uid node total ticket)
turn_text named (turns.Denied uid node answer) = codes "denied " ++ uid ++ codes " on " ++ node ++ codes " " ++ answer_text answer
turn_text named (turns.Without came) = cycle_line named came

-- of a pod to place: the verdict on each node that is shown, and how many these are
abbrev pub explained_text : List NamedRule → Pod → (uid : Name) → List Shown → List Verdict → List ℕ
explained_text named pod uid nodes verdicts = verdict_lines named pod nodes verdicts ++ judged_line uid (length verdicts)

-- of the desk: its nodes, and its numbers
abbrev pub dump_text : List Shown → Reply → List ℕ
dump_text nodes reply = snapshot_lines nodes ++ reply_lines reply
