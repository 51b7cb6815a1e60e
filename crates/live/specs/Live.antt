-- What is answered to the lines that tell of a cluster.
use Rattle.std.specs.Prelude.{◌≡◌, ◌≢◌, ◌⊎◌, ◌<◌, ℕ, List, [], ◌∷◌, ◌++◌, Option, None, Some, IfSome}
use Rattle.std.specs.Io.KnownBytes.{Appends}
use Rattle.streams.specs.Greatest.{limits}
use Rattle.streams.specs.Device.{DeviceUse}
use Rattle.streams.specs.Lines.{lines_of}
use Rattle.streams.specs.declared.fault.RunFault.TheVariants as run_fault
use Rattle.fault_line.specs.declared.fault.Fault.{Fault}
use Rattle.fault_line.specs.declared.fault.Fault.TheVariants.{Run}
use Rattle.fault_line.specs.Message.{Tells, message_of}
use Rattle.objects.specs.Site.{Site}
use Rattle.quant.specs.declared.name.Name.{Name}
use Rattle.quant.specs.declared.objects.Pod.{Pod}
use Rattle.rules.specs.RuleSet.{RuleSet}
use Rattle.choose.specs.Choice.{AreVerdicts}
use Rattle.choose.specs.declared.decision.Verdict.{Verdict}
use Rattle.desk.specs.Machine as machine
use Rattle.desk.specs.Machine.{snapshot}
use Rattle.desk.specs.declared.step.Step.TheVariants as steps_of
use Rattle.output_lines.specs.declared.named_rule.NamedRule.{NamedRule}
use Rattle.ledger.specs.declared.event.Answer.{Answer}
use Rattle.ledger.specs.declared.event.Answer.TheVariants.{NotWaiting}
use Rattle.live_desk.specs.State.{Live, opening, steps, to_place}
use Rattle.live_desk.specs.Telling.{IsPending, IsTaken, put_aside}
use Rattle.live_desk.specs.Turns.{IsTurn}
use Rattle.live_desk.specs.declared.live_desk.Taken.{Taken}
use Rattle.live_desk.specs.declared.turn.Turn.{Turn}
use Rattle.live.specs.declared.live_run.TheConstants.{MAX_KNOWN}
use Rattle.live_line.specs.declared.meaning.Meaning.{Meaning}
use Rattle.live_line.specs.declared.meaning.Meaning.TheVariants as means
use Rattle.live.specs.Answer.{answer_text, aside_text, dump_text, explained_text, faulty_text, nothing_text, taken_text, told_text, tick_text, turn_text}
use Rattle.live_line.specs.Meaning.{meaning, reasons}

-- what answers go by: what of an object is read, and the rules, with their names as they are told
pub record Manner : Type 1 where
  pub site : Site
  pub rules : RuleSet
  pub named : List NamedRule

abbrev pub manner : Site → RuleSet → List NamedRule → Manner
manner site rules named = record { site = site; rules = rules; named = named }

-- ---- answers

-- what is answered of the nodes: of a pod to place the verdict on each, as the desk knows it now, by
-- which it would be decided of the pod now; any other pod doesn't wait
abbrev pub IsExplained : RuleSet → List NamedRule → Live → (uid : Name) → Option Pod → (text : List ℕ) → Type 0
IsExplained rules named s uid None text = text ≡ answer_text NotWaiting
IsExplained rules named s uid (Some pod) text =
    (verdicts : List Verdict) × AreVerdicts rules pod (snapshot s.desk.cluster) verdicts
    × (text ≡ explained_text named pod uid (snapshot s.desk.cluster) verdicts)

-- what is answered to a line of this meaning, where this stands behind the word that answers an
-- object, and what is known behind it
abbrev pub IsAnswered : Manner → Meaning → (reasons : List ℕ) → Live → (text : List ℕ) → Live → Type 0
IsAnswered m (means.Tells event) reasons s text after = (answer : Answer) × IsTaken s event answer after × (text ≡ told_text event answer reasons)
IsAnswered m (means.Pending version pod) reasons s text after = (taken : Taken) × IsPending s version pod taken after × (text ≡ taken_text taken reasons)
IsAnswered m (means.Aside uid) reasons s text after = (text ≡ aside_text (put_aside s uid).was_there) × (after ≡ (put_aside s uid).state)
IsAnswered m (means.Tick now) reasons s text after = (text ≡ tick_text (machine.reply s.desk 0 (steps_of.Tick now))) × (after ≡ steps s (steps_of.Tick now))
IsAnswered m means.Cycle reasons s text after = (turn : Turn) × IsTurn m.rules s turn after × (text ≡ turn_text m.named turn)
IsAnswered m (means.Explain uid) reasons s text after = IsExplained m.rules m.named s uid (to_place s uid) text × (after ≡ s)
IsAnswered m means.Dump reasons s text after =
    (text ≡ dump_text (snapshot s.desk.cluster) (machine.reply s.desk 0 steps_of.Count)) × (after ≡ steps s steps_of.Count)
IsAnswered m means.Nothing reasons s text after = (text ≡ nothing_text reasons) × (after ≡ s)
IsAnswered m (means.Faulty field) reasons s text after = (text ≡ faulty_text field) × (after ≡ s)

-- each line has its answer, and that is known behind them
abbrev pub AreAnswered : Manner → Live → (lines texts : List (List ℕ)) → Live → Type 0
AreAnswered m s [] [] after = s ≡ after
AreAnswered m s (line ∷ lines) (text ∷ texts) after =
    (next : Live) × IsAnswered m (meaning m.site line) (reasons m.site line) s text next × AreAnswered m next lines texts after
AreAnswered m s _ _ after = ⊥

-- texts, one behind the other
abbrev pub together : List (List ℕ) → List ℕ
together [] = []
together (text ∷ texts) = text ++ together texts

-- ---- what is written of them

-- a desk and a ledger to which nothing was told, with room for the greatest cluster
abbrev pub first_state : Live
first_state = opening limits MAX_KNOWN

-- these are the answers to all lines of the input
pub record IsWhole (m : Manner) (input answers : List ℕ) : Type 0 where
  pub texts : List (List ℕ)
  pub state : Live
  pub are : AreAnswered m first_state (lines_of input) texts state
  pub answers_are : answers ≡ together texts

-- this is a beginning of the answers to the first lines, which may be all
pub record IsBegun (m : Manner) (input answers : List ℕ) : Type 0 where
  pub lines : List (List ℕ)
  pub later : List (List ℕ)
  pub cut : lines_of input ≡ lines ++ later
  pub texts : List (List ℕ)
  pub state : Live
  pub are : AreAnswered m first_state lines texts state
  pub rest : List ℕ
  pub begin : together texts ≡ answers ++ rest

-- a fault is told, or a beginning of its line where a write fails meanwhile
abbrev pub TellsFault : DeviceUse → Fault → Type 0
TellsFault err fault = Tells err.old err.new err.failures_old err.failures_new (message_of fault)

-- the lines of a source were answered, with this status
pub record IsLive (m : Manner) (source out err : DeviceUse) (ended : ℕ) : Type 0 where
  pub status : (ended ≡ 0) ⊎ ((ended ≡ 3) ⊎ (ended ≡ 4))
  -- these are the bytes that are written
  pub answers : List ℕ
  pub writes : Appends out.old out.new answers
  -- each line is answered, no fault is told, and everything is read
  pub done : ended ≡ 0 → err.IsUntouched × IfSome source.old (λ input. IsWhole m input answers × (source.new ≡ Some []))
  -- memory was wanting, or the desk's place, and that is told
  pub room : ended ≡ 3 → TellsFault err (Run run_fault.NoMemory) ⊎ TellsFault err (Run run_fault.NoPlace)
  -- a read or a write failed, and that is told
  pub failed : ended ≡ 4 → TellsFault err (Run run_fault.Read) × (source.failures_old < source.failures_new)
      ⊎ (TellsFault err (Run run_fault.Write) × (out.failures_old < out.failures_new))
  -- whatever it ends with, no line is answered otherwise, or before one in front of it
  pub front : IfSome source.old (λ input. IsBegun m input answers)
  -- and each failure is told: at any other status no read and no write has failed
  pub failures_told : ended ≢ 4 → (source.failures_new ≡ source.failures_old) × (out.failures_new ≡ out.failures_old)
