-- The lines of the output are whole lines: those of nodes are indented, and the others aren't.
use Rattle.std.proofs.Common.{◌≡◌, ℕ, ◌-◌, ◌==◌, ◌&&◌, Bool, true, false, List, [], ◌∷◌, ◌++◌, Option, Some, IsTrue, refl, ap, codes, decimal}
use Rattle.std.specs.List.{list_all}
use Rattle.quant.specs.Name.{is_name, is_text}
use Rattle.quant.specs.declared.name.Name.{Name}
use Rattle.quant.specs.declared.amount.Res.{Res}
use Rattle.quant.specs.declared.objects.Node.{Node}
use Rattle.quant.specs.declared.objects.Pod.{Pod}
use Rattle.quant.specs.declared.taint.Effect.{Effect}
use Rattle.quant.specs.declared.taint.Effect.TheVariants as effect
use Rattle.quant.specs.declared.taint.Taint.{Taint}
use Rattle.fit.specs.Score.{least_allocated_score}
use Rattle.taints.specs.TaintScore.{taint_score}
use Rattle.taints.specs.Tolerance.{first_untolerated}
use Rattle.book.specs.declared.refusal.Refusal.{Refusal}
use Rattle.book.specs.declared.refusal.Refusal.TheVariants as refusal
use Rattle.book.specs.Refusal as book
use Rattle.rules.specs.declared.verdict.Rejection.{Rejection}
use Rattle.rules.specs.declared.trap.Trap.{Trap}
use Rattle.rules.specs.declared.trap.Trap.TheVariants as traps
use Rattle.rules.specs.Trap as trap
use Rattle.rules.specs.declared.verdict.Cause.{Cause}
use Rattle.rules.specs.declared.verdict.Cause.TheVariants as cause
use Rattle.choose.specs.declared.decision.Counts.{Counts}
use Rattle.choose.specs.declared.decision.Reason.{Reason}
use Rattle.choose.specs.declared.decision.Reason.TheVariants as reason
use Rattle.choose.specs.declared.decision.Verdict.{Verdict}
use Rattle.choose.specs.declared.decision.Verdict.TheVariants as verdict
use Rattle.choose.specs.Choice.{total}
use Rattle.desk.specs.Shown.{Shown}
use Rattle.desk.specs.declared.step.Reply.{Reply}
use Rattle.desk.specs.declared.step.Reply.TheVariants as replies
use Rattle.streams.specs.Lines.{IsLine, line_of}
use Rattle.output_lines.specs.Indented.{is_indented, AreLines}
use Rattle.output_lines.specs.Text.{share_text, node_line, counts, ok_line, idle_line, refused_line, places_line, queue_line, clock_line, assumed_line, reasons_text, unschedulable_line, cause_text, error_line, lost_line, judged_line, name_at}
use Rattle.output_lines.specs.declared.named_rule.NamedRule.{NamedRule}
use Rattle.output_lines.specs.Telling.{want_text, effect_name, taint_text, reason_text, code_of, part_text, parts_text, sum_text, total_text, verdict_text, verdict_line}
use Rattle.output_lines.specs.Replies.{reply_lines}
use Rattle.output_lines.proofs.Indented.{IsLine-by, IsLine-both, IsLine-decimal, IsLine-signed, IsLine-name, IsLine-text, is_flush, name_is_flush, not_true, one_line, more_lines, stands_in_line}

-- ---- parts of lines

-- a part of a line has no newline, and where it stands in front it is flush
record Part (front : Bool) (text : List ℕ) : Type 0 where
  is : IsLine text
  flush : front ≡ true → is_flush text ≡ true

flush_more : (one other : List ℕ) → is_flush one ≡ true → is_flush (one ++ other) ≡ true
flush_more [] other e = absurd (cc)
flush_more (b ∷ one) other e = e

-- a part, and one behind it
infixl 64 ◌&◌
◌&◌ : {front behind : Bool} {one other : List ℕ} → Part front one → Part behind other → Part front (one ++ other)
◌&◌ {one = one} {other = other} a b = record { is = IsLine-both one other a.is b.is; flush = λ e. flush_more one other (a.flush e) }

-- words of ours
front : (text : List ℕ) → list_all stands_in_line text ≡ true → is_flush text ≡ true → Part true text
front text stands flush = record { is = IsLine-by text stands; flush = λ e. flush }

words : (text : List ℕ) → list_all stands_in_line text ≡ true → Part false text
words text stands = record { is = IsLine-by text stands; flush = λ e. absurd (cc) }

behind : {text : List ℕ} → IsLine text → Part false text
behind is = record { is = is; flush = λ e. absurd (cc) }

number : (n : ℕ) → Part false (decimal n)
number n = behind (IsLine-decimal n)

-- a name in front, and one that stands behind something
named : (name : List ℕ) → IsTrue (is_name name) → Part true name
named name is = record { is = IsLine-name name is; flush = λ e. name_is_flush name is }

name_behind : (name : List ℕ) → IsTrue (is_name name) → Part false name
name_behind name is = behind (IsLine-name name is)

-- ---- lines of them

flush_line : (text : List ℕ) → is_flush text ≡ true → is_indented text ≡ false
flush_line [] e = absurd (cc)
flush_line (b ∷ []) e = refl
flush_line (b ∷ c ∷ text) e = ap (λ t. t && (c == 32)) (not_true (b == 32) e)

line : {text : List ℕ} → Part true text → AreLines false (line_of text)
line {text = text} part = one_line false text part.is (flush_line text (part.flush refl))

-- ---- what stands in them

-- counts behind a label each
counted : {one : Bool} (first : List ℕ) (m : ℕ) (second : List ℕ) (n : ℕ) → Part one first → Part false second → Part one (counts first m second n)
unfolding counts
counted first m second n a b = a & number m & b & number n

share : (used whole : ℕ) → Part false (share_text used whole)
unfolding share_text
share used whole = number used & words (codes "/") refl & number whole

refusal_name : (why : Refusal) → Part false (book.name_of why)
refusal_name refusal.Old = words (codes "Old") refl
refusal_name refusal.Full = words (codes "Full") refl
refusal_name refusal.NotInFlight = words (codes "NotInFlight") refl
refusal_name refusal.Placed = words (codes "Placed") refl
refusal_name refusal.NoNode = words (codes "NoNode") refl
refusal_name refusal.NoRoom = words (codes "NoRoom") refl
refusal_name refusal.StaleTicket = words (codes "StaleTicket") refl
refusal_name refusal.Gone = words (codes "Gone") refl
refusal_name refusal.ClockBack = words (codes "ClockBack") refl
refusal_name refusal.Known = words (codes "Known") refl
refusal_name refusal.Confirmed = words (codes "Confirmed") refl

trap_name : (why : Trap) → Part false (trap.name_of why)
trap_name traps.Unreachable = words (codes "Unreachable") refl
trap_name traps.DivideByZero = words (codes "DivideByZero") refl
trap_name traps.IntegerOverflow = words (codes "IntegerOverflow") refl
trap_name traps.MemoryOutOfBounds = words (codes "MemoryOutOfBounds") refl
trap_name traps.UndefinedElement = words (codes "UndefinedElement") refl
trap_name traps.UninitializedElement = words (codes "UninitializedElement") refl
trap_name traps.SignatureMismatch = words (codes "SignatureMismatch") refl
trap_name traps.CallDepth = words (codes "CallDepth") refl
trap_name traps.HostOutOfBounds = words (codes "HostOutOfBounds") refl
trap_name traps.NoRecord = words (codes "NoRecord") refl

cause_of : (why : Cause) → Part false (cause_text why)
unfolding cause_text
cause_of (cause.Code code) = words (codes "code ") refl & behind (IsLine-signed code)
cause_of (cause.Score score) = words (codes "score ") refl & behind (IsLine-signed score)
cause_of (cause.Trap why) = words (codes "trap ") refl & number (trap.number_of why) & words (codes " ") refl & trap_name why
cause_of cause.Exhausted = words (codes "exhausted") refl

pairs : (first : List ℕ) (m : ℕ) (second : List ℕ) (n : ℕ) → list_all stands_in_line first ≡ true → list_all stands_in_line second ≡ true → Part false (counts first m second n)
pairs first m second n one other = counted first m second n (words first one) (words second other)

reasons : (n : Counts) → Part false (reasons_text n)
unfolding reasons_text
reasons n =
    pairs (codes " marked ") n.marked (codes " taint ") n.taint refl refl
    & pairs (codes " cpu ") n.cpu (codes " memory ") n.memory refl refl
    & pairs (codes " pods ") n.pods (codes " plugin ") n.plugin refl refl
    & words (codes " final ") refl
    & number n.plugin_final

-- ---- the lines that answer a step

ok_lines : AreLines false ok_line
ok_lines = line (front (codes "ok") refl refl)

refused_lines : (why : Refusal) → AreLines false (refused_line why)
unfolding refused_line
refused_lines why = line (front (codes "refused ") refl refl & number (book.number_of why) & words (codes " ") refl & refusal_name why)

places_lines : (bound assumed : ℕ) → AreLines false (places_line bound assumed)
places_lines bound assumed = line (counted (codes "places bound ") bound (codes " assumed ") assumed (front (codes "places bound ") refl refl) (words (codes " assumed ") refl))

queue_lines : (active backoff unschedulable inflight : ℕ) → AreLines false (queue_line active backoff unschedulable inflight)
queue_lines active backoff unschedulable inflight =
    line
    (counted (codes "queue active ") active (codes " backoff ") backoff (front (codes "queue active ") refl refl) (words (codes " backoff ") refl)
    & pairs (codes " unschedulable ") unschedulable (codes " inflight ") inflight refl refl)

clock_lines : (clock version : ℕ) → AreLines false (clock_line clock version)
clock_lines clock version = line (counted (codes "clock ") clock (codes " version ") version (front (codes "clock ") refl refl) (words (codes " version ") refl))

pub replied_lines : (reply : Reply) → AreLines false (reply_lines reply)
unfolding reply_lines
replied_lines (replies.Counts n) =
    more_lines false (places_line n.bound n.assumed ++ queue_line n.active n.backoff n.unschedulable n.in_flight) (clock_line n.clock.0 n.version.0)
    (more_lines false (places_line n.bound n.assumed) (queue_line n.active n.backoff n.unschedulable n.in_flight)
    (places_lines n.bound n.assumed) (queue_lines n.active n.backoff n.unschedulable n.in_flight))
    (clock_lines n.clock.0 n.version.0)
replied_lines (replies.Refused why) = refused_lines why
replied_lines _ = ok_lines

pub node_lines : (node : Node) (used : Res) → IsTrue (is_name node.name) → AreLines false (node_line node used)
unfolding node_line
node_lines node used name =
    line
    (front (codes "node ") refl refl
    & name_behind node.name name
    & words (codes " cpu ") refl
    & share used.cpu.0 node.allocatable.cpu.0
    & words (codes " mem ") refl
    & share used.mem.0 node.allocatable.mem.0
    & words (codes " pods ") refl
    & share used.pods node.allocatable.pods)

-- ---- the line of a cycle

pub idle_lines : AreLines false idle_line
idle_lines = line (front (codes "idle") refl refl)

pub assumed_lines : (uid node : Name) (total ticket : ℕ) → IsTrue (is_name uid) → IsTrue (is_name node) → AreLines false (assumed_line uid node total ticket)
unfolding assumed_line
assumed_lines uid node total ticket one other =
    line (named uid one & words (codes " on ") refl & name_behind node other & pairs (codes " total ") total (codes " ticket ") ticket refl refl)

pub unschedulable_lines : (uid : Name) (n : Counts) → IsTrue (is_name uid) → AreLines false (unschedulable_line uid n)
unschedulable_lines uid n one = line (named uid one & words (codes " unschedulable") refl & reasons n)

pub error_lines : (uid rule node : Name) (why : Cause) → IsTrue (is_name uid) → IsLine rule → IsTrue (is_name node) → AreLines false (error_line uid rule node why)
unfolding error_line
error_lines uid rule node why one stands other =
    line
    ((named uid one & words (codes " error plugin ") refl)
    & (behind {text = rule} stands & words (codes " node ") refl)
    & (name_behind node other & words (codes " ") refl)
    & cause_of why)

pub lost_lines : (uid : Name) (why : Refusal) → IsTrue (is_name uid) → AreLines false (lost_line uid why)
unfolding lost_line
lost_lines uid why one = line (named uid one & words (codes " lost ") refl & number (book.number_of why) & words (codes " ") refl & refusal_name why)

-- ---- the line that ends the answer to a question

pub judged_lines : (uid : Name) (nodes : ℕ) → IsTrue (is_name uid) → AreLines false (judged_line uid nodes)
unfolding judged_line
judged_lines uid nodes one = line (front (codes "judged ") refl refl & name_behind uid one & words (codes " ") refl & number nodes)

-- ---- the line of a node that is told

pub want_is_line : (label : List ℕ) (asked allocatable used : ℕ) → list_all stands_in_line label ≡ true → IsLine (label ++ want_text asked allocatable used)
unfolding want_text
want_is_line label asked allocatable used stands = (words label stands & (number asked & (words (codes " of ") refl & number (allocatable - used)))).is

effect_of : (e : Effect) → Part false (effect_name e)
effect_of effect.NoSchedule = words (codes "NoSchedule") refl
effect_of effect.PreferNoSchedule = words (codes "PreferNoSchedule") refl
effect_of effect.NoExecute = words (codes "NoExecute") refl

pub taint_is_line : (taint : Taint) → IsTrue (is_name taint.key) → IsTrue (is_text taint.value) → IsLine (taint_text (Some taint))
unfolding taint_text
taint_is_line taint key value =
    (words (codes " ") refl & name_behind taint.key key & (words (codes "=") refl & behind {text = taint.value} (IsLine-text taint.value value)) & (words (codes ":") refl & effect_of taint.effect)).is

-- the taint that a reason tells has no newline
abbrev pub TaintStands : Pod → Shown → Reason → Type 0
TaintStands pod shown reason.Taint = IsLine (taint_text (first_untolerated shown.node pod))
TaintStands pod shown _ = Unit {0}

pub reason_is_line : (pod : Pod) (shown : Shown) (why : Reason) → TaintStands pod shown why → IsLine (reason_text pod shown why)
unfolding reason_text
reason_is_line pod shown reason.Marked stands = IsLine-by (codes "marked") refl
reason_is_line pod shown reason.Taint stands = IsLine-both (codes "taint") _ (IsLine-by (codes "taint") refl) stands
reason_is_line pod shown reason.Cpu stands = want_is_line (codes "cpu ") _ _ _ refl
reason_is_line pod shown reason.Memory stands = want_is_line (codes "memory ") _ _ _ refl
reason_is_line pod shown reason.Pods stands = want_is_line (codes "pods ") _ _ _ refl
reason_is_line pod shown reason.Plugin stands = IsLine-by (codes "plugin") refl
reason_is_line pod shown reason.Final stands = IsLine-by (codes "final") refl

pub part_is_line : (rule : NamedRule) (score : ℕ) → IsTrue (is_name rule.name) → IsLine (part_text (rule, score))
unfolding part_text
part_is_line rule score name =
    (words (codes " ") refl & name_behind rule.name name & (words (codes " ") refl & number rule.weight) & (words (codes " ") refl & number score)).is

pub total_is_line : (named : List NamedRule) (most : ℕ) (pod : Pod) (shown : Shown) (count score : ℕ) (scores : List ℕ) → IsLine (parts_text named scores)
    → IsLine (total_text named most pod shown count score scores)
unfolding total_text
total_is_line named most pod shown count score scores parts =
    (words (codes "total ") refl & number (total most count score)
    & (words (codes " fit ") refl & number (least_allocated_score shown.node.allocatable shown.used pod.request))
    & (words (codes " taints ") refl & number (taint_score count most))
    & behind {text = parts_text named scores} parts).is

pub sum_is_line : (named : List NamedRule) (score : ℕ) (scores : List ℕ) → IsLine (parts_text named scores) → IsLine (sum_text named score scores)
unfolding sum_text
sum_is_line named score scores parts = (words (codes "total ") refl & number score & behind {text = parts_text named scores} parts).is

pub rejected_is_line : (named : List NamedRule) (most : Option ℕ) (place : ℕ) (pod : Pod) (shown : Shown) (how : Rejection) → IsLine (name_at named place)
    → IsLine (verdict_text named most pod shown (verdict.RejectedBy place how))
unfolding verdict_text
rejected_is_line named most place pod shown how stands =
    (words (codes "plugin ") refl & behind {text = name_at named place} stands & (words (codes " ") refl & number (code_of how))).is

pub errs_is_line : (named : List NamedRule) (most : Option ℕ) (place : ℕ) (pod : Pod) (shown : Shown) (why : Cause) → IsLine (name_at named place)
    → IsLine (verdict_text named most pod shown (verdict.Errs place why))
unfolding verdict_text
errs_is_line named most place pod shown why stands =
    (words (codes "error plugin ") refl & behind {text = name_at named place} stands & (words (codes " ") refl & cause_of why)).is

pub verdict_lines_of : (named : List NamedRule) (most : Option ℕ) (pod : Pod) (node : Shown) (v : Verdict) → IsTrue (is_name node.node.name) → IsLine (verdict_text named most pod node v)
    → AreLines true (verdict_line named most pod (node, v))
unfolding verdict_line
verdict_lines_of named most pod node v name stands =
    one_line true (codes "  " ++ node.node.name ++ (codes " " ++ verdict_text named most pod node v))
    (words (codes "  ") refl & name_behind node.node.name name & (words (codes " ") refl & behind {text = verdict_text named most pod node v} stands)).is
    refl
