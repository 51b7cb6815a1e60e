-- The lines of the output. Each ends with a newline, and numbers are decimal.
use Rattle.std.specs.Prelude.{ℕ, List, [], ◌++◌, map, codes, decimal, slice_index_or}
use Rattle.std.specs.Fmt.{signed_decimal}
use Rattle.quant.specs.declared.amount.Res.{Res}
use Rattle.quant.specs.declared.objects.Node.{Node}
use Rattle.book.specs.declared.refusal.Refusal.{Refusal}
use Rattle.book.specs.Refusal.{number_of, name_of}
use Rattle.rules.specs.Trap as trap
use Rattle.quant.specs.declared.name.Name.{Name}
use Rattle.rules.specs.declared.verdict.Cause.{Cause}
use Rattle.rules.specs.declared.verdict.Cause.TheVariants as cause
use Rattle.choose.specs.declared.decision.Counts.{Counts}
use Rattle.output_lines.specs.declared.named_rule.NamedRule.{NamedRule}
use Rattle.streams.specs.Lines.{line_of}
use Rattle.cycle.specs.declared.one_cycle.Cycled.{Cycled}
use Rattle.cycle.specs.declared.one_cycle.Cycled.TheVariants as cycled

-- an accepted step
abbrev pub ok_line : List ℕ
ok_line = line_of (codes "ok")

-- a refused step: the refusal's number and name
unfoldable pub refused_line : Refusal → List ℕ
refused_line why = line_of (codes "refused " ++ decimal (number_of why) ++ codes " " ++ name_of why)

-- what is used, of what there is
unfoldable pub share_text : ℕ → ℕ → List ℕ
share_text used whole = decimal used ++ codes "/" ++ decimal whole

-- a node: its cpu in thousandths of a core, its memory in bytes and its pods, each as used and
-- allocatable
unfoldable pub node_line : Node → Res → List ℕ
node_line node used =
    line_of
    (codes "node "
    ++ node.name
    ++ codes " cpu "
    ++ share_text used.cpu.0 node.allocatable.cpu.0
    ++ codes " mem "
    ++ share_text used.mem.0 node.allocatable.mem.0
    ++ codes " pods "
    ++ share_text used.pods node.allocatable.pods)

-- two counts, each behind its label
unfoldable pub counts : List ℕ → ℕ → List ℕ → ℕ → List ℕ
counts first m second n = first ++ decimal m ++ second ++ decimal n

-- how many places are bound and assumed
abbrev pub places_line : ℕ → ℕ → List ℕ
places_line bound assumed = line_of (counts (codes "places bound ") bound (codes " assumed ") assumed)

-- how many pods are queued, by where they stand
abbrev pub queue_line : ℕ → ℕ → ℕ → ℕ → List ℕ
queue_line active backoff unschedulable inflight =
    line_of (counts (codes "queue active ") active (codes " backoff ") backoff ++ counts (codes " unschedulable ") unschedulable (codes " inflight ") inflight)

-- the clock, and the version of the last accepted event
abbrev pub clock_line : ℕ → ℕ → List ℕ
clock_line clock version = line_of (counts (codes "clock ") clock (codes " version ") version)

-- ---- what a cycle came to

-- no pod waits
abbrev pub idle_line : List ℕ
idle_line = line_of (codes "idle")

-- a pod has its place, with the total of its node and the ticket
unfoldable pub assumed_line : Name → Name → ℕ → ℕ → List ℕ
assumed_line uid node total ticket = line_of (uid ++ codes " on " ++ node ++ counts (codes " total ") total (codes " ticket ") ticket)

-- how many nodes are rejected for which reason
unfoldable pub reasons_text : Counts → List ℕ
reasons_text n =
    counts (codes " marked ") n.marked (codes " taint ") n.taint
    ++ counts (codes " cpu ") n.cpu (codes " memory ") n.memory
    ++ counts (codes " pods ") n.pods (codes " plugin ") n.plugin
    ++ codes " final "
    ++ decimal n.plugin_final

-- every node is rejected
abbrev pub unschedulable_line : Name → Counts → List ℕ
unschedulable_line uid n = line_of ((uid ++ codes " unschedulable") ++ reasons_text n)

-- why a rule said nothing of a node
unfoldable pub cause_text : Cause → List ℕ
cause_text (cause.Code code) = codes "code " ++ signed_decimal code
cause_text (cause.Score score) = codes "score " ++ signed_decimal score
cause_text (cause.Trap why) = codes "trap " ++ decimal (trap.number_of why) ++ codes " " ++ trap.name_of why
cause_text cause.Exhausted = codes "exhausted"

-- the rule of this name said nothing of a node
unfoldable pub error_line : Name → Name → Name → Cause → List ℕ
error_line uid rule node why =
    line_of ((uid ++ codes " error plugin ") ++ (rule ++ codes " node ") ++ (node ++ codes " ") ++ cause_text why)

-- the chosen place was refused
unfoldable pub lost_line : Name → Refusal → List ℕ
lost_line uid why = line_of (uid ++ codes " lost " ++ decimal (number_of why) ++ codes " " ++ name_of why)

-- the rules said what they say of so many nodes, for a pod
unfoldable pub judged_line : Name → ℕ → List ℕ
judged_line uid nodes = line_of (codes "judged " ++ uid ++ codes " " ++ decimal nodes)

-- the name of the rule at a place
abbrev pub name_at : List NamedRule → (place : ℕ) → List ℕ
name_at named place = slice_index_or (map (λ rule. rule.name) named) place []

-- the line that tells what a cycle came to, where the rules have these names in their order
unfoldable pub cycle_line : List NamedRule → Cycled → List ℕ
cycle_line named cycled.Idle = idle_line
cycle_line named (cycled.Assumed uid node total ticket) = assumed_line uid node total ticket.0
cycle_line named (cycled.Unschedulable uid counts) = unschedulable_line uid counts
cycle_line named (cycled.Errs uid place node why) = error_line uid (name_at named place) node why
cycle_line named (cycled.Lost uid why) = lost_line uid why
