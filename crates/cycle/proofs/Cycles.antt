-- Whose pass it is that makes a cycle, and what the only pass's cycle does to its desk.
use Rattle.std.proofs.Common.{◌≡◌, ℕ, ◌<◌, List, Option, Some, None, Result, Ok, Err, inl, inr, refl, sym, ap, subst}
use Rattle.quant.specs.declared.name.Name.{Name}
use Rattle.quant.specs.declared.objects.Pod.{Pod}
use Rattle.book.specs.declared.refusal.Refusal.{Refusal}
use Rattle.quant.specs.declared.version.Ticket.{Ticket}
use Rattle.queued.specs.declared.state.Failure.{Failure}
use Rattle.queued.specs.declared.state.Failure.TheVariants.{Unschedulable, Again}
use Rattle.desk.specs.declared.step.Step.{Step}
use Rattle.desk.specs.declared.step.Step.TheVariants.{Pop, Assume, Fail}
use Rattle.desk.specs.declared.step.Reply.{Reply}
use Rattle.desk.specs.declared.step.Reply.TheVariants as replies
use Rattle.desk.specs.Machine.{after, snapshot, first_pod, popped, given}
use Rattle.desk.specs.Shared.{Pass, Desk, IsPassOf, IsApplied, IsLooked}
use Rattle.desk.specs.Alone.{state_seen, AnswersAlone, LooksAlone}
use Rattle.desk.specs.Shown.{Shown}
use Rattle.rules.specs.RuleSet.{RuleSet}
use Rattle.choose.specs.declared.decision.Decision.{Decision}
use Rattle.choose.specs.declared.decision.Decision.TheVariants as decisions
use Rattle.choose.specs.declared.decision.Verdict.{Verdict}
use Rattle.choose.specs.Choice.{AreVerdicts, Choice}
use Rattle.cycle.specs.declared.one_cycle.Cycled.{Cycled}
use Rattle.cycle.specs.Cycle.{IsFailed, IsGivenUp, IsInVain, IsLeft, IsCutShort, AfterAssume, EndsWith, IsDecided, AreSeen}
use Rattle.cycle.specs.CycleAlone.{AfterAssumeAlone, EndsAlone, IsDecidedAlone}

-- ---- whose pass it is

-- a pass is of its desk after a step
pub member_applied : (desk : Desk) (p p' : Pass) (e : Step) (answer : Reply) → IsApplied desk p e answer p' → IsPassOf p desk → IsPassOf p' desk
member_applied desk p p' e answer applied member = subst (λ n. n < desk.handed) (sym (ap (λ c. c.number) applied.counted)) member

-- and after a look
pub member_looked : (desk : Desk) (p p' : Pass) (rows : List Shown) → IsLooked desk p rows p' → IsPassOf p desk → IsPassOf p' desk
member_looked desk p p' rows looked member = subst (λ n. n < desk.handed) (sym (ap (λ c. c.number) looked.same)) member

-- ---- a pod that was popped in vain

pub popped_in_vain : (desk : Desk) (p popped p' : Pass) (pod : Pod) (held : Option Name) → IsApplied desk p Pop (replies.Popped pod) popped → IsInVain desk popped pod.uid held p' → IsCutShort desk p held p'
popped_in_vain desk p popped p' pod held pops in_vain = inr (record { pod = pod; popped = popped; pops = pops; in_vain = in_vain })

-- a pod for which no place was asked
pub left_alone : (desk : Desk) (p p' : Pass) (uid : Name) (held : Option Name) → IsGivenUp desk p uid held p' → IsLeft desk p uid held p'
left_alone desk p p' uid held given_up = record { left = p; refused = inl refl; given_up = given_up }

-- answers that are the same give the same pod, or ticket
popped_same : (one other : Option Pod) → popped one ≡ popped other → one ≡ other
popped_same None None e = refl
popped_same None (Some pod) e = absurd (cc)
popped_same (Some pod) None e = absurd (cc)
popped_same (Some pod) (Some too) e = cc

pub given_same : (one other : Result Ticket Refusal) → given one ≡ given other → one ≡ other
given_same (Ok ticket) (Ok too) e = cc
given_same (Ok ticket) (Err why) e = absurd (cc)
given_same (Err why) (Ok ticket) e = absurd (cc)
given_same (Err why) (Err too) e = cc

-- ---- the only pass

module _ (desk : Desk) (one : desk.handed ≡ 1) (answers : AnswersAlone) (looks : LooksAlone) where
  fails_alone : (p p' : Pass) (uid : Name) (how : Failure) → IsPassOf p desk → IsFailed desk p uid how p' → state_seen desk p' ≡ after (state_seen desk p) 0 (Fail uid how)
  fails_alone p p' uid how member failed = (answers desk p p' (Fail uid how) failed.answer one member failed.applied).1

  after_assume_alone : (p p' : Pass) (uid node : Name) (total : ℕ) (answer : Result Ticket Refusal) (came : Cycled) → IsPassOf p desk → AfterAssume desk p uid node total answer came p' → AfterAssumeAlone (state_seen desk p) uid node total answer came (state_seen desk p')
  after_assume_alone p p' uid node total (Ok ticket) came member ends = (ends.0, ap (state_seen desk) ends.1)
  after_assume_alone p p' uid node total (Err why) came member ends = (ends.0, fails_alone p p' uid Again member ends.1)

  ends_alone : (p p' : Pass) (uid : Name) (decision : Decision) (came : Cycled) → IsPassOf p desk → EndsWith desk p uid decision came p' → EndsAlone (state_seen desk p) uid decision came (state_seen desk p')
  ends_alone p p' uid (decisions.Node node total) came member ends =
      let said = answers desk p ends.answered (Assume uid node) (given ends.answer) one member ends.applied in
      let there = member_applied desk p ends.answered (Assume uid node) (given ends.answer) ends.applied member in
      record {
        answer = ends.answer;
        is = sym said.0;
        ends = subst (λ s. AfterAssumeAlone s uid node total ends.answer came (state_seen desk p')) said.1 (after_assume_alone ends.answered p' uid node total ends.answer came there ends.ends);
      }
  ends_alone p p' uid (decisions.Unschedulable counts) came member ends = (ends.0, fails_alone p p' uid Unschedulable member ends.1)
  ends_alone p p' uid (decisions.PluginError place node cause) came member ends = (ends.0, fails_alone p p' uid Again member ends.1)

  -- a pod that the only pass pops is the one that goes first in the state that it has seen
  pub pops_alone : (p p' : Pass) (pod : Option Pod) → IsPassOf p desk → IsApplied desk p Pop (popped pod) p' → pod ≡ first_pod (state_seen desk p).queue
  pops_alone p p' pod member applied = popped_same pod (first_pod (state_seen desk p).queue) (answers desk p p' Pop (popped pod) one member applied).0

  -- what is decided of a pod by the only pass is told by the state that it has seen
  pub decided_alone : (rules : RuleSet) (p p' : Pass) (pod : Pod) (came : Cycled) → IsPassOf p desk → IsDecided rules desk p pod came p' → IsDecidedAlone rules (state_seen desk p) pod came (state_seen desk p')
  decided_alone rules p p' pod came member decided =
      let chosen = decided.chosen in
      let seen = looks desk p decided.looked chosen.rows one member chosen.looked in
      let there = member_looked desk p decided.looked chosen.rows chosen.looked member in
      record {
        decision = decided.decision;
        choice = subst (λ rows. Choice rules rows pod decided.decision) seen.0 chosen.choice;
        ends = subst (λ s. EndsAlone s pod.uid decided.decision came (state_seen desk p')) seen.1 (ends_alone decided.looked p' pod.uid decided.decision came there decided.ends);
      }

  -- and so are the verdicts by which it is decided
  pub verdicts_alone : (rules : RuleSet) (p : Pass) (pod : Pod) (verdicts : List Verdict) → IsPassOf p desk → AreSeen rules desk p pod verdicts
      → AreVerdicts rules pod (snapshot (state_seen desk p).cluster) verdicts
  verdicts_alone rules p pod verdicts member seen =
      subst (λ rows. AreVerdicts rules pod rows verdicts) (looks desk p seen.looked seen.rows one member seen.looks).0 seen.are
