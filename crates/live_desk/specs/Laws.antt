-- What holds whatever is told and decided.
use Rattle.std.specs.Prelude.{◌≡◌, ℕ, true, Some}
use Rattle.std.specs.Option.{option_map}
use Rattle.std.specs.FinMap.{get}
use Rattle.quant.specs.declared.amount.Moment.{Moment}
use Rattle.quant.specs.declared.name.Name.{Name}
use Rattle.quant.specs.declared.objects.Pod.{Pod}
use Rattle.quant.specs.declared.version.Version.{Version}
use Rattle.queue.specs.Queue.{entry_of}
use Rattle.rules.specs.RuleSet.{RuleSet}
use Rattle.book.specs.declared.limits.Limits.{Limits}
use Rattle.desk.specs.declared.step.Step.TheVariants.{Tick}
use Rattle.ledger.specs.declared.event.Answer.{Answer}
use Rattle.ledger.specs.declared.event.Event.{Event}
use Rattle.live_desk.specs.declared.live_desk.Taken.{Taken}
use Rattle.live_desk.specs.declared.live_desk.Taken.TheVariants.{Answers}
use Rattle.live_desk.specs.declared.offered.Offered.{Offered}
use Rattle.live_desk.specs.declared.turn.Turn.{Turn}
use Rattle.live_desk.specs.SamePod.{is_same_pod}
use Rattle.live_desk.specs.State.{Live, opening, steps}
use Rattle.live_desk.specs.Telling.{IsPending, IsTaken, is_newest, put_aside}
use Rattle.live_desk.specs.Turns.{IsTurn}

-- each pod that the desk was offered is in its queue, waiting there or in flight, by the row by which
-- it was offered
abbrev pub AreQueued : Live → Type 0
AreQueued s = (uid : Name) (it : Offered) → get s.offered uid ≡ Some it → option_map (λ entry. entry.pod) (entry_of s.desk.queue uid) ≡ Some it.pod

-- Whatever is told and decided by these rules, none of them is lost.
pub record NoneIsLost (rules : RuleSet) : Type 0 where
  pub opening : (limits : Limits) (known : ℕ) → AreQueued (opening limits known)
  pub taken : (s s' : Live) (event : Event) (answer : Answer) → AreQueued s → IsTaken s event answer s' → AreQueued s'
  pub pending : (s s' : Live) (version : Version) (pod : Pod) (taken : Taken) → AreQueued s → IsPending s version pod taken s' → AreQueued s'
  pub aside : (s : Live) (uid : Name) → AreQueued s → AreQueued (put_aside s uid).state
  pub ticked : (s : Live) (now : Moment) → AreQueued s → AreQueued (steps s (Tick now))
  pub turned : (s s' : Live) (turn : Turn) → AreQueued s → IsTurn rules s turn s' → AreQueued s'
  -- And a pod that was told to wait, as the newest of it, is among them by a row that tells the same,
  -- unless it is answered that it is left out.
  pub offered : (s s' : Live) (version : Version) (pod : Pod) (answer : Answer) → IsPending s version pod (Answers answer) s' → is_newest version pod.request (get s'.ledger.pods pod.uid) ≡ true
      → (it : Offered) × (get s'.offered pod.uid ≡ Some it) × (is_same_pod it.pod pod ≡ true)
