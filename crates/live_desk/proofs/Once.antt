-- What is told has one answer and leaves one state, and so has a cycle.
use Rattle.std.proofs.Common.{◌≡◌, ◌∙◌, ℕ, Bool, true, false, sym, subst, ap}
use Rattle.std.specs.FinMap.{get}
use Rattle.quant.specs.declared.name.Name.{Name}
use Rattle.quant.specs.declared.objects.Pod.{Pod}
use Rattle.quant.specs.declared.version.Ticket.{Ticket}
use Rattle.quant.specs.declared.version.Version.{Version}
use Rattle.rules.specs.RuleSet.{RuleSet, SayOneThing}
use Rattle.cycle.specs.declared.one_cycle.Cycled.{Cycled}
use Rattle.cycle.specs.declared.one_cycle.Cycled.TheVariants.{Idle, Assumed, Unschedulable, Errs, Lost}
use Rattle.cycle.proofs.OneCycle.{Own, one_cycle}
use Rattle.ledger.specs.declared.event.Answer.{Answer}
use Rattle.ledger.specs.declared.event.Event.{Event}
use Rattle.ledger.specs.declared.event.Event.TheVariants.{Bind, Waits}
use Rattle.ledger.specs.State.{is_open}
use Rattle.ledger.proofs.OneAnswer.{one_answer}
use Rattle.live_desk.specs.declared.live_desk.Taken.{Taken}
use Rattle.live_desk.specs.declared.turn.Turn.{Turn}
use Rattle.live_desk.specs.State.{Live}
use Rattle.live_desk.specs.Telling.{IsPending, IsTaken, is_newest, names_of, offered_if, takes, told_if, with_ledger}
use Rattle.live_desk.specs.Turns.{IsAsked, IsDecided, IsTurn, IsTurnIf, Leads, asked_by, with_desk}

pub one_taken : (s one other : Live) (event : Event) (answer also : Answer) → IsTaken s event answer one → IsTaken s event also other → (answer ≡ also) × (one ≡ other)
one_taken s one other event answer also a b =
    let both = one_answer s.ledger one.ledger other.ledger event answer also a.0 b.0 in
    (both.0, a.1 ∙ ((λ i. told_if (takes (both.0 i)) (with_ledger s (both.1 i)) event (names_of s.ledger event)) ∙ sym b.1))

pub one_pending : (s one other : Live) (version : Version) (pod : Pod) (taken also : Taken) → IsPending s version pod taken one → IsPending s version pod also other → (taken ≡ also) × (one ≡ other)
one_pending s one other version pod taken also a b =
    let both = one_answer s.ledger a.known b.known (Waits version pod.uid pod.request) a.answer b.answer a.tells b.tells in
    let same = a.is ∙ ((λ i. offered_if (is_newest version pod.request (get (both.1 i).pods pod.uid)) (both.0 i) (with_ledger s (both.1 i)) pod) ∙ sym b.is) in
    (ap (λ p. p.taken) same, ap (λ p. p.state) same)

one_asked : (s one other : Live) (uid node : Name) (total : ℕ) (ticket : Ticket) (turn also : Turn) → IsAsked s uid node total ticket turn one → IsAsked s uid node total ticket also other → (turn ≡ also) × (one ≡ other)
one_asked s one other uid node total ticket turn also a b =
    let both = one_answer s.ledger a.known b.known (Bind uid node) a.answer b.answer a.tells b.tells in
    let same = a.is ∙ ((λ i. asked_by (both.0 i) (with_ledger s (both.1 i)) uid node total ticket) ∙ sym b.is) in
    (ap (λ p. p.turn) same, ap (λ p. p.state) same)

one_lead : (s one other : Live) (came : Cycled) (turn also : Turn) → Leads s came turn one → Leads s came also other → (turn ≡ also) × (one ≡ other)
one_lead s one other (Assumed uid node total ticket) turn also a b = one_asked s one other uid node total ticket turn also a b
one_lead s one other Idle turn also a b = (a.0 ∙ sym b.0, a.1 ∙ sym b.1)
one_lead s one other (Unschedulable uid counts) turn also a b = (a.0 ∙ sym b.0, a.1 ∙ sym b.1)
one_lead s one other (Errs uid place node cause) turn also a b = (a.0 ∙ sym b.0, a.1 ∙ sym b.1)
one_lead s one other (Lost uid why) turn also a b = (a.0 ∙ sym b.0, a.1 ∙ sym b.1)

one_decided : (rules : RuleSet) (s one other : Live) (turn also : Turn) → SayOneThing rules → Own s.desk → IsDecided rules s turn one → IsDecided rules s also other → (turn ≡ also) × (one ≡ other)
one_decided rules s one other turn also once own a b =
    let same = one_cycle rules s.desk a.desk b.desk a.came b.came once own a.cycled b.cycled in
    let told : Leads (with_desk s b.desk) a.came turn one = subst (λ d. Leads (with_desk s d) a.came turn one) same.0 a.leads in
    one_lead (with_desk s b.desk) one other b.came turn also (subst (λ c. Leads (with_desk s b.desk) c turn one) same.1 told) b.leads

one_turn_if : (may : Bool) (rules : RuleSet) (s one other : Live) (turn also : Turn) → SayOneThing rules → Own s.desk → IsTurnIf may rules s turn one → IsTurnIf may rules s also other → (turn ≡ also) × (one ≡ other)
one_turn_if true rules s one other turn also once own a b = one_decided rules s one other turn also once own a b
one_turn_if false rules s one other turn also once own a b = (a.0 ∙ sym b.0, a.1 ∙ sym b.1)

pub one_turn : (rules : RuleSet) (s one other : Live) (turn also : Turn) → SayOneThing rules → Own s.desk → IsTurn rules s turn one → IsTurn rules s also other → (turn ≡ also) × (one ≡ other)
one_turn rules s one other turn also once own a b = one_turn_if (is_open s.ledger) rules s one other turn also once own a b
