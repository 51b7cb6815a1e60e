-- What is known of a pod by each event.
use Rattle.std.proofs.Common.{◌≡◌, ◌⊎◌, inl, inr, ℕ, Bool, true, false, ◌||◌, Option, None, Some, is_some, refl, sym, ap, subst, ◌∙◌, arith}
use Rattle.std.specs.Prelude.{if◌then◌else◌, ◌==◌, nat_le}
use Rattle.std.specs.FinMap.{get, remove, contains_key}
use Rattle.std.proofs.lemmas.Bool.{cases_Bool}
use Rattle.std.proofs.lemmas.Bool.Decides.{nat_tests}
use Rattle.quant.specs.declared.amount.Request.{Request}
use Rattle.quant.specs.declared.event.Event.TheVariants.{NodeSet, NodeGone as RowGone, PodBound, PodGone as PodLeft}
use Rattle.quant.specs.declared.name.Name.{Name}
use Rattle.quant.specs.declared.objects.Node.{Node as Row}
use Rattle.quant.specs.declared.version.Ticket.{Ticket}
use Rattle.quant.specs.declared.version.Version.{Version}
use Rattle.book.specs.Step.{refusal, effect, next_ticket}
use Rattle.book.specs.Tables.{is_full_for}
use Rattle.book.specs.declared.refusal.Refusal.{Refusal}
use Rattle.book.specs.declared.step.ClusterStep.TheVariants.{Assume, Forget}
use Rattle.book.specs.declared.entry.Entry.TheVariants.{Held}
use Rattle.ledger.specs.declared.event.Answer.{Answer}
use Rattle.ledger.specs.declared.event.Answer.TheVariants as answers
use Rattle.ledger.specs.declared.event.Event.{Event}
use Rattle.ledger.specs.declared.event.Event.TheVariants as events
use Rattle.ledger.specs.declared.event.Kind.{Kind}
use Rattle.ledger.specs.declared.event.Kind.TheVariants as kinds
use Rattle.ledger.specs.declared.event.Outcome.{Outcome}
use Rattle.ledger.specs.declared.event.Said.{Said}
use Rattle.ledger.specs.declared.event.Said.TheVariants as said
use Rattle.ledger.specs.declared.known.Asking.TheVariants.{Sent, Created as IsCreated, InDoubt}
use Rattle.ledger.specs.declared.known.Heard.{Heard}
use Rattle.ledger.specs.declared.known.Known.{Known}
use Rattle.ledger.specs.declared.known.Seen.{Seen}
use Rattle.ledger.specs.declared.known.Stage.{Stage}
use Rattle.ledger.specs.declared.known.Stage.TheVariants.{Waits, Asked, Stands}
use Rattle.ledger.specs.Hearing.{heard, with_heard, is_last, list_begins, IsListEnd}
use Rattle.ledger.specs.Keeping.{IsEndOf, StandsBy, MovesBy, StaysKnown, IsKnown, IsKnownOnceTold, EachIsKept}
use Rattle.ledger.specs.State.{State, is_open}
use Rattle.ledger.specs.Telling.{Became, became, next_version, is_too_much, changed, named, with_pod, at_stage, fallen_short, stands_new, stands_of, waits_at, waits_of, withheld_at, withheld_of, without_pod, without_place, gone_at, gone_of, bind_at, bind_of, asking_after, answered_at, answered_of, read_in_doubt, read_at, read_of, with_node, node_new, node_of, node_gone}
use Rattle.ledger.specs.Told.{IsTold}
use Rattle.ledger.proofs.Included.{cases_name, put_here, put_away, out_away}

-- what holds in both cases of a test holds
by_test : (P : Became → Type 0) (b : Bool) (x y : Became) → (b ≡ true → P x) → (b ≡ false → P y) → P (if b then x else y)
by_test P true x y first second = first refl
by_test P false x y first second = second refl

by_flag : (P : State → Type 0) (b : Bool) (x y : State) → (b ≡ true → P x) → P y → P (if b then x else y)
by_flag P true x y first second = first refl
by_flag P false x y first second = second

same_ticket : (a b : Ticket) → (a.0 == b.0) ≡ true → a ≡ b
same_ticket a b e = ap (λ n. record { 0 = n }) (let e : a.0 ≡ b.0 = grind (arith, nat_tests, e) in e)

-- each stage stays by each event
stays_at : (event : Event) (uid : Name) (stage : Stage) → MovesBy event uid stage stage
stays_at event uid (Waits request) = tt
stays_at event uid (Asked request ticket asking) = refl
stays_at event uid Stands = tt

-- and leads to a node by one that says so
comes_to_stand : (event : Event) (uid : Name) (stage : Stage) → StandsBy event uid → MovesBy event uid stage Stands
comes_to_stand event uid (Waits request) by = by
comes_to_stand event uid (Asked request ticket asking) by = by
comes_to_stand event uid Stands by = tt

module _ (s : State) (uid : Name) (known : Known) (is : get s.pods uid ≡ Some known) where
  -- it is known, at a stage to which this event leads, or that is its end
  abbrev Stays : Event → State → Type 0
  Stays event s' = StaysKnown s event uid known s'

  -- of pods nothing else is known
  same : (event : Event) (s' : State) → s'.pods ≡ s.pods → Stays event s'
  same event s' pods = inl (known, (ap (λ m. get m uid) pods ∙ is), stays_at event uid known.stage)

  -- what was known of a pod of this uid
  it_is : (other : Name) (k : Known) → get s.pods other ≡ Some k → other ≡ uid → k ≡ known
  it_is other k there here = let both : Some k ≡ Some known = sym there ∙ ap (get s.pods) here ∙ is in cc

  -- something else is known of a pod
  put : (event : Event) (s1 : State) (other : Name) (k : Known) → s1.pods ≡ s.pods → (other ≡ uid → MovesBy event uid known.stage k.stage) → Stays event (with_pod s1 other k)
  put event s1 other k pods moves = elim (cases_name uid other) [
    | inl here ↦ inl (k, (ap (get (with_pod s1 other k).pods) here ∙ put_here s1.pods other k), moves (sym here))
    | inr away ↦ inl (known, (put_away s1.pods other k uid away.1 ∙ ap (λ m. get m uid) pods ∙ is), stays_at event uid known.stage)
  ]

  -- the same, where this was known of it
  put_at : (event : Event) (s1 : State) (other : Name) (before k : Known) (stage : Stage) → s1.pods ≡ s.pods → get s.pods other ≡ Some before → before.stage ≡ stage → (other ≡ uid → MovesBy event uid stage k.stage) → Stays event (with_pod s1 other k)
  put_at event s1 other before k stage pods there at moves =
      put event s1 other k pods (λ here. subst (λ x. MovesBy event uid x k.stage) (sym at ∙ ap (λ k. k.stage) (it_is other before there here)) (moves here))

  -- nothing is known of a pod any more
  out : (event : Event) (s1 : State) (other : Name) → s1.pods ≡ s.pods → (other ≡ uid → IsEndOf s event uid known) → Stays event (without_pod s1 other)
  out event s1 other pods ends = elim (cases_name uid other) [
    | inl here ↦ inr (ends (sym here))
    | inr away ↦ inl (known, (out_away s1.pods other uid away.1 ∙ ap (λ m. get m uid) pods ∙ is), stays_at event uid known.stage)
  ]

  -- ---- a pod has a node

  stood : (event : Event) (list : ℕ) (version : Version) (other node : Name) (request : Request) → (other ≡ uid → StandsBy event uid) → Stays event (stands_new s list version other node request).state
  stood event list version other node request by =
      by_test (λ b. Stays event b.state) (is_full_for s.pods s.room other || is_too_much s.cluster (PodBound (next_version s.cluster) other node request)) _ _
      (λ _. same event (fallen_short s) refl)
      (λ _. put event (record s { cluster = changed s.cluster (PodBound (next_version s.cluster) other node request) }) other (at_stage list version Stands) refl (λ here. comes_to_stand event uid known.stage (by here)))

  stood_of : (version : Version) (other node : Name) (request : Request) (o : Option Known) → get s.pods other ≡ o → Stays (events.Stands version other node request) (stands_of s version other node request o).state
  stood_of version other node request None there = stood (events.Stands version other node request) s.of_pods.lists version other node request (λ here. here)
  stood_of version other node request (Some before) there =
      by_test (λ b. Stays (events.Stands version other node request) b.state) (nat_le version.0 before.version.0) _ _
      (λ _. put_at (events.Stands version other node request) s other before (named s before) before.stage refl there refl (λ here. stays_at (events.Stands version other node request) uid before.stage))
      (λ _. stood (events.Stands version other node request) s.of_pods.lists version other node request (λ here. here))

  -- ---- a pod has none

  waited_at : (version : Version) (other : Name) (request : Request) (before : Known) (stage : Stage) → get s.pods other ≡ Some before → before.stage ≡ stage → Stays (events.Waits version other request) (waits_at s version other request stage).state
  waited_at version other request before (Waits asks) there at = put_at (events.Waits version other request) s other before (at_stage s.of_pods.lists version (Waits request)) (Waits asks) refl there at (λ here. tt)
  waited_at version other request before (Asked asks ticket asking) there at = put_at (events.Waits version other request) s other before (at_stage s.of_pods.lists version (Asked asks ticket asking)) (Asked asks ticket asking) refl there at (λ here. refl)
  waited_at version other request before Stands there at = put_at (events.Waits version other request) s other before (at_stage s.of_pods.lists version Stands) Stands refl there at (λ here. tt)

  waited_of : (version : Version) (other : Name) (request : Request) (o : Option Known) → get s.pods other ≡ o → Stays (events.Waits version other request) (waits_of s version other request o).state
  waited_of version other request None there =
      by_test (λ b. Stays (events.Waits version other request) b.state) (is_full_for s.pods s.room other) _ _
      (λ _. same (events.Waits version other request) s refl)
      (λ _. put (events.Waits version other request) s other (at_stage s.of_pods.lists version (Waits request)) refl (λ here. absurd (let both : Some known ≡ None = sym is ∙ ap (get s.pods) (sym here) ∙ there in cc)))
  waited_of version other request (Some before) there =
      by_test (λ b. Stays (events.Waits version other request) b.state) (nat_le version.0 before.version.0) _ _
      (λ _. put_at (events.Waits version other request) s other before (named s before) before.stage refl there refl (λ here. stays_at (events.Waits version other request) uid before.stage))
      (λ _. waited_at version other request before before.stage there refl)

  -- ---- a pod isn't to be bound

  held_at : (version : Version) (other : Name) (before : Known) (stage : Stage) → get s.pods other ≡ Some before → before.stage ≡ stage → Stays (events.Withheld version other) (withheld_at s version other stage).state
  held_at version other before (Waits asks) there at = out (events.Withheld version other) s other refl (λ here. (here, asks, (ap (λ k. k.stage) (sym (it_is other before there here)) ∙ at)))
  held_at version other before (Asked asks ticket asking) there at = put_at (events.Withheld version other) s other before (record (at_stage s.of_pods.lists version (Asked asks ticket asking)) { withheld = true }) (Asked asks ticket asking) refl there at (λ here. refl)
  held_at version other before Stands there at = put_at (events.Withheld version other) s other before (at_stage s.of_pods.lists version Stands) Stands refl there at (λ here. tt)

  held_of : (version : Version) (other : Name) (o : Option Known) → get s.pods other ≡ o → Stays (events.Withheld version other) (withheld_of s version other o).state
  held_of version other None there = same (events.Withheld version other) s refl
  held_of version other (Some before) there =
      by_test (λ b. Stays (events.Withheld version other) b.state) (nat_le version.0 before.version.0) _ _
      (λ _. put_at (events.Withheld version other) s other before (named s before) before.stage refl there refl (λ here. stays_at (events.Withheld version other) uid before.stage))
      (λ _. held_at version other before before.stage there refl)

  -- ---- a pod is gone

  placeless : (event : Event) (other : Name) → (other ≡ uid → IsEndOf s event uid known) → Stays event (without_place s other).state
  placeless event other ends =
      by_test (λ b. Stays event b.state) (is_too_much s.cluster (PodLeft (next_version s.cluster) other)) _ _
      (λ _. same event s refl)
      (λ _. out event (record s { cluster = changed s.cluster (PodLeft (next_version s.cluster) other) }) other refl ends)

  went_at : (event : Event) (other : Name) (stage : Stage) → (other ≡ uid → IsEndOf s event uid known) → Stays event (gone_at s other stage).state
  went_at event other (Waits asks) ends = out event s other refl ends
  went_at event other (Asked asks ticket asking) ends = placeless event other ends
  went_at event other Stands ends = placeless event other ends

  went : (event : Event) (other : Name) (o : Option Known) → (other ≡ uid → IsEndOf s event uid known) → Stays event (gone_of s other o).state
  went event other None ends = same event s refl
  went event other (Some before) ends = went_at event other before.stage ends

  -- ---- binds

  -- what the book's answer makes of a bind
  abbrev after_bind : (other node : Name) → Known → Request → Option Refusal → Became
  after_bind other node before request o = elim o [
    | None ↦ became (answers.Granted (next_ticket s.cluster)) (with_pod (record s { cluster = effect s.cluster (Assume other node (Held request)) }) other (record before { stage = Asked request (next_ticket s.cluster) Sent }))
    | Some why ↦ became (answers.Refused why) s
  ]

  asked_for : (other node : Name) (before : Known) (request : Request) (o : Option Refusal) → get s.pods other ≡ Some before → before.stage ≡ Waits request → Stays (events.Bind other node) (after_bind other node before request o).state
  asked_for other node before request None there at =
      put_at (events.Bind other node) (record s { cluster = effect s.cluster (Assume other node (Held request)) }) other before (record before { stage = Asked request (next_ticket s.cluster) Sent }) (Waits request) refl there at (λ here. (node, ap (λ u. events.Bind u node) here))
  asked_for other node before request (Some why) there at = same (events.Bind other node) s refl

  asked_at : (other node : Name) (before : Known) (stage : Stage) → get s.pods other ≡ Some before → before.stage ≡ stage → Stays (events.Bind other node) (bind_at s other node before stage).state
  asked_at other node before (Waits request) there at = asked_for other node before request (refusal s.cluster (Assume other node (Held request))) there at
  asked_at other node before (Asked request ticket asking) there at = same (events.Bind other node) s refl
  asked_at other node before Stands there at = same (events.Bind other node) s refl

  asked_of : (other node : Name) (o : Option Known) → get s.pods other ≡ o → Stays (events.Bind other node) (bind_of s other node o).state
  asked_of other node None there = same (events.Bind other node) s refl
  asked_of other node (Some before) there = asked_at other node before before.stage there refl

  answer_at : (other : Name) (ticket : Ticket) (outcome : Outcome) (before : Known) (stage : Stage) → get s.pods other ≡ Some before → before.stage ≡ stage → Stays (events.Answered other ticket outcome) (answered_at s other ticket outcome before stage).state
  answer_at other ticket outcome before (Waits request) there at = same (events.Answered other ticket outcome) s refl
  answer_at other ticket outcome before (Asked request given asking) there at =
      by_test (λ b. Stays (events.Answered other ticket outcome) b.state) (given.0 == ticket.0) _ _
      (λ _. put_at (events.Answered other ticket outcome) s other before (record before { stage = Asked request given (asking_after asking outcome) }) (Asked request given asking) refl there at (λ here. refl))
      (λ _. same (events.Answered other ticket outcome) s refl)
  answer_at other ticket outcome before Stands there at = same (events.Answered other ticket outcome) s refl

  answer_of : (other : Name) (ticket : Ticket) (outcome : Outcome) (o : Option Known) → get s.pods other ≡ o → Stays (events.Answered other ticket outcome) (answered_of s other ticket outcome o).state
  answer_of other ticket outcome None there = same (events.Answered other ticket outcome) s refl
  answer_of other ticket outcome (Some before) there = answer_at other ticket outcome before before.stage there refl

  -- ---- reads

  in_doubt : (other : Name) (ticket given : Ticket) (what : Said) (before : Known) (request : Request) → given ≡ ticket → get s.pods other ≡ Some before → before.stage ≡ Asked request given InDoubt → Stays (events.Read other ticket what) (read_in_doubt s other ticket before request what).state
  in_doubt other ticket given said.Waits before request same_one there at =
      by_test (λ b. Stays (events.Read other ticket said.Waits) b.state) (is_some (refusal s.cluster (Forget other ticket false))) _ _
      (λ _. same (events.Read other ticket said.Waits) s refl)
      (λ _. by_flag (Stays (events.Read other ticket said.Waits)) before.withheld _ _
      (λ withheld. out (events.Read other ticket said.Waits) (record s { cluster = effect s.cluster (Forget other ticket false) }) other refl (λ here. (here, (ap (λ k. k.withheld) (sym (it_is other before there here)) ∙ withheld))))
      (put_at (events.Read other ticket said.Waits) (record s { cluster = effect s.cluster (Forget other ticket false) }) other before (record before { stage = Waits request }) (Asked request given InDoubt) refl there at (λ here. ap (λ u. events.Read u ticket said.Waits) here ∙ ap (λ t. events.Read uid t said.Waits) (sym same_one))))
  in_doubt other ticket given (said.Stands version node takes) before request same_one there at =
      by_test (λ b. Stays (events.Read other ticket (said.Stands version node takes)) b.state) (nat_le version.0 before.version.0) _ _
      (λ _. same (events.Read other ticket (said.Stands version node takes)) s refl)
      (λ _. stood (events.Read other ticket (said.Stands version node takes)) before.list version other node takes (λ here. here))
  in_doubt other ticket given said.Gone before request same_one there at = went (events.Read other ticket said.Gone) other (get s.pods other) (λ here. here)

  reading_at : (other : Name) (ticket : Ticket) (what : Said) (before : Known) (stage : Stage) → get s.pods other ≡ Some before → before.stage ≡ stage → Stays (events.Read other ticket what) (read_at s other ticket what before stage).state
  reading_at other ticket what before (Waits request) there at = same (events.Read other ticket what) s refl
  reading_at other ticket what before (Asked request given Sent) there at = same (events.Read other ticket what) s refl
  reading_at other ticket what before (Asked request given IsCreated) there at = same (events.Read other ticket what) s refl
  reading_at other ticket what before (Asked request given InDoubt) there at =
      by_test (λ b. Stays (events.Read other ticket what) b.state) (given.0 == ticket.0) _ _
      (λ one. in_doubt other ticket given what before request (same_ticket given ticket one) there at)
      (λ _. same (events.Read other ticket what) s refl)
  reading_at other ticket what before Stands there at = same (events.Read other ticket what) s refl

  reading_of : (other : Name) (ticket : Ticket) (what : Said) (o : Option Known) → get s.pods other ≡ o → Stays (events.Read other ticket what) (read_of s other ticket what o).state
  reading_of other ticket what None there = same (events.Read other ticket what) s refl
  reading_of other ticket what (Some before) there = reading_at other ticket what before before.stage there refl

  -- ---- nodes, lists and watches

  node_put : (version : Version) (node : Row) → Stays (events.Node version node) (node_new s version node).state
  node_put version node =
      by_test (λ b. Stays (events.Node version node) b.state) (is_full_for s.nodes s.cluster.limits.nodes node.name || is_too_much s.cluster (NodeSet (next_version s.cluster) node)) _ _
      (λ _. same (events.Node version node) s refl)
      (λ _. same (events.Node version node) (with_node (record s { cluster = changed s.cluster (NodeSet (next_version s.cluster) node) }) node.name (record { version = version; list = s.of_nodes.lists })) refl)

  node_at : (version : Version) (node : Row) (o : Option Seen) → Stays (events.Node version node) (node_of s version node o).state
  node_at version node None = node_put version node
  node_at version node (Some seen) =
      by_test (λ b. Stays (events.Node version node) b.state) (nat_le version.0 seen.version.0) _ _
      (λ _. same (events.Node version node) (with_node s node.name (record seen { list = s.of_nodes.lists })) refl)
      (λ _. node_put version node)

  node_left : (name : Name) → Stays (events.NodeGone name) (node_gone s name).state
  node_left name =
      by_test (λ b. Stays (events.NodeGone name) b.state) (contains_key s.nodes name) _ _
      (λ _. by_test (λ b. Stays (events.NodeGone name) b.state) (is_too_much s.cluster (RowGone (next_version s.cluster) name)) _ _
      (λ _. same (events.NodeGone name) s refl)
      (λ _. same (events.NodeGone name) (record s { cluster = changed s.cluster (RowGone (next_version s.cluster) name); nodes = remove s.nodes name }) refl))
      (λ _. same (events.NodeGone name) s refl)

  of_kind : (event : Event) (kind : Kind) (h : Heard) → Stays event (with_heard s kind h)
  of_kind event kinds.Nodes h = same event (with_heard s kinds.Nodes h) refl
  of_kind event kinds.Pods h = same event (with_heard s kinds.Pods h) refl

  begun : (kind : Kind) → Stays (events.ListBegins kind) (list_begins s kind).state
  begun kind =
      by_test (λ b. Stays (events.ListBegins kind) b.state) (is_last (heard s kind)) _ _
      (λ _. same (events.ListBegins kind) s refl)
      (λ _. of_kind (events.ListBegins kind) kind _)

  ended : (kind : Kind) (answer : Answer) (s' : State) → IsListEnd kind s answer s' → Stays (events.ListEnds kind) s'
  ended kinds.Nodes answers.Told s' end = same (events.ListEnds kinds.Nodes) s' end.ended.pods
  ended kinds.Pods answers.Told s' end = elim (cases_Bool (known.list == s.of_pods.lists)) [
    | inl named ↦ inl (known, (end.ended.swept.known uid ∙ grind (arith, is, named)), stays_at (events.ListEnds kinds.Pods) uid known.stage)
    | inr unnamed ↦ inr (λ e. absurd (grind (arith, nat_tests, e, unnamed)))
  ]
  ended kind answers.Old s' end = same (events.ListEnds kind) s' (ap (λ s. s.pods) end.same)
  ended kind answers.Full s' end = same (events.ListEnds kind) s' (ap (λ s. s.pods) end.same)
  ended kind (answers.Granted ticket) s' end = absurd (end)
  ended kind answers.Shut s' end = absurd (end)
  ended kind answers.NotWaiting s' end = absurd (end)
  ended kind (answers.Refused why) s' end = absurd (end)
  ended kind answers.Read s' end = absurd (end)

  -- what was told to be so
  so : (event : Event) (answer : Answer) (s' : State) (b : Became) → became answer s' ≡ b → Stays event b.state → Stays event s'
  so event answer s' b told stays = subst (Stays event) (ap (λ b. b.state) (sym told)) stays

  pub stays_known : (s' : State) (event : Event) (answer : Answer) → IsTold s event answer s' → Stays event s'
  stays_known s' (events.ListBegins kind) answer told = so (events.ListBegins kind) answer s' _ told (begun kind)
  stays_known s' (events.ListEnds kind) answer told = ended kind answer s' told
  stays_known s' (events.Deaf kind) answer told = so (events.Deaf kind) answer s' _ told (of_kind (events.Deaf kind) kind _)
  stays_known s' (events.Hears kind) answer told = so (events.Hears kind) answer s' _ told (of_kind (events.Hears kind) kind _)
  stays_known s' (events.Node version node) answer told = so (events.Node version node) answer s' _ told (node_at version node (get s.nodes node.name))
  stays_known s' (events.NodeGone name) answer told = so (events.NodeGone name) answer s' _ told (node_left name)
  stays_known s' (events.Waits version other request) answer told = so (events.Waits version other request) answer s' _ told (waited_of version other request (get s.pods other) refl)
  stays_known s' (events.Withheld version other) answer told = so (events.Withheld version other) answer s' _ told (held_of version other (get s.pods other) refl)
  stays_known s' (events.Stands version other node request) answer told = so (events.Stands version other node request) answer s' _ told (stood_of version other node request (get s.pods other) refl)
  stays_known s' events.Unread answer told = so events.Unread answer s' _ told (same events.Unread (fallen_short s) refl)
  stays_known s' (events.Gone other) answer told = so (events.Gone other) answer s' _ told (went (events.Gone other) other (get s.pods other) (λ here. here))
  stays_known s' events.Rested answer told = so events.Rested answer s' _ told (same events.Rested (record s { rested = true }) refl)
  stays_known s' (events.Bind other node) answer told = so (events.Bind other node) answer s' _ told
      (by_test (λ b. Stays (events.Bind other node) b.state) (is_open s) _ _
      (λ _. asked_of other node (get s.pods other) refl)
      (λ _. same (events.Bind other node) s refl))
  stays_known s' (events.Answered other ticket outcome) answer told = so (events.Answered other ticket outcome) answer s' _ told (answer_of other ticket outcome (get s.pods other) refl)
  stays_known s' (events.Read other ticket what) answer told = so (events.Read other ticket what) answer s' _ told (reading_of other ticket what (get s.pods other) refl)

-- ---- what is told is known

module _ (s : State) (uid : Name) where
  put_is_known : (s1 : State) (k : Known) → IsKnown (with_pod s1 uid k) uid
  put_is_known s1 k = (k, put_here s1.pods uid k)

  abbrev WaitsKnown : Became → Type 0
  WaitsKnown b = (b.answer ≡ answers.Full) ⊎ IsKnown b.state uid

  abbrev StandsKnown : Became → Type 0
  StandsKnown b = ((b.answer ≡ answers.Full) × (b.state.left_out.any ≡ true)) ⊎ IsKnown b.state uid

  waiting_at : (version : Version) (request : Request) (stage : Stage) → WaitsKnown (waits_at s version uid request stage)
  waiting_at version request (Waits before) = inr (put_is_known s _)
  waiting_at version request (Asked before ticket asking) = inr (put_is_known s _)
  waiting_at version request Stands = inr (put_is_known s _)

  waiting_of : (version : Version) (request : Request) (o : Option Known) → WaitsKnown (waits_of s version uid request o)
  waiting_of version request None = by_test WaitsKnown (is_full_for s.pods s.room uid) _ _ (λ _. inl refl) (λ _. inr (put_is_known s _))
  waiting_of version request (Some before) = by_test WaitsKnown (nat_le version.0 before.version.0) _ _ (λ _. inr (put_is_known s _)) (λ _. waiting_at version request before.stage)

  standing : (list : ℕ) (version : Version) (node : Name) (request : Request) → StandsKnown (stands_new s list version uid node request)
  standing list version node request =
      by_test StandsKnown (is_full_for s.pods s.room uid || is_too_much s.cluster (PodBound (next_version s.cluster) uid node request)) _ _
      (λ _. inl (refl, refl))
      (λ _. inr (put_is_known (record s { cluster = changed s.cluster (PodBound (next_version s.cluster) uid node request) }) _))

  standing_of : (version : Version) (node : Name) (request : Request) (o : Option Known) → StandsKnown (stands_of s version uid node request o)
  standing_of version node request None = standing s.of_pods.lists version node request
  standing_of version node request (Some before) = by_test StandsKnown (nat_le version.0 before.version.0) _ _ (λ _. inr (put_is_known s _)) (λ _. standing s.of_pods.lists version node request)

known_once_told : (s s' : State) (event : Event) (answer : Answer) → IsTold s event answer s' → IsKnownOnceTold event answer s'
known_once_told s s' (events.ListBegins kind) answer told = tt
known_once_told s s' (events.ListEnds kind) answer told = tt
known_once_told s s' (events.Deaf kind) answer told = tt
known_once_told s s' (events.Hears kind) answer told = tt
known_once_told s s' (events.Node version node) answer told = tt
known_once_told s s' (events.NodeGone name) answer told = tt
known_once_told s s' (events.Waits version uid request) answer told = subst (WaitsKnown s uid) (sym told) (waiting_of s uid version request (get s.pods uid))
known_once_told s s' (events.Withheld version uid) answer told = tt
known_once_told s s' (events.Stands version uid node request) answer told = subst (StandsKnown s uid) (sym told) (standing_of s uid version node request (get s.pods uid))
known_once_told s s' events.Unread answer told = tt
known_once_told s s' (events.Gone uid) answer told = tt
known_once_told s s' events.Rested answer told = tt
known_once_told s s' (events.Bind uid node) answer told = tt
known_once_told s s' (events.Answered uid ticket outcome) answer told = tt
known_once_told s s' (events.Read uid ticket what) answer told = tt

pub keeps_each : EachIsKept
keeps_each s s' event answer told = record {
  stays = λ uid known is. stays_known s uid known is s' event answer told;
  told = known_once_told s s' event answer told;
}
