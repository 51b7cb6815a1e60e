-- Each pod counts as it is known, and grants are right.
use Rattle.std.proofs.Common.{◌≡◌, inl, inr, ℕ, Bool, true, false, not, ◌||◌, List, [], ◌∷◌, Option, None, Some, is_some, refl, sym, ap, subst, ◌∙◌}
use Rattle.std.specs.Prelude.{if◌then◌else◌, ◌==◌, nat_le}
use Rattle.std.specs.FinMap.{get, insert, remove, contains_key, get-empty}
use Rattle.quant.specs.declared.amount.Request.{Request}
use Rattle.quant.specs.declared.event.Event.TheVariants.{NodeSet, NodeGone as RowGone, PodBound, PodGone as PodLeft}
use Rattle.quant.specs.declared.name.Name.{Name}
use Rattle.quant.specs.declared.objects.Node.{Node as Row}
use Rattle.quant.specs.declared.version.Ticket.{Ticket}
use Rattle.quant.specs.declared.version.Version.{Version}
use Rattle.book.specs.Cluster.{name_cmp}
use Rattle.book.specs.Step.{refusal, effect, next_ticket}
use Rattle.book.specs.Tables.{is_full_for}
use Rattle.book.specs.declared.limits.Limits.{Limits}
use Rattle.book.specs.declared.place.Place.{Place}
use Rattle.book.specs.declared.place.Status.TheVariants.{Assumed, Bound}
use Rattle.book.specs.declared.refusal.Refusal.{Refusal}
use Rattle.book.specs.declared.step.ClusterStep.TheVariants.{Assume, Forget}
use Rattle.book.specs.declared.entry.Entry.TheVariants.{Held}
use Rattle.book.proofs.SumLemmas.{get_removed}
use Rattle.ledger.specs.declared.event.Answer.{Answer}
use Rattle.ledger.specs.declared.event.Answer.TheVariants.{Told, Old, Full, Granted, Shut, NotWaiting, Refused, Read as ToRead}
use Rattle.ledger.specs.declared.event.Event.{Event}
use Rattle.ledger.specs.declared.event.Event.TheVariants.{ListBegins, ListEnds, Deaf, Hears, Node, NodeGone, Waits as PodWaits, Withheld, Stands as PodStands, Unread, Gone as PodGone, Rested, Bind, Answered, Read}
use Rattle.ledger.specs.declared.event.Kind.{Kind}
use Rattle.ledger.specs.declared.event.Kind.TheVariants.{Nodes, Pods}
use Rattle.ledger.specs.declared.event.Outcome.{Outcome}
use Rattle.ledger.specs.declared.event.Said.{Said}
use Rattle.ledger.specs.declared.event.Said.TheVariants.{Waits as SaidWaits, Stands as SaidStands, Gone as SaidGone}
use Rattle.ledger.specs.declared.known.Asking.TheVariants.{Sent, Created as IsCreated, InDoubt}
use Rattle.ledger.specs.declared.known.Known.{Known}
use Rattle.ledger.specs.declared.known.Seen.{Seen}
use Rattle.ledger.specs.declared.known.Stage.{Stage}
use Rattle.ledger.specs.declared.known.Stage.TheVariants.{Waits, Asked, Stands}
use Rattle.ledger.specs.Hearing.{is_last, list_begins, deaf, hears, IsListEnd, PodsEnd}
use Rattle.ledger.specs.Lists.{of_pods, is_named, is_left}
use Rattle.ledger.specs.Laws.{Line, Follows, IsPlacedAt, IsPlacedAs, EachCountsOnce}
use Rattle.ledger.specs.State.{State, opening, is_open}
use Rattle.ledger.specs.Telling.{Became, became, next_version, is_too_much, changed, named, with_pod, at_stage, stands_new, stands_of, waits_at, waits_first, waits_of, waits, withheld_at, withheld_of, without_pod, without_place, gone_at, gone_of, bind_at, bind_of, bind, asking_after, answered_at, answered_of, given_up, read_in_doubt, read_at, read_of, node_new, node_of, node_gone}
use Rattle.ledger.specs.Told.{IsTold}
use Rattle.ledger.proofs.Included.{cases_name, put_here, put_away, out_away}
use Rattle.ledger.proofs.Events.{by_test, by_flag}

-- what holds of two tables at one name holds of tables that have the same there
both_as : (uid : Name) (k l : Option Known) (p q : Option Place) → k ≡ l → p ≡ q → IsPlacedAs l q → IsPlacedAs k p
both_as uid k l p q ks ps is = subst (λ k. IsPlacedAs k p) (sym ks) (subst (IsPlacedAs l) (sym ps) is)

module _ (s : State) (each : EachCountsOnce s) where
  -- where neither table changes
  same_tables : (s' : State) → s'.pods ≡ s.pods → s'.cluster.places ≡ s.cluster.places → EachCountsOnce s'
  same_tables s' pods places uid = both_as uid _ _ _ _ (ap (λ m. get m uid) pods) (ap (λ m. get m uid) places) (each uid)

  -- a pod is known otherwise, and what counts for it stays
  marked : (s' : State) (uid : Name) (k : Known) → s'.pods ≡ insert s.pods uid k → s'.cluster.places ≡ s.cluster.places → IsPlacedAt k.stage (get s.cluster.places uid) → EachCountsOnce s'
  marked s' uid k pods places is v = elim (cases_name v uid) [
    | inl here ↦ both_as v _ (Some k) _ (get s.cluster.places uid) (ap (λ m. get m v) pods ∙ ap (get (insert s.pods uid k)) here ∙ put_here s.pods uid k) (ap (λ m. get m v) places ∙ ap (get s.cluster.places) here) is
    | inr other ↦ both_as v _ _ _ _ (ap (λ m. get m v) pods ∙ put_away s.pods uid k v other.1) (ap (λ m. get m v) places) (each v)
  ]

  -- a pod gets a place
  placed : (s' : State) (uid : Name) (k : Known) (place : Place) → s'.pods ≡ insert s.pods uid k → s'.cluster.places ≡ insert s.cluster.places uid place → IsPlacedAt k.stage (Some place) → EachCountsOnce s'
  placed s' uid k place pods places is v = elim (cases_name v uid) [
    | inl here ↦ both_as v _ (Some k) _ (Some place) (ap (λ m. get m v) pods ∙ ap (get (insert s.pods uid k)) here ∙ put_here s.pods uid k) (ap (λ m. get m v) places ∙ ap (get (insert s.cluster.places uid place)) here ∙ put_here s.cluster.places uid place) is
    | inr other ↦ both_as v _ _ _ _ (ap (λ m. get m v) pods ∙ put_away s.pods uid k v other.1) (ap (λ m. get m v) places ∙ put_away s.cluster.places uid place v other.1) (each v)
  ]

  -- a pod loses its place, and waits
  unplaced : (s' : State) (uid : Name) (k : Known) (request : Request) → s'.pods ≡ insert s.pods uid k → s'.cluster.places ≡ remove s.cluster.places uid → k.stage ≡ Waits request → EachCountsOnce s'
  unplaced s' uid k request pods places waits v = elim (cases_name v uid) [
    | inl here ↦ both_as v _ (Some k) _ None (ap (λ m. get m v) pods ∙ ap (get (insert s.pods uid k)) here ∙ put_here s.pods uid k) (ap (λ m. get m v) places ∙ ap (get (remove s.cluster.places uid)) here ∙ get_removed s.cluster.places uid) (subst (λ g. IsPlacedAt g None) (sym waits) refl)
    | inr other ↦ both_as v _ _ _ _ (ap (λ m. get m v) pods ∙ put_away s.pods uid k v other.1) (ap (λ m. get m v) places ∙ out_away s.cluster.places uid v other.1) (each v)
  ]

  -- a pod goes, with its place
  left : (s' : State) (uid : Name) → s'.pods ≡ remove s.pods uid → s'.cluster.places ≡ remove s.cluster.places uid → EachCountsOnce s'
  left s' uid pods places v = elim (cases_name v uid) [
    | inl here ↦ both_as v _ None _ None (ap (λ m. get m v) pods ∙ ap (get (remove s.pods uid)) here ∙ get_removed s.pods uid) (ap (λ m. get m v) places ∙ ap (get (remove s.cluster.places uid)) here ∙ get_removed s.cluster.places uid) refl
    | inr other ↦ both_as v _ _ _ _ (ap (λ m. get m v) pods ∙ out_away s.pods uid v other.1) (ap (λ m. get m v) places ∙ out_away s.cluster.places uid v other.1) (each v)
  ]

  -- a pod goes that had none
  left_waiting : (s' : State) (uid : Name) → s'.pods ≡ remove s.pods uid → s'.cluster.places ≡ s.cluster.places → get s.cluster.places uid ≡ None → EachCountsOnce s'
  left_waiting s' uid pods places none v = elim (cases_name v uid) [
    | inl here ↦ both_as v _ None _ None (ap (λ m. get m v) pods ∙ ap (get (remove s.pods uid)) here ∙ get_removed s.pods uid) (ap (λ m. get m v) places ∙ ap (get s.cluster.places) here ∙ none) refl
    | inr other ↦ both_as v _ _ _ _ (ap (λ m. get m v) pods ∙ out_away s.pods uid v other.1) (ap (λ m. get m v) places) (each v)
  ]

  -- what counts for a pod that is known
  of_known : (uid : Name) (k : Known) → get s.pods uid ≡ Some k → IsPlacedAt k.stage (get s.cluster.places uid)
  of_known uid k is = subst (λ o. IsPlacedAs o (get s.cluster.places uid)) is (each uid)

  pub at_stage_of : (uid : Name) (k : Known) (stage : Stage) → get s.pods uid ≡ Some k → k.stage ≡ stage → IsPlacedAt stage (get s.cluster.places uid)
  at_stage_of uid k stage is at = subst (λ g. IsPlacedAt g (get s.cluster.places uid)) at (of_known uid k is)

  -- ---- pods

  stood : (list : ℕ) (version : Version) (uid node : Name) (request : Request) → EachCountsOnce (stands_new s list version uid node request).state
  stood list version uid node request =
      by_test EachCountsOnce (is_full_for s.pods s.room uid || is_too_much s.cluster (PodBound (next_version s.cluster) uid node request)) _ _
      (λ _. each)
      (λ _. placed (with_pod (record s { cluster = changed s.cluster (PodBound (next_version s.cluster) uid node request) }) uid (at_stage list version Stands)) uid (at_stage list version Stands) (record { node = node; request = request; status = Bound }) refl refl (node, request, refl))

  stood_of : (version : Version) (uid node : Name) (request : Request) (o : Option Known) → get s.pods uid ≡ o → EachCountsOnce (stands_of s version uid node request o).state
  stood_of version uid node request None is = stood s.of_pods.lists version uid node request
  stood_of version uid node request (Some known) is =
      by_test EachCountsOnce (nat_le version.0 known.version.0) _ _
      (λ _. marked (with_pod s uid (named s known)) uid (named s known) refl refl (of_known uid known is))
      (λ _. stood s.of_pods.lists version uid node request)

  waited_at : (version : Version) (uid : Name) (request : Request) (known : Known) (stage : Stage) → get s.pods uid ≡ Some known → known.stage ≡ stage → EachCountsOnce (waits_at s version uid request stage).state
  waited_at version uid request known (Waits before) is at = marked (with_pod s uid (at_stage s.of_pods.lists version (Waits request))) uid (at_stage s.of_pods.lists version (Waits request)) refl refl (at_stage_of uid known (Waits before) is at)
  waited_at version uid request known (Asked before ticket asking) is at = marked (with_pod s uid (at_stage s.of_pods.lists version (Asked before ticket asking))) uid (at_stage s.of_pods.lists version (Asked before ticket asking)) refl refl (at_stage_of uid known (Asked before ticket asking) is at)
  waited_at version uid request known Stands is at = marked (with_pod s uid (at_stage s.of_pods.lists version Stands)) uid (at_stage s.of_pods.lists version Stands) refl refl (at_stage_of uid known Stands is at)

  waited_first : (version : Version) (uid : Name) (request : Request) → get s.pods uid ≡ None → EachCountsOnce (waits_first s version uid request).state
  waited_first version uid request new =
      by_test EachCountsOnce (is_full_for s.pods s.room uid) _ _
      (λ _. each)
      (λ _. marked (with_pod s uid (at_stage s.of_pods.lists version (Waits request))) uid (at_stage s.of_pods.lists version (Waits request)) refl refl (subst (λ o. IsPlacedAs o (get s.cluster.places uid)) new (each uid)))

  waited_of : (version : Version) (uid : Name) (request : Request) (o : Option Known) → get s.pods uid ≡ o → EachCountsOnce (waits_of s version uid request o).state
  waited_of version uid request None is = waited_first version uid request is
  waited_of version uid request (Some known) is =
      by_test EachCountsOnce (nat_le version.0 known.version.0) _ _
      (λ _. marked (with_pod s uid (named s known)) uid (named s known) refl refl (of_known uid known is))
      (λ _. waited_at version uid request known known.stage is refl)

  placeless : (uid : Name) → EachCountsOnce (without_place s uid).state
  placeless uid =
      by_test EachCountsOnce (is_too_much s.cluster (PodLeft (next_version s.cluster) uid)) _ _
      (λ _. each)
      (λ _. left (without_pod (record s { cluster = changed s.cluster (PodLeft (next_version s.cluster) uid) }) uid) uid refl refl)

  gone_stage : (uid : Name) (known : Known) (stage : Stage) → get s.pods uid ≡ Some known → known.stage ≡ stage → EachCountsOnce (gone_at s uid stage).state
  gone_stage uid known (Waits request) is at = left_waiting (without_pod s uid) uid refl refl (at_stage_of uid known (Waits request) is at)
  gone_stage uid known (Asked request ticket asking) is at = placeless uid
  gone_stage uid known Stands is at = placeless uid

  gone_known : (uid : Name) (o : Option Known) → get s.pods uid ≡ o → EachCountsOnce (gone_of s uid o).state
  gone_known uid None is = each
  gone_known uid (Some known) is = gone_stage uid known known.stage is refl

  held_at : (version : Version) (uid : Name) (known : Known) (stage : Stage) → get s.pods uid ≡ Some known → known.stage ≡ stage → EachCountsOnce (withheld_at s version uid stage).state
  held_at version uid known (Waits before) is at = left_waiting (without_pod s uid) uid refl refl (at_stage_of uid known (Waits before) is at)
  held_at version uid known (Asked before ticket asking) is at =
      let held : Known = record (at_stage s.of_pods.lists version (Asked before ticket asking)) { withheld = true } in
      marked (with_pod s uid held) uid held refl refl (at_stage_of uid known (Asked before ticket asking) is at)
  held_at version uid known Stands is at = marked (with_pod s uid (at_stage s.of_pods.lists version Stands)) uid (at_stage s.of_pods.lists version Stands) refl refl (at_stage_of uid known Stands is at)

  held_of : (version : Version) (uid : Name) (o : Option Known) → get s.pods uid ≡ o → EachCountsOnce (withheld_of s version uid o).state
  held_of version uid None is = each
  held_of version uid (Some known) is =
      by_test EachCountsOnce (nat_le version.0 known.version.0) _ _
      (λ _. marked (with_pod s uid (named s known)) uid (named s known) refl refl (of_known uid known is))
      (λ _. held_at version uid known known.stage is refl)

  -- ---- binds

  granted : (uid node : Name) (known : Known) (request : Request) (o : Option Refusal)
      → EachCountsOnce (elim o as (λ _. Became) [ None ↦ became (Granted (next_ticket s.cluster)) (with_pod (record s { cluster = effect s.cluster (Assume uid node (Held request)) }) uid (record known { stage = Asked request (next_ticket s.cluster) Sent })) | Some why ↦ became (Refused why) s ]).state
  granted uid node known request None =
      placed (with_pod (record s { cluster = effect s.cluster (Assume uid node (Held request)) }) uid (record known { stage = Asked request (next_ticket s.cluster) Sent })) uid (record known { stage = Asked request (next_ticket s.cluster) Sent })
      (record { node = node; request = request; status = Assumed (next_ticket s.cluster) None }) refl refl (node, refl)
  granted uid node known request (Some why) = each

  bound_at : (uid node : Name) (known : Known) (stage : Stage) → EachCountsOnce (bind_at s uid node known stage).state
  bound_at uid node known (Waits request) = granted uid node known request (refusal s.cluster (Assume uid node (Held request)))
  bound_at uid node known (Asked request ticket asking) = each
  bound_at uid node known Stands = each

  bound_of : (uid node : Name) (o : Option Known) → EachCountsOnce (bind_of s uid node o).state
  bound_of uid node None = each
  bound_of uid node (Some known) = bound_at uid node known known.stage

  by_bind : (uid node : Name) → EachCountsOnce (bind s uid node).state
  by_bind uid node = by_test EachCountsOnce (is_open s) _ _ (λ _. bound_of uid node (get s.pods uid)) (λ _. each)

  answer_at : (uid : Name) (ticket : Ticket) (outcome : Outcome) (known : Known) (stage : Stage) → get s.pods uid ≡ Some known → known.stage ≡ stage → EachCountsOnce (answered_at s uid ticket outcome known stage).state
  answer_at uid ticket outcome known (Waits request) is at = each
  answer_at uid ticket outcome known (Asked request given asking) is at =
      by_test EachCountsOnce (given.0 == ticket.0) _ _
      (λ _. marked (with_pod s uid (record known { stage = Asked request given (asking_after asking outcome) })) uid (record known { stage = Asked request given (asking_after asking outcome) }) refl refl (at_stage_of uid known (Asked request given asking) is at))
      (λ _. each)
  answer_at uid ticket outcome known Stands is at = each

  answer_of : (uid : Name) (ticket : Ticket) (outcome : Outcome) (o : Option Known) → get s.pods uid ≡ o → EachCountsOnce (answered_of s uid ticket outcome o).state
  answer_of uid ticket outcome None is = each
  answer_of uid ticket outcome (Some known) is = answer_at uid ticket outcome known known.stage is refl

  gives_up : (uid : Name) (ticket : Ticket) (known : Known) (request : Request) → EachCountsOnce (given_up s uid ticket known request).state
  gives_up uid ticket known request =
      by_test EachCountsOnce (is_some (refusal s.cluster (Forget uid ticket false))) _ _
      (λ _. each)
      (λ _. by_flag EachCountsOnce known.withheld _ _
      (left (without_pod (record s { cluster = effect s.cluster (Forget uid ticket false) }) uid) uid refl refl)
      (unplaced (with_pod (record s { cluster = effect s.cluster (Forget uid ticket false) }) uid (record known { stage = Waits request })) uid (record known { stage = Waits request }) request refl refl refl))

  in_doubt : (uid : Name) (ticket : Ticket) (known : Known) (request : Request) (said : Said) → EachCountsOnce (read_in_doubt s uid ticket known request said).state
  in_doubt uid ticket known request SaidWaits = gives_up uid ticket known request
  in_doubt uid ticket known request (SaidStands version node takes) = by_test EachCountsOnce (nat_le version.0 known.version.0) _ _ (λ _. each) (λ _. stood known.list version uid node takes)
  in_doubt uid ticket known request SaidGone = gone_known uid (get s.pods uid) refl

  reading_at : (uid : Name) (ticket : Ticket) (said : Said) (known : Known) (stage : Stage) → EachCountsOnce (read_at s uid ticket said known stage).state
  reading_at uid ticket said known (Waits request) = each
  reading_at uid ticket said known (Asked request given Sent) = each
  reading_at uid ticket said known (Asked request given IsCreated) = each
  reading_at uid ticket said known (Asked request given InDoubt) = by_test EachCountsOnce (given.0 == ticket.0) _ _ (λ _. in_doubt uid ticket known request said) (λ _. each)
  reading_at uid ticket said known Stands = each

  reading_of : (uid : Name) (ticket : Ticket) (said : Said) (o : Option Known) → EachCountsOnce (read_of s uid ticket said o).state
  reading_of uid ticket said None = each
  reading_of uid ticket said (Some known) = reading_at uid ticket said known known.stage

  -- ---- nodes, and what is heard

  by_row : (version : Version) (node : Row) → EachCountsOnce (node_new s version node).state
  by_row version node =
      by_test EachCountsOnce (is_full_for s.nodes s.cluster.limits.nodes node.name || is_too_much s.cluster (NodeSet (next_version s.cluster) node)) _ _ (λ _. each) (λ _. each)

  by_row_of : (version : Version) (node : Row) (o : Option Seen) → EachCountsOnce (node_of s version node o).state
  by_row_of version node None = by_row version node
  by_row_of version node (Some seen) = by_test EachCountsOnce (nat_le version.0 seen.version.0) _ _ (λ _. each) (λ _. by_row version node)

  by_row_gone : (name : Name) → EachCountsOnce (node_gone s name).state
  by_row_gone name = by_test EachCountsOnce (contains_key s.nodes name) _ _ (λ _. by_test EachCountsOnce (is_too_much s.cluster (RowGone (next_version s.cluster) name)) _ _ (λ _. each) (λ _. each)) (λ _. each)

  by_begins : (kind : Kind) → EachCountsOnce (list_begins s kind).state
  by_begins Nodes = by_test EachCountsOnce (is_last s.of_nodes) _ _ (λ _. each) (λ _. each)
  by_begins Pods = by_test EachCountsOnce (is_last s.of_pods) _ _ (λ _. each) (λ _. each)

  by_deaf : (kind : Kind) → EachCountsOnce (deaf s kind).state
  by_deaf Nodes = each
  by_deaf Pods = each

  by_hears : (kind : Kind) → EachCountsOnce (hears s kind).state
  by_hears Nodes = each
  by_hears Pods = each

  -- ---- the end of a list

  -- what is left of a pod by the end of a list: what was named, with its place
  left_by : (lists : ℕ) (o : Option Known) (p : Option Place) → IsPlacedAs o p → IsPlacedAs (if is_named of_pods.list lists o then o else None) (if is_left of_pods lists o then p else None)
  left_by lists None p is = is
  left_by lists (Some k) p is = by (k.list == lists) k.stage refl is
    where
      by : (b : Bool) (stage : Stage) → k.stage ≡ stage → IsPlacedAt k.stage p → IsPlacedAs (if b then Some k else None) (if b || not (Rattle.ledger.specs.Lists.has_place k.stage) then p else None)
      by true stage at is = is
      by false (Waits request) at is = subst (λ g. (if not (Rattle.ledger.specs.Lists.has_place g) then p else None) ≡ None) (sym at) (subst (λ g. IsPlacedAt g p) at is)
      by false (Asked request ticket asking) at is = subst (λ g. (if not (Rattle.ledger.specs.Lists.has_place g) then p else None) ≡ None) (sym at) refl
      by false Stands at is = subst (λ g. (if not (Rattle.ledger.specs.Lists.has_place g) then p else None) ≡ None) (sym at) refl

  by_pods_end : (s' : State) → PodsEnd s s' → EachCountsOnce s'
  by_pods_end s' e uid = both_as uid _ _ _ _ (e.swept.known uid) (e.swept.standing uid) (left_by s.of_pods.lists (get s.pods uid) (get s.cluster.places uid) (each uid))

  by_end : (kind : Kind) (answer : Answer) (s' : State) → IsListEnd kind s answer s' → EachCountsOnce s'
  by_end Nodes Told s' e = same_tables s' e.ended.pods (ap (λ r. r.0) e.ended.swept.rest)
  by_end Pods Told s' e = by_pods_end s' e.ended
  by_end kind Old s' e = subst EachCountsOnce (sym e.same) each
  by_end kind Full s' e = subst EachCountsOnce (sym e.same) each
  by_end kind (Granted ticket) s' e = absurd e
  by_end kind Shut s' e = absurd e
  by_end kind NotWaiting s' e = absurd e
  by_end kind (Refused why) s' e = absurd e
  by_end kind ToRead s' e = absurd e

  after : (b : Became) (answer : Answer) (s' : State) → EachCountsOnce b.state → became answer s' ≡ b → EachCountsOnce s'
  after b answer s' is told = subst EachCountsOnce (sym (ap (λ b. b.state) told)) is

  by_told : (event : Event) (answer : Answer) (s' : State) → IsTold s event answer s' → EachCountsOnce s'
  by_told (ListBegins kind) answer s' t = after _ answer s' (by_begins kind) t
  by_told (ListEnds kind) answer s' t = by_end kind answer s' t
  by_told (Deaf kind) answer s' t = after _ answer s' (by_deaf kind) t
  by_told (Hears kind) answer s' t = after _ answer s' (by_hears kind) t
  by_told (Node version node) answer s' t = after _ answer s' (by_row_of version node (get s.nodes node.name)) t
  by_told (NodeGone name) answer s' t = after _ answer s' (by_row_gone name) t
  by_told (PodWaits version uid request) answer s' t = after _ answer s' (waited_of version uid request (get s.pods uid) refl) t
  by_told (PodStands version uid node request) answer s' t = after _ answer s' (stood_of version uid node request (get s.pods uid) refl) t
  by_told (PodGone uid) answer s' t = after _ answer s' (gone_known uid (get s.pods uid) refl) t
  by_told (Withheld version uid) answer s' t = after _ answer s' (held_of version uid (get s.pods uid) refl) t
  by_told Unread answer s' t = after _ answer s' each t
  by_told Rested answer s' t = after _ answer s' each t
  by_told (Bind uid node) answer s' t = after _ answer s' (by_bind uid node) t
  by_told (Answered uid ticket outcome) answer s' t = after _ answer s' (answer_of uid ticket outcome (get s.pods uid) refl) t
  by_told (Read uid ticket said) answer s' t = after _ answer s' (reading_of uid ticket said (get s.pods uid)) t

-- before anything is told nothing counts
at_first : (limits : Limits) (room : ℕ) → EachCountsOnce (opening limits room)
at_first limits room uid = both_as uid _ None _ None (get-empty name_cmp uid) (get-empty name_cmp uid) refl

follows : (s : State) (lines : List Line) (s' : State) → EachCountsOnce s → Follows s lines s' → EachCountsOnce s'
follows s [] s' each is = subst EachCountsOnce is each
follows s (line ∷ lines) s' each next = follows next.0 lines s' (by_told s each line.event line.answer next.0 next.1) next.2

pub always_once : (limits : Limits) (room : ℕ) (lines : List Line) (s : State) → Follows (opening limits room) lines s → EachCountsOnce s
always_once limits room lines s is = follows (opening limits room) lines s (at_first limits room) is
