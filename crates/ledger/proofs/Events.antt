-- What a ledger has of a world stays so by each event.
use Rattle.std.proofs.Common.{◌≡◌, inl, inr, ℕ, Bool, true, false, ◌||◌, List, Option, None, Some, is_some, refl, sym, ap, subst, ◌∙◌, arith}
use Rattle.std.specs.Prelude.{if◌then◌else◌, ◌==◌, nat_le}
use Rattle.std.specs.FinMap.{get, insert, remove, contains_key}
use Rattle.std.proofs.lemmas.Bool.Decides.{nat_tests}
use Rattle.quant.specs.declared.amount.Request.{Request}
use Rattle.quant.specs.declared.amount.Res.{Res}
use Rattle.quant.specs.declared.event.Event.TheVariants.{NodeSet, NodeGone as RowGone, PodBound, PodGone as PodLeft}
use Rattle.quant.specs.declared.name.Name.{Name}
use Rattle.quant.specs.declared.objects.Node.{Node as Row}
use Rattle.quant.specs.declared.version.Ticket.{Ticket}
use Rattle.quant.specs.declared.version.Version.{Version}
use Rattle.book.specs.Cluster.{Places}
use Rattle.book.specs.Tables.{is_full_for}
use Rattle.book.specs.Totals.{IsWithin}
use Rattle.book.specs.Step.{refusal, effect}
use Rattle.book.specs.declared.place.Place.{Place}
use Rattle.book.specs.declared.place.Status.TheVariants.{Bound}
use Rattle.book.specs.declared.step.ClusterStep.TheVariants.{Forget}
use Rattle.book.proofs.SumLemmas.{get_removed}
use Rattle.ledger.specs.declared.event.Outcome.{Outcome}
use Rattle.ledger.specs.declared.event.Said.{Said}
use Rattle.ledger.specs.declared.event.Said.TheVariants.{Waits as SaidWaits, Stands as SaidStands, Gone as SaidGone}
use Rattle.ledger.specs.declared.known.Asking.{Asking}
use Rattle.ledger.specs.declared.known.Asking.TheVariants.{Sent, Created as IsCreated, InDoubt}
use Rattle.ledger.specs.declared.known.Known.{Known}
use Rattle.ledger.specs.declared.known.Seen.{Seen}
use Rattle.ledger.specs.declared.known.Stage.{Stage}
use Rattle.ledger.specs.declared.known.Stage.TheVariants.{Waits, Asked, Stands}
use Rattle.ledger.specs.Lists.{has_place}
use Rattle.ledger.specs.State.{State}
use Rattle.ledger.specs.Telling.{Became, next_version, is_too_much, changed, named, with_pod, at_stage, fallen_short, stands_new, stands_of, stands, waits_at, waits_first, waits_of, waits, withheld_at, withheld_of, withheld, without_pod, without_place, gone_at, gone_of, gone, asking_after, answered_at, answered_of, answered, given_up, read_in_doubt, read_at, read_of, read, with_node, node_new, node_of, node_told, node_gone}
use Rattle.ledger.specs.World.{IsNoMore}
use Rattle.ledger.proofs.Included.{cases_name, put_here, put_away, out_away}
use Rattle.ledger.proofs.Holding.{Counts, Holds, IsNoSurer, kept, put, out}

-- what holds in both cases of a test holds
pub by_test : (P : State → Type 0) (b : Bool) (x y : Became) → (b ≡ true → P x.state) → (b ≡ false → P y.state) → P (if b then x else y).state
by_test P true x y first second = first refl
by_test P false x y first second = second refl

-- and of one of two states
pub by_flag : (P : State → Type 0) (b : Bool) (x y : State) → P x → P y → P (if b then x else y)
by_flag P true x y first second = first
by_flag P false x y first second = second

waiting : (request : Request) → has_place (Waits request) ≡ true → ⊥
waiting request e = cc

module _ (expected : Places) (room : List ℕ → Res) where
  abbrev Hold : State → Type 0
  Hold s = Holds s expected room

  module _ (s : State) (h : Hold s) where
    same_flags : IsNoSurer s s
    same_flags listed whole = (listed, whole)

    -- a pod on a node was left out
    pub short : Hold (fallen_short s)
    short = kept s (fallen_short s) expected room h refl (λ listed whole. absurd (cc)) refl h.placed

    -- something else is known of a pod, and what counts stays
    mark : (uid : Name) (k : Known) → (has_place k.stage ≡ true → Counts s uid) → Hold (with_pod s uid k)
    mark uid k still = kept s (with_pod s uid k) expected room h refl same_flags refl (λ v l is has.
        elim (cases_name v uid) [
          | inl here ↦
              let l_is : k ≡ l = let both : Some k ≡ Some l = sym (put_here s.pods uid k) ∙ ap (get (insert s.pods uid k)) (sym here) ∙ is in cc in
              subst (Counts s) (sym here) (still (ap (λ k. has_place k.stage) l_is ∙ has))
          | inr other ↦ h.placed v l (sym (put_away s.pods uid k v other.1) ∙ is) has
        ])

    -- the same pod at the same stage
    mark_same : (uid : Name) (known k : Known) → get s.pods uid ≡ Some known → k.stage ≡ known.stage → Hold (with_pod s uid k)
    mark_same uid known k is same = mark uid k (λ has. h.placed uid known is (sym (ap has_place same) ∙ has))

    -- ---- a pod has a node

    stood : (list : ℕ) (version : Version) (uid node : Name) (request : Request) → ((p : Place) → get expected uid ≡ Some p → (p.node ≡ node) × IsNoMore p.request request) → Hold (stands_new s list version uid node request).state
    stood list version uid node request right =
        by_test Hold (is_full_for s.pods s.room uid || is_too_much s.cluster (PodBound (next_version s.cluster) uid node request)) _ _
        (λ _. short)
        (λ _. put s (with_pod (record s { cluster = changed s.cluster (PodBound (next_version s.cluster) uid node request) }) uid (at_stage list version Stands)) expected room h refl same_flags uid (record { node = node; request = request; status = Bound }) (at_stage list version Stands) refl refl right)

    stood_of : (version : Version) (uid node : Name) (request : Request) (o : Option Known) → get s.pods uid ≡ o → ((p : Place) → get expected uid ≡ Some p → (p.node ≡ node) × IsNoMore p.request request) → Hold (stands_of s version uid node request o).state
    stood_of version uid node request None is right = stood s.of_pods.lists version uid node request right
    stood_of version uid node request (Some known) is right =
        by_test Hold (nat_le version.0 known.version.0) _ _
        (λ _. mark_same uid known (named s known) is refl)
        (λ _. stood s.of_pods.lists version uid node request right)

    pub by_stands : (version : Version) (uid node : Name) (request : Request) → ((p : Place) → get expected uid ≡ Some p → (p.node ≡ node) × IsNoMore p.request request) → Hold (stands s version uid node request).state
    by_stands version uid node request right = stood_of version uid node request (get s.pods uid) refl right

    -- ---- a pod has none

    waited_at : (version : Version) (uid : Name) (request : Request) (known : Known) (stage : Stage) → get s.pods uid ≡ Some known → known.stage ≡ stage → Hold (waits_at s version uid request stage).state
    waited_at version uid request known (Waits before) is at = mark uid (at_stage s.of_pods.lists version (Waits request)) (λ has. absurd (waiting request has))
    waited_at version uid request known (Asked before ticket asking) is at = mark_same uid known (at_stage s.of_pods.lists version (Asked before ticket asking)) is (sym at)
    waited_at version uid request known Stands is at = mark_same uid known (at_stage s.of_pods.lists version Stands) is (sym at)

    waited_first : (version : Version) (uid : Name) (request : Request) → Hold (waits_first s version uid request).state
    waited_first version uid request =
        by_test Hold (is_full_for s.pods s.room uid) _ _
        (λ _. h)
        (λ _. mark uid (at_stage s.of_pods.lists version (Waits request)) (λ has. absurd (waiting request has)))

    waited_of : (version : Version) (uid : Name) (request : Request) (o : Option Known) → get s.pods uid ≡ o → Hold (waits_of s version uid request o).state
    waited_of version uid request None is = waited_first version uid request
    waited_of version uid request (Some known) is =
        by_test Hold (nat_le version.0 known.version.0) _ _
        (λ _. mark_same uid known (named s known) is refl)
        (λ late. waited_at version uid request known known.stage is refl)

    pub by_waits : (version : Version) (uid : Name) (request : Request) → Hold (waits s version uid request).state
    by_waits version uid request = waited_of version uid request (get s.pods uid) refl

    -- ---- a pod is gone

    no_pod : (uid : Name) (k : Known) → get (remove s.pods uid) uid ≡ Some k → ⊥
    no_pod uid k is = let both : Some k ≡ None = sym is ∙ get_removed s.pods uid in cc

    placeless : (uid : Name) → get expected uid ≡ None → Hold (without_place s uid).state
    placeless uid off =
        by_test Hold (is_too_much s.cluster (PodLeft (next_version s.cluster) uid)) _ _
        (λ _. h)
        (λ _. out s (without_pod (record s { cluster = changed s.cluster (PodLeft (next_version s.cluster) uid) }) uid) expected room h refl same_flags uid refl
        (λ v other. out_away s.pods uid v other)
        (λ k is has. no_pod uid k is)
        off)

    -- a pod goes that has no place
    without_waiting : (uid : Name) → Hold (without_pod s uid)
    without_waiting uid = kept s (without_pod s uid) expected room h refl same_flags refl (λ v l is has.
        elim (cases_name v uid) [
          | inl here ↦ absurd (no_pod uid l (ap (get (remove s.pods uid)) (sym here) ∙ is))
          | inr other ↦ h.placed v l (sym (out_away s.pods uid v other.1) ∙ is) has
        ])

    gone_stage : (uid : Name) (stage : Stage) → get expected uid ≡ None → Hold (gone_at s uid stage).state
    gone_stage uid (Waits request) off = without_waiting uid
    gone_stage uid (Asked request ticket asking) off = placeless uid off
    gone_stage uid Stands off = placeless uid off

    gone_known : (uid : Name) (o : Option Known) → get expected uid ≡ None → Hold (gone_of s uid o).state
    gone_known uid None off = h
    gone_known uid (Some known) off = gone_stage uid known.stage off

    pub by_gone : (uid : Name) → get expected uid ≡ None → Hold (gone s uid).state
    by_gone uid off = gone_known uid (get s.pods uid) off

    -- ---- a pod isn't to be bound

    held_at : (version : Version) (uid : Name) (known : Known) (stage : Stage) → get s.pods uid ≡ Some known → known.stage ≡ stage → Hold (withheld_at s version uid stage).state
    held_at version uid known (Waits before) is at = without_waiting uid
    held_at version uid known (Asked before ticket asking) is at =
        mark_same uid known (record (at_stage s.of_pods.lists version (Asked before ticket asking)) { withheld = true }) is (sym at)
    held_at version uid known Stands is at = mark_same uid known (at_stage s.of_pods.lists version Stands) is (sym at)

    held_of : (version : Version) (uid : Name) (o : Option Known) → get s.pods uid ≡ o → Hold (withheld_of s version uid o).state
    held_of version uid None is = h
    held_of version uid (Some known) is =
        by_test Hold (nat_le version.0 known.version.0) _ _
        (λ _. mark_same uid known (named s known) is refl)
        (λ late. held_at version uid known known.stage is refl)

    pub by_withheld : (version : Version) (uid : Name) → Hold (withheld s version uid).state
    by_withheld version uid = held_of version uid (get s.pods uid) refl

    -- ---- binds

    asked_counts : (uid : Name) (known : Known) (request : Request) (ticket : Ticket) (asking : Asking) → get s.pods uid ≡ Some known → known.stage ≡ Asked request ticket asking → Counts s uid
    asked_counts uid known request ticket asking is at = h.placed uid known is (ap has_place at)

    answer_at : (uid : Name) (ticket : Ticket) (outcome : Outcome) (known : Known) (stage : Stage) → get s.pods uid ≡ Some known → known.stage ≡ stage → Hold (answered_at s uid ticket outcome known stage).state
    answer_at uid ticket outcome known (Waits request) is at = h
    answer_at uid ticket outcome known (Asked request given asking) is at =
        by_test Hold (given.0 == ticket.0) _ _
        (λ _. mark uid (record known { stage = Asked request given (asking_after asking outcome) }) (λ has. asked_counts uid known request given asking is at))
        (λ _. h)
    answer_at uid ticket outcome known Stands is at = h

    answer_of : (uid : Name) (ticket : Ticket) (outcome : Outcome) (o : Option Known) → get s.pods uid ≡ o → Hold (answered_of s uid ticket outcome o).state
    answer_of uid ticket outcome None is = h
    answer_of uid ticket outcome (Some known) is = answer_at uid ticket outcome known known.stage is refl

    pub by_answer : (uid : Name) (ticket : Ticket) (outcome : Outcome) → Hold (answered s uid ticket outcome).state
    by_answer uid ticket outcome = answer_of uid ticket outcome (get s.pods uid) refl

    -- what is owed of a read
    abbrev IsRight : Name → Said → Type 0
    IsRight uid SaidWaits = get expected uid ≡ None
    IsRight uid (SaidStands version node request) = (p : Place) → get expected uid ≡ Some p → (p.node ≡ node) × IsNoMore p.request request
    IsRight uid SaidGone = get expected uid ≡ None

    gives_up : (uid : Name) (ticket : Ticket) (known : Known) (request : Request) → get expected uid ≡ None → Hold (given_up s uid ticket known request).state
    gives_up uid ticket known request off =
        by_test Hold (is_some (refusal s.cluster (Forget uid ticket false))) _ _
        (λ _. h)
        (λ _. by_flag Hold known.withheld _ _
        (out s (without_pod (record s { cluster = effect s.cluster (Forget uid ticket false) }) uid) expected room h refl same_flags uid refl
        (λ v other. out_away s.pods uid v other)
        (λ k is has. no_pod uid k is)
        off)
        (out s (with_pod (record s { cluster = effect s.cluster (Forget uid ticket false) }) uid (record known { stage = Waits request })) expected room h refl same_flags uid refl
        (λ v other. put_away s.pods uid (record known { stage = Waits request }) v other)
        (λ k is has. let k_is : record known { stage = Waits request } ≡ k = let both : Some (record known { stage = Waits request }) ≡ Some k = sym (put_here s.pods uid (record known { stage = Waits request })) ∙ is in cc in waiting request (ap (λ k. has_place k.stage) k_is ∙ has))
        off))

    in_doubt : (uid : Name) (ticket : Ticket) (known : Known) (request : Request) (said : Said) → IsRight uid said → Hold (read_in_doubt s uid ticket known request said).state
    in_doubt uid ticket known request SaidWaits right = gives_up uid ticket known request right
    in_doubt uid ticket known request (SaidStands version node takes) right =
        by_test Hold (nat_le version.0 known.version.0) _ _ (λ _. h) (λ _. stood known.list version uid node takes right)
    in_doubt uid ticket known request SaidGone right = by_gone uid right

    same_ticket : (a b : Ticket) → (a.0 == b.0) ≡ true → a ≡ b
    same_ticket a b e = ap (λ n. record { 0 = n }) (let e : a.0 ≡ b.0 = grind (arith, nat_tests, e) in e)

    reading_at : (uid : Name) (ticket : Ticket) (said : Said) (known : Known) (stage : Stage) → ((request : Request) → stage ≡ Asked request ticket InDoubt → IsRight uid said) → Hold (read_at s uid ticket said known stage).state
    reading_at uid ticket said known (Waits request) right = h
    reading_at uid ticket said known (Asked request given Sent) right = h
    reading_at uid ticket said known (Asked request given IsCreated) right = h
    reading_at uid ticket said known (Asked request given InDoubt) right =
        by_test Hold (given.0 == ticket.0) _ _
        (λ same. in_doubt uid ticket known request said (right request (ap (λ t. Asked request t InDoubt) (same_ticket given ticket same))))
        (λ _. h)
    reading_at uid ticket said known Stands right = h

    reading_of : (uid : Name) (ticket : Ticket) (said : Said) (o : Option Known) → ((k : Known) (request : Request) → o ≡ Some k → k.stage ≡ Asked request ticket InDoubt → IsRight uid said) → Hold (read_of s uid ticket said o).state
    reading_of uid ticket said None right = h
    reading_of uid ticket said (Some known) right = reading_at uid ticket said known known.stage (λ request at. right known request refl at)

    pub by_read : (uid : Name) (ticket : Ticket) (said : Said) → ((k : Known) (request : Request) → get s.pods uid ≡ Some k → k.stage ≡ Asked request ticket InDoubt → IsRight uid said) → Hold (read s uid ticket said).state
    by_read uid ticket said right = reading_of uid ticket said (get s.pods uid) right

    -- ---- nodes

    row_put : (s' : State) (node : Row) → s'.cluster.nodes ≡ insert s.cluster.nodes node.name node → s'.cluster.places ≡ s.cluster.places → s'.pods ≡ s.pods → IsNoSurer s s' → IsWithin node.allocatable (room node.name) → Hold s'
    row_put s' node rows places pods surer within = record {
      rows = λ name row is.
          elim (cases_name name node.name) [
            | inl here ↦
                let row_is : node ≡ row = let both : Some node ≡ Some row = sym (ap (λ m. get m node.name) rows ∙ put_here s.cluster.nodes node.name node) ∙ ap (get s'.cluster.nodes) (sym here) ∙ is in cc in
                subst (λ n. IsWithin row.allocatable (room n)) (sym here) (subst (λ r. IsWithin r.allocatable (room node.name)) row_is within)
            | inr other ↦ h.rows name row (sym (ap (λ m. get m name) rows ∙ put_away s.cluster.nodes node.name node name other.1) ∙ is)
          ];
      same = λ uid p q there is. h.same uid p q there (sym (ap (λ m. get m uid) places) ∙ is);
      covered = λ listed whole uid p there. let before = surer listed whole in let at = h.covered before.0 before.1 uid p there in (at.0, ap (λ m. get m uid) places ∙ at.1);
      placed = λ uid k is has. let at = h.placed uid k (sym (ap (λ m. get m uid) pods) ∙ is) has in (at.0, ap (λ m. get m uid) places ∙ at.1);
    }

    fresh_row : (version : Version) (node : Row) → IsWithin node.allocatable (room node.name) → Hold (node_new s version node).state
    fresh_row version node within =
        by_test Hold (is_full_for s.nodes s.cluster.limits.nodes node.name || is_too_much s.cluster (NodeSet (next_version s.cluster) node)) _ _
        (λ _. h)
        (λ _. row_put (with_node (record s { cluster = changed s.cluster (NodeSet (next_version s.cluster) node) }) node.name (record { version = version; list = s.of_nodes.lists })) node refl refl refl same_flags within)

    row_of : (version : Version) (node : Row) (o : Option Seen) → IsWithin node.allocatable (room node.name) → Hold (node_of s version node o).state
    row_of version node None within = fresh_row version node within
    row_of version node (Some seen) within =
        by_test Hold (nat_le version.0 seen.version.0) _ _
        (λ _. kept s (with_node s node.name (record seen { list = s.of_nodes.lists })) expected room h refl same_flags refl h.placed)
        (λ _. fresh_row version node within)

    pub by_node : (version : Version) (node : Row) → IsWithin node.allocatable (room node.name) → Hold (node_told s version node).state
    by_node version node within = row_of version node (get s.nodes node.name) within

    row_out : (s' : State) (name : Name) → s'.cluster.nodes ≡ remove s.cluster.nodes name → s'.cluster.places ≡ s.cluster.places → s'.pods ≡ s.pods → IsNoSurer s s' → Hold s'
    row_out s' name rows places pods surer = record {
      rows = λ other row is.
          elim (cases_name other name) [
            | inl here ↦ absurd (let both : Some row ≡ None = sym is ∙ ap (get s'.cluster.nodes) here ∙ ap (λ m. get m name) rows ∙ get_removed s.cluster.nodes name in cc)
            | inr apart ↦ h.rows other row (sym (ap (λ m. get m other) rows ∙ out_away s.cluster.nodes name other apart.1) ∙ is)
          ];
      same = λ uid p q there is. h.same uid p q there (sym (ap (λ m. get m uid) places) ∙ is);
      covered = λ listed whole uid p there. let before = surer listed whole in let at = h.covered before.0 before.1 uid p there in (at.0, ap (λ m. get m uid) places ∙ at.1);
      placed = λ uid k is has. let at = h.placed uid k (sym (ap (λ m. get m uid) pods) ∙ is) has in (at.0, ap (λ m. get m uid) places ∙ at.1);
    }

    pub by_node_gone : (name : Name) → Hold (node_gone s name).state
    by_node_gone name =
        by_test Hold (contains_key s.nodes name) _ _
        (λ _. by_test Hold (is_too_much s.cluster (RowGone (next_version s.cluster) name)) _ _
        (λ _. h)
        (λ _. row_out (record s { cluster = changed s.cluster (RowGone (next_version s.cluster) name); nodes = remove s.nodes name }) name refl refl refl same_flags))
        (λ _. h)
