-- Whatever happens, what stands or may come to stand on a node is within what it has.
use Rattle.std.proofs.Common.{◌≡◌, inl, inr, ℕ, ◌+◌, ◌≤◌, Bool, true, false, List, [], ◌∷◌, Option, None, Some, refl, sym, ap, subst, ◌∙◌, arith}
use Rattle.std.specs.Prelude.{if◌then◌else◌, is_ok}
use Rattle.std.specs.Str.{bytes_eq}
use Rattle.std.specs.Cmp.Lexicographic.{bytes_decides}
use Rattle.std.specs.FinMap.{get, insert, remove, get-empty}
use Rattle.std.proofs.lemmas.Bool.Decides.{nat_tests}
use Rattle.quant.specs.declared.amount.Request.{Request}
use Rattle.quant.specs.declared.amount.Res.{Res}
use Rattle.quant.specs.declared.name.Name.{Name}
use Rattle.quant.specs.declared.objects.Node.{Node as Row}
use Rattle.fit.specs.Fit.{fit_of, has_room}
use Rattle.book.specs.Cluster.{name_cmp, Cluster, Places}
use Rattle.book.specs.Step.{refusal, effect, next_ticket}
use Rattle.book.specs.Totals.{IsWithin}
use Rattle.book.specs.Used.{used, share, nothing}
use Rattle.book.specs.inside.Totals.{plus}
use Rattle.book.specs.declared.limits.Limits.{Limits}
use Rattle.book.specs.declared.place.Place.{Place}
use Rattle.book.specs.declared.place.Status.TheVariants.{Assumed}
use Rattle.book.specs.declared.refusal.Refusal.{Refusal}
use Rattle.book.specs.declared.step.ClusterStep.TheVariants.{Assume}
use Rattle.book.specs.declared.entry.Entry.TheVariants.{Held}
use Rattle.book.proofs.TotalLemmas.{used_more}
use Rattle.book.proofs.SumLemmas.{get_removed}
use Rattle.ledger.specs.declared.event.Answer.{Answer}
use Rattle.ledger.specs.declared.event.Answer.TheVariants.{Told, Old, Full, Granted, Shut, NotWaiting, Refused, Read as ToRead}
use Rattle.ledger.specs.declared.event.Event.{Event}
use Rattle.ledger.specs.declared.event.Event.TheVariants.{ListBegins, ListEnds, Deaf, Hears, Node, NodeGone, Waits as PodWaits, Withheld, Stands as PodStands, Unread, Gone as PodGone, Rested, Bind, Answered, Read}
use Rattle.ledger.specs.declared.event.Kind.{Kind}
use Rattle.ledger.specs.declared.event.Kind.TheVariants.{Nodes, Pods}
use Rattle.ledger.specs.declared.event.Said.{Said}
use Rattle.ledger.specs.declared.event.Said.TheVariants.{Waits as SaidWaits, Stands as SaidStands, Gone as SaidGone}
use Rattle.ledger.specs.declared.known.Asking.TheVariants.{Sent}
use Rattle.ledger.specs.declared.known.Known.{Known}
use Rattle.ledger.specs.declared.known.Stage.{Stage}
use Rattle.ledger.specs.declared.known.Stage.TheVariants.{Waits, Asked, Stands}
use Rattle.ledger.specs.Hearing.{with_heard, is_last, list_begins, deaf, hears, IsListEnd}
use Rattle.ledger.specs.State.{State, opening, is_open}
use Rattle.ledger.specs.Telling.{Became, became, bind_at, bind_of, bind, with_pod}
use Rattle.ledger.specs.World.{World, Move, Tells, Lands, Ends, Lapses, Grows, Restarts, IsOwed, IsExpected, IsToldIn, IsMove, IsRoomy, IsBegin, Leads}
use Rattle.ledger.proofs.Included.{cases_name, put_here, put_away, out_away, same_itself, IsIn, used_within}
use Rattle.ledger.proofs.Holding.{Holds, kept, grant}
use Rattle.ledger.proofs.Events.{by_test, by_stands, by_waits, by_withheld, short, by_gone, by_answer, by_read, by_node, by_node_gone}
use Rattle.ledger.proofs.Ends.{by_nodes_end, by_pods_end}

-- ---- room for one more

-- amounts that are within others which are within others
pub within_all : (a b c : Res) → IsWithin a b → IsWithin b c → IsWithin a c
within_all a b c one two = record { cpu = omega (arith, one.cpu, two.cpu); mem = omega (arith, one.mem, two.mem); pods = omega (arith, one.pods, two.pods) }

-- a pod that fits has room for each number
rooms_of : (a u : Res) (r : Request) → is_ok (fit_of a u r) ≡ true → (has_room a.cpu.0 u.cpu.0 r.cpu.0 ≡ true) × (has_room a.mem.0 u.mem.0 r.mem.0 ≡ true) × (has_room a.pods u.pods 1 ≡ true)
unfolding fit_of
rooms_of a u r ok = (grind (arith, ok), grind (arith, ok), grind (arith, ok))

-- a number that has room beside more than there is, has it
room_for : (allocatable used asked less whole : ℕ) → has_room allocatable used asked ≡ true → less ≤ used → less ≤ whole → allocatable ≤ whole → less + asked ≤ whole
room_for allocatable used asked less whole room few fits row = grind (arith, nat_tests, room, few, fits, row)

module _ (c : Cluster) (uid node : Name) (request : Request) (taken : refusal c (Assume uid node (Held request)) ≡ None) where
  -- a pod that is assumed had no place
  no_place : (o : Option Place) → get c.places uid ≡ o → o ≡ None
  no_place None is = refl
  no_place (Some p) is = absurd (grind (arith, is, taken))

  -- and fits on a node that is there
  pub row_with : (o : Option Row) → get c.nodes node ≡ o → (row : Row) × (o ≡ Some row) × (is_ok (fit_of row.allocatable (used c.places node) request) ≡ true)
  row_with None is = absurd (grind (arith, is, taken))
  row_with (Some row) is = (row, refl, grind (arith, is, taken))

-- ---- worlds that are in order

pub record IsGood (w : World) : Type 0 where
  pub holds : Holds w.known w.expected w.room
  pub roomy : IsRoomy w
  pub within : (uid : Name) (p : Place) → get w.standing uid ≡ Some p → get w.expected uid ≡ Some p

abbrev HasRoom : Places → (List ℕ → Res) → Type 0
HasRoom expected room = (node : Name) → IsWithin (used expected node) (room node)

-- what is expected is among what counts
counted_in : (s : State) (expected : Places) (room : List ℕ → Res) → Holds s expected room → s.of_pods.listed ≡ true → s.left_out.any ≡ false → IsIn expected s.cluster.places
counted_in s expected room h listed whole uid p there = let at = h.covered listed whole uid p there in (at.0, at.1, h.same uid p at.0 there at.1)

-- ---- a bind

module _ (w w' : World) (good : IsGood w) (uid node : Name) (answer : Answer) (expects : IsExpected (Bind uid node) answer w.expected w') where
  abbrev Stay : Type 0
  Stay = (v : Name) (p : Place) → get w.expected v ≡ Some p → get w'.expected v ≡ Some p

  abbrev Goes : Became → Type 0
  Goes b = answer ≡ b.answer → w'.known ≡ b.state → Holds w'.known w'.expected w.room × HasRoom w'.expected w.room × Stay

  -- nothing is asked for
  goes_on : (a : Answer) → (IsExpected (Bind uid node) a w.expected w' → w'.expected ≡ w.expected) → Goes (became a w.known)
  goes_on a same is state =
      let expected : w'.expected ≡ w.expected = same (subst (λ a. IsExpected (Bind uid node) a w.expected w') is expects) in
      (subst (λ e. Holds w'.known e w.room) (sym expected) (subst (λ s. Holds s w.expected w.room) (sym state) good.holds), subst (λ e. HasRoom e w.room) (sym expected) good.roomy, λ v p there. ap (λ m. get m v) expected ∙ there)

  module _ (opened : is_open w.known ≡ true) (known : Known) (request : Request) (taken : refusal w.known.cluster (Assume uid node (Held request)) ≡ None) where
    abbrev place : Place
    place = record { node = node; request = request; status = Assumed (next_ticket w.known.cluster) None }

    abbrev asked : Known
    asked = record known { stage = Asked request (next_ticket w.known.cluster) Sent }

    abbrev after : State
    after = with_pod (record w.known { cluster = effect w.known.cluster (Assume uid node (Held request)) }) uid asked

    inside : IsIn w.expected w.known.cluster.places
    inside = counted_in w.known w.expected w.room good.holds (grind (arith, opened)) (grind (arith, opened))

    off : (o : Option Place) → get w.expected uid ≡ o → o ≡ None
    off None is = refl
    off (Some p) is = absurd (let at = inside uid p is in let none : get w.known.cluster.places uid ≡ None = no_place w.known.cluster uid node request taken (get w.known.cluster.places uid) refl in cc)

    more : (n : Name) → used (insert w.expected uid place) n ≡ plus (used w.expected n) (share n place)
    more n = used_more w.expected uid place (off (get w.expected uid) refl) n

    fits : (n : Name) → IsWithin (used (insert w.expected uid place) n) (w.room n)
    fits n = elim (cases_name n node) [
      | inl here ↦
          let row = row_with w.known.cluster uid node request taken (get w.known.cluster.nodes node) refl in
          let rooms = rooms_of row.0.allocatable (used w.known.cluster.places node) request row.2 in
          let few = used_within w.expected w.known.cluster.places inside node in
          let has = good.holds.rows node row.0 row.1 in
          let was = good.roomy node in
          let sum : used (insert w.expected uid place) node ≡ plus (used w.expected node) (record { cpu = request.cpu; mem = request.mem; pods = 1 }) = more node ∙ ap (λ b. plus (used w.expected node) (if b then record { cpu = request.cpu; mem = request.mem; pods = 1 } else nothing)) ((bytes_decides node node).1 refl) in
          subst (λ m. IsWithin (used (insert w.expected uid place) m) (w.room m)) (sym here) (subst (λ u. IsWithin u (w.room node)) (sym sum) (record {
            cpu = room_for _ _ _ _ _ rooms.0 few.cpu was.cpu has.cpu;
            mem = room_for _ _ _ _ _ rooms.1 few.mem was.mem has.mem;
            pods = room_for _ _ _ _ _ rooms.2 few.pods was.pods has.pods;
          }))
      | inr other ↦
          let was = good.roomy n in
          let away : bytes_eq node n ≡ false = grind (arith, other.1, (bytes_decides node n).0, (bytes_decides n node).1) in
          let sum : used (insert w.expected uid place) n ≡ plus (used w.expected n) nothing = more n ∙ ap (λ b. plus (used w.expected n) (if b then record { cpu = request.cpu; mem = request.mem; pods = 1 } else nothing)) away in
          subst (λ u. IsWithin u (w.room n)) (sym sum) (record { cpu = omega (arith, was.cpu); mem = omega (arith, was.mem); pods = omega (arith, was.pods) })
    ]

    goes_granted : Goes (became (Granted (next_ticket w.known.cluster)) after)
    goes_granted is state =
        let e = subst (λ a. IsExpected (Bind uid node) a w.expected w') is expects in
        let p_is : place ≡ e.0 = let both : Some place ≡ Some e.0 = sym (ap (λ s. get s.cluster.places uid) state ∙ put_here w.known.cluster.places uid place) ∙ e.1 in cc in
        let expected : w'.expected ≡ insert w.expected uid place = e.2 ∙ ap (insert w.expected uid) (sym p_is) in (
          subst (λ e. Holds w'.known e w.room) (sym expected) (subst (λ s. Holds s (insert w.expected uid place) w.room) (sym state)
              (grant w.known after w.expected w.room good.holds refl (λ listed whole. (listed, whole)) uid place asked refl refl)),
          subst (λ e. HasRoom e w.room) (sym expected) fits,
          λ v p there. ap (λ m. get m v) expected ∙ elim (cases_name v uid) [
            | inl here ↦ absurd (let none : get w.expected uid ≡ None = off (get w.expected uid) refl in let both : Some p ≡ None = sym there ∙ ap (get w.expected) here ∙ none in cc)
            | inr other ↦ put_away w.expected uid place v other.1 ∙ there
          ],
        )

  goes_waiting : is_open w.known ≡ true → (known : Known) (request : Request) → (o : Option Refusal) → refusal w.known.cluster (Assume uid node (Held request)) ≡ o
      → Goes (elim o [ None ↦ became (Granted (next_ticket w.known.cluster)) (with_pod (record w.known { cluster = effect w.known.cluster (Assume uid node (Held request)) }) uid (record known { stage = Asked request (next_ticket w.known.cluster) Sent })) | Some why ↦ became (Refused why) w.known ])
  goes_waiting opened known request None is = goes_granted opened known request is
  goes_waiting opened known request (Some why) is = goes_on (Refused why) (λ e. e)

  goes_at : is_open w.known ≡ true → (known : Known) (stage : Stage) → Goes (bind_at w.known uid node known stage)
  goes_at opened known (Waits request) = goes_waiting opened known request (refusal w.known.cluster (Assume uid node (Held request))) refl
  goes_at opened known (Asked request ticket asking) = goes_on NotWaiting (λ e. e)
  goes_at opened known Stands = goes_on NotWaiting (λ e. e)

  goes_of : is_open w.known ≡ true → (o : Option Known) → Goes (bind_of w.known uid node o)
  goes_of opened None = goes_on NotWaiting (λ e. e)
  goes_of opened (Some known) = goes_at opened known known.stage

  goes_if : (b : Bool) → is_open w.known ≡ b → Goes (if b then bind_of w.known uid node (get w.known.pods uid) else became Shut w.known)
  goes_if true opened = goes_of opened (get w.known.pods uid)
  goes_if false opened = goes_on Shut (λ e. e)

  pub by_bind : became answer w'.known ≡ bind w.known uid node → Holds w'.known w'.expected w.room × HasRoom w'.expected w.room × Stay
  by_bind told = goes_if (is_open w.known) refl (ap (λ b. b.answer) told) (ap (λ b. b.state) told)

-- a ledger to which nothing was told
new_holds : (limits : Limits) (pods : ℕ) (expected : Places) (room : List ℕ → Res) → Holds (opening limits pods) expected room
new_holds limits pods expected room = record {
  rows = λ name row is. absurd (let both : Some row ≡ None = sym is ∙ get-empty name_cmp name in cc);
  same = λ uid p q there is. absurd (let both : Some q ≡ None = sym is ∙ get-empty name_cmp uid in cc);
  covered = λ listed whole uid p there. absurd (cc);
  placed = λ uid k is has. absurd (let both : Some k ≡ None = sym is ∙ get-empty name_cmp uid in cc);
}

-- ---- all that is told

-- what holds of a state holds of what an event makes of it
module _ (w w' : World) (good : IsGood w) where
  abbrev Held' : State → Type 0
  Held' s = Holds s w.expected w.room

  -- nothing else becomes expected
  carried : w'.standing ≡ w.standing → w'.room ≡ w.room → w'.expected ≡ w.expected → Held' w'.known → IsGood w'
  carried standing room expected holds = record {
    holds = subst (λ e. Holds w'.known e w'.room) (sym expected) (subst (λ r. Holds w'.known w.expected r) (sym room) holds);
    roomy = λ node. subst (λ e. IsWithin (used e node) (w'.room node)) (sym expected) (subst (λ r. IsWithin (used w.expected node) (r node)) (sym room) (good.roomy node));
    within = λ uid p there. ap (λ m. get m uid) expected ∙ good.within uid p (sym (ap (λ m. get m uid) standing) ∙ there);
  }

  after_told : (b : Became) (answer : Answer) → Held' b.state → became answer w'.known ≡ b → Held' w'.known
  after_told b answer holds told = subst Held' (sym (ap (λ b. b.state) told)) holds

  by_deaf : (kind : Kind) → Held' (deaf w.known kind).state
  by_deaf Nodes = kept w.known _ w.expected w.room good.holds refl (λ listed whole. (listed, whole)) refl good.holds.placed
  by_deaf Pods = kept w.known _ w.expected w.room good.holds refl (λ listed whole. (listed, whole)) refl good.holds.placed

  by_hears : (kind : Kind) → Held' (hears w.known kind).state
  by_hears Nodes = kept w.known _ w.expected w.room good.holds refl (λ listed whole. (listed, whole)) refl good.holds.placed
  by_hears Pods = kept w.known _ w.expected w.room good.holds refl (λ listed whole. (listed, whole)) refl good.holds.placed

  by_begins : (kind : Kind) → Held' (list_begins w.known kind).state
  by_begins Nodes = by_test Held' (is_last w.known.of_nodes) _ _ (λ _. good.holds) (λ _. kept w.known (with_heard w.known Nodes (record w.known.of_nodes { lists = w.known.of_nodes.lists + 1; listing = true; fresh = true })) w.expected w.room good.holds refl (λ listed whole. (listed, whole)) refl good.holds.placed)
  by_begins Pods = by_test Held' (is_last w.known.of_pods) _ _ (λ _. good.holds) (λ _. kept w.known (with_heard w.known Pods (record w.known.of_pods { lists = w.known.of_pods.lists + 1; listing = true; fresh = w.known.rested })) w.expected w.room good.holds refl (λ listed whole. (listed, whole)) refl good.holds.placed)

  by_rested : Held' (record w.known { rested = true })
  by_rested = kept w.known (record w.known { rested = true }) w.expected w.room good.holds refl (λ listed whole. (listed, whole)) refl good.holds.placed

  by_end : (kind : Kind) (answer : Answer) → IsListEnd kind w.known answer w'.known → IsOwed w (ListEnds kind) → Held' w'.known
  by_end Nodes Told e owed = by_nodes_end w.expected w.room w.known w'.known good.holds e.ended
  by_end Pods Told e owed = by_pods_end w.expected w.room w.known w'.known good.holds e.ended (λ uid p there. owed.named uid p there) owed.placed
  by_end kind Old e owed = subst Held' (sym e.same) good.holds
  by_end kind Full e owed = subst Held' (sym e.same) good.holds
  by_end kind (Granted ticket) e owed = absurd e
  by_end kind Shut e owed = absurd e
  by_end kind NotWaiting e owed = absurd e
  by_end kind (Refused why) e owed = absurd e
  by_end kind ToRead e owed = absurd e

  by_reading : (uid : Name) (ticket : _) (said : Said) → IsOwed w (Read uid ticket said) → Held' (Rattle.ledger.specs.Telling.read w.known uid ticket said).state
  by_reading uid ticket SaidWaits owed = by_read w.expected w.room w.known good.holds uid ticket SaidWaits (λ k request is at. owed (k, request, is, at))
  by_reading uid ticket (SaidStands version node request) owed = by_read w.expected w.room w.known good.holds uid ticket (SaidStands version node request) (λ k r is at. owed (k, r, is, at))
  by_reading uid ticket SaidGone owed = by_read w.expected w.room w.known good.holds uid ticket SaidGone (λ k request is at. owed (k, request, is, at))

  by_told : (event : Event) (answer : Answer) → IsToldIn w event answer w' → IsGood w'
  by_told (ListBegins kind) answer t = carried t.standing t.room t.expected (after_told _ answer (by_begins kind) t.told)
  by_told (ListEnds kind) answer t = carried t.standing t.room t.expected (by_end kind answer t.told t.owed)
  by_told (Deaf kind) answer t = carried t.standing t.room t.expected (after_told _ answer (by_deaf kind) t.told)
  by_told (Hears kind) answer t = carried t.standing t.room t.expected (after_told _ answer (by_hears kind) t.told)
  by_told (Node version node) answer t = carried t.standing t.room t.expected (after_told _ answer (by_node w.expected w.room w.known good.holds version node t.owed) t.told)
  by_told (NodeGone name) answer t = carried t.standing t.room t.expected (after_told _ answer (by_node_gone w.expected w.room w.known good.holds name) t.told)
  by_told (PodWaits version uid request) answer t = carried t.standing t.room t.expected (after_told _ answer (by_waits w.expected w.room w.known good.holds version uid request) t.told)
  by_told (PodStands version uid node request) answer t = carried t.standing t.room t.expected (after_told _ answer (by_stands w.expected w.room w.known good.holds version uid node request t.owed) t.told)
  by_told (PodGone uid) answer t = carried t.standing t.room t.expected (after_told _ answer (by_gone w.expected w.room w.known good.holds uid t.owed) t.told)
  by_told (Withheld version uid) answer t = carried t.standing t.room t.expected (after_told _ answer (by_withheld w.expected w.room w.known good.holds version uid) t.told)
  by_told Unread answer t = carried t.standing t.room t.expected (after_told _ answer (short w.expected w.room w.known good.holds) t.told)
  by_told Rested answer t = carried t.standing t.room t.expected (after_told _ answer by_rested t.told)
  by_told (Answered uid ticket outcome) answer t = carried t.standing t.room t.expected (after_told _ answer (by_answer w.expected w.room w.known good.holds uid ticket outcome) t.told)
  by_told (Read uid ticket said) answer t = carried t.standing t.room t.expected (after_told _ answer (by_reading uid ticket said t.owed) t.told)
  by_told (Bind uid node) answer t =
      let both = by_bind w w' good uid node answer t.expected t.told in
      record {
        holds = subst (λ r. Holds w'.known w'.expected r) (sym t.room) both.0;
        roomy = λ node. subst (λ r. IsWithin (used w'.expected node) (r node)) (sym t.room) (both.1 node);
        within = λ v p there. both.2 v p (good.within v p (sym (ap (λ m. get m v) t.standing) ∙ there));
      }

-- ---- all that happens

-- with less expected, all stays in order
module _ (s : State) (expected fewer : Places) (room : List ℕ → Res) (less : (uid : Name) (p : Place) → get fewer uid ≡ Some p → get expected uid ≡ Some p) where
  fewer_held : Holds s expected room → Holds s fewer room
  fewer_held h = record {
    rows = h.rows;
    same = λ uid p q there is. h.same uid p q (less uid p there) is;
    covered = λ listed whole uid p there. h.covered listed whole uid p (less uid p there);
    placed = h.placed;
  }

  fewer_used : HasRoom expected room → HasRoom fewer room
  fewer_used roomy node = within_all _ _ _ (used_within fewer expected (λ uid p there. (p, less uid p there, same_itself p)) node) (roomy node)

-- what is left once a name is taken out was there
left_of : (m : Places) (uid v : Name) (p : Place) → get (remove m uid) v ≡ Some p → (get m v ≡ Some p) × (bytes_eq v uid ≡ false)
left_of m uid v p there = elim (cases_name v uid) [
  | inl here ↦ absurd (let both : Some p ≡ None = sym there ∙ ap (get (remove m uid)) here ∙ get_removed m uid in cc)
  | inr other ↦ (sym (out_away m uid v other.1) ∙ there, other.1)
]

module _ (w : World) (good : IsGood w) where
  good_as : (w' next : World) → w' ≡ next → IsGood next → IsGood w'
  good_as w' next is ordered = subst IsGood (sym is) ordered

  landed : (uid : Name) (p : Place) → get w.expected uid ≡ Some p → IsGood (record w { standing = insert w.standing uid p })
  landed uid p there = record {
    holds = good.holds;
    roomy = good.roomy;
    within = λ v q is. elim (cases_name v uid) [
      | inl here ↦ ap (get w.expected) here ∙ there ∙ (let both : Some p ≡ Some q = sym (put_here w.standing uid p) ∙ ap (get (insert w.standing uid p)) (sym here) ∙ is in both)
      | inr other ↦ good.within v q (sym (put_away w.standing uid p v other.1) ∙ is)
    ];
  }

  gone_from : (uid : Name) → IsGood (record w { standing = remove w.standing uid; expected = remove w.expected uid })
  gone_from uid = record {
    holds = fewer_held w.known w.expected (remove w.expected uid) w.room (λ v p there. (left_of w.expected uid v p there).0) good.holds;
    roomy = fewer_used w.known w.expected (remove w.expected uid) w.room (λ v p there. (left_of w.expected uid v p there).0) good.roomy;
    within = λ v p there. let was = left_of w.standing uid v p there in out_away w.expected uid v was.1 ∙ good.within v p was.0;
  }

  lapsed : (uid : Name) → get w.standing uid ≡ None → IsGood (record w { expected = remove w.expected uid })
  lapsed uid none = record {
    holds = fewer_held w.known w.expected (remove w.expected uid) w.room (λ v p there. (left_of w.expected uid v p there).0) good.holds;
    roomy = fewer_used w.known w.expected (remove w.expected uid) w.room (λ v p there. (left_of w.expected uid v p there).0) good.roomy;
    within = λ v p there. elim (cases_name v uid) [
      | inl here ↦ absurd (let both : Some p ≡ None = sym there ∙ ap (get w.standing) here ∙ none in cc)
      | inr other ↦ out_away w.expected uid v other.1 ∙ good.within v p there
    ];
  }

  grown : (room : List ℕ → Res) → ((node : Name) → IsWithin (w.room node) (room node)) → IsGood (record w { room = room })
  grown room more = record {
    holds = record {
      rows = λ name row is. within_all _ _ _ (good.holds.rows name row is) (more name);
      same = good.holds.same;
      covered = good.holds.covered;
      placed = good.holds.placed;
    };
    roomy = λ node. within_all _ _ _ (good.roomy node) (more node);
    within = good.within;
  }

  restarted : (limits : Limits) (pods : ℕ) → IsGood (record w { known = opening limits pods })
  restarted limits pods = record {
    holds = new_holds limits pods w.expected w.room;
    roomy = good.roomy;
    within = good.within;
  }

  pub moved : (move : Move) (w' : World) → IsMove w move w' → IsGood w'
  moved (Tells event answer) w' t = by_told w w' good event answer t
  moved (Lands uid) w' l = good_as w' _ l.after (landed uid l.place l.expected)
  moved (Ends uid) w' is = good_as w' _ is (gone_from uid)
  moved (Lapses uid) w' is = good_as w' _ is.1 (lapsed uid is.0)
  moved (Grows room) w' is = good_as w' _ is.1 (grown room is.0)
  moved (Restarts limits pods) w' is = good_as w' _ is (restarted limits pods)

-- a world at first
begun : (w : World) → IsBegin w → IsGood w
begun w b = record {
  holds = subst (λ s. Holds s w.expected w.room) (sym b.known) (new_holds b.limits b.pods w.expected w.room);
  roomy = b.roomy;
  within = b.within;
}

all_good : (w : World) (moves : List Move) (w' : World) → IsGood w → Leads w moves w' → IsGood w'
all_good w [] w' good is = subst IsGood is good
all_good w (move ∷ moves) w' good next = all_good next.0 moves w' (moved w good move next.0 next.1) next.2

pub never_over : (w : World) (moves : List Move) (w' : World) → IsBegin w → Leads w moves w' → (node : Name) → IsWithin (used w'.standing node) (w'.room node)
never_over w moves w' b leads node =
    let good = all_good w moves w' (begun w b) leads in
    within_all _ _ _ (used_within w'.standing w'.expected (λ uid p there. (p, good.within uid p there, same_itself p)) node) (good.roomy node)
