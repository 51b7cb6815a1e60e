-- How many pods wait in flight: as many as entries in flight that have no assumed place.
use Rattle.std.proofs.Common.{◌≡◌, ℕ, ◌+◌, Bool, true, false, cond, if◌then◌else◌, List, [], ◌∷◌, map, Option, None, Some, is_some, sum_by, refl, sym, ap, subst, ◌∙◌, arith}
use Rattle.std.specs.Prelude.{count_by}
use Rattle.std.specs.List.{AllByRecursion}
use Rattle.std.specs.Str.{bytes_eq}
use Rattle.std.specs.Cmp.Lexicographic.{nat_list_cmp_total}
use Rattle.std.specs.Map.{values_of}
use Rattle.std.specs.FinMap as fin
use Rattle.std.specs.FinMap.{FinMap}
use Rattle.std.specs.FinMap.Entries.{below_all}
use Rattle.std.proofs.lemmas.List.Sums.{sum_by-cons}
use Rattle.quant.specs.declared.name.Name.{Name}
use Rattle.queued.specs.Entry.{Entry as QueueEntry, is_in_flight}
use Rattle.queue.specs.Order.{Item}
use Rattle.queue.specs.Queue.{entry_of, counts_of}
use Rattle.book.specs.declared.place.Place.{Place}
use Rattle.book.specs.declared.place.Status.{Status}
use Rattle.book.specs.declared.place.Status.TheVariants.{Assumed, Bound}
use Rattle.book.specs.Cluster.{name_cmp}
use Rattle.book.specs.Step.{is_bound}
use Rattle.book.specs.Used.{assumed, assumed_in}
use Rattle.book.proofs.Put.{both_true}
use Rattle.book.proofs.RowLemmas.{true_of}
use Rattle.book.proofs.TableLemmas.{same_test, test_turned}
use Rattle.book.proofs.SumLemmas.{of_option, remove_absent, sum_remove}
use Rattle.desk.specs.Machine.{State, opening, counts}
use Rattle.desk.specs.History.{state_after}
use Rattle.desk.specs.Laws.{InFlightIsUnanswered, holder, holder_of, waiting_for}
use Rattle.desk.proofs.Calm.{absent_below, each_found}
use Rattle.desk.proofs.Standing.{Fits, flight_of, flight_at, flies, hold_of, stands_after, unanswered_waits}

-- ---- a sum over the values of a map, by the names of another

-- a list of nothings adds up to nothing
no_sum : {X : Type 0} (number : X → ℕ) (es : List (Name × X)) → AllByRecursion (λ n. n ≡ 0) (map (λ e. number e.1) es) → sum_by number (values_of es) ≡ 0
no_sum number [] none = refl
no_sum number (e ∷ es) none = omega (arith, sum_by-cons number e.1 (values_of es), none.0, no_sum number es none.1)

module _ {X : Type 0} (number : X → ℕ) where
  -- a map that has nothing that counts adds up to nothing
  empty_sum : (m : FinMap name_cmp X) → ((q : Name) → of_option number (fin.get m q) ≡ 0) → sum_by number (fin.values m) ≡ 0
  empty_sum m none =
      no_sum number (fin.entries m)
      (each_found (λ n. n ≡ 0) (λ e. number e.1) (fin.entries m) (true_of _ (fin.entries_sorted m))
      (λ x is. ap (of_option number) (sym (fin.get-entries m x.0 ∙ is)) ∙ none x.0))

  -- what is at a name, and what the map adds up to without it
  sum_without : (m : FinMap name_cmp X) (k : Name) → sum_by number (fin.values m) ≡ of_option number (fin.get m k) + sum_by number (fin.values (fin.remove m k))
  sum_without m k = by (fin.get m k) refl
    where
      by : (o : Option X) → fin.get m k ≡ o → sum_by number (fin.values m) ≡ of_option number o + sum_by number (fin.values (fin.remove m k))
      by None is = omega (arith, ap (λ t. sum_by number (fin.values t)) (remove_absent m k is))
      by (Some x) is = omega (arith, sum_remove m k number x is)

-- what is read at a name once another was taken out
read_without : {X : Type 0} (m : FinMap name_cmp X) (k q : Name) → fin.get (fin.remove m k) q ≡ cond (bytes_eq q k) None (fin.get m q)
read_without m k q = fin.get-remove nat_list_cmp_total m k q ∙ ap (λ b. cond b None (fin.get m q)) (same_test q k)

-- a list in order begins with a name below all others, and goes on in order
in_order : {Y : Type 0} (e : Name × Y) (es : List (Name × Y)) → fin.is_sorted name_cmp (e ∷ es) ≡ true → (below_all name_cmp e.0 es ≡ true) × (fin.is_sorted name_cmp es ≡ true)
in_order e es sorted = both_true _ _ sorted

module _ {X Y : Type 0} (number : X → ℕ) where
  -- what a map has at the names of a list, added up
  abbrev pub sum_at : FinMap name_cmp X → List (Name × Y) → ℕ
  sum_at m es = sum_by (λ e. of_option number (fin.get m e.0)) es

  -- to take out a name that isn't in the list changes nothing there
  sum_beside : (m : FinMap name_cmp X) (k : Name) (es : List (Name × Y)) → fin.find name_cmp k es ≡ None → sum_at (fin.remove m k) es ≡ sum_at m es
  sum_beside m k [] none = refl
  sum_beside m k (e ∷ es) none = by (bytes_eq k e.0) refl (sum_beside m k es) (sym (ap (λ b. cond b (Some e.1) (fin.find name_cmp k es)) (same_test k e.0)) ∙ none)
    where
      by : (b : Bool) → bytes_eq k e.0 ≡ b → (fin.find name_cmp k es ≡ None → sum_at (fin.remove m k) es ≡ sum_at m es)
          → cond (bytes_eq k e.0) (Some e.1) (fin.find name_cmp k es) ≡ None → sum_at (fin.remove m k) (e ∷ es) ≡ sum_at m (e ∷ es)
      by true same later none =
          let no : Some e.1 ≡ None = sym (ap (λ b. cond b (Some e.1) (fin.find name_cmp k es)) same) ∙ none in
          absurd (cc)
      by false other later none =
          let rest : fin.find name_cmp k es ≡ None = sym (ap (λ b. cond b (Some e.1) (fin.find name_cmp k es)) other) ∙ none in
          let read : fin.get (fin.remove m k) e.0 ≡ fin.get m e.0 = read_without m k e.0 ∙ ap (λ b. cond b None (fin.get m e.0)) (test_turned e.0 k ∙ other) in
          omega (arith, sum_by-cons (λ (x : Name × Y). of_option number (fin.get (fin.remove m k) x.0)) e es, sum_by-cons (λ (x : Name × Y). of_option number (fin.get m x.0)) e es, ap (of_option number) read, later rest)

  -- where a list has each name at which a map has something that counts, the map adds up to what it
  -- has at the list's names
  pub sum_names : (es : List (Name × Y)) → fin.is_sorted name_cmp es ≡ true → (m : FinMap name_cmp X) → ((q : Name) → fin.find name_cmp q es ≡ None → of_option number (fin.get m q) ≡ 0) → sum_at m es ≡ sum_by number (fin.values m)
  sum_names [] sorted m only = sym (empty_sum number m (λ q. only q refl))
  sum_names (e ∷ es) sorted m only =
      let beside : sum_at (fin.remove m e.0) es ≡ sum_at m es = sum_beside m e.0 es (absent_below e.0 es (in_order e es sorted).0) in
      let others : sum_at (fin.remove m e.0) es ≡ sum_by number (fin.values (fin.remove m e.0)) =
      sum_names es (in_order e es sorted).1 (fin.remove m e.0) (λ q none. ap (of_option number) (read_without m e.0 q) ∙ left q none (bytes_eq q e.0) refl) in
      omega (arith, sum_by-cons (λ (x : Name × Y). of_option number (fin.get m x.0)) e es, sum_without number m e.0, beside, others)
    where
      left : (q : Name) → fin.find name_cmp q es ≡ None → (b : Bool) → bytes_eq q e.0 ≡ b → of_option number (cond b None (fin.get m q)) ≡ 0
      left q none true same = refl
      left q none false other = only q (ap (λ b. cond b (Some e.1) (fin.find name_cmp q es)) (same_test q e.0 ∙ other) ∙ none)

-- ---- entries in flight

-- 1 for true
abbrev one_if : Bool → ℕ
one_if b = cond b 1 0

-- the pass that a pod waits for, by its entry and its place
abbrev waits : Option QueueEntry → Option Place → Option ℕ
waits entry place = if is_some place then None else holder_of entry

-- 1 for an assumed place
abbrev chosen : Option Place → ℕ
chosen place = of_option (λ (p : Place). assumed_in p.status) place

-- an entry in flight waits or has an assumed place
flight_parts : (entry : QueueEntry) (place : Option Place) → Fits (flight_of (Some entry)) (hold_of place) → one_if (is_in_flight entry.state) ≡ one_if (is_some (waits (Some entry) place)) + chosen place
flight_parts entry None h = omega (arith, ap one_if (flies entry.state))
flight_parts entry (Some place) h = by place.status h
  where
    by : (status : Status) → Fits (Some (holder entry.state)) (Some (is_bound status)) → one_if (is_in_flight entry.state) ≡ 0 + assumed_in status
    by (Assumed ticket finished) h =
        let up : holder entry.state ≡ Some h.0 = let is = h.1 in cc in
        omega (arith, ap one_if (flies entry.state), ap (λ (o : Option ℕ). one_if (is_some o)) up)
    by Bound h = absurd (cc)

module _ (s : State) (fits : (uid : Name) → Fits (flight_at s.queue uid) (hold_of (fin.get s.cluster.places uid))) where
  -- an entry that stands under its uid
  item_parts : (item : Item) → entry_of s.queue item.0 ≡ Some item.1
      → one_if (is_in_flight item.1.state) ≡ one_if (is_some (waiting_for s item.0)) + chosen (fin.get s.cluster.places item.0)
  item_parts item is =
      flight_parts item.1 (fin.get s.cluster.places item.0) (subst (λ o. Fits (flight_of o) (hold_of (fin.get s.cluster.places item.0))) is (fits item.0))
      ∙ ap (λ o. one_if (is_some (waits o (fin.get s.cluster.places item.0))) + chosen (fin.get s.cluster.places item.0)) (sym is)

  -- all of them
  abbrev Parts : Item → Type 0
  Parts item = one_if (is_in_flight item.1.state) ≡ one_if (is_some (waiting_for s item.0)) + chosen (fin.get s.cluster.places item.0)

  sum_parts : (items : List Item) → AllByRecursion Parts (map (λ item. item) items)
      → count_by (λ (e : QueueEntry). is_in_flight e.state) (values_of items) ≡ count_by (λ (item : Item). is_some (waiting_for s item.0)) items + sum_at (λ (p : Place). assumed_in p.status) s.cluster.places items
  sum_parts [] each = refl
  sum_parts (item ∷ items) each =
      omega (
        arith,
        sum_by-cons (λ (e : QueueEntry). one_if (is_in_flight e.state)) item.1 (values_of items),
        sum_by-cons (λ (x : Item). one_if (is_some (waiting_for s x.0))) item items,
        sum_by-cons (λ (x : Item). of_option (λ (p : Place). assumed_in p.status) (fin.get s.cluster.places x.0)) item items,
        each.0,
        sum_parts items each.1,
      )

  -- a pod without an entry has no assumed place
  no_entry : (place : Option Place) → Fits None (hold_of place) → chosen place ≡ 0
  no_entry None h = refl
  no_entry (Some place) h = by place.status h
    where
      by : (status : Status) → Fits None (Some (is_bound status)) → assumed_in status ≡ 0
      by (Assumed ticket finished) h = absurd (cc)
      by Bound h = refl

  -- the entries in flight are those that wait and as many as places are assumed
  flight_sum : (counts_of s.queue).in_flight ≡ count_by (λ (item : Item). is_some (waiting_for s item.0)) (fin.entries s.queue.entries) + assumed s.cluster.places
  unfolding counts_of
  flight_sum =
      let items = fin.entries s.queue.entries in
      let sorted = true_of _ (fin.entries_sorted s.queue.entries) in
      sum_parts items (each_found Parts (λ item. item) items sorted (λ item is. item_parts item (fin.get-entries s.queue.entries item.0 ∙ is)))
      ∙ ap (λ n. count_by (λ (item : Item). is_some (waiting_for s item.0)) items + n)
      (sum_names (λ (p : Place). assumed_in p.status) items sorted s.cluster.places (λ q none.
      no_entry (fin.get s.cluster.places q) (subst (λ o. Fits (flight_of o) (hold_of (fin.get s.cluster.places q))) (fin.get-entries s.queue.entries q ∙ none) (fits q))))

  pub waiting_count : (counts s).in_flight ≡ count_by (λ (item : Item). is_some (waiting_for s item.0)) (fin.entries s.queue.entries)
  waiting_count = omega (arith, flight_sum)

  -- and none is lost where they are taken off
  pub all_counted : (counts_of s.queue).in_flight ≡ (counts s).in_flight + (counts s).assumed
  all_counted = omega (arith, flight_sum)

pub in_flight_is_unanswered : InFlightIsUnanswered
in_flight_is_unanswered limits passes l legal = record {
  which = unanswered_waits limits l legal.history.answered;
  count = waiting_count (state_after (opening limits) l) (λ uid. (stands_after limits l legal.history.answered uid).fits);
  all = all_counted (state_after (opening limits) l) (λ uid. (stands_after limits l legal.history.answered uid).fits);
}
