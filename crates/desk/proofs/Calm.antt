-- In a calm history no node has more used than it has.
use Rattle.std.proofs.Common.{◌≡◌, ℕ, ◌+◌, ◌≤◌, Bool, true, false, cond, not, ◌||◌, ◌&&◌, ◌==◌, nat_le, if◌then◌else◌, List, [], ◌∷◌, ◌++◌, map, Option, None, Some, unwrap_or, Result, Ok, Err, is_ok, refl, sym, ap, subst, ◌∙◌, arith}
use Rattle.std.specs.Bool.{IsTrue}
use Rattle.std.specs.List.{All, AllByRecursion, list_any}
use Rattle.std.proofs.lemmas.Bool.{eqb-true, leb-true}
use Rattle.std.proofs.lemmas.List.Elements.{All-from_recursion, recursion_from_All}
use Rattle.std.specs.Option.{option_or}
use Rattle.std.specs.Str.{bytes_eq}
use Rattle.std.specs.Cmp.Lexicographic.{nat_list_cmp_total, bytes_decides}
use Rattle.std.specs.Ordering.{is_eq, eq_by_cmp}
use Rattle.std.specs.FinMap.Entries.{below_all}
use Rattle.std.specs.FinMap as fin
use Rattle.quant.specs.declared.event.Event.TheVariants.{NodeSet, NodeGone, PodPending, PodBound, PodGone}
use Rattle.quant.specs.declared.amount.Moment.{Moment}
use Rattle.quant.specs.declared.amount.Res.{Res}
use Rattle.quant.specs.declared.amount.Request.{Request}
use Rattle.quant.specs.declared.name.Name.{Name}
use Rattle.quant.specs.declared.objects.Node.{Node}
use Rattle.queue.specs.Queue.{has_entry, after_add, after_fail, after_forget, after_remove}
use Rattle.desk.specs.declared.step.Reply.TheVariants as replies
use Rattle.fit.specs.Fit.{fit_of, has_room}
use Rattle.fit.specs.declared.room.Shortage.{Shortage}
use Rattle.fit.specs.declared.room.Shortage.TheVariants as shortages
use Rattle.book.specs.declared.limits.Limits.{Limits}
use Rattle.book.specs.declared.place.Place.{Place}
use Rattle.book.specs.declared.place.Status.{Status}
use Rattle.book.specs.declared.place.Status.TheVariants.{Assumed, Bound}
use Rattle.book.specs.declared.refusal.Refusal.{Refusal}
use Rattle.book.specs.declared.refusal.Refusal.TheVariants as refusals
use Rattle.book.specs.declared.step.ClusterStep.TheVariants as cluster
use Rattle.book.specs.declared.entry.Entry.{Entry}
use Rattle.book.specs.Cluster.{name_cmp, Places}
use Rattle.book.specs.Expiry.{is_expired, unexpired}
use Rattle.book.specs.Step as book_step
use Rattle.book.specs.Step.{with_choice, with_finished, next_ticket, finished_status, is_gone, is_queued, is_placed, is_held, is_there, fits_now, are_tickets_gone}
use Rattle.book.specs.Tables.{is_full_for}
use Rattle.book.specs.Totals.{IsWithin}
use Rattle.book.specs.Used.{share, used, used_by, nothing}
use Rattle.book.proofs.Put.{both_true, less_of}
use Rattle.book.proofs.RowLemmas.{true_of, same_name}
use Rattle.book.proofs.TableLemmas.{same_test}
use Rattle.book.proofs.SumLemmas.{of_option, entries_empty, remove_absent, sum_insert, sum_remove}
use Rattle.desk.specs.declared.step.Step.{Step}
use Rattle.desk.specs.declared.step.Step.TheVariants.{Event, Pop, Assume, BindDone, Forget, Fail, Tick, Count}
use Rattle.desk.specs.Machine.{State, Outcome, opening, unless, step, reply, snapshot, of_node, of_pod, moved, moved_if_placed, entry_at, pass_number, refusal_to_fail, refusal_to_tick, ticked_to}
use Rattle.desk.specs.History.{Call, AreAnswered, state_after, is_accepted, last_said, accepted, row_in, row_of, place_of}
use Rattle.desk.specs.inside.History.{Leaves}
use Rattle.desk.specs.inside.Caller.{Core}
use Rattle.desk.specs.Calm.{IsCalm, IsCalmStep, HasRoom}
use Rattle.desk.proofs.Histories.{state_more, append_nil}
use Rattle.desk.proofs.Deciding.{first_five, not_false}
use Rattle.desk.proofs.Expiring.{tied, key_of, get_unexpired}
use Rattle.desk.proofs.Steps.{done_by}
use Rattle.desk.proofs.Readings.{row_is, place_is}
use Rattle.desk.proofs.Fair.{together, said_more, accepted_says, named_says, answered_part, answered_next, held_and_fits, fits_on}

-- ---- the rows that a history tells of a node

-- what a call tells of a node's row is within these amounts
abbrev pub Covered : Name → Res → Call → Type 0
Covered n most c = (row : Node) → accepted (row_in n) c ≡ Some (Some row) → IsWithin row.allocatable most

-- what each call tells is
abbrev pub Covers : List Call → Name → Res → Type 0
Covers l n most = AllByRecursion (Covered n most) l

covers_before : (l : List Call) (c : Call) (n : Name) (most : Res) → Covers (l ++ c ∷ []) n most → Covers l n most
covers_before [] c n most h = tt
covers_before (d ∷ l) c n most h = (h.0, covers_before l c n most h.1)

covers_more : (l : List Call) (c : Call) (n : Name) (most : Res) → Covers l n most → Covered n most c → Covers (l ++ c ∷ []) n most
covers_more [] c n most h one = (one, tt)
covers_more (d ∷ l) c n most h one = (h.0, covers_more l c n most h.1 one)

-- the last row that is told of a node is within what covers all
last_covered : (l : List Call) (n : Name) (row : Node) → last_said (accepted (row_in n)) l ≡ Some (Some row) → (most : Res) → Covers l n most → IsWithin row.allocatable most
last_covered [] n row e most h = absurd (cc)
last_covered (c ∷ l) n row e most h = by (last_said (accepted (row_in n)) l) (λ is. last_covered l n row is most h.1) e
  where
    by : (o : Option (Option Node)) → (o ≡ Some (Some row) → IsWithin row.allocatable most) → option_or o (accepted (row_in n) c) ≡ Some (Some row) → IsWithin row.allocatable most
    by None earlier e = h.0 row e
    by (Some x) earlier e = earlier e

-- a calm step that tells a row keeps the node's room
row_kept : (before : List Call) (n : Name) (e : Step) (row : Node) → row_in n e ≡ Some (Some row) → IsCalmStep before e → All (Covered n row.allocatable) before
row_kept before n (Event (NodeSet version node)) row told calm =
    let said = named_says node.name n (Some node) (Some row) told in
    let same : node ≡ row = cc in
    subst (λ (x : Node). All (Covered n x.allocatable) before) same (subst (λ m. All (Covered m node.allocatable) before) said.0 calm)
row_kept before n (Event (NodeGone version name)) row told calm = let said = named_says name n None (Some row) told in absurd (cc)
row_kept before n _ row told calm = absurd (cc)

-- the last row of a node covers all that were told of it
abbrev IsTop : List Call → Name → Type 0
IsTop l n = (row : Node) → last_said (accepted (row_in n)) l ≡ Some (Some row) → Covers l n row.allocatable

within_itself : (a : Res) → IsWithin a a
within_itself a = record { cpu = omega arith; mem = omega arith; pods = omega arith }

accepted_is : {X : Type 0} (b : Bool) (o : Option X) (x : X) → (if b then o else None) ≡ Some x → IsTrue b
accepted_is true o x e = refl
accepted_is false o x e = absurd (cc)

top_more : (before : List Call) (c : Call) (n : Name) → (IsTrue (is_accepted c.reply) → IsCalmStep before c.step) → IsTop before n → IsTop (before ++ c ∷ []) n
top_more before c n calm top row told = by (accepted (row_in n) c) refl (sym (said_more (accepted (row_in n)) before c) ∙ told)
  where
    by : (o : Option (Option Node)) → accepted (row_in n) c ≡ o → option_or o (last_said (accepted (row_in n)) before) ≡ Some (Some row) → Covers (before ++ c ∷ []) n row.allocatable
    by None says e = covers_more before c n row.allocatable (top row e) (λ other is. let no : Some (Some other) ≡ None = sym is ∙ says in absurd (cc))
    by (Some x) says e =
        let here : accepted (row_in n) c ≡ Some (Some row) = says ∙ e in
        covers_more before c n row.allocatable
        (recursion_from_All (Covered n row.allocatable) before (row_kept before n c.step row (accepted_says (is_accepted c.reply) (row_in n c.step) (Some row) here) (calm (accepted_is (is_accepted c.reply) (row_in n c.step) (Some row) here))))
        (λ other is. let both : Some (Some other) ≡ Some (Some row) = sym is ∙ here in let same : row ≡ other = cc in subst (λ (x : Node). IsWithin x.allocatable row.allocatable) same (within_itself row.allocatable))

module _ (l : List Call) (calm : IsCalm l) (n : Name) where
  top_from : (before later : List Call) → l ≡ before ++ later → IsTop before n → IsTop l n
  top_from before [] e h = subst (λ k. IsTop k n) (sym (e ∙ append_nil before)) h
  top_from before (c ∷ later) e h = top_from (before ++ c ∷ []) later (e ∙ together before later c) (top_more before c n (calm before later c e) h)

  pub top_of : IsTop l n
  top_of = top_from [] l refl (λ row told. tt)

-- ---- what is used, after a change of one place

module _ (m : Places) (k n : Name) where
  -- a place with the same node and request counts the same
  used_same : (old new : Place) → fin.get m k ≡ Some old → new.node ≡ old.node → new.request ≡ old.request → (most : Res) → IsWithin (used m n) most → IsWithin (used (fin.insert m k new) n) most
  used_same old new there node request most h =
      let shares : share n new ≡ share n old = λ i. if bytes_eq (node i) n then record { cpu = (request i).cpu; mem = (request i).mem; pods = 1 } else nothing in
      record {
        cpu = omega (arith, sum_insert (λ place. (share n place).cpu.0) m k new, ap (of_option (λ place. (share n place).cpu.0)) there, ap (λ (r : Res). r.cpu.0) shares, h.cpu);
        mem = omega (arith, sum_insert (λ place. (share n place).mem.0) m k new, ap (of_option (λ place. (share n place).mem.0)) there, ap (λ (r : Res). r.mem.0) shares, h.mem);
        pods = omega (arith, sum_insert (λ place. (share n place).pods) m k new, ap (of_option (λ place. (share n place).pods)) there, ap (λ (r : Res). r.pods) shares, h.pods);
      }

  -- a place that goes uses no more
  used_less : (most : Res) → IsWithin (used m n) most → IsWithin (used (fin.remove m k) n) most
  used_less most h = by (fin.get m k) refl
    where
      by : (o : Option Place) → fin.get m k ≡ o → IsWithin (used (fin.remove m k) n) most
      by None is = subst (λ ps. IsWithin (used ps n) most) (sym (remove_absent m k is)) h
      by (Some old) is = record {
        cpu = omega (arith, sum_remove m k (λ place. (share n place).cpu.0) old is, h.cpu);
        mem = omega (arith, sum_remove m k (λ place. (share n place).mem.0) old is, h.mem);
        pods = omega (arith, sum_remove m k (λ place. (share n place).pods) old is, h.pods);
      }

-- places without those of some names whose test passes
abbrev without : (Name → Bool) → List Name → Places → Places
without test [] m = m
without test (k ∷ ks) m = cond (test k) (fin.remove (without test ks m) k) (without test ks m)

-- nothing either way
none_twice : (b : Bool) (o : Option Place) → cond (b && false) None o ≡ o
none_twice true o = refl
none_twice false o = refl

get_without : (test : Name → Bool) (ks : List Name) (m : Places) (q : Name) → fin.get (without test ks m) q ≡ cond (list_any (eq_by_cmp name_cmp q) ks && test q) None (fin.get m q)
get_without test [] m q = refl
get_without test (k ∷ ks) m q = by (test k) refl (eq_by_cmp name_cmp q k) refl (get_without test ks m q)
  where
    among : Bool
    among = list_any (eq_by_cmp name_cmp q) ks

    by : (t : Bool) → test k ≡ t → (b : Bool) → eq_by_cmp name_cmp q k ≡ b → fin.get (without test ks m) q ≡ cond (among && test q) None (fin.get m q)
        → fin.get (cond t (fin.remove (without test ks m) k) (without test ks m)) q ≡ cond ((b || among) && test q) None (fin.get m q)
    by true goes true same rest =
        fin.get-remove nat_list_cmp_total (without test ks m) k q ∙ ap (λ b. cond b None (fin.get (without test ks m) q)) same
        ∙ ap (λ b. cond b None (fin.get m q)) (sym (ap test (tied q k same) ∙ goes))
    by true goes false other rest = fin.get-remove nat_list_cmp_total (without test ks m) k q ∙ ap (λ b. cond b None (fin.get (without test ks m) q)) other ∙ rest
    by false stays true same rest =
        let no : test q ≡ false = ap test (tied q k same) ∙ stays in
        rest ∙ ap (λ b. cond (among && b) None (fin.get m q)) no ∙ none_twice among (fin.get m q) ∙ ap (λ b. cond b None (fin.get m q)) (sym no)
    by false stays false other rest = rest

-- what isn't there uses no more
without_less : (test : Name → Bool) (ks : List Name) (m : Places) (n : Name) (most : Res) → IsWithin (used m n) most → IsWithin (used (without test ks m) n) most
without_less test [] m n most h = h
without_less test (k ∷ ks) m n most h = by (test k) (without_less test ks m n most h)
  where
    by : (t : Bool) → IsWithin (used (without test ks m) n) most → IsWithin (used (cond t (fin.remove (without test ks m) k) (without test ks m)) n) most
    by true rest = used_less (without test ks m) k n most rest
    by false rest = rest

-- the places that don't expire use no more than all
unexpired_less : (m : Places) (now : Moment) (n : Name) (most : Res) → IsWithin (used m n) most → IsWithin (used (unexpired m now) n) most
unexpired_less m now n most h =
    subst (λ ps. IsWithin (used ps n) most)
    (fin.same_map nat_list_cmp_total same_name (without (is_expired m now) (fin.keys m) m) (unexpired m now) (λ q.
    get_without (is_expired m now) (fin.keys m) m q ∙ by q (is_expired m now q) refl ∙ sym (get_unexpired m now q)))
    (without_less (is_expired m now) (fin.keys m) m n most h)
  where
    by : (q : Name) (b : Bool) → is_expired m now q ≡ b → cond (list_any (eq_by_cmp name_cmp q) (fin.keys m) && is_expired m now q) None (fin.get m q) ≡ cond (is_expired m now q) None (fin.get m q)
    by q true is = ap (λ b. cond (b && is_expired m now q) None (fin.get m q)) (key_of m now q is)
    by q false is = ap (λ b. cond (list_any (eq_by_cmp name_cmp q) (fin.keys m) && b) None (fin.get m q)) is ∙ none_twice (list_any (eq_by_cmp name_cmp q) (fin.keys m)) (fin.get m q) ∙ ap (λ b. cond b None (fin.get m q)) (sym is)

room_left : (allocatable before asked : ℕ) → has_room allocatable before asked ≡ true → (most new : ℕ) → allocatable ≤ most → before ≤ most → new ≤ before + asked → new ≤ most
room_left allocatable before asked h most new a b c = by (asked == 0) refl h
  where
    by : (t : Bool) → (asked == 0) ≡ t → (t || nat_le (before + asked) allocatable) ≡ true → new ≤ most
    by true none h = omega (arith, eqb-true asked 0 none, b, c)
    by false none h = omega (arith, leb-true (before + asked) allocatable h, a, c)

-- what three tests tell
abbrev by_parts : Bool → Bool → Bool → Result (Unit {0}) Shortage
by_parts x y z = if x then (if y then (if z then Ok tt else Err shortages.Pods) else Err shortages.Memory) else Err shortages.Cpu

all_parts : (x y z : Bool) → is_ok (by_parts x y z) ≡ true → (x ≡ true) × (y ≡ true) × (z ≡ true)
all_parts true true true h = (refl, refl, refl)
all_parts true true false h = absurd (cc)
all_parts true false z h = absurd (cc)
all_parts false y z h = absurd (cc)

-- where a pod fits there is room for each amount that it asks
fit_parts : (allocatable before : Res) (request : Request) → fit_of allocatable before request ≡ Ok tt
    → (has_room allocatable.cpu.0 before.cpu.0 request.cpu.0 ≡ true) × (has_room allocatable.mem.0 before.mem.0 request.mem.0 ≡ true) × (has_room allocatable.pods before.pods 1 ≡ true)
unfolding fit_of
fit_parts allocatable before request h = all_parts (has_room allocatable.cpu.0 before.cpu.0 request.cpu.0) (has_room allocatable.mem.0 before.mem.0 request.mem.0) (has_room allocatable.pods before.pods 1) (ap is_ok h)

module _ (m : Places) (k n node : Name) (request : Request) (status : Status) (row : Node) (fits : fit_of row.allocatable (used m node) request ≡ Ok tt) where
  -- a place where its pod fits stays within what covers the node's row
  used_fitting : (most : Res) → (node ≡ n → IsWithin row.allocatable most) → IsWithin (used m n) most → IsWithin (used (fin.insert m k (record { node = node; request = request; status = status })) n) most
  used_fitting most covered h = by (bytes_eq node n) refl
    where
      new : Place
      new = record { node = node; request = request; status = status }

      by : (b : Bool) → bytes_eq node n ≡ b → IsWithin (used (fin.insert m k new) n) most
      by true is =
          let same : node ≡ n = (bytes_decides node n).0 is in
          let parts = fit_parts row.allocatable (used m n) request (subst (λ q. fit_of row.allocatable (used m q) request ≡ Ok tt) same fits) in
          let shares : share n new ≡ record { cpu = request.cpu; mem = request.mem; pods = 1 } = ap (λ b. if b then record { cpu = request.cpu; mem = request.mem; pods = 1 } else nothing) is in
          let most_row = covered same in
          record {
            cpu = room_left row.allocatable.cpu.0 (used m n).cpu.0 request.cpu.0 parts.0 most.cpu.0 (used (fin.insert m k new) n).cpu.0 most_row.cpu h.cpu (omega (arith, sum_insert (λ place. (share n place).cpu.0) m k new, ap (λ (r : Res). r.cpu.0) shares));
            mem = room_left row.allocatable.mem.0 (used m n).mem.0 request.mem.0 parts.1 most.mem.0 (used (fin.insert m k new) n).mem.0 most_row.mem h.mem (omega (arith, sum_insert (λ place. (share n place).mem.0) m k new, ap (λ (r : Res). r.mem.0) shares));
            pods = room_left row.allocatable.pods (used m n).pods 1 parts.2 most.pods (used (fin.insert m k new) n).pods most_row.pods h.pods (omega (arith, sum_insert (λ place. (share n place).pods) m k new, ap (λ (r : Res). r.pods) shares));
          }
      by false is =
          let shares : share n new ≡ nothing = ap (λ b. if b then record { cpu = request.cpu; mem = request.mem; pods = 1 } else nothing) is in
          record {
            cpu = omega (arith, sum_insert (λ place. (share n place).cpu.0) m k new, ap (λ (r : Res). r.cpu.0) shares, h.cpu);
            mem = omega (arith, sum_insert (λ place. (share n place).mem.0) m k new, ap (λ (r : Res). r.mem.0) shares, h.mem);
            pods = omega (arith, sum_insert (λ place. (share n place).pods) m k new, ap (λ (r : Res). r.pods) shares, h.pods);
          }

-- ---- what is used, after a history

-- of each node no more is used than what covers all its rows
abbrev pub IsBounded : List Call → Places → Type 0
IsBounded l places = (n : Name) (most : Res) → Covers l n most → IsWithin (used places n) most

module _ (s : State) (before : List Call) (bounded : IsBounded before s.cluster.places) (rows : (n : Name) → fin.get s.cluster.nodes n ≡ row_of before n) (placed : (uid : Name) → fin.get s.cluster.places uid ≡ place_of before uid) where
  unless_bounded : (o : Option Refusal) (done : Outcome) → (o ≡ None → IsBounded before done.state.cluster.places) → IsBounded before (unless o s done).state.cluster.places
  unless_bounded None done h = h refl
  unless_bounded (Some why) done h = bounded

  row_said : (n : Name) (row : Node) → fin.get s.cluster.nodes n ≡ Some row → last_said (accepted (row_in n)) before ≡ Some (Some row)
  row_said n row e = by (last_said (accepted (row_in n)) before) refl (sym (rows n) ∙ e)
    where
      by : (o : Option (Option Node)) → last_said (accepted (row_in n)) before ≡ o → unwrap_or o None ≡ Some row → last_said (accepted (row_in n)) before ≡ Some (Some row)
      by None is e = absurd (cc)
      by (Some x) is e = is ∙ ap Some e

  chosen_bounded : (pass : ℕ) (uid node : Name) → book_step.refusal s.cluster (cluster.Assume uid node (entry_at s pass uid)) ≡ None → IsBounded before (with_choice s.cluster uid node (entry_at s pass uid)).places
  chosen_bounded pass uid node none n most covers =
      let c = s.cluster in
      let entry = entry_at s pass uid in
      let passed = first_five (is_gone c uid (is_queued entry)) (is_placed c uid) (not (is_held entry)) (not (is_there c node)) (not (fits_now c node entry)) refusals.Gone refusals.Placed refusals.NotInFlight refusals.NoNode refusals.NoRoom
      ((is_full_for c.places c.limits.placed uid || are_tickets_gone c, refusals.Full) ∷ []) none in
      let held = held_and_fits c node entry (not_false (is_held entry) passed.0) (not_false (fits_now c node entry) passed.2) in
      let fits = fits_on c node held.0 (fin.get c.nodes node) held.2 in
      subst (λ (x : Entry). IsWithin (used (with_choice c uid node x).places n) most) (sym held.1)
      (used_fitting c.places uid n node held.0 (Assumed (next_ticket c) None) fits.0 fits.2 most
      (λ is. last_covered before n fits.0 (row_said n fits.0 (subst (λ q. fin.get c.nodes q ≡ Some fits.0) is fits.1)) most covers)
      (bounded n most covers))

  finished_bounded : (uid : Name) (o : Option Place) → fin.get s.cluster.places uid ≡ o → IsBounded before (with_finished s.cluster uid s.clock o).places
  finished_bounded uid None is n most covers = bounded n most covers
  finished_bounded uid (Some place) is n most covers =
      used_same s.cluster.places uid n place (record { node = place.node; request = place.request; status = finished_status s.clock place.status }) is refl refl most (bounded n most covers)

  step_bounded : (pass : ℕ) (e : Step) → (IsTrue (is_accepted (reply s pass e)) → IsCalmStep before e) → IsBounded before (step s pass e).state.cluster.places
  step_bounded pass (Event (NodeSet version node)) calm = unless_bounded (book_step.refusal s.cluster (of_node s (NodeSet version node))) (done_by s (of_node s (NodeSet version node)) (moved s s.queue)) (λ none. bounded)
  step_bounded pass (Event (NodeGone version name)) calm = unless_bounded (book_step.refusal s.cluster (of_node s (NodeGone version name))) (done_by s (of_node s (NodeGone version name)) s.queue) (λ none. bounded)
  step_bounded pass (Event (PodPending version pod)) calm = unless_bounded (book_step.refusal s.cluster (of_pod s pod.uid (PodPending version pod))) (done_by s (of_pod s pod.uid (PodPending version pod)) (after_add s.queue pod s.clock)) (λ none. bounded)
  step_bounded pass (Event (PodBound version uid node request)) calm =
      let part = of_pod s uid (PodBound version uid node request) in
      let done = done_by s part (after_remove s.queue uid) in
      unless_bounded (book_step.refusal s.cluster part) done (λ none n most covers.
      let there = calm (subst (λ o. IsTrue (is_accepted (unless o s done).reply)) (sym none) refl) in
      used_same s.cluster.places uid n there.0 (record { node = node; request = request; status = Bound }) (placed uid ∙ there.1) (sym there.2) (sym there.3) most (bounded n most covers))
  step_bounded pass (Event (PodGone version uid)) calm = unless_bounded (book_step.refusal s.cluster (of_pod s uid (PodGone version uid))) (done_by s (of_pod s uid (PodGone version uid)) (moved_if_placed s uid (after_remove s.queue uid)))
      (λ none n most covers. used_less s.cluster.places uid n most (bounded n most covers))
  step_bounded pass Pop calm = bounded
  step_bounded pass (Assume uid node) calm = unless_bounded (book_step.refusal s.cluster (cluster.Assume uid node (entry_at s pass uid))) (done_by s (cluster.Assume uid node (entry_at s pass uid)) s.queue) (chosen_bounded pass uid node)
  step_bounded pass (BindDone uid ticket) calm = unless_bounded (book_step.refusal s.cluster (cluster.BindDone uid ticket s.clock (has_entry s.queue uid))) (done_by s (cluster.BindDone uid ticket s.clock (has_entry s.queue uid)) s.queue)
      (λ none. finished_bounded uid (fin.get s.cluster.places uid) refl)
  step_bounded pass (Forget uid ticket) calm = unless_bounded (book_step.refusal s.cluster (cluster.Forget uid ticket (has_entry s.queue uid))) (done_by s (cluster.Forget uid ticket (has_entry s.queue uid)) (moved s (after_forget s.queue uid s.clock)))
      (λ none n most covers. used_less s.cluster.places uid n most (bounded n most covers))
  step_bounded pass (Fail uid how) calm = unless_bounded (refusal_to_fail s pass uid) (record { state = record s { queue = after_fail s.queue uid (pass_number pass) how s.clock }; reply = replies.Done }) (λ none. bounded)
  step_bounded pass (Tick now) calm = unless_bounded (refusal_to_tick s now) (record { state = ticked_to s now; reply = replies.Done })
      (λ none n most covers. unexpired_less s.cluster.places now n most (bounded n most covers))
  step_bounded pass Count calm = bounded

none_used : (n : Name) → used (fin.empty {X = Place} {R = name_cmp}) n ≡ nothing
none_used n = ap (λ ps. used_by ps n) (ap (map (λ e. e.1)) (entries_empty Place))

module _ (limits : Limits) (l : List Call) (all : AreAnswered (opening limits) l) (calm : IsCalm l) where
  abbrev BoundedAfter : List Call → Type 0
  BoundedAfter k = IsBounded k (state_after (opening limits) k).cluster.places

  node_told : (k : List Call) → AreAnswered (opening limits) k → (n : Name) → fin.get (state_after (opening limits) k).cluster.nodes n ≡ row_of k n
  node_told k given n = row_is n (opening limits) k given ∙ ap (unwrap_or (last_said (accepted (row_in n)) k)) (fin.get-empty name_cmp n)

  bounded_from : (before later : List Call) → l ≡ before ++ later → BoundedAfter before → BoundedAfter l
  bounded_from before [] e h = subst BoundedAfter (sym (e ∙ append_nil before)) h
  bounded_from before (c ∷ later) e h =
      let given = subst (AreAnswered (opening limits)) e all in
      let s = state_after (opening limits) before in
      let earlier = answered_part (opening limits) before (c ∷ later) given in
      let told : c.reply ≡ reply s c.pass c.step = answered_next (opening limits) before c later given in
      let next = step_bounded s before h (node_told before earlier) (λ uid. place_is limits before earlier uid) c.pass c.step
      (λ taken. calm before later c e (subst (λ r. IsTrue (is_accepted r)) (sym told) taken)) in
      bounded_from (before ++ c ∷ []) later (e ∙ together before later c)
      (λ n most covers. subst (λ (t : State). IsWithin (used t.cluster.places n) most) (sym (state_more (opening limits) before c)) (next n most (covers_before before c n most covers)))

  bounded_after : BoundedAfter l
  bounded_after = bounded_from [] l refl (λ n most covers. subst (λ (r : Res). IsWithin r most) (sym (none_used n)) (record { cpu = omega arith; mem = omega arith; pods = omega arith }))

  -- what is used of a node that is there is within its row
  node_has_room : (n : Name) (row : Node) → fin.get (state_after (opening limits) l).cluster.nodes n ≡ Some row → HasRoom (record { node = row; used = used (state_after (opening limits) l).cluster.places n })
  node_has_room n row is = bounded_after n row.allocatable (top_of l calm n row (row_said (state_after (opening limits) l) l bounded_after (node_told l all) (λ uid. place_is limits l all uid) n row is))

-- ---- a look

-- a name that is below all others is not found
pub absent_below : {X : Type 0} (k : Name) (es : List (Name × X)) → below_all name_cmp k es ≡ true → fin.find name_cmp k es ≡ None
absent_below k [] h = refl
absent_below k (e ∷ es) h =
    ap (λ r. cond (is_eq r) (Some e.1) (fin.find name_cmp k es)) (less_of _ (both_true _ _ h).0) ∙ absent_below k es (both_true _ _ h).1

-- each entry of a sorted list is found there
pub each_found : {X : Type 0} {Y : Type 0} (P : Y → Type 0) (f : Name × X → Y) (es : List (Name × X)) → fin.is_sorted name_cmp es ≡ true → ((x : Name × X) → fin.find name_cmp x.0 es ≡ Some x.1 → P (f x)) → AllByRecursion P (map f es)
each_found {X = X} P f [] sorted h = tt
each_found {X = X} P f (e ∷ es) sorted h =
    let parts = both_true _ _ sorted in (
      h e (ap (λ b. cond b (Some e.1) (fin.find name_cmp e.0 es)) (same_test e.0 e.0 ∙ (bytes_decides e.0 e.0).1 refl)),
      each_found P f es parts.1 (λ x is. h x (by x is (bytes_eq x.0 e.0) refl parts.0)),
    )
  where
    by : (x : Name × X) → fin.find name_cmp x.0 es ≡ Some x.1 → (b : Bool) → bytes_eq x.0 e.0 ≡ b → below_all name_cmp e.0 es ≡ true → fin.find name_cmp x.0 (e ∷ es) ≡ Some x.1
    by x is true same below =
        let none : fin.find name_cmp x.0 es ≡ None = ap (λ q. fin.find name_cmp q es) ((bytes_decides x.0 e.0).0 same) ∙ absent_below e.0 es below in
        let no : Some x.1 ≡ None = sym is ∙ none in
        absurd (cc)
    by x is false same below = ap (λ b. cond b (Some e.1) (fin.find name_cmp x.0 es)) (same_test x.0 e.0 ∙ same) ∙ is

-- after a calm history no node that is shown has more used than it has
pub calm_has_room : (d : Core) (l : List Call) → Leaves l d → IsCalm l → All HasRoom (snapshot d.state.cluster)
calm_has_room d l left calm =
    let s = state_after (opening d.state.cluster.limits) l in
    subst (λ (t : State). All HasRoom (snapshot t.cluster)) (sym left.state)
    (All-from_recursion HasRoom (snapshot s.cluster)
    (each_found HasRoom (λ e. record { node = e.1; used = used s.cluster.places e.0 }) (fin.entries s.cluster.nodes) (true_of _ (fin.entries_sorted s.cluster.nodes))
    (λ x is. node_has_room d.state.cluster.limits l left.legal.history.answered calm x.0 x.1 (fin.get-entries s.cluster.nodes x.0 ∙ is))))
