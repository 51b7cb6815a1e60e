-- What the totals of nodes are after a change, and what the places add up to.
use Rattle.std.proofs.Common.{◌≡◌, ℕ, ◌+◌, ◌-◌, ◌≤◌, eqb, Bool, true, false, cond, if◌then◌else◌, List, [], ◌∷◌, length, map, Option, None, Some, is_some, unwrap_or, sum_by, refl, sym, ap, ◌∙◌, arith}
use Rattle.std.specs.Cmp.Lexicographic.{nat_list_cmp_total, bytes_decides}
use Rattle.std.specs.Str.{bytes_eq}
use Rattle.std.specs.FinMap as fin
use Rattle.std.proofs.lemmas.Bool.{eqb-true, eqb-false}
use Rattle.std.proofs.lemmas.List.{length-map}
use Rattle.std.proofs.lemmas.List.Sums.{sum_by-cons}
use Rattle.quant.specs.declared.amount.Moment.{Moment}
use Rattle.quant.specs.declared.amount.Res.{Res}
use Rattle.quant.specs.declared.limits.TheConstants.{MAX_PLACED}
use Rattle.quant.specs.declared.amount.Request.{Request}
use Rattle.book.specs.declared.place.Place.{Place}
use Rattle.book.specs.declared.place.Status.{Status}
use Rattle.book.specs.declared.place.Status.TheVariants.{Assumed, Bound}
use Rattle.book.specs.Cluster.{name_cmp, Places}
use Rattle.book.specs.Step.{finished_status}
use Rattle.book.specs.inside.Tables.{IsAlikeBut}
use Rattle.book.specs.Used.{nothing, share, used_by, used, assumed_in, assumed, bound_in, bound}
use Rattle.book.specs.Totals.{IsWithin}
use Rattle.book.specs.inside.Totals.{Totals, total_at, plus, one_pod, adds, most_of, idle_if, idle, idle_in, pods_in, IsCounted}
use Rattle.book.proofs.TableLemmas.{same_test, test_turned}
use Rattle.book.proofs.SumLemmas.{of_option, sum_insert, sum_remove, entries_empty}

-- amounts that agree in each part are one
pub same_res : (a b : Res) → a.cpu.0 ≡ b.cpu.0 → a.mem.0 ≡ b.mem.0 → a.pods ≡ b.pods → a ≡ b
same_res a b cpu mem pods = λ i. record { cpu = record { 0 = cpu i }; mem = record { 0 = mem i }; pods = pods i }

-- nothing more changes no amount
pub plus_nothing : (a : Res) → plus a nothing ≡ a
plus_nothing a = same_res _ _ (omega arith) (omega arith) (omega arith)

-- an amount more than nothing is that amount
pub nothing_plus : (a : Res) → plus nothing a ≡ a
nothing_plus a = same_res _ _ (omega arith) (omega arith) (omega arith)

-- the default goes into both cases
option_cond : (b : Bool) (v d : Res) (o : Option Res) → unwrap_or (cond b (Some v) o) d ≡ cond b v (unwrap_or o d)
option_cond true v d o = refl
option_cond false v d o = refl

-- the total of a node after one node's total is put
pub total_put : (m : Totals) (k : List ℕ) (v : Res) (q : List ℕ) → total_at (fin.insert m k v) q ≡ cond (bytes_eq k q) v (total_at m q)
total_put m k v q =
    ap (λ o. unwrap_or o nothing) (fin.get-insert nat_list_cmp_total m k v q)
    ∙ ap (λ b. unwrap_or (cond b (Some v) (fin.get m q)) nothing) (same_test q k ∙ test_turned q k)
    ∙ option_cond (bytes_eq k q) v nothing (fin.get m q)

module _ (m : Totals) (k : List ℕ) (v : Res) (request : Request) where
  -- a total that is more by one pod
  pub total_added : v ≡ plus (total_at m k) (one_pod request) → (q : List ℕ) → total_at (fin.insert m k v) q ≡ plus (total_at m q) (adds k request q)
  total_added e q = total_put m k v q ∙ elim (bytes_eq k q) as (λ b. bytes_eq k q ≡ b → cond b v (total_at m q) ≡ plus (total_at m q) (if b then one_pod request else nothing)) [
    | true ↦ λ same. e ∙ ap (λ n. plus (total_at m n) (one_pod request)) ((bytes_decides k q).0 same)
    | false ↦ λ other. sym (plus_nothing (total_at m q))
  ] refl

  -- a total that is less by one pod
  pub total_taken : plus v (one_pod request) ≡ total_at m k → (q : List ℕ) → plus (total_at (fin.insert m k v) q) (adds k request q) ≡ total_at m q
  total_taken e q = ap (λ t. plus t (adds k request q)) (total_put m k v q) ∙ elim (bytes_eq k q) as (λ b. bytes_eq k q ≡ b → plus (cond b v (total_at m q)) (if b then one_pod request else nothing) ≡ total_at m q) [
    | true ↦ λ same. e ∙ ap (total_at m) ((bytes_decides k q).0 same)
    | false ↦ λ other. plus_nothing (total_at m q)
  ] refl

-- the places of a list add what the first adds and what the rest do
pub used_cons : (p : Place) (ps : List Place) (node : List ℕ) → used_by (p ∷ ps) node ≡ plus (share node p) (used_by ps node)
used_cons p ps node = same_res _ _ (sum_by-cons (λ q. (share node q).cpu.0) p ps) (sum_by-cons (λ q. (share node q).mem.0) p ps) (sum_by-cons (λ q. (share node q).pods) p ps)

-- a place adds no more than one pod can
share_most : (node : List ℕ) (p : Place) → IsWithin (share node p) (most_of 1)
share_most node p = elim (bytes_eq p.node node) as (λ b. IsWithin (if b then record { cpu = p.request.cpu; mem = p.request.mem; pods = 1 } else nothing) (most_of 1)) [
  | true ↦ record { cpu = omega (arith, p.request.within_cpu); mem = omega (arith, p.request.within_mem); pods = omega arith }
  | false ↦ record { cpu = omega arith; mem = omega arith; pods = omega arith }
]

-- and as many places no more than as many pods
pub used_most : (ps : List Place) (node : List ℕ) → IsWithin (used_by ps node) (most_of (length ps))
used_most [] node = record { cpu = omega arith; mem = omega arith; pods = omega arith }
used_most (p ∷ ps) node =
    let rest = used_most ps node in
    let first = share_most node p in
    rw (used_cons p ps node) (record { cpu = omega (arith, rest.cpu, first.cpu); mem = omega (arith, rest.mem, first.mem); pods = omega (arith, rest.pods, first.pods) })

-- a part of what n pods can use is at most what the greatest number of pods can use
pub part_within : (a b c : Res) (n : ℕ) → plus a b ≡ c → IsWithin c (most_of n) → n ≤ MAX_PLACED → IsWithin a (most_of MAX_PLACED)
part_within a b c n e within le =
    let cpu : a.cpu.0 + b.cpu.0 ≡ c.cpu.0 = ap (λ r. r.cpu.0) e in
    let mem : a.mem.0 + b.mem.0 ≡ c.mem.0 = ap (λ r. r.mem.0) e in
    let pods : a.pods + b.pods ≡ c.pods = ap (λ r. r.pods) e in
    record { cpu = omega (arith, within.cpu); mem = omega (arith, within.mem); pods = omega (arith, within.pods) }

-- and so is the whole
pub whole_within : (a c : Res) (n : ℕ) → a ≡ c → IsWithin c (most_of n) → n ≤ MAX_PLACED → IsWithin a (most_of MAX_PLACED)
whole_within a c n e within le = part_within a nothing c n (plus_nothing a ∙ e) within le

-- no node has a total in no totals
total_empty : (q : List ℕ) → total_at fin.empty q ≡ nothing
total_empty q = ap (λ o. unwrap_or o nothing) (fin.get-empty name_cmp q)

-- the values are as many as the map is large
pub values_len : (m : Places) → length (fin.values m) ≡ fin.len m
values_len m = length-map (fin.entries m) (λ e. e.1) ∙ sym (fin.len-entries m)

-- ---- totals, and how many pods they count

-- the total of a node after one node's total goes
total_gone : (m : Totals) (k q : List ℕ) → total_at (fin.remove m k) q ≡ cond (bytes_eq k q) nothing (total_at m q)
total_gone m k q =
    ap (λ o. unwrap_or o nothing) (fin.get-remove nat_list_cmp_total m k q)
    ∙ ap (λ b. unwrap_or (cond b None (fin.get m q)) nothing) (same_test q k ∙ test_turned q k)
    ∙ elim (bytes_eq k q) as (λ b. unwrap_or (cond b None (fin.get m q)) nothing ≡ cond b nothing (total_at m q)) [ true ↦ refl | false ↦ refl ]

-- the total that is put is there
pub total_here : (m : Totals) (k : List ℕ) (v : Res) → total_at (fin.insert m k v) k ≡ v
total_here m k v = total_put m k v k ∙ ap (λ b. cond b v (total_at m k)) ((bytes_decides k k).1 refl)

-- and one that goes isn't
pub total_away : (m : Totals) (k : List ℕ) → total_at (fin.remove m k) k ≡ nothing
total_away m k = total_gone m k k ∙ ap (λ b. cond b nothing (total_at m k)) ((bytes_decides k k).1 refl)

module _ (f g : List ℕ → Res) (k : List ℕ) (request : Request) where
  -- a pod more changes the amount of its own node alone
  pub alike_more : ((q : List ℕ) → g q ≡ plus (f q) (adds k request q)) → IsAlikeBut k f g
  alike_more e q other = e q ∙ ap (λ b. plus (f q) (if b then one_pod request else nothing)) other ∙ plus_nothing (f q)

  -- and so does a pod less
  pub alike_less : ((q : List ℕ) → plus (g q) (adds k request q) ≡ f q) → IsAlikeBut k f g
  alike_less e q other = sym (plus_nothing (g q)) ∙ ap (λ b. plus (g q) (if b then one_pod request else nothing)) (sym other) ∙ e q

-- a total that is gone was one pod's
pub total_last : (m : Totals) (k : List ℕ) (request : Request) → total_at m k ≡ one_pod request → (q : List ℕ) → plus (total_at (fin.remove m k) q) (adds k request q) ≡ total_at m q
total_last m k request e q = ap (λ t. plus t (adds k request q)) (total_gone m k q) ∙ elim (bytes_eq k q) as (λ b. bytes_eq k q ≡ b → plus (cond b nothing (total_at m q)) (if b then one_pod request else nothing) ≡ total_at m q) [
  | true ↦ λ same. nothing_plus (one_pod request) ∙ sym e ∙ ap (total_at m) ((bytes_decides k q).0 same)
  | false ↦ λ other. plus_nothing (total_at m q)
] refl

-- the total of a node that is found
pub total_found : (m : Totals) (k : List ℕ) (r : Res) → fin.get m k ≡ Some r → total_at m k ≡ r
total_found m k r e = ap (λ o. unwrap_or o nothing) e

-- and of one that isn't
pub total_none : (m : Totals) (k : List ℕ) → fin.get m k ≡ None → total_at m k ≡ nothing
total_none m k e = ap (λ o. unwrap_or o nothing) e

-- a total in which a pod is counted isn't idle
busy : (r : Res) → 1 ≤ r.pods → idle r ≡ 0
busy r le = elim (eqb r.pods 0) as (λ b. eqb r.pods 0 ≡ b → idle_if b ≡ 0) [
  | true ↦ λ e. absurd (let z : r.pods ≡ 0 = eqb-true r.pods 0 e in omega arith)
  | false ↦ λ e. refl
] refl

-- a total that replaces another
pub idle_again : (m : Totals) (k : List ℕ) (v : Res) → 1 ≤ v.pods → idle_in m ≡ 0 → idle_in (fin.insert m k v) ≡ 0
idle_again m k v le e = omega (arith, sum_insert idle m k v, busy v le)

-- a total that goes
pub idle_gone : (m : Totals) (k : List ℕ) (v : Res) → fin.get m k ≡ Some v → idle_in m ≡ 0 → idle_in (fin.remove m k) ≡ 0
idle_gone m k v there e = omega (arith, sum_remove m k idle v there)

-- how many pods are counted once a total replaces another
pub pods_again : (m : Totals) (k : List ℕ) (v r : Res) → fin.get m k ≡ Some r → pods_in (fin.insert m k v) + r.pods ≡ pods_in m + v.pods
pods_again m k v r there = omega (arith, sum_insert (λ t. t.pods) m k v, ap (of_option (λ t. t.pods)) there)

-- or comes
pub pods_new : (m : Totals) (k : List ℕ) (v : Res) → fin.get m k ≡ None → pods_in (fin.insert m k v) ≡ pods_in m + v.pods
pods_new m k v none = omega (arith, sum_insert (λ t. t.pods) m k v, ap (of_option (λ t. t.pods)) none)

-- or goes
pub pods_gone : (m : Totals) (k : List ℕ) (v : Res) → fin.get m k ≡ Some v → pods_in (fin.remove m k) + v.pods ≡ pods_in m
pods_gone m k v there = sum_remove m k (λ t. t.pods) v there

-- as many totals as are listed count a pod each, but for the idle ones
few_listed : (rs : List Res) → length rs ≤ sum_by (λ t. t.pods) rs + sum_by idle rs
few_listed [] = omega arith
few_listed (r ∷ rs) = omega (arith, sum_by-cons (λ t. t.pods) r rs, sum_by-cons idle r rs, few_listed rs, one r)
  where
    one : (r : Res) → 1 ≤ r.pods + idle r
    one r = elim (eqb r.pods 0) as (λ b. eqb r.pods 0 ≡ b → 1 ≤ r.pods + idle_if b) [
      | true ↦ λ e. omega arith
      | false ↦ λ e. let n : r.pods ≡ 0 → ⊥ = eqb-false r.pods 0 e in omega arith
    ] refl

-- so there are no more totals than pods
pub few_totals : (m : Totals) → idle_in m ≡ 0 → fin.len m ≤ pods_in m
few_totals m e = omega (arith, few_listed (fin.values m), length-map (fin.entries m) (λ e. e.1), fin.len-entries m)

-- ---- places, and what they add up to

-- no places are counted by no totals
pub counted_empty : (most : ℕ) → most ≤ MAX_PLACED → IsCounted fin.empty most fin.empty most 0
counted_empty most le =
    let no_values : fin.values (fin.empty {X = Place} {R = name_cmp}) ≡ [] = ap (map (λ e. e.1)) (entries_empty Place) in
    let no_totals : fin.values (fin.empty {X = Res} {R = name_cmp}) ≡ [] = ap (map (λ e. e.1)) (entries_empty Res) in
    record {
      each = λ node. total_empty node ∙ sym (ap (λ ps. used_by ps node) no_values);
      assumed = sym (ap (sum_by (λ p. assumed_in p.status)) no_values);
      pods = ap (sum_by (λ t. t.pods)) no_totals ∙ sym (fin.len-empty name_cmp Place);
      in_use = ap (sum_by idle) no_totals;
      few = rw (fin.len-empty name_cmp Place) (omega arith);
      small = le;
      same = refl;
    }

-- what places use once one more is there
pub used_more : (m : Places) (uid : List ℕ) (p : Place) → fin.get m uid ≡ None → (q : List ℕ) → used (fin.insert m uid p) q ≡ plus (used m q) (share q p)
used_more m uid p none q = same_res _ _
    (omega (arith, sum_insert (λ r. (share q r).cpu.0) m uid p, ap (of_option (λ r. (share q r).cpu.0)) none))
    (omega (arith, sum_insert (λ r. (share q r).mem.0) m uid p, ap (of_option (λ r. (share q r).mem.0)) none))
    (omega (arith, sum_insert (λ r. (share q r).pods) m uid p, ap (of_option (λ r. (share q r).pods)) none))

-- a place that adds no pod adds nothing
no_pod : (p : Place) (node : List ℕ) → (share node p).pods ≡ 0 → share node p ≡ nothing
no_pod p node = elim (bytes_eq p.node node) as (λ b. (if b then one_pod p.request else nothing).pods ≡ 0 → (if b then one_pod p.request else nothing) ≡ nothing) [
  | true ↦ λ e. absurd (omega arith)
  | false ↦ λ e. refl
]

-- places that use no pod on a node use nothing there
no_pods : (ps : List Place) (node : List ℕ) → (used_by ps node).pods ≡ 0 → used_by ps node ≡ nothing
no_pods [] node e = refl
no_pods (p ∷ ps) node e =
    let pods : (share node p).pods + (used_by ps node).pods ≡ 0 = sym (ap (λ r. r.pods) (used_cons p ps node)) ∙ e in
    used_cons p ps node ∙ ap (λ r. plus r (used_by ps node)) (no_pod p node (omega (arith, pods))) ∙ nothing_plus _ ∙ no_pods ps node (omega (arith, pods))

-- one for each counts them
count_all : (ps : List Place) → sum_by (λ _. 1) ps ≡ length ps
count_all [] = refl
count_all (p ∷ ps) = omega (arith, sum_by-cons (λ _. 1) p ps, count_all ps)

module _ (m : Places) (uid : List ℕ) (old : Place) (had : fin.get m uid ≡ Some old) where
  -- what places use is what the old place uses and what the others do
  pub used_apart : (q : List ℕ) → used m q ≡ plus (used (fin.remove m uid) q) (share q old)
  used_apart q = sym (same_res _ _
      (sum_remove m uid (λ r. (share q r).cpu.0) old had)
      (sum_remove m uid (λ r. (share q r).mem.0) old had)
      (sum_remove m uid (λ r. (share q r).pods) old had))

  -- a place adds its request to its own node
  own : share old.node old ≡ one_pod old.request
  own = ap (λ b. if b then one_pod old.request else nothing) ((bytes_decides old.node old.node).1 refl)

  apart : used m old.node ≡ plus (used (fin.remove m uid) old.node) (one_pod old.request)
  apart = used_apart old.node ∙ ap (plus (used (fin.remove m uid) old.node)) own

  -- the old place is in its node's total
  pub old_within : (t : Totals) → total_at t old.node ≡ used m old.node → IsWithin (one_pod old.request) (total_at t old.node)
  old_within t each =
      let whole = each ∙ apart in
      record { cpu = omega (arith, ap (λ r. r.cpu.0) whole); mem = omega (arith, ap (λ r. r.mem.0) whole); pods = omega (arith, ap (λ r. r.pods) whole) }

  -- and is all of it, where that counts one pod
  pub old_alone : (t : Totals) → total_at t old.node ≡ used m old.node → (total_at t old.node).pods ≡ 1 → total_at t old.node ≡ one_pod old.request
  old_alone t each one =
      let whole = each ∙ apart in
      let others : (used (fin.remove m uid) old.node).pods ≡ 0 = omega (arith, ap (λ r. r.pods) whole, one) in
      whole ∙ ap (λ r. plus r (one_pod old.request)) (no_pods (fin.values (fin.remove m uid)) old.node others) ∙ nothing_plus _

  -- the totals once the old place is taken off
  pub each_less : (t0 t1 : Totals) → ((q : List ℕ) → total_at t0 q ≡ used m q)
      → ((q : List ℕ) → plus (total_at t1 q) (adds old.node old.request q) ≡ total_at t0 q)
      → (q : List ℕ) → total_at t1 q ≡ used (fin.remove m uid) q
  each_less t0 t1 each0 each1 q =
      let whole : plus (total_at t1 q) (share q old) ≡ plus (used (fin.remove m uid) q) (share q old) = each1 q ∙ each0 q ∙ used_apart q in
      same_res _ _ (omega (arith, ap (λ r. r.cpu.0) whole)) (omega (arith, ap (λ r. r.mem.0) whole)) (omega (arith, ap (λ r. r.pods) whole))

  -- there is one place less
  pub len_less : fin.len (fin.remove m uid) + 1 ≡ fin.len m
  len_less = omega (arith, sum_remove m uid (λ _. 1) old had, count_all (fin.values m), count_all (fin.values (fin.remove m uid)), values_len m, values_len (fin.remove m uid))

  -- and so are the assumed ones counted
  pub assumed_less : assumed (fin.remove m uid) + assumed_in old.status ≡ assumed m
  assumed_less = sum_remove m uid (λ r. assumed_in r.status) old had

module _ (m : Places) (uid : List ℕ) (p : Place) (none : fin.get m uid ≡ None) where
  -- the totals once a place is added
  pub each_more : (t0 t1 : Totals) → ((q : List ℕ) → total_at t0 q ≡ used m q)
      → ((q : List ℕ) → total_at t1 q ≡ plus (total_at t0 q) (adds p.node p.request q))
      → (q : List ℕ) → total_at t1 q ≡ used (fin.insert m uid p) q
  each_more t0 t1 each0 each1 q = each1 q ∙ ap (λ r. plus r (share q p)) (each0 q) ∙ sym (used_more m uid p none q)

  -- there is one place more
  pub len_more : fin.len (fin.insert m uid p) ≡ fin.len m + 1
  len_more = fin.len-insert nat_list_cmp_total m uid p ∙ ap (λ o. cond (is_some o) (fin.len m) (fin.len m + 1)) none

  -- and so are the assumed ones counted
  pub assumed_more : assumed (fin.insert m uid p) ≡ assumed m + assumed_in p.status
  assumed_more = omega (arith, sum_insert (λ r. assumed_in r.status) m uid p, ap (of_option (λ r. assumed_in r.status)) none)

-- a place is either bound or assumed
each_once : (status : Status) → bound_in status + assumed_in status ≡ 1
each_once (Assumed ticket finished) = refl
each_once Bound = refl

-- so both kinds together are as many as are listed
each_of : (ps : List Place) → sum_by (λ p. bound_in p.status) ps + sum_by (λ p. assumed_in p.status) ps ≡ length ps
each_of [] = refl
each_of (p ∷ ps) = omega (arith, sum_by-cons (λ q. bound_in q.status) p ps, sum_by-cons (λ q. assumed_in q.status) p ps, each_of ps, each_once p.status)

-- each place is bound or assumed
pub bound_or_assumed : (m : Places) → bound m + assumed m ≡ fin.len m
bound_or_assumed m = each_of (fin.values m) ∙ values_len m

-- a place counts once among the assumed ones, or not at all
pub assumed_one : (status : Status) → assumed_in status ≤ 1
assumed_one (Assumed ticket finished) = omega arith
assumed_one Bound = omega arith

-- no more are assumed than are listed
assumed_few : (ps : List Place) → sum_by (λ p. assumed_in p.status) ps ≤ length ps
assumed_few [] = omega arith
assumed_few (p ∷ ps) = omega (arith, sum_by-cons (λ p. assumed_in p.status) p ps, assumed_few ps, assumed_one p.status)

-- no more places are assumed than there are
pub assumed_le : (m : Places) → assumed m ≤ fin.len m
assumed_le m = omega (arith, assumed_few (fin.values m), values_len m)

-- a finished place counts as before
pub assumed_finished : (at : Moment) (status : Status) → assumed_in (finished_status at status) ≡ assumed_in status
assumed_finished at (Assumed ticket finished) = refl
assumed_finished at Bound = refl

-- what the places on a node use is at most what the greatest number of pods can use
pub most_used : (m : Places) (total : Res) (node : List ℕ) → total ≡ used m node → fin.len m ≤ MAX_PLACED → IsWithin total (most_of MAX_PLACED)
most_used m total node e le = whole_within total (used m node) (length (fin.values m)) e (used_most (fin.values m) node) (omega (arith, values_len m))

-- ---- the kept numbers after a change

module _ (m : Places) (most : ℕ) (t : Totals) (tm kept : ℕ) (counted : IsCounted m most t tm kept) where
  -- the same places, in tables with the same room
  pub counted_as : (m1 : Places) (most1 : ℕ) → m1 ≡ m → most1 ≡ most → IsCounted m1 most1 t tm kept
  counted_as m1 most1 em el = record {
    each = λ q. counted.each q ∙ ap (λ n. used n q) (sym em);
    assumed = counted.assumed ∙ ap assumed (sym em);
    pods = counted.pods ∙ ap fin.len (sym em);
    in_use = counted.in_use;
    few = omega (arith, counted.few, el, ap fin.len em);
    small = omega (arith, counted.small, el);
    same = omega (arith, counted.same, el);
  }

  module _ (m1 : Places) (most1 : ℕ) (t1 : Totals) (tm1 kept1 : ℕ) (el : most1 ≡ most) (et : tm1 ≡ tm) (idle1 : idle_in t1 ≡ 0) (uid : List ℕ) where
    -- a place more
    pub counted_more : (p : Place) → m1 ≡ fin.insert m uid p → fin.get m uid ≡ None → fin.len m + 1 ≤ most
        → ((q : List ℕ) → total_at t1 q ≡ plus (total_at t q) (adds p.node p.request q))
        → pods_in t1 ≡ pods_in t + 1 → kept1 ≡ kept + assumed_in p.status → IsCounted m1 most1 t1 tm1 kept1
    counted_more p em none room each1 pods1 ek =
        let lens : fin.len m1 ≡ fin.len m + 1 = ap fin.len em ∙ len_more m uid p none in
        let assumed1 : assumed m1 ≡ assumed m + assumed_in p.status = ap assumed em ∙ assumed_more m uid p none in
        record {
          each = λ q. each_more m uid p none t t1 counted.each each1 q ∙ ap (λ n. used n q) (sym em);
          assumed = omega (arith, ek, counted.assumed, assumed1);
          pods = omega (arith, pods1, counted.pods, lens);
          in_use = idle1;
          few = omega (arith, room, lens, el);
          small = omega (arith, counted.small, el);
          same = omega (arith, counted.same, el, et);
        }

    -- a place less
    pub counted_less : (old : Place) → m1 ≡ fin.remove m uid → fin.get m uid ≡ Some old
        → ((q : List ℕ) → plus (total_at t1 q) (adds old.node old.request q) ≡ total_at t q)
        → pods_in t1 + 1 ≡ pods_in t → kept1 ≡ kept - assumed_in old.status → IsCounted m1 most1 t1 tm1 kept1
    counted_less old em had each1 pods1 ek =
        let lens : fin.len m1 + 1 ≡ fin.len m = ap (λ n. fin.len n + 1) em ∙ len_less m uid old had in
        let assumed1 : assumed m1 + assumed_in old.status ≡ assumed m = ap (λ n. assumed n + assumed_in old.status) em ∙ assumed_less m uid old had in
        record {
          each = λ q. each_less m uid old had t t1 counted.each each1 q ∙ ap (λ n. used n q) (sym em);
          assumed = omega (arith, ek, counted.assumed, assumed1);
          pods = omega (arith, pods1, counted.pods, lens);
          in_use = idle1;
          few = omega (arith, counted.few, lens, el);
          small = omega (arith, counted.small, el);
          same = omega (arith, counted.same, el, et);
        }

  -- a place on the same node with the same request, assumed or bound as the one before
  pub counted_alike : (m1 : Places) (most1 : ℕ) → most1 ≡ most → (uid : List ℕ) (old p : Place) → m1 ≡ fin.insert m uid p → fin.get m uid ≡ Some old
      → p.node ≡ old.node → p.request ≡ old.request → assumed_in p.status ≡ assumed_in old.status → IsCounted m1 most1 t tm kept
  counted_alike m1 most1 el uid old p em had en er es =
      let alike : (q : List ℕ) → share q p ≡ share q old = λ q i. if bytes_eq (en i) q then one_pod (er i) else nothing in
      let lens : fin.len m1 ≡ fin.len m = ap fin.len em ∙ fin.len-insert nat_list_cmp_total m uid p ∙ ap (λ o. cond (is_some o) (fin.len m) (fin.len m + 1)) had in
      record {
        each = λ q. counted.each q ∙ sym (ap (λ n. used n q) em ∙ used_alike q (alike q));
        assumed = omega (arith, counted.assumed, ap assumed em, sum_insert (λ r. assumed_in r.status) m uid p, ap (of_option (λ r. assumed_in r.status)) had, es);
        pods = omega (arith, counted.pods, lens);
        in_use = counted.in_use;
        few = omega (arith, counted.few, el, lens);
        small = omega (arith, counted.small, el);
        same = omega (arith, counted.same, el);
      }
    where
      used_alike : (q : List ℕ) → share q p ≡ share q old → used (fin.insert m uid p) q ≡ used m q
      used_alike q e = same_res _ _
          (omega (arith, sum_insert (λ r. (share q r).cpu.0) m uid p, ap (of_option (λ r. (share q r).cpu.0)) had, ap (λ r. r.cpu.0) e))
          (omega (arith, sum_insert (λ r. (share q r).mem.0) m uid p, ap (of_option (λ r. (share q r).mem.0)) had, ap (λ r. r.mem.0) e))
          (omega (arith, sum_insert (λ r. (share q r).pods) m uid p, ap (of_option (λ r. (share q r).pods)) had, ap (λ r. r.pods) e))
