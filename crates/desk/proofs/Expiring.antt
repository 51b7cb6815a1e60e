-- What a tick makes of the places that expire and of the entries of their pods, name by name.
use Rattle.std.proofs.Common.{◌≡◌, Bool, true, false, cond, not, ◌||◌, ◌&&◌, if◌then◌else◌, List, [], ◌∷◌, map, Option, None, Some, is_some, refl, sym, ap, subst, ◌∙◌, inl, inr, ◌⊎◌}
use Rattle.std.specs.List.{list_any}
use Rattle.std.specs.Option.{option_map}
use Rattle.std.specs.Ordering.{eq_by_cmp}
use Rattle.std.specs.Cmp.Lexicographic.{nat_list_cmp_total, bytes_decides}
use Rattle.std.specs.FinMap as fin
use Rattle.quant.specs.declared.amount.Moment.{Moment}
use Rattle.quant.specs.declared.name.Name.{Name}
use Rattle.queued.specs.Entry.{Entry, is_in_flight, sent_back}
use Rattle.queue.specs.Order.{Item}
use Rattle.queue.specs.Queue as queue
use Rattle.queue.specs.Queue.{QueueState, entry_of, unless_refused, with_entry, with_change, refusal_to_forget, after_forget}
use Rattle.queue.specs.declared.refusal.Refusal.{Refusal}
use Rattle.queue.specs.declared.refusal.Refusal.TheVariants as queue_refusals
use Rattle.queue.proofs.Runs.{get-with}
use Rattle.book.specs.declared.place.Place.{Place}
use Rattle.book.specs.Cluster.{name_cmp, Places}
use Rattle.book.specs.Expiry.{has_expired, is_expired, any_expired, unexpired, NoneExpired}
use Rattle.book.specs.Step.{stands}
use Rattle.book.proofs.RowLemmas.{same_name}
use Rattle.book.proofs.TableLemmas.{same_test}
use Rattle.desk.specs.Machine.{sent_back_if_expired, after_expiry}

-- names that tie in their order are the same
pub tied : (q k : Name) → eq_by_cmp name_cmp q k ≡ true → q ≡ k
tied q k e = (bytes_decides q k).0 (sym (same_test q k) ∙ e)

-- ---- what is found after a tick

-- what stays where a test fails
kept_unless : {X : Type 0} (b : Bool) (x y : X) → cond (not b) x y ≡ cond b y x
kept_unless true x y = refl
kept_unless false x y = refl

-- a place stays unless it expires
pub get_unexpired : (places : Places) (now : Moment) (q : Name) → fin.get (unexpired places now) q ≡ cond (is_expired places now q) None (fin.get places q)
get_unexpired places now q =
    fin.get-retain_keys places (λ uid. not (is_expired places now uid)) q (λ x t. ap (λ n. not (is_expired places now n)) (sym (same_name q x t)))
    ∙ kept_unless (is_expired places now q) (fin.get places q) None

-- what is found among items that are each changed by their names
find_changed : (f : Name → Entry → Entry) (items : List Item) (q : Name) → fin.find name_cmp q (map (λ (item : Item). (item.0, f item.0 item.1)) items) ≡ option_map (f q) (fin.find name_cmp q items)
find_changed f [] q = refl
find_changed f (item ∷ items) q = by (eq_by_cmp name_cmp q item.0) refl (find_changed f items q)
  where
    by : (b : Bool) → eq_by_cmp name_cmp q item.0 ≡ b → fin.find name_cmp q (map (λ (it : Item). (it.0, f it.0 it.1)) items) ≡ option_map (f q) (fin.find name_cmp q items)
        → cond b (Some (f item.0 item.1)) (fin.find name_cmp q (map (λ (it : Item). (it.0, f it.0 it.1)) items)) ≡ option_map (f q) (cond b (Some item.1) (fin.find name_cmp q items))
    by true is rest = ap (λ n. Some (f n item.1)) (sym (tied q item.0 is))
    by false is rest = rest

-- an entry is sent back where its pod's place expires
pub entry_after_expiry : (q : QueueState) (places : Places) (now : Moment) (uid : Name) → entry_of (after_expiry q places now) uid ≡ option_map (sent_back_if_expired places now uid) (entry_of q uid)
unfolding after_expiry
entry_after_expiry q places now uid =
    fin.get-from_entries nat_list_cmp_total (map (λ (item : Item). (item.0, sent_back_if_expired places now item.0 item.1)) (fin.entries q.entries)) uid
    ∙ find_changed (sent_back_if_expired places now) (fin.entries q.entries) uid
    ∙ ap (option_map (sent_back_if_expired places now uid)) (sym (fin.get-entries q.entries uid))

-- ---- whether anything expires

or_true : (a b : Bool) → b ≡ true → (a || b) ≡ true
or_true true b h = refl
or_true false b h = h

none_any : (test : Name → Bool) (ks : List Name) → ((k : Name) → test k ≡ false) → list_any test ks ≡ false
none_any test [] none = refl
none_any test (k ∷ ks) none = ap (λ b. b || list_any test ks) (none k) ∙ none_any test ks none

one_any : (test : Name → Bool) (ks : List Name) (q : Name) → list_any (eq_by_cmp name_cmp q) ks ≡ true → test q ≡ true → list_any test ks ≡ true
one_any test [] q there passes = absurd (cc)
one_any test (k ∷ ks) q there passes = by (one_any test ks q) (eq_by_cmp name_cmp q k) refl there
  where
    by : (list_any (eq_by_cmp name_cmp q) ks ≡ true → test q ≡ true → list_any test ks ≡ true) → (b : Bool) → eq_by_cmp name_cmp q k ≡ b → (b || list_any (eq_by_cmp name_cmp q) ks) ≡ true → (test k || list_any test ks) ≡ true
    by later true is h = ap (λ b. b || list_any test ks) (ap test (sym (tied q k is)) ∙ passes)
    by later false is h = or_true (test k) (list_any test ks) (later h passes)

-- what expires is there
pub expired_there : (places : Places) (now : Moment) (q : Name) → is_expired places now q ≡ true → (place : Place) × (fin.get places q ≡ Some place)
expired_there places now q e = by (fin.get places q) refl e
  where
    by : (o : Option Place) → fin.get places q ≡ o → stands (has_expired now) o ≡ true → (place : Place) × (fin.get places q ≡ Some place)
    by None is h = absurd (cc)
    by (Some place) is h = (place, is)

pub key_of : (places : Places) (now : Moment) (q : Name) → is_expired places now q ≡ true → list_any (eq_by_cmp name_cmp q) (fin.keys places) ≡ true
key_of places now q e = sym (fin.contains_key-keys places q) ∙ ap is_some (expired_there places now q e).1

-- one that expires is among all
pub any_of : (places : Places) (now : Moment) (q : Name) → is_expired places now q ≡ true → any_expired places now ≡ true
any_of places now q e = one_any (is_expired places now) (fin.keys places) q (key_of places now q e) e

pub any_of_none : (places : Places) (now : Moment) → NoneExpired places now → any_expired places now ≡ false
any_of_none places now none = none_any (is_expired places now) (fin.keys places) none

-- ---- one place after the other

-- an entry in flight is sent back
abbrev sent_back_if_held : Moment → Entry → Entry
sent_back_if_held now entry = if is_in_flight entry.state then sent_back now entry else entry

-- what is found once a pod is sent back
entry_forgotten : (q : QueueState) (u : Name) (now : Moment) (uid : Name) → entry_of (after_forget q u now) uid ≡ cond (eq_by_cmp name_cmp uid u) (option_map (sent_back_if_held now) (entry_of q uid)) (entry_of q uid)
unfolding after_forget refusal_to_forget
entry_forgotten q u now uid = by (entry_of q u) refl
  where
    here : (o : Option Entry) → entry_of q u ≡ o → option_map (sent_back_if_held now) o ≡ o → (b : Bool) → eq_by_cmp name_cmp uid u ≡ b → entry_of q uid ≡ cond b (option_map (sent_back_if_held now) (entry_of q uid)) (entry_of q uid)
    here o is same true t =
        let there : entry_of q uid ≡ o = ap (entry_of q) (tied uid u t) ∙ is in
        there ∙ sym same ∙ sym (ap (option_map (sent_back_if_held now)) there)
    here o is same false t = refl

    sent : (e : Entry) → entry_of q u ≡ Some e → (b : Bool) → is_in_flight e.state ≡ b
        → entry_of (unless_refused (if b then None else Some queue_refusals.NotInFlight) q (with_entry q u (sent_back now e))) uid ≡ cond (eq_by_cmp name_cmp uid u) (option_map (sent_back_if_held now) (entry_of q uid)) (entry_of q uid)
    sent e is true up = get-with q u (sent_back now e) uid ∙ put (eq_by_cmp name_cmp uid u) refl
      where
        put : (b : Bool) → eq_by_cmp name_cmp uid u ≡ b → cond b (Some (sent_back now e)) (entry_of q uid) ≡ cond b (option_map (sent_back_if_held now) (entry_of q uid)) (entry_of q uid)
        put true t =
            ap (λ c. Some (if c then sent_back now e else e)) (sym up)
            ∙ sym (ap (option_map (sent_back_if_held now)) (ap (entry_of q) (tied uid u t) ∙ is))
        put false t = refl
    sent e is false down = here (Some e) is (ap (λ c. Some (if c then sent_back now e else e)) down) (eq_by_cmp name_cmp uid u) refl

    by : (o : Option Entry) → entry_of q u ≡ o
        → entry_of (unless_refused (if queue.stands (λ entry. is_in_flight entry.state) o then None else Some queue_refusals.NotInFlight) q (with_change q u (sent_back now) o)) uid ≡ cond (eq_by_cmp name_cmp uid u) (option_map (sent_back_if_held now) (entry_of q uid)) (entry_of q uid)
    by None is = here None is refl (eq_by_cmp name_cmp uid u) refl
    by (Some e) is = sent e is (is_in_flight e.state) refl

-- no more entries than before may be there then
pub limit_forgotten : (q : QueueState) (u : Name) (now : Moment) → (after_forget q u now).limit ≡ q.limit
unfolding after_forget
limit_forgotten q u now = by (refusal_to_forget q u) (entry_of q u)
  where
    by : (why : Option Refusal) (o : Option Entry) → (unless_refused why q (with_change q u (sent_back now) o)).limit ≡ q.limit
    by None None = refl
    by None (Some e) = refl
    by (Some why) o = refl

-- a name has its place and its entry as at first
pub record Stays (old places : Places) (before after : QueueState) (q : Name) : Type 0 where
  pub place : fin.get places q ≡ fin.get old q
  pub entry : entry_of after q ≡ entry_of before q

-- its place expired and is gone, and its entry was sent back
pub record Goes (old places : Places) (before after : QueueState) (now : Moment) (q : Name) : Type 0 where
  pub expired : is_expired old now q ≡ true
  pub place : fin.get places q ≡ None
  pub entry : entry_of after q ≡ option_map (sent_back_if_expired old now q) (entry_of before q)

-- some of the places that expire are gone, and all else is as at first
abbrev pub AreSome : Places → Places → QueueState → QueueState → Moment → Type 0
AreSome old places before after now = (q : Name) → Stays old places before after q ⊎ Goes old places before after now q

module _ (old places : Places) (before after : QueueState) (now : Moment) (so_far : AreSome old places before after now) where
  -- what expires now expired at first
  stays_of : (q : Name) → is_expired places now q ≡ true → Stays old places before after q
  stays_of q e = elim (so_far q) [
    | inl stays ↦ stays
    | inr goes ↦ absurd (let no : true ≡ false = sym e ∙ ap (stands (has_expired now)) goes.place in cc)
  ]

  pub expired_at_first : (q : Name) → is_expired places now q ≡ true → is_expired old now q ≡ true
  expired_at_first q e = ap (stands (has_expired now)) (sym (stays_of q e).place) ∙ e

  -- one more goes
  pub one_gone : (uid : Name) → is_expired places now uid ≡ true → AreSome old (fin.remove places uid) before (after_forget after uid now) now
  one_gone uid e q = by (eq_by_cmp name_cmp q uid) refl
    where
      by : (b : Bool) → eq_by_cmp name_cmp q uid ≡ b → Stays old (fin.remove places uid) before (after_forget after uid now) q ⊎ Goes old (fin.remove places uid) before (after_forget after uid now) now q
      by true t =
          let same : is_expired places now q ≡ true = ap (is_expired places now) (tied q uid t) ∙ e in
          let first = expired_at_first q same in
          inr (record {
            expired = first;
            place = fin.get-remove nat_list_cmp_total places uid q ∙ ap (λ b. cond b None (fin.get places q)) t;
            entry =
                entry_forgotten after uid now q ∙ ap (λ b. cond b (option_map (sent_back_if_held now) (entry_of after q)) (entry_of after q)) t
                ∙ ap (option_map (sent_back_if_held now)) (stays_of q same).entry
                ∙ ap (λ b. option_map (λ (x : Entry). if b && is_in_flight x.state then sent_back now x else x) (entry_of before q)) (sym first);
          })
      by false t =
          let place : fin.get (fin.remove places uid) q ≡ fin.get places q = fin.get-remove nat_list_cmp_total places uid q ∙ ap (λ b. cond b None (fin.get places q)) t in
          let entry : entry_of (after_forget after uid now) q ≡ entry_of after q = entry_forgotten after uid now q ∙ ap (λ b. cond b (option_map (sent_back_if_held now) (entry_of after q)) (entry_of after q)) t in
          elim (so_far q) [
            | inl stays ↦ inl (record { place = place ∙ stays.place; entry = entry ∙ stays.entry })
            | inr goes ↦ inr (record { expired = goes.expired; place = place ∙ goes.place; entry = entry ∙ goes.entry })
          ]

  -- where none is left, all that expired are gone
  pub all_gone : NoneExpired places now → places ≡ unexpired old now
  all_gone none = fin.same_map nat_list_cmp_total same_name _ _ (λ q. elim (so_far q) [
    | inl stays ↦
        let rests : is_expired old now q ≡ false = ap (stands (has_expired now)) (sym stays.place) ∙ none q in
        stays.place ∙ sym (get_unexpired old now q ∙ ap (λ b. cond b None (fin.get old q)) rests)
    | inr goes ↦ goes.place ∙ sym (get_unexpired old now q ∙ ap (λ b. cond b None (fin.get old q)) goes.expired)
  ])

  -- and their entries were sent back
  entry_sent : NoneExpired places now → (q : Name) → entry_of after q ≡ entry_of (after_expiry before old now) q
  entry_sent none q = elim (so_far q) [
    | inl stays ↦
        let rests : is_expired old now q ≡ false = ap (stands (has_expired now)) (sym stays.place) ∙ none q in
        stays.entry ∙ sym (entry_after_expiry before old now q ∙ ap (λ b. option_map (λ (x : Entry). if b && is_in_flight x.state then sent_back now x else x) (entry_of before q)) rests ∙ unchanged (entry_of before q))
    | inr goes ↦ goes.entry ∙ sym (entry_after_expiry before old now q)
  ]
    where
      unchanged : (o : Option Entry) → option_map (λ (x : Entry). x) o ≡ o
      unchanged None = refl
      unchanged (Some x) = refl

  pub all_sent : NoneExpired places now → after.limit ≡ before.limit → after ≡ after_expiry before old now
  unfolding after_expiry
  all_sent none limit =
      let entries : after.entries ≡ (after_expiry before old now).entries = fin.same_map nat_list_cmp_total same_name _ _ (entry_sent none) in
      λ i. record { limit = limit i; entries = entries i }

-- whether any is gone so far
abbrev pub IsSeen : Bool → Places → Places → Moment → Type 0
IsSeen true old places now = any_expired old now ≡ true
IsSeen false old places now = places ≡ old

pub all_seen : (any : Bool) (old places : Places) (now : Moment) → IsSeen any old places now → NoneExpired places now → any ≡ any_expired old now
all_seen true old places now seen none = sym seen
all_seen false old places now seen none = sym (any_of_none old now (subst (λ m. NoneExpired m now) seen none))
