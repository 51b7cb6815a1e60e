-- When binds were reported done, what expires by it, and the uids that are gathered by it.
use Rattle.std.proofs.Common.{◌≡◌, ℕ, ◌+◌, ◌-◌, ◌^◌, ◌<◌, ◌≤◌, Bool, true, false, cond, List, length, map, get_or, set, Option, None, Some, IsSome, refl, sym, ap, subst, ◌∙◌, inl, inr, ◌++◌, ◌∷◌, [], arith}
use Rattle.std.specs.Prelude.{IfSome, Contains}
use Rattle.std.specs.Ordering.{is_lt, eq_by_cmp}
use Rattle.std.specs.Option.{option_map}
use Rattle.std.specs.Cmp.Lexicographic.{nat_list_cmp_total}
use Rattle.std.specs.FinMap as fin
use Rattle.std.proofs.lemmas.Bool.{cases_eq, cases_lt, eqb-true, leb-true, le-leb, lt-leb, false_from_ne_true}
use Rattle.std.proofs.lemmas.List.{get_or-map, length-map, map-set, get_or_default}
use Rattle.std.proofs.lemmas.List.Elements.{Contains-append_left, Contains-push}
use Rattle.std.proofs.lemmas.List.Sorted.{sorted_far, ranks_by}
use Rattle.name_table.specs.declared.entry.Entry.{Entry}
use Rattle.name_table.specs.Slots.{Slots, entry_in, name_in, value_in, with_value, put_in, map_of, NamesOnce}
use Rattle.name_table.proofs.SlotLemmas.{slot_with, within, some_within, map_named}
use Rattle.quant.specs.declared.amount.Moment.{Moment}
use Rattle.book.specs.declared.finishes.TheConstants.{NEVER}
use Rattle.book.specs.declared.limits.TheConstants.{EXPIRY}
use Rattle.book.specs.declared.place.Place.{Place}
use Rattle.book.specs.declared.place.Status.{Status}
use Rattle.book.specs.declared.place.Status.TheVariants.{Assumed, Bound}
use Rattle.book.specs.Cluster.{name_cmp, Places}
use Rattle.book.specs.Expiry.{is_overdue, has_expired, IsFirstExpired, NoneExpired}
use Rattle.book.specs.inside.Finishes.{millisecond, finish_of, finish_in, is_finished_by, is_limit, IsFrom, IsGathered}
use Rattle.book.specs.Step.{stands}

-- ---- what expires

module _ (now : Moment) (few : now.0 < 2 ^ 64) where
  by_finish : (finished : Option Moment) → EXPIRY ≤ now.0 → is_overdue now finished ≡ Rattle.std.specs.Prelude.nat_le (millisecond finished) (now.0 - EXPIRY)
  by_finish None late = sym (lt-leb _ _ (omega arith))
  by_finish (Some at) late = both_ways_of _ _
      (λ e. let h = leb-true _ _ e in le-leb _ _ (omega arith))
      (λ e. let h = leb-true _ _ e in le-leb _ _ (omega arith))
    where
      both_ways_of : (a b : Bool) → (a ≡ true → b ≡ true) → (b ≡ true → a ≡ true) → a ≡ b
      both_ways_of true b f g = sym (f refl)
      both_ways_of false true f g = g refl
      both_ways_of false false f g = refl

  by_status : (status : Status) → EXPIRY ≤ now.0 → has_expired now status ≡ Rattle.std.specs.Prelude.nat_le (finish_of status) (now.0 - EXPIRY)
  by_status (Assumed ticket finished) late = by_finish finished late
  by_status Bound late = sym (lt-leb _ _ (omega arith))

  -- a place expires just where its bind was reported done as long ago
  pub expired_by : (o : Option Place) → EXPIRY ≤ now.0 → stands (has_expired now) o ≡ is_finished_by (now.0 - EXPIRY) o
  expired_by None late = refl
  expired_by (Some place) late = by_status place.status late

-- nothing expires before the clock has gone as far
early_finish : (now : Moment) (finished : Option Moment) → now.0 < EXPIRY → is_overdue now finished ≡ false
early_finish now None early = refl
early_finish now (Some at) early = lt-leb _ _ (omega arith)

early_status : (now : Moment) (status : Status) → now.0 < EXPIRY → has_expired now status ≡ false
early_status now (Assumed ticket finished) early = early_finish now finished early
early_status now Bound early = refl

pub none_early : (now : Moment) (o : Option Place) → now.0 < EXPIRY → stands (has_expired now) o ≡ false
none_early now None early = refl
none_early now (Some place) early = early_status now place.status early

-- ---- the uids that are gathered

kept_there : (limit : ℕ) (b : Bool) (o : Option Place) → is_finished_by limit (cond b None o) ≡ true → is_finished_by limit o ≡ true
kept_there limit true o e = absurd (cc)
kept_there limit false o e = e

-- they are gathered where a place goes
pub gathered_less : (places : Places) (limit : ℕ) (names : List (List ℕ)) (given : ℕ) (uid : List ℕ) → IsGathered places limit names given → IsGathered (fin.remove places uid) limit names given
gathered_less places limit names given uid g = record {
  sorted = g.sorted;
  all = λ other e. g.all other (kept_there limit (eq_by_cmp name_cmp other uid) (fin.get places other)
      (ap (is_finished_by limit) (sym (fin.get-remove nat_list_cmp_total places uid other)) ∙ e));
}

-- the first is passed over where it isn't finished
pub passed_over : (places : Places) (limit : ℕ) (names : List (List ℕ)) (given : ℕ) (uid : List ℕ) → IsGathered places limit names given → given < length names → uid ≡ get_or names given uid
    → is_finished_by limit (fin.get places uid) ≡ false → IsGathered places limit names (given + 1)
passed_over places limit names given uid g lt is not = record {
  sorted = g.sorted;
  all = λ other e.
      let at = g.all other e in
      elim (cases_eq at.0 given) [
        | inl same ↦ absurd (
            let here : get_or names given other ≡ other = subst (λ k. get_or names k other ≡ other) same at.3 in
            let one : uid ≡ other = is ∙ get_or_default names given uid other lt ∙ here in
            let yes : is_finished_by limit (fin.get places uid) ≡ true = ap (λ n. is_finished_by limit (fin.get places n)) one ∙ e in
            cc)
        | inr apart ↦ (at.0, omega (arith, at.1, apart), at.2, at.3)
      ];
}

-- and is the least of those that are finished, where it is one
pub least_of : (places : Places) (limit : ℕ) (names : List (List ℕ)) (given : ℕ) (uid : List ℕ) → IsGathered places limit names given → given < length names → uid ≡ get_or names given uid
    → (other : List ℕ) → is_finished_by limit (fin.get places other) ≡ true → is_lt (name_cmp other uid) ≡ false
least_of places limit names given uid g lt is other e =
    let at = g.all other e in
    let there : get_or names at.0 uid ≡ other = get_or_default names at.0 uid other at.2 ∙ at.3 in
    let far = sorted_far (λ x y. is_lt (name_cmp x y)) (ranks_by nat_list_cmp_total (λ x. x)) names g.sorted given at.0 uid at.1 at.2 in
    (λ i. is_lt (name_cmp (sym there i) (is i))) ∙ far

-- at the end none is finished
pub none_left : (places : Places) (limit : ℕ) (names : List (List ℕ)) (given : ℕ) → IsGathered places limit names given → length names ≤ given
    → (uid : List ℕ) → is_finished_by limit (fin.get places uid) ≡ false
none_left places limit names given g end uid = false_from_ne_true _ (λ e. let at = g.all uid e in omega (arith, at.1, at.2))

-- ---- the slots

-- a slot with a millisecond up to a limit has a place
pub finished_there : (o : Option (Entry Place)) (limit : ℕ) → limit < NEVER → finish_in o ≤ limit → IsSome o
finished_there None limit early le = absurd (omega arith)
finished_there (Some e) limit early le = refl

-- the millisecond of a slot
pub finish_at : (s : Slots Place) (finishes : List ℕ) (i : ℕ) → finishes ≡ map finish_in s → i < length s → get_or finishes i 0 ≡ finish_in (entry_in s i)
finish_at s finishes i timed lt = ap (λ l. get_or l i 0) timed ∙ get_or-map finish_in s i None 0 lt

-- a place that is finished is in a slot that has a millisecond up to the limit
pub finished_slot : (s : Slots Place) (finishes : List ℕ) (limit : ℕ) (uid : List ℕ) → NamesOnce s → finishes ≡ map finish_in s → is_finished_by limit (fin.get (map_of s) uid) ≡ true
    → (i : ℕ) × (i < length s) × (get_or finishes i 0 ≤ limit) × (name_in s i ≡ Some uid)
finished_slot s finishes limit uid once timed e = by (fin.get (map_of s) uid) refl e
  where
    by : (o : Option Place) → fin.get (map_of s) uid ≡ o → is_finished_by limit o ≡ true → (i : ℕ) × (i < length s) × (get_or finishes i 0 ≤ limit) × (name_in s i ≡ Some uid)
    by None is h = absurd (cc)
    by (Some place) is h =
        let at = slot_with s uid place once is in
        let lt : at.0 < length s = within s at.0 _ at.1 in
        let ms : get_or finishes at.0 0 ≡ finish_of place.status = finish_at s finishes at.0 timed lt ∙ ap finish_in at.1 in
        let le = leb-true _ _ h in
        (at.0, lt, omega (arith, ms, le), ap (option_map (λ (k : Entry Place). k.name)) at.1)

-- the millisecond of a place, if there is one
abbrev finish_by : Option Place → ℕ
finish_by None = NEVER
finish_by (Some place) = finish_of place.status

finish_in_is : (o : Option (Entry Place)) → finish_in o ≡ finish_by (option_map (λ (k : Entry Place). k.value) o)
finish_in_is None = refl
finish_in_is (Some e) = refl

-- a place in a slot that has a millisecond up to a limit is finished
pub finished_here : (s : Slots Place) (finishes : List ℕ) (limit i : ℕ) (uid : List ℕ) → NamesOnce s → limit < NEVER → finishes ≡ map finish_in s → i < length finishes → get_or finishes i 0 ≤ limit
    → name_in s i ≡ Some uid → is_finished_by limit (fin.get (map_of s) uid) ≡ true
finished_here s finishes limit i uid once early timed lt le named =
    let many : length finishes ≡ length s = ap length timed ∙ length-map s finish_in in
    let ms : get_or finishes i 0 ≡ finish_by (value_in s i) = finish_at s finishes i timed (omega (arith, lt, many)) ∙ finish_in_is (entry_in s i) in
    ap (is_finished_by limit) (map_named s i uid once named) ∙ by (value_in s i) (omega (arith, ms, le))
  where
    by : (o : Option Place) → finish_by o ≤ limit → is_finished_by limit o ≡ true
    by None le = absurd (omega arith)
    by (Some place) le = le-leb (finish_of place.status) limit le

-- where no slot has a millisecond up to a limit, no place is finished
pub none_in_slots : (s : Slots Place) (finishes : List ℕ) (limit : ℕ) → NamesOnce s → finishes ≡ map finish_in s → ((i : ℕ) → 0 ≤ i → i < length finishes → limit < get_or finishes i 0)
    → (uid : List ℕ) → is_finished_by limit (fin.get (map_of s) uid) ≡ false
none_in_slots s finishes limit once timed none uid = elim (is_finished_by limit (fin.get (map_of s) uid)) as (λ b. is_finished_by limit (fin.get (map_of s) uid) ≡ b → b ≡ false) [
  | true ↦ λ e.
      let at = finished_slot s finishes limit uid once timed e in
      let many : length finishes ≡ length s = ap length timed ∙ length-map s finish_in in
      absurd (omega (arith, none at.0 (omega arith) (omega (arith, at.1, many)), at.2))
  | false ↦ λ e. refl
] refl

-- a slot's millisecond is in range
pub slot_timed : (s : Slots Place) (finishes : List ℕ) (i : ℕ) → finishes ≡ map finish_in s → IsSome (entry_in s i) → i < length finishes
slot_timed s finishes i timed there = let lt = some_within s i there in let many : length finishes ≡ length s = ap length timed ∙ length-map s finish_in in omega (arith, lt, many)

-- a slot is set, and its millisecond with it
pub timed_set : (s t : Slots Place) (f g : List ℕ) (i at : ℕ) (o : Option (Entry Place)) → f ≡ map finish_in s → t ≡ set s i o → g ≡ set f i at → at ≡ finish_in o → g ≡ map finish_in t
timed_set s t f g i at o timed put new is =
    new ∙ (λ k. set (timed k) i (is k)) ∙ sym (map-set finish_in s i o) ∙ ap (map finish_in) (sym put)

finish_with : (o : Option (Entry Place)) (p : Place) → IsSome o → finish_of p.status ≡ finish_in (with_value o p)
finish_with None p there = absurd (cc)
finish_with (Some e) p there = refl

-- a slot gets another place, and its millisecond with it
pub timed_put : (s t : Slots Place) (f g : List ℕ) (i at : ℕ) (p : Place) → IsSome (entry_in s i) → f ≡ map finish_in s → t ≡ put_in s i p → g ≡ set f i at → at ≡ finish_of p.status → g ≡ map finish_in t
timed_put s t f g i at p there timed put new is = timed_set s t f g i at (with_value (entry_in s i) p) timed put new (is ∙ finish_with (entry_in s i) p there)

-- those that are gathered, if any are, stay so where a place goes
pub gathered_any : (places new : Places) (limit : Option ℕ) (names : List (List ℕ)) (given : ℕ) (uid : List ℕ) → IfSome limit (λ l. IsGathered places l names given) → new ≡ fin.remove places uid
    → IfSome limit (λ l. IsGathered new l names given)
gathered_any places new None names given uid g is = tt
gathered_any places new (Some limit) names given uid g is = subst (λ m. IsGathered m limit names given) (sym is) (gathered_less places limit names given uid g)

-- one more slot has been gone over
pub collected_more : (names new : List (List ℕ)) (s : Slots Place) (finishes : List ℕ) (limit from slot : ℕ) (name : List ℕ) → new ≡ names ++ name ∷ [] → name_in s slot ≡ Some name
    → ((i : ℕ) → from ≤ i → i < slot → limit < get_or finishes i 0)
    → ((i : ℕ) (uid : List ℕ) → i < from → get_or finishes i 0 ≤ limit → name_in s i ≡ Some uid → Contains names uid)
    → (i : ℕ) (uid : List ℕ) → i < slot + 1 → get_or finishes i 0 ≤ limit → name_in s i ≡ Some uid → Contains new uid
collected_more names new s finishes limit from slot name put at late all i uid lt le named = subst (λ l. Contains l uid) (sym put) (elim (cases_lt i from) [
  | inl before ↦ Contains-append_left names (name ∷ []) uid (all i uid before le named)
  | inr later ↦ elim (cases_eq i slot) [
    | inl same ↦
        let one : Some name ≡ Some uid = sym at ∙ ap (name_in s) (sym same) ∙ named in
        let is : name ≡ uid = cc in
        subst (λ q. Contains (names ++ name ∷ []) q) is (Contains-push names name)
    | inr apart ↦ absurd (let out = late i later (omega (arith, lt, apart)) in omega (arith, out, le))
  ]
])

-- all slots have been gone over
pub collected_all : (names : List (List ℕ)) (s : Slots Place) (finishes : List ℕ) (limit from : ℕ) → NamesOnce s → finishes ≡ map finish_in s
    → ((i : ℕ) → from ≤ i → i < length finishes → limit < get_or finishes i 0)
    → ((i : ℕ) (uid : List ℕ) → i < from → get_or finishes i 0 ≤ limit → name_in s i ≡ Some uid → Contains names uid)
    → (uid : List ℕ) → is_finished_by limit (fin.get (map_of s) uid) ≡ true → Contains names uid
collected_all names s finishes limit from once timed late all uid e =
    let at = finished_slot s finishes limit uid once timed e in
    let many : length finishes ≡ length s = ap length timed ∙ length-map s finish_in in
    elim (cases_lt at.0 from) [
      | inl before ↦ all at.0 uid before at.2 at.3
      | inr later ↦ absurd (let out = late at.0 later (omega (arith, at.1, many)) in omega (arith, out, at.2))
    ]

-- what is in a list is in it from the first place on
pub from_first : (names : List (List ℕ)) (uid : List ℕ) → Contains names uid → IsFrom names 0 uid
from_first names uid at = (at.0, omega arith, at.1, at.2)

-- the limit that they are gathered for
pub limit_is : (limit : ℕ) (o : Option ℕ) → is_limit limit o ≡ true → o ≡ Some limit
limit_is limit None e = absurd (cc)
limit_is limit (Some known) e = ap Some (eqb-true known limit e)

pub gathered_at : (places : Places) (o : Option ℕ) (limit : ℕ) (names : List (List ℕ)) (given : ℕ) → IfSome o (λ l. IsGathered places l names given) → o ≡ Some limit → IsGathered places limit names given
gathered_at places o limit names given g is = subst (λ p. IfSome p (λ l. IsGathered places l names given)) is g

pub gathered_for : (places : Places) (o : Option ℕ) (limit : ℕ) (names : List (List ℕ)) (given : ℕ) → IsGathered places limit names given → o ≡ Some limit → IfSome o (λ l. IsGathered places l names given)
gathered_for places o limit names given g is = subst (λ p. IfSome p (λ l. IsGathered places l names given)) (sym is) g

-- ---- what is promised of expiry

pub first_expired : (places : Places) (now : Moment) (uid : List ℕ) → now.0 < 2 ^ 64 → EXPIRY ≤ now.0 → is_finished_by (now.0 - EXPIRY) (fin.get places uid) ≡ true
    → ((other : List ℕ) → is_finished_by (now.0 - EXPIRY) (fin.get places other) ≡ true → is_lt (name_cmp other uid) ≡ false) → IsFirstExpired places now uid
first_expired places now uid few late finished least = record {
  expired = expired_by now few (fin.get places uid) late ∙ finished;
  least = λ other e. least other (sym (expired_by now few (fin.get places other) late) ∙ e);
}

pub none_expired : (places : Places) (now : Moment) → now.0 < 2 ^ 64 → EXPIRY ≤ now.0 → ((uid : List ℕ) → is_finished_by (now.0 - EXPIRY) (fin.get places uid) ≡ false) → NoneExpired places now
none_expired places now few late none uid = expired_by now few (fin.get places uid) late ∙ none uid

pub too_early : (places : Places) (now : Moment) → now.0 < EXPIRY → NoneExpired places now
too_early places now early uid = none_early now (fin.get places uid) early
