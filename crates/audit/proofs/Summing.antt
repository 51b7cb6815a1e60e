-- What holds of all rows holds of all that they show; sums over slots are sums over the places in
-- them, and pieces of slots have together what all have.
use Rattle.std.proofs.Common.{◌≡◌, ℕ, suc, ◌+◌, ◌*◌, ◌^◌, ◌<◌, ◌≤◌, Bool, List, [], ◌∷◌, length, map, take, get_or, cond, true, false, bytes_eq, Option, Some, None, Result, Ok, Err, IfOk, sum_by, arith, ◌↔◌, subst, refl, sym, ap, ◌∙◌, inl, inr, Bor}
use Rattle.std.specs.Bool.{IsTrue}
use Rattle.std.specs.List.{All, AllZip, Contains, flat_map}
use Rattle.std.specs.Prelude.{unwrap_or, max, MatchResult}
use Rattle.std.specs.Map.{lookup}
use Rattle.std.specs.BTreeMap.{get_by, Updates}
use Rattle.std.specs.Cmp.Lexicographic.{bytes_decides}
use Rattle.std.proofs.lemmas.Bool.{cases_Bool, cond-true, cond-false}
use Rattle.std.proofs.lemmas.List.Elements.{All-map, All-cons}
use Rattle.std.proofs.lemmas.List.Sums.{sum_by-cons, sum_by-append}
use Rattle.std.proofs.lemmas.List.{length-take}
use Rattle.quant.specs.declared.amount.Res.{Res}
use Rattle.name_table.specs.Slots.{Slots, map_of, NamesOnce}
use Rattle.name_table.specs.inside.Slots.{number_in}
use Rattle.name_table.specs.declared.entry.Entry.{Entry}
use Rattle.name_table.proofs.SlotLemmas.{sum_map}
use Rattle.book.specs.declared.place.Place.{Place}
use Rattle.book.specs.Cluster.{name_cmp, Places}
use Rattle.book.specs.Used.{used, share}
use Rattle.book.proofs.TableLemmas.{same_test}
use Rattle.desk.specs.Shown.{Shown, shown}
use Rattle.desk.specs.declared.snapshot.Row.{Row}
use Rattle.rayon.specs.Lists.{chunks_of}
use Rattle.rayon.proofs.ToStd.{chunks_of-All, chunks_of-concat}
use Rattle.audit.specs.declared.sums.Sums.{Sums}
use Rattle.audit.specs.Audit.{ShowsSums}
use Rattle.audit.specs.inside.Audit.{cpu_on, mem_on, pods_on, amounts, nothing, plus, AddsShare, used_in, sum_in, total_in, IsSumOf, HasRoom}

module _ {X Y : Type 0} (P : X → Type 0) (f : Y → X) where
  back : (ys : List Y) → All P (map f ys) → All (λ y. P (f y)) ys
  back [] h = λ k d lt. absurd (omega arith)
  back (y ∷ ys) h = All-cons (λ y. P (f y)) y ys (h 0 (f y) (omega arith)) (back ys (λ k d lt. h (suc k) d (omega arith)))

  pub across : (b : Bool) (ys : List Y) (xs : List X) → map f ys ≡ xs → (IsTrue b ↔ All (λ y. P (f y)) ys) → IsTrue b ↔ All P xs
  across b ys xs is h = subst (λ (l : List X). IsTrue b ↔ All P l) is ((λ t. All-map P f ys (h.0 t)), λ a. h.1 (back ys a))

pub same_res : (a b : Res) → a.cpu.0 ≡ b.cpu.0 → a.mem.0 ≡ b.mem.0 → a.pods ≡ b.pods → a ≡ b
same_res a b cpu mem pods = λ i. record { cpu = record { 0 = cpu i }; mem = record { 0 = mem i }; pods = pods i }

-- what slots add up to is what the places in them use
pub used_of_slots : (slots : Slots Place) (node : List ℕ) → NamesOnce slots → used_in slots node ≡ used (map_of slots) node
used_of_slots slots node once =
    same_res _ _ (sym (sum_map (cpu_on node) slots once)) (sym (sum_map (mem_on node) slots once)) (sym (sum_map (pods_on node) slots once))

-- ---- tables

-- a query by a name finds what stands under it
pub by_name : (sums : Sums) (node : List ℕ) → get_by (name_cmp node) sums.by_node ≡ lookup (bytes_eq node) sums.by_node.entries
by_name sums node = ap (λ (test : List ℕ → Bool). lookup test sums.by_node.entries) (λ i other. same_test node other i)

-- what a query found, or nothing
pub found : (sums : Sums) (node : List ℕ) (o : Option Res) → o ≡ get_by (name_cmp node) sums.by_node → unwrap_or o nothing ≡ sum_in sums node
found sums node o is = ap (λ (p : Option Res). unwrap_or p nothing) (is ∙ by_name sums node)

pub of_none : (sums : Sums) (node : List ℕ) → sums.by_node.entries ≡ [] → sum_in sums node ≡ nothing
of_none sums node none = ap (λ (es : List (List ℕ × Res)). unwrap_or (lookup (bytes_eq node) es) nothing) none

-- after another sum was given to a name
pub set_there : (old new : Sums) (node : List ℕ) (sum : Res) → Updates name_cmp old.by_node new.by_node node (Some sum) → sum_in new node ≡ sum
set_there old new node sum updates = sym (found new node (Some sum) (sym updates.1))

pub set_elsewhere : (old new : Sums) (node other : List ℕ) (sum : Res) → Updates name_cmp old.by_node new.by_node node (Some sum) → bytes_eq node other ≡ false → sum_in new other ≡ sum_in old other
set_elsewhere old new node other sum updates apart =
    sym (found new other _ refl) ∙ ap (λ (p : Option Res). unwrap_or p nothing) (updates.2 other (same_test node other ∙ apart)) ∙ found old other _ refl

share_there : (place : Place) → share place.node place ≡ amounts place.request.cpu.0 place.request.mem.0 1
share_there place = cond-true (bytes_eq place.node place.node) (amounts place.request.cpu.0 place.request.mem.0 1) nothing ((bytes_decides place.node place.node).1 refl)

share_elsewhere : (place : Place) (node : List ℕ) → bytes_eq place.node node ≡ false → share node place ≡ nothing
share_elsewhere place node apart = cond-false (bytes_eq place.node node) (amounts place.request.cpu.0 place.request.mem.0 1) nothing apart

pub plus_nothing : (a : Res) → plus a nothing ≡ a
plus_nothing a = same_res _ _ (omega arith) (omega arith) (omega arith)

-- a place more
pub adds : (old new : Sums) (place : Place) (sum : Res) → sum ≡ plus (sum_in old place.node) (amounts place.request.cpu.0 place.request.mem.0 1) → sum_in new place.node ≡ sum
    → ((other : List ℕ) → bytes_eq place.node other ≡ false → sum_in new other ≡ sum_in old other) → AddsShare old place new
adds old new place sum is there others = λ node. elim (cases_Bool (bytes_eq place.node node)) [
  | inl same ↦ subst (λ (n : List ℕ). sum_in new n ≡ plus (sum_in old n) (share n place)) ((bytes_decides place.node node).0 same) (there ∙ is ∙ ap (plus (sum_in old place.node)) (sym (share_there place)))
  | inr apart ↦
      others node apart ∙ sym (plus_nothing (sum_in old node)) ∙ ap (plus (sum_in old node)) (sym (share_elsewhere place node apart))
]

-- ---- how much slots can add up to

module _ (f : Place → ℕ) (most : ℕ) (few : (place : Place) → f place ≤ most) where
  of_slot : (slot : Option (Entry Place)) → number_in f slot ≤ most
  of_slot None = omega arith
  of_slot (Some entry) = few entry.value

  of_slots : (slots : Slots Place) → sum_by (number_in f) slots ≤ length slots * most
  of_slots [] = omega arith
  of_slots (slot ∷ slots) = omega (arith, sum_by-cons (number_in f) slot slots, of_slot slot, of_slots slots)

module _ (node : List ℕ) where
  few_cpu : (place : Place) → cpu_on node place ≤ 2 ^ 30
  few_cpu place = elim (bytes_eq place.node node) as (λ b. (cond b (amounts place.request.cpu.0 place.request.mem.0 1) (amounts 0 0 0)).cpu.0 ≤ 2 ^ 30) [ true ↦ place.request.within_cpu | false ↦ omega arith ]

  few_mem : (place : Place) → mem_on node place ≤ 2 ^ 44
  few_mem place = elim (bytes_eq place.node node) as (λ b. (cond b (amounts place.request.cpu.0 place.request.mem.0 1) (amounts 0 0 0)).mem.0 ≤ 2 ^ 44) [ true ↦ place.request.within_mem | false ↦ omega arith ]

  few_pods : (place : Place) → pods_on node place ≤ 1
  few_pods place = elim (bytes_eq place.node node) as (λ b. (cond b (amounts place.request.cpu.0 place.request.mem.0 1) (amounts 0 0 0)).pods ≤ 1) [ true ↦ omega arith | false ↦ omega arith ]

-- sums of fewer than 16,384 slots leave room for one more
pub room_of_slots : (slots : Slots Place) (i : ℕ) (node : List ℕ) (sum : Res) → sum ≡ used_in (take i slots) node → i < 16384 → HasRoom sum
room_of_slots slots i node sum is few =
    let first : Slots Place = take i slots in
    let len = length-take i slots in
    let cpu = of_slots (cpu_on node) (2 ^ 30) (few_cpu node) first in
    let mem = of_slots (mem_on node) (2 ^ 44) (few_mem node) first in
    let pods = of_slots (pods_on node) 1 (few_pods node) first in
    subst HasRoom (sym is) (omega (arith, cpu, len, few), omega (arith, mem, len, few), omega (arith, pods, len, few))

-- ---- pieces

module _ (node : List ℕ) where
  together : (chunks : List (Slots Place)) (pieces : List Sums) → AllZip IsSumOf chunks pieces → total_in pieces node ≡ used_in (flat_map (λ l. l) chunks) node
  together [] [] h = refl
  together [] (p ∷ pieces) h = absurd h
  together (c ∷ chunks) [] h = absurd h
  together (c ∷ chunks) (p ∷ pieces) h =
      let first = h.0 node in
      let later = together chunks pieces h.1 in
      let rest = flat_map (λ l. l) chunks in
      same_res _ _
      (sum_by-cons (λ (q : Sums). (sum_in q node).cpu.0) p pieces ∙ (λ i. (first i).cpu.0 + (later i).cpu.0) ∙ sym (sum_by-append (number_in (cpu_on node)) c rest))
      (sum_by-cons (λ (q : Sums). (sum_in q node).mem.0) p pieces ∙ (λ i. (first i).mem.0 + (later i).mem.0) ∙ sym (sum_by-append (number_in (mem_on node)) c rest))
      (sum_by-cons (λ (q : Sums). (sum_in q node).pods) p pieces ∙ (λ i. (first i).pods + (later i).pods) ∙ sym (sum_by-append (number_in (pods_on node)) c rest))

-- what each piece's thread gives, where each gives something
pub each_piece : (E : Type 0) (refs : List (Bor (Slots Place))) (pieces : List Sums)
    → AllZip (λ ref (given : Result Sums E). IfOk given (IsSumOf ref.now)) refs (map Ok pieces)
    → AllZip IsSumOf (map (λ ref. ref.now) refs) pieces
each_piece E [] [] h = tt
each_piece E [] (p ∷ pieces) h = absurd h
each_piece E (r ∷ refs) [] h = absurd h
each_piece E (r ∷ refs) (p ∷ pieces) h = (h.0, each_piece E refs pieces h.1)

-- a piece is as short as it is to be
pub is_short : (size : ℕ) (slots : Slots Place) (k : ℕ) (d piece : Slots Place) → size ≡ 16384 → k < length (chunks_of (max size 1) slots) → piece ≡ get_or (chunks_of (max size 1) slots) k d
    → length piece ≤ 16384
is_short size slots k d piece is =
    subst (λ (s : ℕ). k < length (chunks_of (max s 1) slots) → piece ≡ get_or (chunks_of (max s 1) slots) k d → length piece ≤ 16384) (sym is)
    (λ lt piece_is. subst (λ (p : Slots Place). length p ≤ 16384) (sym piece_is) (chunks_of-All 16384 slots (omega arith) k d lt).1)

pub pieces_are : (size : ℕ) (told slots : Slots Place) → size ≡ 16384 → told ≡ slots → chunks_of (max size 1) told ≡ chunks_of 16384 slots
pieces_are size told slots is same = λ i. chunks_of (max (is i) 1) (same i)

-- the sums of all pieces together
pub gathered : {E : Type 0} (slots : Slots Place) (refs : List (Bor (Slots Place))) (given : List (Result Sums E)) (pieces : List Sums)
    → map (λ (ref : Bor (Slots Place)). ref.now) refs ≡ chunks_of 16384 slots → AllZip (λ ref r. IfOk r (IsSumOf ref.now)) refs given → given ≡ map Ok pieces
    → (node : List ℕ) → total_in pieces node ≡ used_in slots node
gathered {E} slots refs given pieces are all is node =
    together node (map (λ (ref : Bor (Slots Place)). ref.now) refs) pieces (each_piece E refs pieces (subst (λ (l : List (Result Sums E)). AllZip (λ ref r. IfOk r (IsSumOf ref.now)) refs l) is all))
    ∙ ap (λ (l : List (Slots Place)). used_in (flat_map (λ c. c) l) node) are
    ∙ ap (λ (l : Slots Place). used_in l node) (chunks_of-concat 16384 slots (omega arith))

-- the same of a table a piece, where none wanted memory
pub pieces_have : {V E : Type 0} (items : V → List Sums) (result : Result V E) (slots : Slots Place) (refs : List (Bor (Slots Place))) (given : List (Result Sums E))
    → map (λ (ref : Bor (Slots Place)). ref.now) refs ≡ chunks_of 16384 slots → AllZip (λ ref r. IfOk r (IsSumOf ref.now)) refs given
    → MatchResult result (λ v. (pieces : List Sums) × (given ≡ map Ok pieces) × (items v ≡ pieces)) (λ e. Contains given (Err e))
    → IfOk result (λ v. (node : List ℕ) → total_in (items v) node ≡ used_in slots node)
pieces_have items (Ok v) slots refs given are all has = gathered slots refs given (items v) are all (has.1 ∙ ap (map Ok) (sym has.2))
pieces_have items (Err e) slots refs given are all has = tt

-- ---- the audit

pub audited : (answer : Bool) (rows : List Row) (snapshot : List Shown) (pieces : List Sums) (slots : Slots Place) (places : Places) → map shown rows ≡ snapshot → NamesOnce slots → map_of slots ≡ places
    → ((node : List ℕ) → total_in pieces node ≡ used_in slots node) → (IsTrue answer ↔ All (λ row. row.used ≡ total_in pieces row.node.name) rows) → IsTrue answer ↔ ShowsSums snapshot places
audited answer rows snapshot pieces slots places rows_are once map_is sums says =
    let shows = across (λ (s : Shown). s.used ≡ total_in pieces s.node.name) shown answer rows snapshot rows_are says in
    let are : (node : List ℕ) → total_in pieces node ≡ used places node =
    λ node. sums node ∙ used_of_slots slots node once ∙ ap (λ (p : Places). used p node) map_is in
    ((λ t k d lt. shows.0 t k d lt ∙ are _), λ a. shows.1 (λ k d lt. a k d lt ∙ sym (are _)))
