-- Sums over maps of which one is within the other.
use Rattle.std.proofs.Common.{◌≡◌, ◌≢◌, ◌⊎◌, inl, inr, ℕ, zero, suc, ◌-◌, ◌≤◌, true, false, cond, List, [], ◌∷◌, length, Option, None, Some, is_some, sum_by, refl, ap, ◌∙◌, arith}
use Rattle.std.specs.Str.{bytes_eq}
use Rattle.std.specs.Cmp.Lexicographic.{nat_list_cmp_total, bytes_decides}
use Rattle.std.specs.FinMap as fin
use Rattle.std.specs.FinMap.{FinMap, find}
use Rattle.std.specs.Map.{values_of}
use Rattle.std.proofs.lemmas.Bool.{cases_Bool}
use Rattle.book.specs.Cluster.{name_cmp, Places}
use Rattle.book.specs.Totals.{IsWithin}
use Rattle.book.specs.Used.{share, used}
use Rattle.book.specs.declared.place.Place.{Place}
use Rattle.ledger.specs.World.{IsNoMore}
use Rattle.book.proofs.SumLemmas.{of_option, sum_remove, entries_empty, get_removed}
use Rattle.book.proofs.TableLemmas.{same_test}

-- two names are one or not
pub cases_name : (a b : List ℕ) → (a ≡ b) ⊎ ((a ≢ b) × (bytes_eq a b ≡ false))
cases_name a b = elim (cases_Bool (bytes_eq a b)) [
  | inl is ↦ inl ((bytes_decides a b).0 is)
  | inr isnt ↦ inr (λ e. absurd (let t : bytes_eq a b ≡ true = (bytes_decides a b).1 e in cc), isnt)
]

module _ {X : Type 0} (m : FinMap name_cmp X) (k : List ℕ) where
  -- what was put is there
  pub put_here : (v : X) → fin.get (fin.insert m k v) k ≡ Some v
  put_here v = fin.get-insert nat_list_cmp_total m k v k ∙ ap (λ b. cond b (Some v) (fin.get m k)) (same_test k k ∙ (bytes_decides k k).1 refl)

  -- and all else as before
  pub put_away : (v : X) (q : List ℕ) → bytes_eq q k ≡ false → fin.get (fin.insert m k v) q ≡ fin.get m q
  put_away v q other = fin.get-insert nat_list_cmp_total m k v q ∙ ap (λ b. cond b (Some v) (fin.get m q)) (same_test q k ∙ other)

  pub out_away : (q : List ℕ) → bytes_eq q k ≡ false → fin.get (fin.remove m k) q ≡ fin.get m q
  out_away q other = fin.get-remove nat_list_cmp_total m k q ∙ ap (λ b. cond b None (fin.get m q)) (same_test q k ∙ other)

module _ {X : Type 0} (number : X → ℕ) where
  -- the number that a map has at a name
  abbrev pub number_at : FinMap name_cmp X → List ℕ → ℕ
  number_at m q = of_option number (fin.get m q)

  -- the first entry is found
  first_found : (m : FinMap name_cmp X) (e : List ℕ × X) (es : List (List ℕ × X)) → fin.entries m ≡ e ∷ es → fin.get m e.0 ≡ Some e.1
  first_found m e es is = fin.get-entries m e.0 ∙ ap (find name_cmp e.0) is ∙ ap (λ b. cond b (Some e.1) (find name_cmp e.0 es)) (same_test e.0 e.0 ∙ (bytes_decides e.0 e.0).1 refl)

  -- what is taken out counts nothing, and all else as before
  out_less : (m : FinMap name_cmp X) (k q : List ℕ) → number_at (fin.remove m k) q ≤ number_at m q
  out_less m k q = elim (cases_name q k) [
    | inl same ↦ omega (arith, ap (number_at (fin.remove m k)) same ∙ ap (of_option number) (get_removed m k))
    | inr other ↦ omega (arith, ap (of_option number) (out_away m k q other.1))
  ]

  both_less : (m n : FinMap name_cmp X) (k q : List ℕ) → number_at m q ≤ number_at n q → number_at (fin.remove m k) q ≤ number_at (fin.remove n k) q
  both_less m n k q less = elim (cases_name q k) [
    | inl same ↦ omega (arith, ap (number_at (fin.remove m k)) same ∙ ap (of_option number) (get_removed m k))
    | inr other ↦ omega (arith, less, ap (of_option number) (out_away m k q other.1), ap (of_option number) (out_away n k q other.1))
  ]

  one_out : (m : FinMap name_cmp X) (k : List ℕ) (v : X) → fin.get m k ≡ Some v → fin.len (fin.remove m k) ≡ fin.len m - 1
  one_out m k v there = fin.len-remove nat_list_cmp_total m k ∙ ap (λ o. cond (is_some o) (fin.len m - 1) (fin.len m)) there

  abbrev IsLess : FinMap name_cmp X → FinMap name_cmp X → Type 0
  IsLess m n = (q : List ℕ) → number_at m q ≤ number_at n q

  abbrev total : FinMap name_cmp X → ℕ
  total m = sum_by number (fin.values m)

  -- as much is taken off both maps as one name has, where the rest of the first is less
  without_one : (m n : FinMap name_cmp X) (k : List ℕ) (v : X) → fin.get m k ≡ Some v → IsLess m n → ((n : FinMap name_cmp X) → IsLess (fin.remove m k) n → total (fin.remove m k) ≤ total n) → (o : Option X) → fin.get n k ≡ o → total m ≤ total n
  without_one m n k v there less rest None is =
      omega (arith, sum_remove m k number v there, less k, ap (of_option number) there, ap (of_option number) is, rest n (λ q. let l = less q in let o = out_less m k q in omega (arith, l, o)))
  without_one m n k v there less rest (Some w) is =
      omega (arith, sum_remove m k number v there, less k, ap (of_option number) there, ap (of_option number) is, sum_remove n k number w is, rest (fin.remove n k) (λ q. both_less m n k q (less q)))

  -- what a step does, by the entries
  by_entries : (left : ℕ) (m n : FinMap name_cmp X) → fin.len m ≡ suc left → IsLess m n → ((m n : FinMap name_cmp X) → fin.len m ≡ left → IsLess m n → total m ≤ total n) → (es : List (List ℕ × X)) → fin.entries m ≡ es → total m ≤ total n
  by_entries left m n some less again [] is = absurd (let none : fin.len m ≡ 0 = fin.len-entries m ∙ ap length is in omega (arith, none, some))
  by_entries left m n some less again (e ∷ es) is =
      let there : fin.get m e.0 ≡ Some e.1 = first_found m e es is in
      let fewer : fin.len (fin.remove m e.0) ≡ left = let one = one_out m e.0 e.1 there in omega (arith, one, some) in
      without_one m n e.0 e.1 there less (λ n less. again (fin.remove m e.0) n fewer less) (fin.get n e.0) refl

  -- a map that has no more anywhere has no more in all
  pub sum_within : (left : ℕ) (m n : FinMap name_cmp X) → fin.len m ≡ left → IsLess m n → total m ≤ total n
  sum_within zero m n none less =
      let empty : m ≡ fin.empty = fin.empty_of_len m none in
      omega (arith, ap total empty, ap (λ es. sum_by number (values_of es)) (entries_empty X))
  sum_within (suc left) m n some less = by_entries left m n some less (sum_within left) (fin.entries m) refl

-- one place is where another is, and takes no more
abbrev pub IsSamePlace : Place → Place → Type 0
IsSamePlace p q = (p.node ≡ q.node) × IsNoMore p.request q.request

-- as a place is itself
pub same_itself : (p : Place) → IsSamePlace p p
same_itself p = (refl, record { cpu = omega arith; mem = omega arith })

-- each place of the one map is in the other
abbrev pub IsIn : Places → Places → Type 0
IsIn m n = (uid : List ℕ) (p : Place) → fin.get m uid ≡ Some p → (q : Place) × (fin.get n uid ≡ Some q) × IsSamePlace p q

module _ (m n : Places) (inside : IsIn m n) where
  less_at : (number : Place → ℕ) → ((p q : Place) → IsSamePlace p q → number p ≤ number q) → (uid : List ℕ) → of_option number (fin.get m uid) ≤ of_option number (fin.get n uid)
  less_at number alike uid = by (fin.get m uid) refl
    where
      by : (o : Option Place) → fin.get m uid ≡ o → of_option number (fin.get m uid) ≤ of_option number (fin.get n uid)
      by None is = omega (arith, ap (of_option number) is)
      by (Some p) is =
          let there = inside uid p is in
          omega (arith, ap (of_option number) is, ap (of_option number) there.1, alike p there.0 there.2)

  share_less : (node : List ℕ) (p q : Place) → IsSamePlace p q → IsWithin (share node p) (share node q)
  share_less node p q same = record { cpu = grind (arith, same.0, same.1.cpu); mem = grind (arith, same.0, same.1.mem); pods = grind (arith, same.0) }

  -- what is used by places is within what is used by more
  pub used_within : (node : List ℕ) → IsWithin (used m node) (used n node)
  used_within node = record {
    cpu = sum_within (λ p. (share node p).cpu.0) (fin.len m) m n refl (less_at (λ p. (share node p).cpu.0) (λ p q same. (share_less node p q same).cpu));
    mem = sum_within (λ p. (share node p).mem.0) (fin.len m) m n refl (less_at (λ p. (share node p).mem.0) (λ p q same. (share_less node p q same).mem));
    pods = sum_within (λ p. (share node p).pods) (fin.len m) m n refl (less_at (λ p. (share node p).pods) (λ p q same. (share_less node p q same).pods));
  }
