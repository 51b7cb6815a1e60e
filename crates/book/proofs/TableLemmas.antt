-- What a list of entries says of the finite map that it stands for.
use Rattle.std.proofs.Common.{◌≡◌, ℕ, ◌||◌, Bool, false, cond, List, [], ◌∷◌, map, Some, refl, sym, ap, ◌∙◌}
use Rattle.std.specs.Ordering.{is_eq, eq_by_cmp}
use Rattle.std.specs.Cmp.{both_ways, tied_itself}
use Rattle.std.specs.Cmp.Lexicographic.{nat_list_cmp_total, bytes_decides}
use Rattle.std.specs.Str.{bytes_eq}
use Rattle.std.specs.List.{AllByRecursion, list_any}
use Rattle.std.specs.Map.{lookup}
use Rattle.std.specs.FinMap as fin
use Rattle.std.specs.FinMap.{FinMap, find}
use Rattle.book.specs.Cluster.{name_cmp}
use Rattle.book.specs.inside.Tables.{Held}
use Rattle.book.proofs.Put.{equal_of}
use Rattle.book.proofs.RowLemmas.{same_name}

-- names that compare as equal are those that pass the test of equality
pub same_test : (a b : List ℕ) → eq_by_cmp name_cmp a b ≡ bytes_eq a b
same_test a b = both_ways _ _
    (λ e. (bytes_decides a b).1 (same_name a b (equal_of _ e)))
    (λ e. ap (λ q. is_eq (name_cmp a q)) (sym ((bytes_decides a b).0 e)) ∙ ap is_eq (tied_itself nat_list_cmp_total a))

-- the test of equality is as good from the other side
pub test_turned : (a b : List ℕ) → bytes_eq a b ≡ bytes_eq b a
test_turned a b = both_ways _ _
    (λ e. (bytes_decides b a).1 (sym ((bytes_decides a b).0 e)))
    (λ e. (bytes_decides a b).1 (sym ((bytes_decides b a).0 e)))

-- a test that each key fails finds none
pub no_key : (test : List ℕ → Bool) (ks : List (List ℕ)) → AllByRecursion (λ k. test k ≡ false) ks → list_any test ks ≡ false
no_key test [] none = refl
no_key test (k ∷ ks) none = ap (λ b. b || list_any test ks) none.0 ∙ no_key test ks none.1

module _ {X : Type 0} where
  -- what is found by the order is what is found by the test of equality
  find_lookup : (es : List (List ℕ × X)) (q : List ℕ) → find name_cmp q es ≡ lookup (bytes_eq q) es
  find_lookup [] q = refl
  find_lookup (e ∷ es) q = ap (λ b. cond b (Some e.1) (find name_cmp q es)) (same_test q e.0) ∙ ap (cond (bytes_eq q e.0) (Some e.1)) (find_lookup es q)

  -- the finite map has at a name what the entries have
  pub get_map : (es : List (List ℕ × X)) (q : List ℕ) → fin.get (fin.from_entries {R = name_cmp} es) q ≡ lookup (bytes_eq q) es
  get_map es q = fin.get-from_entries nat_list_cmp_total es q ∙ find_lookup es q

-- a table with this map
abbrev pub held : {X : Type 0} → FinMap name_cmp X → ℕ → Held X
held map room = record { map = map; room = room }
