-- What a book has once a pod or a node is gone.
use Rattle.std.proofs.Common.{◌≡◌, inl, inr, ℕ, ◌+◌, ◌-◌, ◌<◌, false, cond, List, Option, None, Some, is_some, refl, sym, ap, ◌∙◌, arith}
use Rattle.std.specs.Prelude.{if◌then◌else◌}
use Rattle.std.specs.Str.{bytes_eq}
use Rattle.std.specs.Cmp.Lexicographic.{nat_list_cmp_total, bytes_decides}
use Rattle.std.specs.FinMap.{FinMap, IsAntisymmetric, nat_cmp-IsAntisymmetric, slice_cmp-IsAntisymmetric, get, contains_key, insert, remove, len, get-remove, len-insert, len-remove, same_map}
use Rattle.quant.specs.declared.event.Event.TheVariants.{NodeGone, PodGone}
use Rattle.book.specs.Cluster.{name_cmp, Cluster}
use Rattle.book.specs.Step.{after}
use Rattle.book.proofs.SumLemmas.{get_removed}
use Rattle.book.proofs.TableLemmas.{same_test}
use Rattle.ledger.specs.Telling.{step_of, next_version}
use Rattle.ledger.proofs.Included.{cases_name, put_here, put_away, out_away}

pub place_gone : (c : Cluster) (uid other : List ℕ) → c.version < 18446744073709551615 → get (after c (step_of (PodGone (next_version c) uid))).places other ≡ (if bytes_eq other uid then None else get c.places other)
place_gone c uid other low = grind (arith, get-remove nat_list_cmp_total c.places uid other, same_test other uid, (bytes_decides other uid).0)

pub row_gone : (c : Cluster) (name other : List ℕ) → c.version < 18446744073709551615 → get (after c (step_of (NodeGone (next_version c) name))).nodes other ≡ (if bytes_eq other name then None else get c.nodes other)
row_gone c name other low = grind (arith, get-remove nat_list_cmp_total c.nodes name other, same_test other name, (bytes_decides other name).0)

-- names that tie are the same
pub names_apart : IsAntisymmetric name_cmp
names_apart = slice_cmp-IsAntisymmetric nat_cmp-IsAntisymmetric

module _ {X : Type 0} (m : FinMap name_cmp X) (k : List ℕ) where
  -- what was taken away, put back
  put_back : (v : X) → get m k ≡ Some v → insert (remove m k) k v ≡ m
  put_back v is = same_map nat_list_cmp_total names_apart (insert (remove m k) k v) m (λ q. elim (cases_name q k) [
    | inl here ↦ ap (get (insert (remove m k) k v)) here ∙ put_here (remove m k) k v ∙ sym is ∙ ap (get m) (sym here)
    | inr other ↦ put_away (remove m k) k v q other.1 ∙ out_away m k q other.1
  ])

  less_by : (o : Option X) → get m k ≡ o → len (remove m k) + (if is_some o then 1 else 0) ≡ len m
  less_by None is = let all : len (remove m k) ≡ len m = len-remove nat_list_cmp_total m k ∙ ap (λ o. cond (is_some o) (len m - 1) (len m)) is in omega (arith, all)
  less_by (Some v) is =
      let none : contains_key (remove m k) k ≡ false = ap is_some (get_removed m k) in
      let one : len (insert (remove m k) k v) ≡ len (remove m k) + 1 = len-insert nat_list_cmp_total (remove m k) k v ∙ ap (λ b. cond b (len (remove m k)) (len (remove m k) + 1)) none in
      let back : len (insert (remove m k) k v) ≡ len m = ap len (put_back v is) in
      omega (arith, one, back)

  pub less_one : len (remove m k) + (if is_some (get m k) then 1 else 0) ≡ len m
  less_one = less_by (get m k) refl

-- the book has one version more where it has one place less
pub place_counted : (c : Cluster) (uid : List ℕ) → c.version < 18446744073709551615 → (after c (step_of (PodGone (next_version c) uid))).version + len (after c (step_of (PodGone (next_version c) uid))).places ≡ c.version + len c.places
place_counted c uid low = grind (arith, less_one c.places uid)

pub row_counted : (c : Cluster) (name : List ℕ) → c.version < 18446744073709551615 → (after c (step_of (NodeGone (next_version c) name))).version + len (after c (step_of (NodeGone (next_version c) name))).nodes ≡ c.version + len c.nodes
row_counted c name low = grind (arith, less_one c.nodes name)
