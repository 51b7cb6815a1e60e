-- Entries that answer alike, and changes of all of them.
use Rattle.std.proofs.Common.{◌≡◌, true, false, cond, List, [], ◌∷◌, map, refl, sym, ap, ◌∙◌}
use Rattle.std.specs.Prelude.{option_map, Some}
use Rattle.std.specs.FinMap as table
use Rattle.std.specs.FinMap.{slice_cmp-IsAntisymmetric, nat_cmp-IsAntisymmetric}
use Rattle.std.specs.Ordering.{nat_cmp}
use Rattle.std.specs.Cmp.Lexicographic.{slice_cmp, nat_list_cmp_total}
use Rattle.quant.specs.declared.name.Name.{Name}
use Rattle.queued.specs.Entry.{Entry}
use Rattle.queue.specs.Order.{Item}
use Rattle.queue.specs.Queue.{Entries, each_changed}
use Rattle.queue.proofs.Uids.{same}

-- entries that answer alike are the same
pub same_entries : (a b : Entries) → ((uid : Name) → table.get a uid ≡ table.get b uid) → a ≡ b
same_entries a b alike = table.same_map nat_list_cmp_total (slice_cmp-IsAntisymmetric nat_cmp-IsAntisymmetric) a b alike

-- what is found among changed items
find-changed : (f : Entry → Entry) (items : List Item) (q : Name) → table.find (slice_cmp nat_cmp) q (map (λ (item : Item). (item.0, f item.1)) items) ≡ option_map f (table.find (slice_cmp nat_cmp) q items)
find-changed f [] q = refl
find-changed f (item ∷ items) q =
    ap (cond (same q item.0) (Some (f item.1))) (find-changed f items q)
    ∙ elim (same q item.0) as (λ b. cond b (Some (f item.1)) (option_map f (table.find (slice_cmp nat_cmp) q items)) ≡ option_map f (cond b (Some item.1) (table.find (slice_cmp nat_cmp) q items))) [ true ↦ refl | false ↦ refl ]

-- what stands under a uid, once each entry is changed
pub get-each_changed : (f : Entry → Entry) (m : Entries) (q : Name) → table.get (each_changed f m) q ≡ option_map f (table.get m q)
get-each_changed f m q =
    table.get-from_entries nat_list_cmp_total (map (λ (item : Item). (item.0, f item.1)) (table.entries m)) q
    ∙ find-changed f (table.entries m) q
    ∙ ap (option_map f) (sym (table.get-entries m q))
