-- What a table of plugins, by their names, says of the plugins in their order.
use Rattle.std.proofs.Common.{◌≡◌, ℕ, ◌<◌, ◌≤◌, Bool, true, false, List, [], ◌∷◌, ◌++◌, length, map, Option, None, Some, is_some, Result, Ok, Err, is_err, OnOk, OnErr, IsTrue, ◌↔◌, All, Contains, refl, sym, ap, ◌∙◌, subst, arith, length-append}
use Rattle.std.specs.Cmp.Lexicographic.{nat_list_eq_equiv}
use Rattle.std.specs.Map.{keys_of, lookup}
use Rattle.std.specs.Str.{bytes_eq}
use Rattle.std.proofs.lemmas.List.{map-append}
use Rattle.std.proofs.lemmas.List.Elements.{All-push}
use Rattle.std.proofs.lemmas.Map.Made.{is_some-lookup}
use Rattle.std.proofs.lemmas.Map.Views.{Contains-from_any, list_any-from_Contains}
use Rattle.std.proofs.lemmas.Slice.Eq.{bytes_eq-Decides}
use Rattle.indexmap.specs.IndexMap.{insert_entry}
use Rattle.indexmap.proofs.MapLemmas.{absent_from_lookup, insert_entry-absent}
use Rattle.plugin.specs.declared.plugins.Entry.{Entry}
use Rattle.plugin.specs.declared.plugins.Plugins.TheInside.{Inside}
use Rattle.plugin.specs.Plugins.{names, IsTaken, IsWeight, IsFuel}
use Rattle.plugin.specs.inside.Entries.{configured, plugins_of, AreEntries}

-- the plugins' names are the table's keys
names_are : (es : List (List ℕ × Entry)) → names (map configured es) ≡ keys_of es
names_are [] = refl
names_are (e ∷ es) = ap (λ rest. e.0 ∷ rest) (names_are es)

-- a look-up finds a name where one of the plugins has it
pub found_is_taken : (es : List (List ℕ × Entry)) (name : List ℕ) (found : Bool) → found ≡ is_some (lookup (bytes_eq name) es) → IsTrue found ↔ IsTaken (map configured es) name
found_is_taken es name found is =
    let any = is ∙ is_some-lookup (bytes_eq name) es in (
      λ t. subst (λ ks. Contains ks name) (sym (names_are es)) (Contains-from_any (λ x y. (bytes_eq-Decides x y).0) name (keys_of es) (sym any ∙ t)),
      λ taken. any ∙ list_any-from_Contains nat_list_eq_equiv name (keys_of es) (subst (λ ks. Contains ks name) (names_are es) taken),
    )

-- where no plugin has the name, a look-up finds nothing
free_is_absent : (es : List (List ℕ × Entry)) (name : List ℕ) → (IsTaken (map configured es) name → ⊥) → lookup (bytes_eq name) es ≡ None
free_is_absent es name free = by (lookup (bytes_eq name) es) refl
  where
    by : (o : Option Entry) → lookup (bytes_eq name) es ≡ o → lookup (bytes_eq name) es ≡ None
    by None is = is
    by (Some e) is = absurd (free ((found_is_taken es name true (sym (ap is_some is))).0 refl))

-- such a name goes behind the others
pub grown : (es : List (List ℕ × Entry)) (name : List ℕ) (e : Entry) → (IsTaken (map configured es) name → ⊥) → insert_entry bytes_eq es name e ≡ es ++ (name, e) ∷ []
grown es name e free = insert_entry-absent bytes_eq name e es (absent_from_lookup (bytes_eq name) es (free_is_absent es name free))

-- a table as it was is a table of plugins
pub entries_kept : (old new : Inside) → AreEntries old → new.entries.entries ≡ old.entries.entries → AreEntries new
entries_kept old new are same = record {
  most = subst (λ (es : List (List ℕ × Entry)). length es ≤ 16) (sym same) are.most;
  weights = subst (λ (es : List (List ℕ × Entry)). All (λ e. IsWeight e.1.weight) es) (sym same) are.weights;
  fuels = subst (λ (es : List (List ℕ × Entry)). All (λ e. IsFuel e.1.fuel) es) (sym same) are.fuels;
}

-- and so is one with one more, where there were fewer than 16
pub entries_grown : (old new : Inside) (name : List ℕ) (e : Entry) → AreEntries old → length old.entries.entries < 16 → IsWeight e.weight → IsFuel e.fuel → new.entries.entries ≡ old.entries.entries ++ (name, e) ∷ [] → AreEntries new
entries_grown old new name e are room weight fuel more = record {
  most = subst (λ (es : List (List ℕ × Entry)). length es ≤ 16) (sym more) (omega (arith, length-append old.entries.entries ((name, e) ∷ [])));
  weights = subst (λ (es : List (List ℕ × Entry)). All (λ e. IsWeight e.1.weight) es) (sym more) (All-push (λ (e : List ℕ × Entry). IsWeight e.1.weight) old.entries.entries (name, e) are.weights weight);
  fuels = subst (λ (es : List (List ℕ × Entry)). All (λ e. IsFuel e.1.fuel) es) (sym more) (All-push (λ (e : List ℕ × Entry). IsFuel e.1.fuel) old.entries.entries (name, e) are.fuels fuel);
}

-- its plugins are those before and one behind them
pub plugins_grown : (old new : Inside) (name : List ℕ) (e : Entry) → new.entries.entries ≡ old.entries.entries ++ (name, e) ∷ [] → plugins_of new ≡ plugins_of old ++ configured (name, e) ∷ []
plugins_grown old new name e more = ap (map configured) more ∙ map-append configured old.entries.entries ((name, e) ∷ [])

-- what holds where there is no error, and what holds where there is one
pub where_ok : {T E : Type 0} (r : Result T E) (P : Type 0) → is_err r ≡ false → OnOk r P → P
where_ok (Ok x) P is holds = holds
where_ok (Err e) P is holds = cc

pub where_err : {T E : Type 0} (r : Result T E) (P : Type 0) → is_err r ≡ true → OnErr r P → P
where_err (Ok x) P is holds = cc
where_err (Err e) P is holds = holds
