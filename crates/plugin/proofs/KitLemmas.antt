-- Calls of one instance of a kit change nothing that its plugins say.
use Rattle.std.proofs.Common.{◌≡◌, ℕ, zero, suc, ◌<◌, false, IsTrue, IsSome, ◌↔◌, List, [], ◌∷◌, length, map, get_or, Option, Some, None, IfSome, option_map, slice_get, slice_set, refl, sym, ap, ◌∙◌, subst}
use Rattle.std.proofs.lemmas.List.{length-map}
use Rattle.std.proofs.lemmas.Option.{slice_get-map, slice_get_read}
use Rattle.wmach.proofs.OverBr.{slice_get_some}
use Rattle.wmach.specs.declared.export.Export.{Export}
use Rattle.wmach.specs.declared.outcome.Outcome.{Outcome}
use Rattle.wmach.specs.Call.{MachineState}
use Rattle.whost.specs.Calls.{CallsFromImage}
use Rattle.whost.specs.declared.records.Records.{Records}
use Rattle.plugin.specs.Kit.{Ready, InstanceState, Ends, ready_parts, OnlyItsStore}

false_is_not : IsTrue false → ⊥
false_is_not t = cc

-- where nothing is there to be called
pub nothing_called : (o : Option ℕ) → (IsTrue false ↔ IsSome o) → o ≡ None
nothing_called None h = refl
nothing_called (Some f) h = absurd (false_is_not (h.1 refl))

-- a call of a plugin's instance is one of the plugin
pub ends_of_call : (weight fuel : ℕ) (before after : MachineState) (export : Export) (records : Records) (outcome : Outcome) → CallsFromImage before export records fuel outcome after
    → Ends (record { weight = weight; fuel = fuel; content = before.content; image = before.image }) export records outcome
ends_of_call weight fuel before after export records outcome calls =
    record { after = after; calls = record { function = calls.function; function_is = calls.function_is; ends = calls.ends } }

-- a list is seen alike where one element gives way to another that is seen alike
map-set_alike : {A B : Type 0} (f : A → B) (xs : List A) (i : ℕ) (x y : A) → slice_get xs i ≡ Some x → f y ≡ f x → map f (slice_set xs i y) ≡ map f xs
map-set_alike f [] i x y there alike = refl
map-set_alike f (z ∷ xs) zero x y there alike =
    let same : z ≡ x = cc in
    λ j. (alike ∙ ap f (sym same)) j ∷ map f xs
map-set_alike f (z ∷ xs) (suc i) x y there alike = ap (λ rest. f z ∷ rest) (map-set_alike f xs i x y there alike)

-- where only a store has changed, the plugins are what they were
pub plugins_stay : (place : ℕ) (old new : List InstanceState) → OnlyItsStore place old new → ready_parts new ≡ ready_parts old
plugins_stay place old new only =
    let i = only.instance in
    ap ready_parts only.others ∙ map-set_alike (λ (i : InstanceState). i.ready) old place i (record i { store = only.store }) only.there refl

-- there are as many weights as instances
pub as_many : (kit : List InstanceState) → length (map (λ (p : Ready). p.weight) (ready_parts kit)) ≡ length kit
as_many kit = length-map (ready_parts kit) (λ (p : Ready). p.weight) ∙ length-map kit (λ (i : InstanceState). i.ready)

-- the plugin at a place
pub plugin_at : (kit : List InstanceState) (place : ℕ) (i : InstanceState) → slice_get kit place ≡ Some i → slice_get (ready_parts kit) place ≡ Some i.ready
plugin_at kit place i there = slice_get-map (λ (i : InstanceState). i.ready) kit place ∙ ap (λ (o : Option InstanceState). option_map (λ i. i.ready) o) there

-- what is said by an instance's plugin, is said by the plugin at its place
pub said_at : (kit : List InstanceState) (place : ℕ) (P : Ready → Type 0) → place < length kit → IfSome (slice_get kit place) (λ i. P i.ready) → (r : Ready) × (slice_get (ready_parts kit) place ≡ Some r) × P r
said_at kit place P below says =
    let there = slice_get_some kit place below in
    (there.0.ready, plugin_at kit place there.0 there.1, subst (λ (o : Option InstanceState). IfSome o (λ i. P i.ready)) there.1 says)

-- and so is its weight
pub weight_at : (kit : List InstanceState) (place weight : ℕ) → place < length kit → IfSome (slice_get kit place) (λ i. weight ≡ i.ready.weight) → slice_get (map (λ (p : Ready). p.weight) (ready_parts kit)) place ≡ Some weight
weight_at kit place weight below is =
    let at = said_at kit place (λ p. weight ≡ p.weight) below is in
    slice_get-map (λ (p : Ready). p.weight) (ready_parts kit) place
    ∙ ap (λ (o : Option Ready). option_map (λ p. p.weight) o) at.1
    ∙ ap Some (sym at.2)

-- what holds of the instance that was read at a place is so of the one there
pub so_there : (P : InstanceState → Type 0) (place : ℕ) (old items : List InstanceState) (i : InstanceState) → place < length old → items ≡ old → i ≡ get_or items place i
    → P i → IfSome (slice_get old place) P
so_there P place old items i below same is so =
    let there : slice_get old place ≡ Some i = slice_get_read old (length old) place i refl below (subst (λ (kit : List InstanceState). i ≡ get_or kit place i) same is) in
    subst (λ (at : Option InstanceState). IfSome at P) (sym there) so

-- an instance that was asked
pub only_its_store : (place : ℕ) (old items : List InstanceState) (i new : InstanceState) → place < length old → items ≡ old → i ≡ get_or items place i
    → new ≡ record i { store = new.store } → OnlyItsStore place old (slice_set items place new)
only_its_store place old items i new below same is stays =
    let there : slice_get old place ≡ Some i = slice_get_read old (length old) place i refl below (subst (λ (kit : List InstanceState). i ≡ get_or kit place i) same is) in
    record { instance = i; there = there; store = new.store; others = λ j. slice_set (same j) place (stays j) }
