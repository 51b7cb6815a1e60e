-- How an instance is made, and its calls, from what its machine does.
use Rattle.std.proofs.Common.{◌≡◌, ◌≢◌, ℕ, zero, suc, Bool, true, false, List, Option, Some, None, IfSome, refl, sym, ap, ◌∙◌, subst, inl, inr}
use Rattle.std.specs.Prelude.{◌⊎◌, if◌then◌else◌}
use Rattle.wmodule.specs.Syntax.{ModuleParts, ModuleSyntax, module_of}
use Rattle.wstore.specs.Store.{first_store}
use Rattle.wmach.specs.declared.export.Export.{Export}
use Rattle.wmach.specs.declared.export.Export.TheVariants.{Filter, Score, Start}
use Rattle.wmach.specs.declared.outcome.Outcome.{Outcome}
use Rattle.wmach.specs.declared.outcome.Outcome.TheVariants.{Trap}
use Rattle.rules.specs.declared.trap.Trap.TheVariants.{NoRecord}
use Rattle.wmach.specs.Call.{MachineState, Calls, first_machine, records_for, called_function, OneOutcome}
use Rattle.wmach.specs.Configuration.{Store, Setting}
use Rattle.wmach.specs.Outcome.{HasOutcome}
use Rattle.whost.specs.declared.records.Records.{Records}
use Rattle.whost.specs.declared.records.Versions.{Versions}
use Rattle.whost.specs.declared.sight.Shows.{Shows}
use Rattle.whost.specs.declared.sight.Shows.TheVariants.{ThisPod}
use Rattle.whost.specs.Handed.{record_of, gives, LookAlike}
use Rattle.whost.specs.inside.Sight.{handed, wants_record}
use Rattle.whost.proofs.Unasked.{ends_alike}
use Rattle.whost.specs.declared.fault.InstanceFault.{InstanceFault}
use Rattle.whost.specs.declared.fault.InstanceFault.TheVariants.{DataOutOfBounds, ElementOutOfBounds, StartTrap, StartExhausted, NoMemory}
use Rattle.whost.specs.Image.{InBounds, with_segments, Started, IsImage}
use Rattle.whost.specs.Refused.{BoundsRefused, StartRefused, WhyRefused}
use Rattle.whost.specs.Calls.{CallsFromImage, CallsAgree}

-- what is called by name is given its records
given_its_own : (export : Export) (records : ℕ → Option (List ℕ)) → export ≢ Start → records_for export records ≡ records
given_its_own Filter records by_name = refl
given_its_own Score records by_name = refl
given_its_own Start records by_name = absurd (by_name refl)

-- a machine's call, once its store is the image
pub call_from_image : (before at_image after : MachineState) (export : Export) (records : Records) (fuel : ℕ) (outcome : Outcome) → export ≢ Start → at_image ≡ record before { store = before.image } → Calls at_image export (record_of records) fuel outcome after → CallsFromImage before export records fuel outcome after
call_from_image before at_image after export records fuel outcome by_name is calls =
    let c = subst (λ m. Calls m export (record_of records) fuel outcome after) is calls in
    record {
      function = c.function;
      function_is = c.function_is;
      ends = subst (λ (given : ℕ → Option (List ℕ)). HasOutcome (record { module_syntax = module_of before.content; records = given }) before.image c.function fuel outcome after.store) (given_its_own export (record_of records) by_name) c.ends;
    }

-- what is shown of records is among those that look alike
among : (shows : Shows) (one other : Records) → LookAlike shows one other → (import : ℕ) → (handed shows one import ≡ None) ⊎ (handed shows one import ≡ record_of other import)
among shows one other alike import =
    elim (gives shows import) as (λ (b : Bool).
    (gives shows import ≡ b) → ((if b then record_of one import else None) ≡ None) ⊎ ((if b then record_of one import else None) ≡ record_of other import)) [
      | true ↦ λ e. inr (alike import e)
      | false ↦ λ e. inl refl
    ] refl

-- a pod's records look alike whatever the node is
pub same_pod : (records : Records) (node : Versions) (import : ℕ) → gives ThisPod import ≡ true → record_of records import ≡ record_of (record records { node = node }) import
same_pod records node zero e = refl
same_pod records node (suc zero) e = absurd (cc e)
same_pod records node (suc (suc zero)) e = refl
same_pod records node (suc (suc (suc zero))) e = absurd (cc e)
same_pod records node (suc (suc (suc (suc zero)))) e = refl
same_pod records node (suc (suc (suc (suc (suc n))))) e = absurd (cc e)

not_cut_off : (how : Outcome) → wants_record how ≡ false → (cost : ℕ) → ¬ (how ≡ Trap NoRecord cost)
not_cut_off how whole cost e = let cut : wants_record how ≡ true = ap wants_record e in cc

-- and a call that is handed over what is shown, and isn't cut off for want of more
pub call_shown : (before at_image after : MachineState) (shows : Shows) (export : Export) (records : Records) (fuel : ℕ) (how : Outcome) → export ≢ Start
    → at_image ≡ record before { store = before.image } → wants_record how ≡ false → Calls at_image export (handed shows records) fuel how after
    → (other : Records) → LookAlike shows records other → CallsFromImage before export other fuel how after
call_shown before at_image after shows export records fuel how by_name is whole calls other alike =
    let c = subst (λ m. Calls m export (handed shows records) fuel how after) is calls in
    let given_alone = subst (λ (given : ℕ → Option (List ℕ)). HasOutcome (record { module_syntax = module_of before.content; records = given }) before.image c.function fuel how after.store) (given_its_own export (handed shows records) by_name) c.ends in
    record {
      function = c.function;
      function_is = c.function_is;
      ends = ends_alike (module_of before.content) (handed shows records) (record_of other) (among shows records other alike)
          before.image c.function fuel how after.store (not_cut_off how whole) given_alone;
    }

-- what is said of this pod is said with each node
pub of_this_pod : (before after : MachineState) (export : Export) (records : Records) (fuel : ℕ) (how : Option Outcome)
    → IfSome how (λ outcome. (other : Records) → LookAlike ThisPod records other → CallsFromImage before export other fuel outcome after)
    → IfSome how (λ outcome. (node : Versions) → CallsFromImage before export (record records { node = node }) fuel outcome after)
of_this_pod before after export records fuel None calls = tt
of_this_pod before after export records fuel (Some outcome) calls = λ node. calls (record records { node = node }) (same_pod records node)

-- what a start function's end says of the whole
refused_by_start : (m : ModuleSyntax) (fuel : ℕ) (fault : InstanceFault) → InBounds m (first_store m) → StartRefused m (with_segments m (first_store m)) fuel fault → WhyRefused m fuel fault
refused_by_start m fuel DataOutOfBounds bounds why = absurd why
refused_by_start m fuel ElementOutOfBounds bounds why = absurd why
refused_by_start m fuel (StartTrap trap) bounds why = (bounds, why)
refused_by_start m fuel StartExhausted bounds why = (bounds, why)
refused_by_start m fuel NoMemory bounds why = tt

-- the same, of a machine that is new, and then has its segments
pub refused_at_start : (p : ModuleParts) (new written : MachineState) (fuel : ℕ) (fault : InstanceFault) → new ≡ first_machine p
    → InBounds (module_of new.content) new.store → written ≡ record new { store = with_segments (module_of new.content) new.store }
    → StartRefused (module_of written.content) written.store fuel fault → WhyRefused (module_of p) fuel fault
refused_at_start p new written fuel fault is bounds now why =
    let after = now ∙ ap (λ (x : MachineState). record x { store = with_segments (module_of x.content) x.store }) is in
    refused_by_start (module_of p) fuel fault (subst (λ (x : MachineState). InBounds (module_of x.content) x.store) is bounds)
    (subst (λ (x : MachineState). StartRefused (module_of x.content) x.store fuel fault) after why)

-- the image, of a machine that is new, then has its segments, and then has started
pub image_at_end : (p : ModuleParts) (new written started : MachineState) (fuel : ℕ) (image : Store) → new ≡ first_machine p
    → InBounds (module_of new.content) new.store → written ≡ record new { store = with_segments (module_of new.content) new.store }
    → Started (module_of written.content) (module_of written.content).start written.store fuel started.store → image ≡ started.store → IsImage (module_of p) fuel image
image_at_end p new written started fuel image is bounds now ended kept =
    let after = now ∙ ap (λ (x : MachineState). record x { store = with_segments (module_of x.content) x.store }) is in
    record {
      in_bounds = subst (λ (x : MachineState). InBounds (module_of x.content) x.store) is bounds;
      started = subst (λ (s : Store). Started (module_of p) (module_of p).start (with_segments (module_of p) (first_store (module_of p))) fuel s) (sym kept)
          (subst (λ (x : MachineState). Started (module_of x.content) (module_of x.content).start x.store fuel started.store) after ended);
    }

-- what bounds say of the whole
refused_by_bounds : (m : ModuleSyntax) (fuel : ℕ) (fault : InstanceFault) → BoundsRefused m (first_store m) fault → WhyRefused m fuel fault
refused_by_bounds m fuel DataOutOfBounds why = why
refused_by_bounds m fuel ElementOutOfBounds why = why
refused_by_bounds m fuel (StartTrap trap) why = absurd why
refused_by_bounds m fuel StartExhausted why = absurd why
refused_by_bounds m fuel NoMemory why = tt

pub refused_at_bounds : (p : ModuleParts) (new : MachineState) (fuel : ℕ) (fault : InstanceFault) → new ≡ first_machine p
    → BoundsRefused (module_of new.content) new.store fault → WhyRefused (module_of p) fuel fault
refused_at_bounds p new fuel fault is why =
    refused_by_bounds (module_of p) fuel fault (subst (λ (x : MachineState). BoundsRefused (module_of x.content) x.store fault) is why)

-- calls from one image agree, since a call has one outcome
pub agreement : OneOutcome → CallsAgree
agreement one first second first_after second_after export records fuel outcome other content image a b =
    let setting : ModuleParts → Setting = λ p. record { module_syntax = module_of p; records = record_of records } in
    let there : called_function (module_of first.content) export ≡ Some b.function = subst (λ (p : ModuleParts). called_function (module_of p) export ≡ Some b.function) (sym content) b.function_is in
    let same : b.function ≡ a.function = cc (there, a.function_is) in
    let from_content = subst (λ (p : ModuleParts). HasOutcome (setting p) second.image b.function fuel other second_after.store) (sym content) b.ends in
    let from_image = subst (λ (s : Store). HasOutcome (setting first.content) s b.function fuel other second_after.store) (sym image) from_content in
    let ends = subst (λ f. HasOutcome (setting first.content) first.image f fuel other second_after.store) same from_image in
    one (setting first.content) first.image a.function fuel outcome other first_after.store second_after.store a.ends ends
