-- Segments of a module that are tested and written one after the other.
use Rattle.std.proofs.Common.{◌≡◌, ℕ, zero, suc, ◌+◌, ◌<◌, ◌≤◌, Bool, true, false, List, [], ◌∷◌, Some, All, Any, length, get_or, slice_get, map, drop, fold, IsTrue, ◌↔◌, refl, sym, ap, ◌∙◌, subst, arith, add-one, below_more}
use Rattle.std.proofs.lemmas.Bool.{false≢true}
use Rattle.std.proofs.lemmas.List.{length-map}
use Rattle.std.proofs.lemmas.Option.{get_or_from_slice_get, slice_get_within}
use Rattle.std.proofs.Math.Seq.{drop-cons}
use Rattle.wmodule.specs.Syntax.{ElementSyntax, DataSyntax, ModuleParts, module_of}
use Rattle.wstore.specs.Store.{Store}
use Rattle.wstore.specs.Segments.{ElementsFit, DataFits, with_elements, with_data, offset_of}
use Rattle.wstore.proofs.Overwriting.{length-overwritten}
use Rattle.wmach.specs.Call.{MachineState}
use Rattle.whost.specs.Image.{with_all_elements, with_all_data}

-- what a list has at a place
pub item_at : {X : Type 0} (xs : List X) (i : ℕ) → i < length xs → (x : X) × (slice_get xs i ≡ Some x) × (get_or xs i x ≡ x)
item_at [] i less = absurd (omega (arith, less))
item_at (x ∷ xs) zero less = (x, refl, refl)
item_at (x ∷ xs) (suc i) less = item_at xs i (omega (arith, less))

-- a test at a place that fails: some element is not so
pub one_fails : {X : Type 0} (P : X → Type 0) (xs : List X) (i : ℕ) (test : Bool) → i < length xs → ((x : X) → slice_get xs i ≡ Some x → IsTrue test ↔ P x) → test ≡ false → Any (λ x. ¬ (P x)) xs
one_fails P xs i test less means failed =
    let x = item_at xs i less in
    (i, x.0, less, x.2, λ holds. absurd (false≢true (sym failed ∙ (means x.0 x.1).1 holds)))

-- a test at a place that passes, behind elements that are so
pub one_more : {X : Type 0} (P : X → Type 0) (xs : List X) (i : ℕ) (test : Bool) → i < length xs → ((x : X) → slice_get xs i ≡ Some x → IsTrue test ↔ P x) → test ≡ true → ((k : ℕ) (d : X) → k < i → P (get_or xs k d)) → (k : ℕ) (d : X) → k < i + 1 → P (get_or xs k d)
one_more {X} P xs i test less means passed before =
    let x = item_at xs i less in
    let here : (d : X) → P (get_or xs i d) = λ d. subst P (sym (get_or_from_slice_get xs i x.0 d x.1)) ((means x.0 x.1).0 passed) in
    let all : (k : ℕ) → k < i + 1 → (d : X) → P (get_or xs k d) = below_more (λ k. (d : X) → P (get_or xs k d)) i (λ k h d. before k d h) here in
    λ k d h. all k h d

-- what is left to be written, once the segment at a place is written
pub rest_step : {X : Type 0} (put : Store → X → Store) (xs : List X) (i : ℕ) (x : X) (store : Store) → i < length xs → get_or xs i x ≡ x → fold put (put store x) (drop (i + 1) xs) ≡ fold put store (drop i xs)
rest_step put xs i x store less is =
    ap (λ n. fold put (put store x) (drop n xs)) (add-one i)
    ∙ ap (λ y. fold put store (y ∷ drop (suc i) xs)) (sym is)
    ∙ ap (λ l. fold put store l) (sym (drop-cons xs i x less))

-- ---- elements

-- a segment that fits does so where another one was written
pub elements_still_fit : (segments : List ElementSyntax) (s : ElementSyntax) (store : Store) → ElementsFit s store → All (λ t. ElementsFit t store) segments → All (λ t. ElementsFit t (with_elements s store)) segments
elements_still_fit segments s store here all =
    let same : length (with_elements s store).table ≡ length store.table = length-overwritten store.table (offset_of s.offset) (map (λ (n : ℕ). Some n) s.functions) (subst (λ n. offset_of s.offset + n ≤ length store.table) (sym (length-map s.functions (λ (n : ℕ). Some n))) here) in
    λ k d less. subst (λ n. offset_of (get_or segments k d).offset + length (get_or segments k d).functions ≤ n) (sym same) (all k d less)

-- So many elements segments are written, the others fit, and writing them leads to where writing
-- all of them does.
pub record ElementsWritten (before now : MachineState) (i : ℕ) : Type 0 where
  pub content : now.content ≡ before.content
  pub image : now.image ≡ before.image
  pub fits : All (λ s. ElementsFit s now.store) (module_of before.content).element_segments
  pub rest : with_all_elements (drop i (module_of before.content).element_segments) now.store ≡ with_all_elements (module_of before.content).element_segments before.store

-- the segment at a place, which fits
pub elements_fit_at : (before now : MachineState) (i : ℕ) (s : ElementSyntax) → ElementsWritten before now i → slice_get (module_of now.content).element_segments i ≡ Some s → ElementsFit s now.store
elements_fit_at before now i s w got =
    let got_before = subst (λ (p : ModuleParts). slice_get (module_of p).element_segments i ≡ Some s) w.content got in
    let segments = (module_of before.content).element_segments in
    subst (λ t. ElementsFit t now.store) (get_or_from_slice_get segments i s s got_before) (w.fits i s (slice_get_within segments i s got_before))

pub elements_step : (before now after : MachineState) (i : ℕ) → i < length (module_of before.content).element_segments → ElementsWritten before now i → ((s : ElementSyntax) → slice_get (module_of now.content).element_segments i ≡ Some s → after ≡ record now { store = with_elements s now.store }) → ElementsWritten before after (i + 1)
elements_step before now after i less w written =
    let segments = (module_of before.content).element_segments in
    let s = item_at segments i less in
    let got = subst (λ (p : ModuleParts). slice_get (module_of p).element_segments i ≡ Some s.0) (sym w.content) s.1 in
    let next : ElementsWritten before (record now { store = with_elements s.0 now.store }) (i + 1) = record {
      content = w.content;
      image = w.image;
      fits = elements_still_fit segments s.0 now.store (elements_fit_at before now i s.0 w got) w.fits;
      rest = rest_step (λ store t. with_elements t store) segments i s.0 now.store less s.2 ∙ w.rest;
    } in
    subst (λ m. ElementsWritten before m (i + 1)) (sym (written s.0 got)) next

-- ---- data

-- a segment that fits does so where another one was written
pub data_still_fit : (segments : List DataSyntax) (s : DataSyntax) (store : Store) → DataFits s store → All (λ t. DataFits t store) segments → All (λ t. DataFits t (with_data s store)) segments
data_still_fit segments s store here all =
    let same : length (with_data s store).memory ≡ length store.memory = length-overwritten store.memory (offset_of s.offset) (s.bytes) (here) in
    λ k d less. subst (λ n. offset_of (get_or segments k d).offset + length (get_or segments k d).bytes ≤ n) (sym same) (all k d less)

-- So many data segments are written, the others fit, and writing them leads to where writing all of
-- them does.
pub record DataWritten (before now : MachineState) (i : ℕ) : Type 0 where
  pub content : now.content ≡ before.content
  pub image : now.image ≡ before.image
  pub fits : All (λ s. DataFits s now.store) (module_of before.content).data_segments
  pub rest : with_all_data (drop i (module_of before.content).data_segments) now.store ≡ with_all_data (module_of before.content).data_segments before.store

-- the segment at a place, which fits
pub data_fit_at : (before now : MachineState) (i : ℕ) (s : DataSyntax) → DataWritten before now i → slice_get (module_of now.content).data_segments i ≡ Some s → DataFits s now.store
data_fit_at before now i s w got =
    let got_before = subst (λ (p : ModuleParts). slice_get (module_of p).data_segments i ≡ Some s) w.content got in
    let segments = (module_of before.content).data_segments in
    subst (λ t. DataFits t now.store) (get_or_from_slice_get segments i s s got_before) (w.fits i s (slice_get_within segments i s got_before))

pub data_step : (before now after : MachineState) (i : ℕ) → i < length (module_of before.content).data_segments → DataWritten before now i → ((s : DataSyntax) → slice_get (module_of now.content).data_segments i ≡ Some s → after ≡ record now { store = with_data s now.store }) → DataWritten before after (i + 1)
data_step before now after i less w written =
    let segments = (module_of before.content).data_segments in
    let s = item_at segments i less in
    let got = subst (λ (p : ModuleParts). slice_get (module_of p).data_segments i ≡ Some s.0) (sym w.content) s.1 in
    let next : DataWritten before (record now { store = with_data s.0 now.store }) (i + 1) = record {
      content = w.content;
      image = w.image;
      fits = data_still_fit segments s.0 now.store (data_fit_at before now i s.0 w got) w.fits;
      rest = rest_step (λ store t. with_data t store) segments i s.0 now.store less s.2 ∙ w.rest;
    } in
    subst (λ m. DataWritten before m (i + 1)) (sym (written s.0 got)) next

-- ---- both

-- element segments leave the memory
elements_leave_memory : (segments : List ElementSyntax) (store : Store) → (with_all_elements segments store).memory ≡ store.memory
elements_leave_memory [] store = refl
elements_leave_memory (s ∷ ss) store = elements_leave_memory ss (with_elements s store)

-- so a data segment that fits does so behind them
pub data_fit_behind_elements : (segments : List ElementSyntax) (data_segments : List DataSyntax) (store : Store) → All (λ s. DataFits s store) data_segments → All (λ s. DataFits s (with_all_elements segments store)) data_segments
data_fit_behind_elements segments data_segments store all =
    λ k d less. subst (λ (memory : List ℕ). offset_of (get_or data_segments k d).offset + length (get_or data_segments k d).bytes ≤ length memory) (sym (elements_leave_memory segments store)) (all k d less)
