-- A call through the table is sound.
use Rattle.std.proofs.Common.{◌≡◌, ℕ, ◌<◌, List, [], ◌∷◌, ◌++◌, Bool, true, false, Option, Some, None, length, reverse, refl, sym, ap, ◌∙◌, subst}
use Rattle.std.specs.Prelude.{slice_get, option_and_then, ◌&&◌, if◌then◌else◌, IfSome}
use Rattle.std.specs.List.{AllByRecursion}
use Rattle.wcode.specs.declared.value.ValueType.{ValueType}
use Rattle.wcode.specs.declared.value.ValueType.TheVariants.{I32, I64}
use Rattle.wcode.specs.declared.value.Value.{Value}
use Rattle.wcode.specs.Syntax.{Body}
use Rattle.wmodule.specs.declared.module.Limits.{Limits}
use Rattle.wmodule.specs.Syntax.{Signature, ModuleSyntax}
use Rattle.wbody.specs.Context.{Operands, at_most_one, function_types, is_there}
use Rattle.wbody.specs.Typing.{Typed}
use Rattle.rules.specs.declared.trap.Trap.TheVariants.{UndefinedElement, UninitializedElement, SignatureMismatch}
use Rattle.wmach.specs.Configuration.{Store, Execution, invoke, trap, Reduction, leads_to}
use Rattle.wmach.specs.Operands.{with_one}
use Rattle.wmach.specs.Indirect.{same_result, same_signature, type_of_function, call_as, call_element, reduce_call_indirect}
use Rattle.wbody.specs.Pass.{same_type, same_types}
use Rattle.wmach.specs.Fits.{types_of, TableWithin, StoreTyped}
use Rattle.wmach.proofs.Values.{one_taken, all_at}
use Rattle.wmach.proofs.TypedExecution.{inner_context}
use Rattle.wmach.proofs.Callable.{FunctionsRight}
use Rattle.wmach.proofs.Sound.{Sound, goes, to_trap, either, first_holds}

pub second_holds : (a b : Bool) → (a && b) ≡ true → b ≡ true
second_holds true b e = e
second_holds false b e = absurd (cc)

same_type-true : (t u : ValueType) → same_type t u ≡ true → t ≡ u
same_type-true I32 I32 e = refl
same_type-true I32 I64 e = absurd (cc)
same_type-true I64 I32 e = absurd (cc)
same_type-true I64 I64 e = refl

same_types-true : (ts us : List ValueType) → same_types ts us ≡ true → ts ≡ us
same_types-true [] [] e = refl
same_types-true [] (u ∷ us) e = absurd (cc)
same_types-true (t ∷ ts) [] e = absurd (cc)
same_types-true (t ∷ ts) (u ∷ us) e =
    let head = same_type-true t u (first_holds (same_type t u) (same_types ts us) e) in
    let tail = same_types-true ts us (second_holds (same_type t u) (same_types ts us) e) in
    ap (λ x. x ∷ ts) head ∙ ap (λ l. u ∷ l) tail

same_result-true : (t u : Option ValueType) → same_result t u ≡ true → t ≡ u
same_result-true None None e = refl
same_result-true None (Some u) e = absurd (cc)
same_result-true (Some t) None e = absurd (cc)
same_result-true (Some t) (Some u) e = ap Some (same_type-true t u e)

abbrev signature_of : List ValueType → Option ValueType → Signature
signature_of parameters result = record { parameters = parameters; result = result }

-- what is compared as the same is the same
pub same_signature-true : (t u : Signature) → same_signature t u ≡ true → t ≡ u
same_signature-true t u e =
    let takes = same_types-true t.parameters u.parameters (first_holds (same_types t.parameters u.parameters) (same_result t.result u.result) e) in
    let gives = same_result-true t.result u.result (second_holds (same_types t.parameters u.parameters) (same_result t.result u.result) e) in
    ap (λ ps. signature_of ps t.result) takes ∙ ap (λ r. signature_of u.parameters r) gives

-- what a table holds is a function's index
pub element_of : (m : ModuleSyntax) (elements : List (Option ℕ)) (i function : ℕ) → AllByRecursion (λ e. IfSome e (λ f. f < length (function_types m))) elements → slice_get elements i ≡ Some (Some function) → function < length (function_types m)
element_of m elements i function all is = all_at (λ e. IfSome e (λ f. f < length (function_types m))) elements i (Some function) all is

-- where there is no table, nothing is found
pub no_element : (elements : List (Option ℕ)) (i function : ℕ) → elements ≡ [] → slice_get elements i ≡ Some (Some function) → ⊥
no_element elements i function none is =
    let nothing : slice_get {X = Option ℕ} [] i ≡ Some (Some function) = ap (λ l. slice_get l i) (sym none) ∙ is in absurd (cc)

element_within : (m : ModuleSyntax) (ls : List Limits) (elements : List (Option ℕ)) (i function : ℕ) → TableWithin m ls elements → slice_get elements i ≡ Some (Some function) → function < length (function_types m)
element_within m [] elements i function fits is = absurd (no_element elements i function fits is)
element_within m (l ∷ ls) elements i function fits is = element_of m elements i function fits.1 is

module _ (m : ModuleSyntax) (store : Store) (locals : List Value) (labels : List Operands) (result : Option Operands) (after : Operands) (e : Execution) (rest : Body) (fits : StoreTyped m store) (right : FunctionsRight m) where
  -- the result of this type above the others, and what comes next
  abbrev Next : Signature → (below : Operands) → Type 0
  Next type below = Typed (inner_context m (types_of locals) labels result) rest (at_most_one type.result ++ below) after

  abbrev Here : Option Reduction → Type 0
  Here on = Sound m (types_of locals) labels result e after on

  -- a call of a function of this type
  pub to_invoke : (type : Signature) (function : ℕ) (values : List Value) (below : Operands) → slice_get (function_types m) function ≡ Some (Some type) → types_of values ≡ reverse type.parameters ++ below → Next type below → Here (leads_to 1 store locals (invoke values function rest))
  to_invoke type function values below is are next =
      goes _ refl (record { store = fits; locals_are = refl; typed = (type, below, is, are, next) })

  sound_as : (wanted : Signature) (function : ℕ) (values : List Value) (below : Operands) → function < length (function_types m) → types_of values ≡ reverse wanted.parameters ++ below → Next wanted below → Here (call_as m store locals values wanted function rest)
  sound_as wanted function values below within are next =
      let has = right.have_types function within in
      let type_is : type_of_function m function ≡ Some has.type = ap (λ o. option_and_then (λ type. type) o) has.is in
      let reduces = ap (λ o. option_and_then (λ type. if same_signature type wanted then leads_to 1 store locals (invoke values function rest) else leads_to 1 store locals (trap SignatureMismatch)) o) type_is in
      let called = λ (yes : same_signature has.type wanted ≡ true).
      to_invoke wanted function values below (has.is ∙ ap (λ t. Some (Some t)) (same_signature-true has.type wanted yes)) are next in
      subst Here (sym reduces)
      (either m (types_of locals) labels result after e (same_signature has.type wanted) (leads_to 1 store locals (invoke values function rest)) (leads_to 1 store locals (trap SignatureMismatch)) called
      (to_trap m (types_of locals) labels result after e 1 store locals SignatureMismatch fits refl))

  sound_element : (wanted : Signature) (values : List Value) (below : Operands) (i : ℕ) (o : Option (Option ℕ)) → slice_get store.table i ≡ o → types_of values ≡ reverse wanted.parameters ++ below → Next wanted below → Here (call_element m store locals values wanted o rest)
  sound_element wanted values below i None is are next = to_trap m (types_of locals) labels result after e 1 store locals UndefinedElement fits refl
  sound_element wanted values below i (Some None) is are next = to_trap m (types_of locals) labels result after e 1 store locals UninitializedElement fits refl
  sound_element wanted values below i (Some (Some function)) is are next =
      sound_as wanted function values below (element_within m m.tables store.table i function fits.table is) are next

  pub sound_call_indirect : (values : List Value) (x : ℕ) (wanted : Signature) (below : Operands) → is_there m.tables ≡ true → slice_get m.types x ≡ Some wanted → types_of values ≡ I32 ∷ (reverse wanted.parameters ++ below) → Next wanted below → Here (reduce_call_indirect m store locals values x rest)
  sound_call_indirect values x wanted below there is are next =
      let one = one_taken I32 values (reverse wanted.parameters ++ below) are in
      let go = λ (i : ℕ) (others : List Value). call_element m store locals others wanted (slice_get store.table i) rest in
      let by_type = λ (o : Option Signature). option_and_then (λ type. with_one I32 values (λ i below. call_element m store locals below type (slice_get store.table i) rest)) o in
      let reduces : reduce_call_indirect m store locals values x rest ≡ go one.number one.others =
      ap (λ b. if b then by_type (slice_get m.types x) else None) there ∙ ap by_type is ∙ one.goes go in
      subst Here (sym reduces) (sound_element wanted one.others below one.number (slice_get store.table one.number) refl one.others_are next)
