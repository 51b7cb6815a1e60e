-- The parametric and the variable instructions are sound.
use Rattle.std.proofs.Common.{◌≡◌, ℕ, List, [], ◌∷◌, Option, Some, None, map, refl, sym, ap, ◌∙◌, subst}
use Rattle.std.specs.Prelude.{slice_get, slice_set, option_map, option_and_then, length, nat_lt, ◌==◌, if◌then◌else◌}
use Rattle.std.proofs.lemmas.Option.{slice_get-map}
use Rattle.wcode.specs.declared.value.ValueType.{ValueType}
use Rattle.wcode.specs.declared.value.ValueType.TheVariants.{I32}
use Rattle.wcode.specs.declared.value.Value.{Value}
use Rattle.wcode.specs.declared.instruction.Plain.TheVariants.{LocalSet}
use Rattle.wcode.specs.Operators.{type_of}
use Rattle.wcode.specs.Syntax.{Body, plain}
use Rattle.wmodule.specs.declared.module.GlobalType.{GlobalType}
use Rattle.wmodule.specs.Syntax.{GlobalSyntax, ModuleSyntax}
use Rattle.wbody.specs.Context.{Operands}
use Rattle.wbody.specs.Typing.{takes_gives, of_found, TypeAllows, Typed}
use Rattle.wmach.specs.Configuration.{Store, Execution, instructions, Reduction, leads_to}
use Rattle.wmach.specs.Operands.{with_any}
use Rattle.wmach.specs.Variables.{reduce_drop, reduce_select, reduce_local_get, reduce_local_set, reduce_local_tee, reduce_global_get, reduce_global_set}
use Rattle.wmach.specs.Fits.{types_of, StoreTyped}
use Rattle.wmach.proofs.Values.{one_taken, any_taken, type_of_either, value_at, types_of-set, within_values}
use Rattle.wmach.proofs.TypedExecution.{inner_context}
use Rattle.wmach.proofs.Sound.{Sound, to_values}

-- a global's type, from its kind
pub value_kind : (o : Option GlobalSyntax) (g : GlobalType) → option_map (λ (s : GlobalSyntax). s.kind) o ≡ Some g → option_map (λ (s : GlobalSyntax). s.kind.value) o ≡ Some g.value
value_kind None g e = absurd (cc)
value_kind (Some s) g e = let same : s.kind ≡ g = cc in ap (λ (k : GlobalType). Some k.value) same

-- a store in which a global is another of its type
pub with_global : (m : ModuleSyntax) (store : Store) (x : ℕ) (t : ValueType) (v : Value) → StoreTyped m store → slice_get (types_of store.globals) x ≡ Some t → type_of v ≡ t → StoreTyped m (record store { globals = slice_set store.globals x v })
with_global m store x t v fits is type_is =
    record { memory = fits.memory; globals = types_of-set store.globals x t v is type_is ∙ fits.globals; table = fits.table }

module _ (m : ModuleSyntax) (store : Store) (locals : List Value) (labels : List Operands) (result : Option Operands) (after : Operands) (e : Execution) (rest : Body) (fits : StoreTyped m store) where
  -- these operands, and what comes next
  abbrev Next : Operands → Type 0
  Next between = Typed (inner_context m (types_of locals) labels result) rest between after

  abbrev Here : Option Reduction → Type 0
  Here on = Sound m (types_of locals) labels result e after on

  -- the values, and what comes next
  on_values : (cost : ℕ) (values : List Value) (between : Operands) → types_of values ≡ between → Next between → Here (leads_to cost store locals (instructions values rest))
  on_values cost values between are next = to_values m (types_of locals) labels result after e between cost store locals values rest fits refl are next

  pub sound_drop : (values : List Value) (t : ValueType) (below : Operands) → types_of values ≡ t ∷ below → Next below → Here (reduce_drop store locals values rest)
  sound_drop values t below are next =
      let one = any_taken t values below are in
      let go = λ (v : Value) (others : List Value). leads_to 1 store locals (instructions others rest) in
      subst Here (sym (one.goes go)) (on_values 1 one.others below one.others_are next)

  pub sound_select : (values : List Value) (t : ValueType) (below : Operands) → types_of values ≡ I32 ∷ t ∷ t ∷ below → Next (t ∷ below) → Here (reduce_select store locals values rest)
  sound_select values t below are next =
      let condition = one_taken I32 values (t ∷ t ∷ below) are in
      let upper = any_taken t condition.others (t ∷ below) condition.others_are in
      let lower = any_taken t upper.others below upper.others_are in
      let last = λ (c : ℕ) (second first : Value) (others : List Value). leads_to 1 store locals (instructions ((if c == 0 then second else first) ∷ others) rest) in
      let two = λ (c : ℕ) (second : Value) (more : List Value). with_any more (λ first others. last c second first others) in
      let three = λ (c : ℕ) (others : List Value). with_any others (λ second more. two c second more) in
      let reduces : reduce_select store locals values rest ≡ last condition.number upper.value lower.value lower.others =
      condition.goes three ∙ upper.goes (λ second more. two condition.number second more) ∙ lower.goes (λ first others. last condition.number upper.value first others) in
      let type = type_of_either t upper.value lower.value (condition.number == 0) upper.type_is lower.type_is in
      let types = ap (λ x. x ∷ types_of lower.others) type ∙ ap (λ l. t ∷ l) lower.others_are in
      subst Here (sym reduces) (on_values 1 ((if condition.number == 0 then upper.value else lower.value) ∷ lower.others) (t ∷ below) types next)

  pub sound_local_get : (values : List Value) (x : ℕ) (t : ValueType) (below : Operands) → slice_get (types_of locals) x ≡ Some t → types_of values ≡ below → Next (t ∷ below) → Here (reduce_local_get store locals values x rest)
  sound_local_get values x t below is are next =
      let v = value_at locals x t is in
      let reduces = ap (λ o. option_and_then (λ w. leads_to 1 store locals (instructions (w ∷ values) rest)) o) v.is in
      subst Here (sym reduces) (on_values 1 (v.value ∷ values) (t ∷ below) (ap (λ y. y ∷ types_of values) v.type_is ∙ ap (λ l. t ∷ l) are) next)

  pub sound_local_set : (values : List Value) (x : ℕ) (t : ValueType) (below : Operands) → slice_get (types_of locals) x ≡ Some t → types_of values ≡ t ∷ below → Next below → Here (reduce_local_set store locals values x rest)
  sound_local_set values x t below is are next =
      let one = any_taken t values below are in
      let go = λ (v : Value) (others : List Value). if nat_lt x (length locals) then leads_to 1 store (slice_set locals x v) (instructions others rest) else None in
      let within = ap (λ b. if b then leads_to 1 store (slice_set locals x one.value) (instructions one.others rest) else None) (within_values locals x t is) in
      let locals_are = types_of-set locals x t one.value is one.type_is in
      subst Here (sym (one.goes go ∙ within)) (to_values m (types_of locals) labels result after e below 1 store (slice_set locals x one.value) one.others rest fits locals_are one.others_are next)

  pub sound_local_tee : (values : List Value) (x : ℕ) (t : ValueType) (below : Operands) → slice_get (types_of locals) x ≡ Some t → types_of values ≡ t ∷ below → Next (t ∷ below) → Here (reduce_local_tee store locals values x rest)
  sound_local_tee values x t below is are next =
      let one = any_taken t values below are in
      let go = λ (v : Value) (others : List Value). leads_to 1 store locals (instructions (v ∷ v ∷ others) (plain (LocalSet x) rest)) in
      let twice : types_of (one.value ∷ one.value ∷ one.others) ≡ t ∷ t ∷ below = ap (λ y. y ∷ y ∷ types_of one.others) one.type_is ∙ ap (λ l. t ∷ t ∷ l) one.others_are in
      let allows : TypeAllows (of_found (λ s. takes_gives (s ∷ []) []) (slice_get (types_of locals) x)) (t ∷ []) [] = subst (λ o. TypeAllows (of_found (λ s. takes_gives (s ∷ []) []) o) (t ∷ []) []) (sym is) (refl, refl) in
      let set : Typed (inner_context m (types_of locals) labels result) (plain (LocalSet x) rest) (t ∷ t ∷ below) after = record {
        between = t ∷ below;
        first = record { takes = t ∷ []; gives = []; below = t ∷ below; rule = allows; before_is = refl; after_is = refl };
        others = next;
      } in
      subst Here (sym (one.goes go)) (to_values m (types_of locals) labels result after e (t ∷ t ∷ below) 1 store locals (one.value ∷ one.value ∷ one.others) (plain (LocalSet x) rest) fits refl twice set)

  -- a global's value has its type
  global_type : (x : ℕ) (g : GlobalType) → slice_get (map (λ (s : GlobalSyntax). s.kind) m.globals) x ≡ Some g → slice_get (types_of store.globals) x ≡ Some g.value
  global_type x g is =
      ap (λ l. slice_get l x) fits.globals
      ∙ slice_get-map (λ (s : GlobalSyntax). s.kind.value) m.globals x
      ∙ value_kind (slice_get m.globals x) g (sym (slice_get-map (λ (s : GlobalSyntax). s.kind) m.globals x) ∙ is)

  pub sound_global_get : (values : List Value) (x : ℕ) (g : GlobalType) (below : Operands) → slice_get (map (λ (s : GlobalSyntax). s.kind) m.globals) x ≡ Some g → types_of values ≡ below → Next (g.value ∷ below) → Here (reduce_global_get store locals values x rest)
  sound_global_get values x g below is are next =
      let v = value_at store.globals x g.value (global_type x g is) in
      let reduces = ap (λ o. option_and_then (λ w. leads_to 1 store locals (instructions (w ∷ values) rest)) o) v.is in
      subst Here (sym reduces) (on_values 1 (v.value ∷ values) (g.value ∷ below) (ap (λ y. y ∷ types_of values) v.type_is ∙ ap (λ l. g.value ∷ l) are) next)

  pub sound_global_set : (values : List Value) (x : ℕ) (g : GlobalType) (below : Operands) → slice_get (map (λ (s : GlobalSyntax). s.kind) m.globals) x ≡ Some g → types_of values ≡ g.value ∷ below → Next below → Here (reduce_global_set store locals values x rest)
  sound_global_set values x g below is are next =
      let one = any_taken g.value values below are in
      let there = global_type x g is in
      let to = λ (v : Value) (others : List Value). leads_to 1 (record store { globals = slice_set store.globals x v }) locals (instructions others rest) in
      let go = λ (v : Value) (others : List Value). if nat_lt x (length store.globals) then to v others else None in
      let within = ap (λ b. if b then to one.value one.others else None) (within_values store.globals x g.value there) in
      let kept = with_global m store x g.value one.value fits there one.type_is in
      subst Here (sym (one.goes go ∙ within)) (to_values m (types_of locals) labels result after e below 1 (record store { globals = slice_set store.globals x one.value }) locals one.others rest kept refl one.others_are next)
