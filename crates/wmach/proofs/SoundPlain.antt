-- An instruction without others inside it is sound, and so is one that enters a label.
use Rattle.std.proofs.Common.{◌≡◌, ℕ, List, [], ◌∷◌, ◌++◌, Bool, true, false, Option, Some, None, length, reverse, refl, sym, ap, ◌∙◌, subst, append_assoc, eq-eqb}
use Rattle.std.specs.Prelude.{slice_get, unwrap_or, option_and_then, ◌==◌, ◌&&◌, if◌then◌else◌}
use Rattle.std.specs.List.{AllByRecursion}
use Rattle.std.proofs.lemmas.List.{append-nil}
use Rattle.wcode.specs.declared.value.ValueType.TheVariants.{I32}
use Rattle.wcode.specs.declared.value.BlockType.{BlockType}
use Rattle.wcode.specs.declared.value.Value.{Value}
use Rattle.wcode.specs.declared.operator.CvtOp.{CvtOp}
use Rattle.wcode.specs.declared.operator.CvtOp.TheVariants.{WrapI64, ExtendI32S, ExtendI32U, Extend8S, Extend16S, Extend32S}
use Rattle.wcode.specs.declared.instruction.Plain.{Plain}
use Rattle.wcode.specs.declared.instruction.Plain.TheVariants as instruction
use Rattle.wcode.specs.Operators.{type_of, load_type, load_bytes, store_type, store_bytes}
use Rattle.wcode.specs.Syntax.{Body, done, plain, block, loop, if_else, br_table}
use Rattle.wmodule.specs.Syntax.{ModuleSyntax}
use Rattle.wbody.specs.Context.{Operands, Context, at_most_one, results_of, with_label, function_types, is_there}
use Rattle.wbody.specs.Typing.{takes_gives, ends, of_found, only_where, is_in_range, function_at, call_type, is_aligned, TypeAllows, PlainTyped, BlockTyped, IfTyped, TableTyped, Typed, Then}
use Rattle.rules.specs.declared.trap.Trap.TheVariants.{Unreachable}
use Rattle.wmach.specs.Configuration.{Store, Setting, Execution, instructions, label, leads_to}
use Rattle.wmach.specs.Numeric.{converted_from, converted_to}
use Rattle.wmach.specs.Plain.{reduce_plain}
use Rattle.wmach.specs.Reduction.{reduce_instructions, branching}
use Rattle.wmach.specs.Fits.{types_of, StoreTyped}
use Rattle.wmach.proofs.Values.{one_taken, all_at}
use Rattle.wmach.proofs.TypedExecution.{inner_context, ExecutionTyped}
use Rattle.wmach.proofs.Callable.{FunctionsRight}
use Rattle.wmach.proofs.Sound.{Sound, goes, ended, branches, returns, taken, found, holds, first_holds, to_values, to_trap, either}
use Rattle.wmach.proofs.SoundNumeric.{sound_unary, sound_binary, sound_test, sound_relation, sound_convert}
use Rattle.wmach.proofs.SoundVariables.{sound_drop, sound_select, sound_local_get, sound_local_set, sound_local_tee, sound_global_get, sound_global_set}
use Rattle.wmach.proofs.SoundAccess.{sound_load, sound_store, sound_size, sound_grow}
use Rattle.wmach.proofs.SoundIndirect.{to_invoke, sound_call_indirect}

-- a function's type, where it is found
joined : {A : Type 0} (o : Option (Option A)) (x : A) → option_and_then (λ y. y) o ≡ Some x → o ≡ Some (Some x)
joined None x e = absurd (cc)
joined (Some None) x e = absurd (cc)
joined (Some (Some y)) x e = ap Some e

-- one of two bodies
one_of : (c : Context) (b : Bool) (x y : Body) (before after : Operands) → Typed c x before after → Typed c y before after → Typed c (if b then x else y) before after
one_of c true x y before after first second = first
one_of c false x y before after first second = second

-- the label that a br_table goes to carries what all of them do
chosen_label : (labels : List Operands) (carries : Operands) (targets : List ℕ) (default : ℕ) (o : Option ℕ) (i : ℕ) → slice_get targets i ≡ o → slice_get labels default ≡ Some carries → AllByRecursion (λ l. slice_get labels l ≡ Some carries) targets → slice_get labels (unwrap_or o default) ≡ Some carries
chosen_label labels carries targets default None i is last all = last
chosen_label labels carries targets default (Some l) i is last all = all_at (λ k. slice_get labels k ≡ Some carries) targets i l all is

-- a branch to a label that carries these, where they lie above others
pub br_typed : (c : Context) (l : ℕ) (rest : Body) (carries more between after : Operands) → slice_get c.labels l ≡ Some carries → Typed c rest between after → Typed c (plain (instruction.Br l) rest) (carries ++ more) after
br_typed c l rest carries more between after is others = record {
  between = between;
  first = record {
    takes = carries ++ more;
    gives = between;
    below = [];
    rule = subst (λ o. TypeAllows (of_found ends o) (carries ++ more) between) (sym is) (more, refl);
    before_is = sym (append-nil (carries ++ more));
    after_is = sym (append-nil between);
  };
  others = others;
}

module _ (setting : Setting) (right : FunctionsRight (setting.module_syntax)) (store : Store) (locals values : List Value) (labels : List Operands) (result : Option Operands) (after : Operands) (fits : StoreTyped (setting.module_syntax) store) where
  abbrev m : ModuleSyntax
  m = setting.module_syntax

  abbrev context : Context
  context = inner_context m (types_of locals) labels result

  -- an instruction, and what comes after it
  abbrev Goes : Plain → Body → Type 0
  Goes p rest = Then (PlainTyped context p) (Typed context rest) (types_of values) after → Sound m (types_of locals) labels result (instructions values (plain p rest)) after (reduce_plain setting store locals values p rest)

  convert : (op : CvtOp) (rest : Body) → Goes (instruction.Convert op) rest
  convert WrapI64 rest t =
      let k = taken context (converted_from WrapI64 ∷ []) (converted_to WrapI64 ∷ []) rest (types_of values) after t in
      sound_convert m store locals labels result after (instructions values (plain (instruction.Convert WrapI64) rest)) rest fits values WrapI64 k.below k.before_is k.others
  convert ExtendI32S rest t =
      let k = taken context (converted_from ExtendI32S ∷ []) (converted_to ExtendI32S ∷ []) rest (types_of values) after t in
      sound_convert m store locals labels result after (instructions values (plain (instruction.Convert ExtendI32S) rest)) rest fits values ExtendI32S k.below k.before_is k.others
  convert ExtendI32U rest t =
      let k = taken context (converted_from ExtendI32U ∷ []) (converted_to ExtendI32U ∷ []) rest (types_of values) after t in
      sound_convert m store locals labels result after (instructions values (plain (instruction.Convert ExtendI32U) rest)) rest fits values ExtendI32U k.below k.before_is k.others
  convert (Extend8S s) rest t =
      let k = taken context (converted_from (Extend8S s) ∷ []) (converted_to (Extend8S s) ∷ []) rest (types_of values) after t in
      sound_convert m store locals labels result after (instructions values (plain (instruction.Convert (Extend8S s)) rest)) rest fits values (Extend8S s) k.below k.before_is k.others
  convert (Extend16S s) rest t =
      let k = taken context (converted_from (Extend16S s) ∷ []) (converted_to (Extend16S s) ∷ []) rest (types_of values) after t in
      sound_convert m store locals labels result after (instructions values (plain (instruction.Convert (Extend16S s)) rest)) rest fits values (Extend16S s) k.below k.before_is k.others
  convert Extend32S rest t =
      let k = taken context (converted_from Extend32S ∷ []) (converted_to Extend32S ∷ []) rest (types_of values) after t in
      sound_convert m store locals labels result after (instructions values (plain (instruction.Convert Extend32S) rest)) rest fits values Extend32S k.below k.before_is k.others

  br : (l : ℕ) (rest : Body) → Goes (instruction.Br l) rest
  br l rest t =
      let f = found ends (slice_get labels l) (Typed context rest) (types_of values) after t in
      let w = f.typed.first in
      let here : branching l (instructions values (plain (instruction.Br l) rest)) ≡ Some values = ap (λ b. if b then Some values else None) (eq-eqb l l refl) in
      branches l values f.item (w.rule.0 ++ w.below) here f.is (w.before_is ∙ ap (λ g. g ++ w.below) w.rule.1 ∙ append_assoc f.item (w.rule.0) w.below)

  return : (rest : Body) → Goes instruction.Return rest
  return rest t =
      let f = found ends result (Typed context rest) (types_of values) after t in
      let w = f.typed.first in
      returns values f.item (w.rule.0 ++ w.below) refl f.is (w.before_is ∙ ap (λ g. g ++ w.below) w.rule.1 ∙ append_assoc f.item (w.rule.0) w.below)

  br_if : (l : ℕ) (rest : Body) → Goes (instruction.BrIf l) rest
  br_if l rest t =
      let e = instructions values (plain (instruction.BrIf l) rest) in
      let f = found (λ carries. takes_gives (I32 ∷ carries) carries) (slice_get labels l) (Typed context rest) (types_of values) after t in
      let k = taken context (I32 ∷ f.item) f.item rest (types_of values) after f.typed in
      let one = one_taken I32 values (f.item ++ k.below) k.before_is in
      let no_to = λ (others : List Value). leads_to 1 store locals (instructions others rest) in
      let yes_to = λ (others : List Value). leads_to 1 store locals (instructions others (plain (instruction.Br l) rest)) in
      let go = λ (condition : ℕ) (others : List Value). if condition == 0 then no_to others else yes_to others in
      let not_taken = to_values m (types_of locals) labels result after e (f.item ++ k.below) 1 store locals one.others rest fits refl one.others_are k.others in
      let taken_on = to_values m (types_of locals) labels result after e (f.item ++ k.below) 1 store locals one.others (plain (instruction.Br l) rest) fits refl one.others_are (br_typed context l rest f.item k.below (f.item ++ k.below) after f.is k.others) in
      let on = if one.number == 0 then no_to one.others else yes_to one.others in
      let sound_on = either m (types_of locals) labels result after e (one.number == 0) (no_to one.others) (yes_to one.others) (λ zero_is. not_taken) taken_on in
      subst (λ x. Sound m (types_of locals) labels result e after x) {x = on} (sym (one.goes go)) sound_on

  call : (function : ℕ) (rest : Body) → Goes (instruction.Call function) rest
  call function rest t =
      let f = found (call_type []) (function_at context function) (Typed context rest) (types_of values) after t in
      let k = taken context (reverse f.item.parameters) (at_most_one f.item.result) rest (types_of values) after f.typed in
      to_invoke m store locals labels result after (instructions values (plain (instruction.Call function) rest)) rest fits right f.item function values k.below (joined (slice_get (function_types m) function) f.item f.is) k.before_is k.others

  call_indirect : (x : ℕ) (rest : Body) → Goes (instruction.CallIndirect x) rest
  call_indirect x rest t =
      let h = holds (is_there m.tables) (of_found (call_type (I32 ∷ [])) (slice_get m.types x)) (Typed context rest) (types_of values) after t in
      let f = found (call_type (I32 ∷ [])) (slice_get m.types x) (Typed context rest) (types_of values) after h.typed in
      let k = taken context (I32 ∷ reverse f.item.parameters) (at_most_one f.item.result) rest (types_of values) after f.typed in
      sound_call_indirect m store locals labels result after (instructions values (plain (instruction.CallIndirect x) rest)) rest fits right values x f.item k.below h.is f.is k.before_is k.others

  -- an instruction without others inside it
  pub sound_plain : (p : Plain) (rest : Body) → Goes p rest
  sound_plain instruction.Unreachable rest t =
      to_trap m (types_of locals) labels result after (instructions values (plain instruction.Unreachable rest)) 1 store locals Unreachable fits refl
  sound_plain instruction.Nop rest t =
      let k = taken context [] [] rest (types_of values) after t in
      to_values m (types_of locals) labels result after (instructions values (plain instruction.Nop rest)) k.below 1 store locals values rest fits refl k.before_is k.others
  sound_plain (instruction.Br l) rest t = br l rest t
  sound_plain (instruction.BrIf l) rest t = br_if l rest t
  sound_plain instruction.Return rest t = return rest t
  sound_plain (instruction.Call function) rest t = call function rest t
  sound_plain (instruction.CallIndirect x) rest t = call_indirect x rest t
  sound_plain instruction.Drop rest t =
      let f = t.first in
      let before = f.before_is ∙ ap (λ g. g ++ f.below) (f.rule.1) in
      let next = subst (λ o. Typed context rest o after) (f.after_is ∙ ap (λ g. g ++ f.below) (f.rule.2)) t.others in
      sound_drop m store locals labels result after (instructions values (plain instruction.Drop rest)) rest fits values (f.rule.0) f.below before next
  sound_plain instruction.Select rest t =
      let f = t.first in
      let before = f.before_is ∙ ap (λ g. g ++ f.below) (f.rule.1) in
      let next = subst (λ o. Typed context rest o after) (f.after_is ∙ ap (λ g. g ++ f.below) (f.rule.2)) t.others in
      sound_select m store locals labels result after (instructions values (plain instruction.Select rest)) rest fits values (f.rule.0) f.below before next
  sound_plain (instruction.LocalGet x) rest t =
      let f = found (λ s. takes_gives [] (s ∷ [])) (slice_get (types_of locals) x) (Typed context rest) (types_of values) after t in
      let k = taken context [] (f.item ∷ []) rest (types_of values) after f.typed in
      sound_local_get m store locals labels result after (instructions values (plain (instruction.LocalGet x) rest)) rest fits values x f.item k.below f.is k.before_is k.others
  sound_plain (instruction.LocalSet x) rest t =
      let f = found (λ s. takes_gives (s ∷ []) []) (slice_get (types_of locals) x) (Typed context rest) (types_of values) after t in
      let k = taken context (f.item ∷ []) [] rest (types_of values) after f.typed in
      sound_local_set m store locals labels result after (instructions values (plain (instruction.LocalSet x) rest)) rest fits values x f.item k.below f.is k.before_is k.others
  sound_plain (instruction.LocalTee x) rest t =
      let f = found (λ s. takes_gives (s ∷ []) (s ∷ [])) (slice_get (types_of locals) x) (Typed context rest) (types_of values) after t in
      let k = taken context (f.item ∷ []) (f.item ∷ []) rest (types_of values) after f.typed in
      sound_local_tee m store locals labels result after (instructions values (plain (instruction.LocalTee x) rest)) rest fits values x f.item k.below f.is k.before_is k.others
  sound_plain (instruction.GlobalGet x) rest t =
      let f = found (λ g. takes_gives [] (g.value ∷ [])) (slice_get context.globals x) (Typed context rest) (types_of values) after t in
      let k = taken context [] (f.item.value ∷ []) rest (types_of values) after f.typed in
      sound_global_get m store locals labels result after (instructions values (plain (instruction.GlobalGet x) rest)) rest fits values x f.item k.below f.is k.before_is k.others
  sound_plain (instruction.GlobalSet x) rest t =
      let f = found (λ g. only_where g.mutable (takes_gives (g.value ∷ []) [])) (slice_get context.globals x) (Typed context rest) (types_of values) after t in
      let h = holds f.item.mutable (takes_gives (f.item.value ∷ []) []) (Typed context rest) (types_of values) after f.typed in
      let k = taken context (f.item.value ∷ []) [] rest (types_of values) after h.typed in
      sound_global_set m store locals labels result after (instructions values (plain (instruction.GlobalSet x) rest)) rest fits values x f.item k.below f.is k.before_is k.others
  sound_plain (instruction.Load op arg) rest t =
      let h = holds (context.has_memory && is_aligned arg (load_bytes op)) (takes_gives (I32 ∷ []) (load_type op ∷ [])) (Typed context rest) (types_of values) after t in
      let k = taken context (I32 ∷ []) (load_type op ∷ []) rest (types_of values) after h.typed in
      sound_load m store locals labels result after (instructions values (plain (instruction.Load op arg) rest)) rest fits (first_holds context.has_memory (is_aligned arg (load_bytes op)) h.is) values op arg k.below k.before_is k.others
  sound_plain (instruction.Store op arg) rest t =
      let h = holds (context.has_memory && is_aligned arg (store_bytes op)) (takes_gives (store_type op ∷ I32 ∷ []) []) (Typed context rest) (types_of values) after t in
      let k = taken context (store_type op ∷ I32 ∷ []) [] rest (types_of values) after h.typed in
      sound_store m store locals labels result after (instructions values (plain (instruction.Store op arg) rest)) rest fits (first_holds context.has_memory (is_aligned arg (store_bytes op)) h.is) values op arg k.below k.before_is k.others
  sound_plain instruction.MemorySize rest t =
      let h = holds context.has_memory (takes_gives [] (I32 ∷ [])) (Typed context rest) (types_of values) after t in
      let k = taken context [] (I32 ∷ []) rest (types_of values) after h.typed in
      sound_size m store locals labels result after (instructions values (plain instruction.MemorySize rest)) rest fits h.is values k.below k.before_is k.others
  sound_plain instruction.MemoryGrow rest t =
      let h = holds context.has_memory (takes_gives (I32 ∷ []) (I32 ∷ [])) (Typed context rest) (types_of values) after t in
      let k = taken context (I32 ∷ []) (I32 ∷ []) rest (types_of values) after h.typed in
      sound_grow m store locals labels result after (instructions values (plain instruction.MemoryGrow rest)) rest fits h.is values k.below k.before_is k.others
  sound_plain (instruction.Const v) rest t =
      let h = holds (is_in_range v) (takes_gives [] (type_of v ∷ [])) (Typed context rest) (types_of values) after t in
      let k = taken context [] (type_of v ∷ []) rest (types_of values) after h.typed in
      to_values m (types_of locals) labels result after (instructions values (plain (instruction.Const v) rest)) (type_of v ∷ k.below) 0 store locals (v ∷ values) rest fits refl (ap (λ l. type_of v ∷ l) k.before_is) k.others
  sound_plain (instruction.Unary s op) rest t =
      let k = taken context (s ∷ []) (s ∷ []) rest (types_of values) after t in
      sound_unary m store locals labels result after (instructions values (plain (instruction.Unary s op) rest)) rest fits values s op k.below k.before_is k.others
  sound_plain (instruction.Binary s op) rest t =
      let k = taken context (s ∷ s ∷ []) (s ∷ []) rest (types_of values) after t in
      sound_binary m store locals labels result after (instructions values (plain (instruction.Binary s op) rest)) rest fits values s op k.below k.before_is k.others
  sound_plain (instruction.Test s op) rest t =
      let k = taken context (s ∷ []) (I32 ∷ []) rest (types_of values) after t in
      sound_test m store locals labels result after (instructions values (plain (instruction.Test s op) rest)) rest fits values s op k.below k.before_is k.others
  sound_plain (instruction.Relation s op) rest t =
      let k = taken context (s ∷ s ∷ []) (I32 ∷ []) rest (types_of values) after t in
      sound_relation m store locals labels result after (instructions values (plain (instruction.Relation s op) rest)) rest fits values s op k.below k.before_is k.others
  sound_plain (instruction.Convert op) rest t = convert op rest t

  -- a block's or a loop's label, which carries these
  entered : (e : Execution) (below_values : List Value) (below carries leaves : Operands) (arity : ℕ) (continuation inside rest : Body) (between : Operands) → length carries ≡ arity → Typed context continuation carries leaves → Typed (with_label carries context) inside [] leaves → types_of below_values ≡ below → between ≡ leaves ++ below → Typed context rest between after → Sound m (types_of locals) labels result e after (leads_to 1 store locals (label below_values arity continuation (instructions [] inside) rest))
  entered e below_values below carries leaves arity continuation inside rest between long again body are between_is others =
      goes _ refl (record { store = fits; locals_are = refl; typed = (carries, leaves, long, again, body, subst (λ o. Typed context rest o after) (between_is ∙ ap (λ l. leaves ++ l) (sym are)) others) })

  sound_block : (t : BlockType) (inside rest : Body) → Then (BlockTyped (Typed (with_label (results_of t) context) inside) t) (Typed context rest) (types_of values) after → Sound m (types_of locals) labels result (instructions values (block t inside rest)) after (reduce_instructions setting store locals values (block t inside rest))
  sound_block t inside rest typed =
      let f = typed.first in
      entered (instructions values (block t inside rest)) values f.below (results_of t) (results_of t) (length (results_of t)) done inside rest typed.between refl refl (f.rule.2)
      (f.before_is ∙ ap (λ g. g ++ f.below) (f.rule.0)) (f.after_is ∙ ap (λ g. g ++ f.below) (f.rule.1)) typed.others

  sound_loop : (t : BlockType) (inside rest : Body) → Then (BlockTyped (Typed (with_label [] context) inside) t) (Typed context rest) (types_of values) after → Sound m (types_of locals) labels result (instructions values (loop t inside rest)) after (reduce_instructions setting store locals values (loop t inside rest))
  sound_loop t inside rest typed =
      let f = typed.first in
      let again : Typed context (loop t inside done) [] (results_of t) = record {
        between = results_of t;
        first = record { takes = []; gives = results_of t; below = []; rule = (refl, refl, f.rule.2); before_is = refl; after_is = sym (append-nil (results_of t)) };
        others = refl;
      } in
      entered (instructions values (loop t inside rest)) values f.below [] (results_of t) 0 (loop t inside done) inside rest typed.between refl again (f.rule.2)
      (f.before_is ∙ ap (λ g. g ++ f.below) (f.rule.0)) (f.after_is ∙ ap (λ g. g ++ f.below) (f.rule.1)) typed.others

  sound_if : (t : BlockType) (then_arm else_arm rest : Body) → Then (IfTyped (Typed (with_label (results_of t) context) then_arm) (Typed (with_label (results_of t) context) else_arm) t) (Typed context rest) (types_of values) after → Sound m (types_of locals) labels result (instructions values (if_else t then_arm else_arm rest)) after (reduce_instructions setting store locals values (if_else t then_arm else_arm rest))
  sound_if t then_arm else_arm rest typed =
      let f = typed.first in
      let e = instructions values (if_else t then_arm else_arm rest) in
      let one = one_taken I32 values f.below (f.before_is ∙ ap (λ g. g ++ f.below) (f.rule.0)) in
      let go = λ (condition : ℕ) (others : List Value). leads_to 1 store locals (label others (length (results_of t)) done (instructions [] (if condition == 0 then else_arm else then_arm)) rest) in
      let body = one_of (with_label (results_of t) context) (one.number == 0) else_arm then_arm [] (results_of t) (f.rule.3) (f.rule.2) in
      subst (λ on. Sound m (types_of locals) labels result e after on) (sym (one.goes go))
      (entered e one.others f.below (results_of t) (results_of t) (length (results_of t)) done (if one.number == 0 then else_arm else then_arm) rest typed.between refl refl body one.others_are (f.after_is ∙ ap (λ g. g ++ f.below) (f.rule.1)) typed.others)

  sound_br_table : (targets : List ℕ) (default : ℕ) (rest : Body) → Then (TableTyped context targets default) (Typed context rest) (types_of values) after → Sound m (types_of locals) labels result (instructions values (br_table targets default rest)) after (reduce_instructions setting store locals values (br_table targets default rest))
  sound_br_table targets default rest typed =
      let f = typed.first in
      let e = instructions values (br_table targets default rest) in
      let carries = f.rule.0 in
      let more = f.rule.3.0 ++ f.below in
      let one = one_taken I32 values (carries ++ more) (f.before_is ∙ ap (λ g. g ++ f.below) (f.rule.3.1) ∙ append_assoc (I32 ∷ carries) (f.rule.3.0) f.below) in
      let go = λ (i : ℕ) (others : List Value). leads_to 1 store locals (instructions others (plain (instruction.Br (unwrap_or (slice_get targets i) default)) rest)) in
      let target = unwrap_or (slice_get targets one.number) default in
      let carried = chosen_label labels carries targets default (slice_get targets one.number) one.number refl (f.rule.1) (f.rule.2) in
      subst (λ on. Sound m (types_of locals) labels result e after on) (sym (one.goes go))
      (to_values m (types_of locals) labels result after e (carries ++ more) 1 store locals one.others (plain (instruction.Br target) rest) fits refl one.others_are (br_typed context target rest carries more typed.between after carried typed.others))

  -- values, and then instructions
  pub sound_instructions : (rest : Body) → ExecutionTyped m (types_of locals) labels result (instructions values rest) after → Sound m (types_of locals) labels result (instructions values rest) after (reduce_instructions setting store locals values rest)
  sound_instructions done t = ended refl refl
  sound_instructions (plain p rest) t = sound_plain p rest t
  sound_instructions (block bt inside rest) t = sound_block bt inside rest t
  sound_instructions (loop bt inside rest) t = sound_loop bt inside rest t
  sound_instructions (if_else bt then_arm else_arm rest) t = sound_if bt then_arm else_arm rest t
  sound_instructions (br_table targets default rest) t = sound_br_table targets default rest t
