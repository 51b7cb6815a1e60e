-- Progress and preservation: what is typed and under way is sound, whatever it is.
use Rattle.std.proofs.Common.{◌≡◌, ℕ, suc, zero, ◌+◌, List, [], ◌∷◌, ◌++◌, Option, Some, None, length, reverse, map, refl, sym, ap, ◌∙◌, subst, append_assoc, add-one, eq-eqb, Bool, true, false, drop, ◌-◌}
use Rattle.std.specs.Prelude.{slice_get, option_map, option_and_then, if◌then◌else◌, ◌==◌, nat_lt}
use Rattle.std.proofs.lemmas.List.{reverse-reverse, length-reverse, length-map, append-nil}
use Rattle.std.proofs.lemmas.Bool.{le-ltb, lt-ltb, eqb-true}
use Rattle.std.specs.Option.{option_map_or}
use Rattle.wcode.specs.declared.value.ValueType.{ValueType}
use Rattle.wcode.specs.declared.value.Value.{Value}
use Rattle.wcode.specs.declared.instruction.Plain.TheVariants.{Br, Return}
use Rattle.wcode.specs.Operators.{type_of}
use Rattle.wcode.specs.Syntax.{Body, done, plain, block, loop, if_else, br_table}
use Rattle.wmodule.specs.Syntax.{Signature, FunctionSyntax}
use Rattle.wbody.specs.Context.{Operands, at_most_one, body_context}
use Rattle.wbody.specs.Typing.{ends, Typed}
use Rattle.rules.specs.declared.trap.Trap.TheVariants.{CallDepth}
use Rattle.wmach.specs.Configuration.{Store, Setting, Execution, instructions, label, frame, invoke, trap, Reduction, leads_to}
use Rattle.wmach.specs.Operands.{value_of}
use Rattle.wmach.specs.Host.{reduce_import}
use Rattle.wmach.specs.Reduction.{reduce, reduce_label, reduce_frame, branching, returning, inside_label, inside_frame, branch, return_from, followed_by, enter, reduce_invoke, imported_count, most_frames}
use Rattle.wmach.specs.Fits.{types_of, StoreTyped}
use Rattle.wmach.specs.Outcome.{IsEnd}
use Rattle.wmach.proofs.Values.{types_of-append, types_of-reverse, types_of-zeros, on_top, topmost_is, drop_is}
use Rattle.wmach.proofs.TypedExecution.{inner_context, ExecutionTyped}
use Rattle.wmach.proofs.Callable.{FunctionsRight, OwnFunction, Callable, own, host}
use Rattle.wmach.proofs.Sequences.{followed_by-typed}
use Rattle.wmach.proofs.Sound.{Sound, goes, ended, branches, returns, found, to_trap}
use Rattle.wmach.proofs.SoundHost.{sound_import}
use Rattle.wmach.proofs.SoundPlain.{sound_instructions}

-- the label so many outwards carries these, which are on top
record BranchFits (labels : List Operands) (depth : ℕ) (values : List Value) : Type 0 where
  carries : Operands
  more : Operands
  label_is : slice_get labels depth ≡ Some carries
  values_are : types_of values ≡ carries ++ more

-- the frame gives these, which are on top
record ReturnFits (result : Option Operands) (values : List Value) : Type 0 where
  carries : Operands
  more : Operands
  result_is : result ≡ Some carries
  values_are : types_of values ≡ carries ++ more

-- what a test gives only where it holds
pub record Tested (b : Bool) (vs values : List Value) : Type 0 where
  pub is : b ≡ true
  pub same : vs ≡ values

pub tested : (b : Bool) (vs values : List Value) → (if b then Some vs else None) ≡ Some values → Tested b vs values
tested true vs values e = record { is = refl; same = cc }
tested false vs values e = absurd (cc)

module _ (setting : Setting) where
  -- what stands before a branch is what its label carries, on top of other values
  branch_fits : (e : Execution) (depth : ℕ) (values : List Value) (locals : List ValueType) (labels : List Operands) (result : Option Operands) (after : Operands) → ExecutionTyped (setting.module_syntax) locals labels result e after → branching depth e ≡ Some values → BranchFits labels depth values
  branch_fits (instructions vs done) depth values locals labels result after t e = absurd (cc)
  branch_fits (instructions vs (plain (Br l) rest)) depth values locals labels result after t e =
      let test = tested (l == depth) vs values e in
      let f = found ends (slice_get labels l) (Typed (inner_context (setting.module_syntax) locals labels result) rest) (types_of vs) after t in
      let w = f.typed.first in
      record {
        carries = f.item;
        more = w.rule.0 ++ w.below;
        label_is = subst (λ k. slice_get labels k ≡ Some f.item) (eqb-true l depth test.is) f.is;
        values_are = ap types_of (sym test.same) ∙ w.before_is ∙ ap (λ g. g ++ w.below) w.rule.1 ∙ append_assoc f.item (w.rule.0) w.below;
      }
  branch_fits (instructions vs (plain _ rest)) depth values locals labels result after t e = absurd (cc)
  branch_fits (instructions vs (block bt inside rest)) depth values locals labels result after t e = absurd (cc)
  branch_fits (instructions vs (loop bt inside rest)) depth values locals labels result after t e = absurd (cc)
  branch_fits (instructions vs (if_else bt then_arm else_arm rest)) depth values locals labels result after t e = absurd (cc)
  branch_fits (instructions vs (br_table targets default rest)) depth values locals labels result after t e = absurd (cc)
  branch_fits (label below arity continuation inside rest) depth values locals labels result after t e =
      let b = branch_fits inside (depth + 1) values locals (t.0 ∷ labels) result t.1 t.4 e in
      let here : slice_get labels depth ≡ Some b.carries = subst (λ n. slice_get (t.0 ∷ labels) n ≡ Some b.carries) (add-one depth) b.label_is in
      record { carries = b.carries; more = b.more; label_is = here; values_are = b.values_are }
  branch_fits (frame below arity locals inside rest) depth values outer labels result after t e = absurd (cc)
  branch_fits (invoke below function rest) depth values locals labels result after t e = absurd (cc)
  branch_fits (trap name) depth values locals labels result after t e = absurd (cc)

  -- what stands before a return is what the frame gives, on top of other values
  return_fits : (e : Execution) (values : List Value) (locals : List ValueType) (labels : List Operands) (result : Option Operands) (after : Operands) → ExecutionTyped (setting.module_syntax) locals labels result e after → returning e ≡ Some values → ReturnFits result values
  return_fits (instructions vs done) values locals labels result after t e = absurd (cc)
  return_fits (instructions vs (plain Return rest)) values locals labels result after t e =
      let f = found ends result (Typed (inner_context (setting.module_syntax) locals labels result) rest) (types_of vs) after t in
      let w = f.typed.first in
      let same : vs ≡ values = cc in
      record {
        carries = f.item;
        more = w.rule.0 ++ w.below;
        result_is = f.is;
        values_are = ap types_of (sym same) ∙ w.before_is ∙ ap (λ g. g ++ w.below) w.rule.1 ∙ append_assoc f.item (w.rule.0) w.below;
      }
  return_fits (instructions vs (plain _ rest)) values locals labels result after t e = absurd (cc)
  return_fits (instructions vs (block bt inside rest)) values locals labels result after t e = absurd (cc)
  return_fits (instructions vs (loop bt inside rest)) values locals labels result after t e = absurd (cc)
  return_fits (instructions vs (if_else bt then_arm else_arm rest)) values locals labels result after t e = absurd (cc)
  return_fits (instructions vs (br_table targets default rest)) values locals labels result after t e = absurd (cc)
  return_fits (label below arity continuation inside rest) values locals labels result after t e =
      return_fits inside values locals (t.0 ∷ labels) result t.1 t.4 e
  return_fits (frame below arity locals inside rest) values outer labels result after t e = absurd (cc)
  return_fits (invoke below function rest) values locals labels result after t e = absurd (cc)
  return_fits (trap name) values locals labels result after t e = absurd (cc)

  -- a label, where neither an end nor a trap is inside
  sound_open_label : (store : Store) (locals below : List Value) (arity : ℕ) (continuation : Body) (inside : Execution) (rest : Body) (labels : List Operands) (result : Option Operands) (after : Operands) (on : Option Reduction) (t : ExecutionTyped (setting.module_syntax) (types_of locals) labels result (label below arity continuation inside rest) after) → StoreTyped (setting.module_syntax) store → (IsEnd inside → ⊥) → Sound (setting.module_syntax) (types_of locals) (t.0 ∷ labels) result inside t.1 on → (b : Option (List Value)) → branching 0 inside ≡ b → Sound (setting.module_syntax) (types_of locals) labels result (label below arity continuation inside rest) after (option_map_or (branch store locals below arity continuation rest) b (option_map (inside_label below arity continuation rest) on))
  sound_open_label store locals below arity continuation inside rest labels result after on t fits unended s (Some values) e =
      let b = branch_fits inside 0 values (types_of locals) (t.0 ∷ labels) result t.1 t.4 e in
      let carries_are : t.0 ≡ b.carries = cc (b.label_is) in
      let o = on_top t.0 b.more values (b.values_are ∙ ap (λ l. l ++ b.more) (sym carries_are)) in
      let taken = topmost_is arity t.0 b.more values t.2 o in
      let reduces = ap (λ v. option_and_then (λ carried. leads_to 1 store locals (instructions (carried ++ below) (followed_by continuation rest))) v) taken in
      let types : t.0 ++ types_of below ≡ types_of (o.front ++ below) = sym (types_of-append o.front below ∙ ap (λ l. l ++ types_of below) o.front_are) in
      let whole = followed_by-typed continuation rest (inner_context (setting.module_syntax) (types_of locals) labels result) t.0 t.1 (types_of below) after t.3 t.5 in
      goes _ reduces (record { store = fits; locals_are = refl; typed = subst (λ l. Typed (inner_context (setting.module_syntax) (types_of locals) labels result) (followed_by continuation rest) l after) types whole })
  sound_open_label store locals below arity continuation inside rest labels result after on t fits unended (goes r is k) None e =
      let reduces = ap (λ v. option_map (inside_label below arity continuation rest) v) is in
      goes _ reduces (record { store = k.store; locals_are = k.locals_are; typed = (t.0, t.1, t.2, t.3, k.typed, t.5) })
  sound_open_label store locals below arity continuation inside rest labels result after on t fits unended (ended end is) None e = absurd (unended end)
  sound_open_label store locals below arity continuation inside rest labels result after on t fits unended (branches zero values carries more is label_is values_are) None e = absurd (cc)
  sound_open_label store locals below arity continuation inside rest labels result after on t fits unended (branches (suc depth) values carries more is label_is values_are) None e =
      let outwards : branching (depth + 1) inside ≡ Some values = subst (λ n. branching n inside ≡ Some values) (sym (add-one depth)) is in
      branches depth values carries more outwards label_is values_are
  sound_open_label store locals below arity continuation inside rest labels result after on t fits unended (returns values carries more is result_is values_are) None e =
      returns values carries more is result_is values_are

  -- a label
  sound_label : (store : Store) (locals below : List Value) (arity : ℕ) (continuation : Body) (inside : Execution) (rest : Body) (labels : List Operands) (result : Option Operands) (after : Operands) (on : Option Reduction) (t : ExecutionTyped (setting.module_syntax) (types_of locals) labels result (label below arity continuation inside rest) after) → StoreTyped (setting.module_syntax) store → Sound (setting.module_syntax) (types_of locals) (t.0 ∷ labels) result inside t.1 on → Sound (setting.module_syntax) (types_of locals) labels result (label below arity continuation inside rest) after (reduce_label store locals below arity continuation inside rest on)
  sound_label store locals below arity continuation (instructions vs done) rest labels result after on t fits s =
      let types : t.1 ++ types_of below ≡ types_of (vs ++ below) = sym (types_of-append vs below ∙ ap (λ l. l ++ types_of below) t.4) in
      goes _ refl (record { store = fits; locals_are = refl; typed = subst (λ l. Typed (inner_context (setting.module_syntax) (types_of locals) labels result) rest l after) types t.5 })
  sound_label store locals below arity continuation (trap name) rest labels result after on t fits s =
      goes _ refl (record { store = fits; locals_are = refl; typed = tt })
  sound_label store locals below arity continuation (instructions vs (plain p r)) rest labels result after on t fits s =
      sound_open_label store locals below arity continuation (instructions vs (plain p r)) rest labels result after on t fits (λ end. cc) s (branching 0 (instructions vs (plain p r))) refl
  sound_label store locals below arity continuation (instructions vs (block bt i r)) rest labels result after on t fits s =
      sound_open_label store locals below arity continuation (instructions vs (block bt i r)) rest labels result after on t fits (λ end. cc) s None refl
  sound_label store locals below arity continuation (instructions vs (loop bt i r)) rest labels result after on t fits s =
      sound_open_label store locals below arity continuation (instructions vs (loop bt i r)) rest labels result after on t fits (λ end. cc) s None refl
  sound_label store locals below arity continuation (instructions vs (if_else bt i j r)) rest labels result after on t fits s =
      sound_open_label store locals below arity continuation (instructions vs (if_else bt i j r)) rest labels result after on t fits (λ end. cc) s None refl
  sound_label store locals below arity continuation (instructions vs (br_table ls d r)) rest labels result after on t fits s =
      sound_open_label store locals below arity continuation (instructions vs (br_table ls d r)) rest labels result after on t fits (λ end. cc) s None refl
  sound_label store locals below arity continuation (label b a c i r) rest labels result after on t fits s =
      sound_open_label store locals below arity continuation (label b a c i r) rest labels result after on t fits (λ end. end) s (branching 0 (label b a c i r)) refl
  sound_label store locals below arity continuation (frame b a ls i r) rest labels result after on t fits s =
      sound_open_label store locals below arity continuation (frame b a ls i r) rest labels result after on t fits (λ end. end) s None refl
  sound_label store locals below arity continuation (invoke b f r) rest labels result after on t fits s =
      sound_open_label store locals below arity continuation (invoke b f r) rest labels result after on t fits (λ end. end) s None refl

  -- a frame, where neither an end nor a trap is inside
  sound_open_frame : (store : Store) (outer below : List Value) (arity : ℕ) (locals : List Value) (inside : Execution) (rest : Body) (labels : List Operands) (result : Option Operands) (after : Operands) (on : Option Reduction) (t : ExecutionTyped (setting.module_syntax) (types_of outer) labels result (frame below arity locals inside rest) after) → StoreTyped (setting.module_syntax) store → (IsEnd inside → ⊥) → Sound (setting.module_syntax) (types_of locals) [] (Some t.0) inside t.0 on → (b : Option (List Value)) → returning inside ≡ b → Sound (setting.module_syntax) (types_of outer) labels result (frame below arity locals inside rest) after (option_map_or (return_from store outer below arity rest) b (option_map (inside_frame outer below arity rest) on))
  sound_open_frame store outer below arity locals inside rest labels result after on t fits unended s (Some values) e =
      let b = return_fits inside values (types_of locals) [] (Some t.0) t.0 t.2 e in
      let carries_are : t.0 ≡ b.carries = cc (b.result_is) in
      let o = on_top t.0 b.more values (b.values_are ∙ ap (λ l. l ++ b.more) (sym carries_are)) in
      let taken = topmost_is arity t.0 b.more values t.1 o in
      let reduces = ap (λ v. option_and_then (λ carried. leads_to 1 store outer (instructions (carried ++ below) rest)) v) taken in
      let types : t.0 ++ types_of below ≡ types_of (o.front ++ below) = sym (types_of-append o.front below ∙ ap (λ l. l ++ types_of below) o.front_are) in
      goes _ reduces (record { store = fits; locals_are = refl; typed = subst (λ l. Typed (inner_context (setting.module_syntax) (types_of outer) labels result) rest l after) types t.3 })
  sound_open_frame store outer below arity locals inside rest labels result after on t fits unended (goes r is k) None e =
      let reduces = ap (λ v. option_map (inside_frame outer below arity rest) v) is in
      let same = subst (λ ls. ExecutionTyped (setting.module_syntax) ls [] (Some t.0) (r.to.execution) t.0) (sym k.locals_are) k.typed in
      goes _ reduces (record { store = k.store; locals_are = refl; typed = (t.0, t.1, same, t.3) })
  sound_open_frame store outer below arity locals inside rest labels result after on t fits unended (ended end is) None e = absurd (unended end)
  sound_open_frame store outer below arity locals inside rest labels result after on t fits unended (branches depth values carries more is label_is values_are) None e = absurd (cc)
  sound_open_frame store outer below arity locals inside rest labels result after on t fits unended (returns values carries more is result_is values_are) None e = absurd (cc)

  -- a frame
  sound_frame : (store : Store) (outer below : List Value) (arity : ℕ) (locals : List Value) (inside : Execution) (rest : Body) (labels : List Operands) (result : Option Operands) (after : Operands) (on : Option Reduction) (t : ExecutionTyped (setting.module_syntax) (types_of outer) labels result (frame below arity locals inside rest) after) → StoreTyped (setting.module_syntax) store → Sound (setting.module_syntax) (types_of locals) [] (Some t.0) inside t.0 on → Sound (setting.module_syntax) (types_of outer) labels result (frame below arity locals inside rest) after (reduce_frame store outer below arity inside rest on)
  sound_frame store outer below arity locals (instructions vs done) rest labels result after on t fits s =
      let types : t.0 ++ types_of below ≡ types_of (vs ++ below) = sym (types_of-append vs below ∙ ap (λ l. l ++ types_of below) t.2) in
      let long : length vs ≡ arity = sym (length-map vs type_of) ∙ ap length t.2 ∙ t.1 in
      let just : (length vs == arity) ≡ true = eq-eqb (length vs) arity long in
      let reduces = ap (λ b. if b then leads_to 0 store outer (instructions (vs ++ below) rest) else None) just in
      goes _ reduces (record { store = fits; locals_are = refl; typed = subst (λ l. Typed (inner_context (setting.module_syntax) (types_of outer) labels result) rest l after) types t.3 })
  sound_frame store outer below arity locals (trap name) rest labels result after on t fits s =
      goes _ refl (record { store = fits; locals_are = refl; typed = tt })
  sound_frame store outer below arity locals (instructions vs (plain p r)) rest labels result after on t fits s =
      sound_open_frame store outer below arity locals (instructions vs (plain p r)) rest labels result after on t fits (λ end. cc) s (returning (instructions vs (plain p r))) refl
  sound_frame store outer below arity locals (instructions vs (block bt i r)) rest labels result after on t fits s =
      sound_open_frame store outer below arity locals (instructions vs (block bt i r)) rest labels result after on t fits (λ end. cc) s None refl
  sound_frame store outer below arity locals (instructions vs (loop bt i r)) rest labels result after on t fits s =
      sound_open_frame store outer below arity locals (instructions vs (loop bt i r)) rest labels result after on t fits (λ end. cc) s None refl
  sound_frame store outer below arity locals (instructions vs (if_else bt i j r)) rest labels result after on t fits s =
      sound_open_frame store outer below arity locals (instructions vs (if_else bt i j r)) rest labels result after on t fits (λ end. cc) s None refl
  sound_frame store outer below arity locals (instructions vs (br_table ls d r)) rest labels result after on t fits s =
      sound_open_frame store outer below arity locals (instructions vs (br_table ls d r)) rest labels result after on t fits (λ end. cc) s None refl
  sound_frame store outer below arity locals (label b a c i r) rest labels result after on t fits s =
      sound_open_frame store outer below arity locals (label b a c i r) rest labels result after on t fits (λ end. end) s (returning (label b a c i r)) refl
  sound_frame store outer below arity locals (frame b a ls i r) rest labels result after on t fits s =
      sound_open_frame store outer below arity locals (frame b a ls i r) rest labels result after on t fits (λ end. end) s None refl
  sound_frame store outer below arity locals (invoke b f r) rest labels result after on t fits s =
      sound_open_frame store outer below arity locals (invoke b f r) rest labels result after on t fits (λ end. end) s None refl

  -- the call of a function of the module
  sound_enter : (f : FunctionSyntax) (type : Signature) (store : Store) (locals values : List Value) (rest : Body) (labels : List Operands) (result : Option Operands) (after below : Operands) → StoreTyped (setting.module_syntax) store → Typed (body_context (setting.module_syntax) type f.locals) f.body [] (at_most_one type.result) → types_of values ≡ reverse type.parameters ++ below → Typed (inner_context (setting.module_syntax) (types_of locals) labels result) rest (at_most_one type.result ++ below) after → (e : Execution) → Sound (setting.module_syntax) (types_of locals) labels result e after (enter store locals values f type rest)
  sound_enter f type store locals values rest labels result after below fits body are others e =
      let m = setting.module_syntax in
      let leaves = at_most_one type.result in
      let long = length-reverse type.parameters in
      let o = on_top (reverse type.parameters) below values are in
      let n = length type.parameters in
      let taken = topmost_is n (reverse type.parameters) below values long o in
      let dropped = drop_is n (reverse type.parameters) below values long o in
      let inner = reverse o.front ++ map (λ t. value_of t 0) f.locals in
      let body_of_it = label [] (length leaves) done (instructions [] f.body) done in
      let reduces = ap (λ v. option_and_then (λ arguments. leads_to 0 store locals (frame (drop n values) (length leaves) (reverse arguments ++ map (λ t. value_of t 0) f.locals) (label [] (length leaves) done (instructions [] f.body) done) rest)) v) taken in
      let front : types_of (reverse o.front) ≡ type.parameters = types_of-reverse o.front ∙ ap reverse o.front_are ∙ reverse-reverse type.parameters in
      let inner_are : types_of inner ≡ type.parameters ++ f.locals =
      types_of-append (reverse o.front) (map (λ t. value_of t 0) f.locals) ∙ ap (λ l. l ++ types_of (map (λ t. value_of t 0) f.locals)) front ∙ ap (λ l. type.parameters ++ l) (types_of-zeros f.locals) in
      let nothing_below : leaves ++ [] ≡ leaves = append-nil leaves in
      let inside : ExecutionTyped m (type.parameters ++ f.locals) [] (Some leaves) body_of_it leaves = (leaves, leaves, refl, refl, body, nothing_below) in
      let below_are : types_of (drop n values) ≡ below = ap types_of dropped ∙ o.back_are in
      let others_here = subst (λ l. Typed (inner_context m (types_of locals) labels result) rest (leaves ++ l) after) (sym below_are) others in
      goes _ reduces (record { store = fits; locals_are = refl; typed = (leaves, refl, subst (λ ls. ExecutionTyped m ls [] (Some leaves) body_of_it leaves) (sym inner_are) inside, others_here) })

  -- a function of the module that is called
  sound_found : (store : Store) (locals values : List Value) (function : ℕ) (rest : Body) (labels : List Operands) (result : Option Operands) (after below : Operands) (type : Signature) (fits : StoreTyped (setting.module_syntax) store) (f : OwnFunction (setting.module_syntax) function type) → types_of values ≡ reverse type.parameters ++ below → Typed (inner_context (setting.module_syntax) (types_of locals) labels result) rest (at_most_one type.result ++ below) after → (e : Execution) → Sound (setting.module_syntax) (types_of locals) labels result e after (option_and_then (λ g. option_and_then (λ t. enter store locals values g t rest) (slice_get (setting.module_syntax.types) (g.signature))) (slice_get (setting.module_syntax.functions) (function - imported_count (setting.module_syntax))))
  sound_found store locals values function rest labels result after below type fits f are others e =
      let m = setting.module_syntax in
      let by_type = λ (o : Option Signature). option_and_then (λ t. enter store locals values f.syntax_of t rest) o in
      let by_function = λ (o : Option FunctionSyntax). option_and_then (λ g. option_and_then (λ t. enter store locals values g t rest) (slice_get m.types g.signature)) o in
      let reduces = ap by_function f.is ∙ ap by_type f.type_is in
      subst (λ on. Sound m (types_of locals) labels result e after on) (sym reduces) (sound_enter f.syntax_of type store locals values rest labels result after below fits f.body are others e)

  -- where there is room for a frame, or not
  sound_room : (store : Store) (locals : List Value) (labels : List Operands) (result : Option Operands) (after : Operands) (e : Execution) (on : Option Reduction) → StoreTyped (setting.module_syntax) store → Sound (setting.module_syntax) (types_of locals) labels result e after on → (room : Bool) → Sound (setting.module_syntax) (types_of locals) labels result e after (if room then on else leads_to 0 store locals (trap CallDepth))
  sound_room store locals labels result after e on fits s true = s
  sound_room store locals labels result after e on fits s false = to_trap (setting.module_syntax) (types_of locals) labels result after e 0 store locals CallDepth fits refl

  -- a call of what the index names
  sound_called : (frames : ℕ) (store : Store) (locals values : List Value) (function : ℕ) (rest : Body) (labels : List Operands) (result : Option Operands) (after below : Operands) (type : Signature) → StoreTyped (setting.module_syntax) store → types_of values ≡ reverse type.parameters ++ below → Typed (inner_context (setting.module_syntax) (types_of locals) labels result) rest (at_most_one type.result ++ below) after → Callable (setting.module_syntax) function type → Sound (setting.module_syntax) (types_of locals) labels result (invoke values function rest) after (reduce_invoke setting frames store locals values function rest)
  sound_called frames store locals values function rest labels result after below type fits are others (own f) =
      let m = setting.module_syntax in
      let e = invoke values function rest in
      let by_index = option_and_then (λ (g : FunctionSyntax). option_and_then (λ t. enter store locals values g t rest) (slice_get m.types g.signature)) (slice_get m.functions (function - imported_count m)) in
      let by_room = if nat_lt frames most_frames then by_index else leads_to 0 store locals (trap CallDepth) in
      let mine : nat_lt function (imported_count m) ≡ false = le-ltb function (imported_count m) f.past in
      let reduces : reduce_invoke setting frames store locals values function rest ≡ by_room = ap (λ b. if b then reduce_import setting store locals values function rest else by_room) mine in
      subst (λ on. Sound m (types_of locals) labels result e after on) (sym reduces)
      (sound_room store locals labels result after e by_index fits (sound_found store locals values function rest labels result after below type fits f are others e) (nat_lt frames most_frames))
  sound_called frames store locals values function rest labels result after below type fits are others (host f) =
      let m = setting.module_syntax in
      let e = invoke values function rest in
      let by_index = option_and_then (λ (g : FunctionSyntax). option_and_then (λ t. enter store locals values g t rest) (slice_get m.types g.signature)) (slice_get m.functions (function - imported_count m)) in
      let by_room = if nat_lt frames most_frames then by_index else leads_to 0 store locals (trap CallDepth) in
      let imported : nat_lt function (imported_count m) ≡ true = lt-ltb function (imported_count m) f.before in
      let reduces : reduce_invoke setting frames store locals values function rest ≡ reduce_import setting store locals values function rest = ap (λ b. if b then reduce_import setting store locals values function rest else by_room) imported in
      let takes = are ∙ ap (λ (t : Signature). reverse t.parameters ++ below) f.type_is in
      let next = subst (λ (t : Signature). Typed (inner_context m (types_of locals) labels result) rest (at_most_one t.result ++ below) after) f.type_is others in
      subst (λ on. Sound m (types_of locals) labels result e after on) (sym reduces)
      (sound_import setting store locals labels result after e rest fits values function f.name f.import below f.name_is f.import_is takes next)

  -- whatever is typed and under way
  pub sound : FunctionsRight (setting.module_syntax) → (e : Execution) (frames : ℕ) (store : Store) (locals : List Value) (labels : List Operands) (result : Option Operands) (after : Operands) → StoreTyped (setting.module_syntax) store → ExecutionTyped (setting.module_syntax) (types_of locals) labels result e after → Sound (setting.module_syntax) (types_of locals) labels result e after (reduce setting frames store locals e)
  sound right (instructions values rest) frames store locals labels result after fits t =
      sound_instructions setting right store locals values labels result after fits rest t
  sound right (label below arity continuation inside rest) frames store locals labels result after fits t =
      sound_label store locals below arity continuation inside rest labels result after _ t fits (sound right inside frames store locals (t.0 ∷ labels) result t.1 fits t.4)
  sound right (frame below arity locals inside rest) frames store outer labels result after fits t =
      sound_frame store outer below arity locals inside rest labels result after _ t fits (sound right inside (frames + 1) store locals [] (Some t.0) t.0 fits t.2)
  sound right (invoke values function rest) frames store locals labels result after fits t =
      sound_called frames store locals values function rest labels result after t.1 t.0 fits t.3 t.4 (right.callable function t.0 t.2)
  sound right (trap name) frames store locals labels result after fits t = ended tt refl
