-- Whatever is under way stays in range, and so does what a call leaves.
use Rattle.std.proofs.Common.{◌≡◌, ℕ, suc, zero, ◌+◌, ◌-◌, List, [], ◌∷◌, ◌++◌, Bool, true, false, Option, Some, None, length, reverse, map, take, drop, ◌^◌, refl, sym, subst, lit<}
use Rattle.std.specs.Prelude.{option_map, option_and_then, slice_get, unwrap_or, nat_lt, nat_le, ◌==◌, if◌then◌else◌}
use Rattle.std.specs.Option.{option_map_or}
use Rattle.std.proofs.lemmas.Bool.{ltb-true}
use Rattle.wcode.specs.declared.value.ValueType.{ValueType}
use Rattle.wcode.specs.declared.value.ValueType.TheVariants as types
use Rattle.wcode.specs.declared.value.Value.{Value}
use Rattle.wcode.specs.declared.value.Value.TheVariants as value
use Rattle.wcode.specs.declared.instruction.Plain.{Plain}
use Rattle.wcode.specs.declared.instruction.Plain.TheVariants.{Br, Return, Const}
use Rattle.wcode.specs.Syntax.{Body, done, plain, block, loop, if_else, br_table}
use Rattle.wmodule.specs.Syntax.{Signature, FunctionSyntax, ModuleSyntax}
use Rattle.wbody.specs.Context.{Operands, Context, at_most_one, results_of, with_label}
use Rattle.wbody.specs.Typing.{PlainType, is_in_range, only_where, TypeAllows, PlainTyped, Typed}
use Rattle.wtype.specs.Accepted.{Accepted, FunctionTyped}
use Rattle.rules.specs.declared.trap.Trap.TheVariants.{CallDepth}
use Rattle.wmach.specs.Configuration.{Store, Setting, Execution, instructions, label, frame, invoke, trap, Configuration, Reduction, leads_to}
use Rattle.wmach.specs.Operands.{InRange, topmost}
use Rattle.wmach.specs.Host.{reduce_import}
use Rattle.wmach.specs.Reduction.{followed_by, reduce, reduce_instructions, reduce_label, reduce_frame, branching, returning, inside_label, inside_frame, branch, return_from, zero_of, enter, imported_count, most_frames, reduce_invoke}
use Rattle.wmach.specs.Fits.{MemoryFits}
use Rattle.wmach.specs.Outcome.{Chain, IsEnd}
use Rattle.wmach.specs.Call.{RecordsFit}
use Rattle.wmach.proofs.Values.{all_at}
use Rattle.wmach.proofs.AllOf.{all-append, all-take, all-drop, all-reverse}
use Rattle.wmach.proofs.Soundness.{tested, sound}
use Rattle.wmach.proofs.Going.{open_label, open_frame}
use Rattle.wmach.proofs.AcceptedFunctions.{functions_right}
use Rattle.wmach.proofs.Chains.{CallTyped, kept}
use Rattle.wmach.proofs.RangesKept.{AllInRange, PlainInRange, BodyInRange, ExecutionInRange, StoreInRange, InRangeThere, Kept, kept_if, kept_and_then, kept_one, either_body, there, kept_import, kept_plain}

-- ---- typed code has constants in range

pub const_in_range : (v : Value) → is_in_range v ≡ true → InRange v
const_in_range (value.I32 n) e = ltb-true n (2 ^ 32) e
const_in_range (value.I64 n) e = ltb-true n (2 ^ 64) e

pub only_true : (b : Bool) (type : PlainType) (takes gives : Operands) → TypeAllows (only_where b type) takes gives → b ≡ true
only_true true type takes gives t = refl
only_true false type takes gives t = absurd t

plain_in_range : (c : Context) (p : Plain) (takes gives : Operands) → PlainTyped c p takes gives → PlainInRange p
plain_in_range c (Const v) takes gives t = const_in_range v (only_true (is_in_range v) _ takes gives t)
plain_in_range c _ takes gives t = tt

typed_in_range : (e : Body) (c : Context) (before after : Operands) → Typed c e before after → BodyInRange e
typed_in_range done c before after t = tt
typed_in_range (plain p rest) c before after t = (plain_in_range c p t.first.takes t.first.gives t.first.rule, typed_in_range rest c t.between after t.others)
typed_in_range (block bt inside rest) c before after t =
    (typed_in_range inside (with_label (results_of bt) c) [] (results_of bt) (t.first.rule.2), typed_in_range rest c t.between after t.others)
typed_in_range (loop bt inside rest) c before after t =
    (typed_in_range inside (with_label [] c) [] (results_of bt) (t.first.rule.2), typed_in_range rest c t.between after t.others)
typed_in_range (if_else bt then_arm else_arm rest) c before after t =
    (typed_in_range then_arm (with_label (results_of bt) c) [] (results_of bt) (t.first.rule.2), typed_in_range else_arm (with_label (results_of bt) c) [] (results_of bt) (t.first.rule.3), typed_in_range rest c t.between after t.others)
typed_in_range (br_table labels default rest) c before after t = typed_in_range rest c t.between after t.others

-- the bodies of a module
abbrev pub BodiesInRange : ModuleSyntax → Type 0
BodiesInRange m = (place : ℕ) (f : FunctionSyntax) → slice_get m.functions place ≡ Some f → BodyInRange f.body

pub bodies_in_range : (m : ModuleSyntax) → Accepted m → BodiesInRange m
bodies_in_range m ok place f is =
    let typed = all_at (FunctionTyped m) m.functions place f ok.typed.functions is in
    typed_in_range f.body _ [] (at_most_one typed.type.result) typed.body

-- ---- what is under way

-- the values before a branch, and before a return
branch_in_range : (e : Execution) (depth : ℕ) (values : List Value) → ExecutionInRange e → branching depth e ≡ Some values → AllInRange values
branch_in_range (instructions vs done) depth values is e = absurd (cc)
branch_in_range (instructions vs (plain (Br l) r)) depth values is e = let test = tested (l == depth) vs values e in subst AllInRange test.same is.0
branch_in_range (instructions vs (plain _ r)) depth values is e = absurd (cc)
branch_in_range (instructions vs (block t i r)) depth values is e = absurd (cc)
branch_in_range (instructions vs (loop t i r)) depth values is e = absurd (cc)
branch_in_range (instructions vs (if_else t i j r)) depth values is e = absurd (cc)
branch_in_range (instructions vs (br_table ls d r)) depth values is e = absurd (cc)
branch_in_range (label below arity continuation inside rest) depth values is e = branch_in_range inside (depth + 1) values (is.2) e
branch_in_range (frame below arity locals inside rest) depth values is e = absurd (cc)
branch_in_range (invoke below function rest) depth values is e = absurd (cc)
branch_in_range (trap t) depth values is e = absurd (cc)

return_in_range : (e : Execution) (values : List Value) → ExecutionInRange e → returning e ≡ Some values → AllInRange values
return_in_range (instructions vs done) values is e = absurd (cc)
return_in_range (instructions vs (plain Return r)) values is e = let same : vs ≡ values = cc in subst AllInRange same is.0
return_in_range (instructions vs (plain _ r)) values is e = absurd (cc)
return_in_range (instructions vs (block t i r)) values is e = absurd (cc)
return_in_range (instructions vs (loop t i r)) values is e = absurd (cc)
return_in_range (instructions vs (if_else t i j r)) values is e = absurd (cc)
return_in_range (instructions vs (br_table ls d r)) values is e = absurd (cc)
return_in_range (label below arity continuation inside rest) values is e = return_in_range inside values (is.2) e
return_in_range (frame below arity locals inside rest) values is e = absurd (cc)
return_in_range (invoke below function rest) values is e = absurd (cc)
return_in_range (trap t) values is e = absurd (cc)

followed_in_range : (first second : Body) → BodyInRange first → BodyInRange second → BodyInRange (followed_by first second)
followed_in_range done second f g = g
followed_in_range (plain p rest) second f g = (f.0, followed_in_range rest second f.1 g)
followed_in_range (block t inside rest) second f g = (f.0, followed_in_range rest second f.1 g)
followed_in_range (loop t inside rest) second f g = (f.0, followed_in_range rest second f.1 g)
followed_in_range (if_else t then_arm else_arm rest) second f g = (f.0, f.1, followed_in_range rest second f.2 g)
followed_in_range (br_table labels default rest) second f g = followed_in_range rest second f g

module _ (elements : List (Option ℕ)) where
  -- where the topmost values are taken
  kept_topmost : (n : ℕ) (values : List Value) (go : List Value → Option Reduction) → AllInRange values → ((vs : List Value) → AllInRange vs → Kept elements (go vs)) → Kept elements (option_and_then go (topmost n values))
  kept_topmost n values go are k =
      kept_and_then elements (topmost n values) go (λ vs e. k vs (let test = tested (nat_le n (length values)) (take n values) vs e in subst AllInRange test.same (all-take InRange n values are)))

  zeros_in_range : (ts : List ValueType) → AllInRange (map zero_of ts)
  zeros_in_range [] = tt
  zeros_in_range (types.I32 ∷ ts) = (lit< tt, zeros_in_range ts)
  zeros_in_range (types.I64 ∷ ts) = (lit< tt, zeros_in_range ts)

  module _ (store : Store) (store_is : StoreInRange elements store) (locals : List Value) (locals_are : AllInRange locals) (below : List Value) (below_are : AllInRange below) (arity : ℕ) (rest : Body) (rest_is : BodyInRange rest) where
    -- inside a label
    module _ (continuation : Body) (continuation_is : BodyInRange continuation) where
      in_label : (on : Option Reduction) → Kept elements on → Kept elements (option_map (inside_label below arity continuation rest) on)
      in_label None k = tt
      in_label (Some r) k = record { store = k.store; locals = k.locals; execution = (below_are, continuation_is, k.execution, rest_is) }

      open_kept : (e : Execution) (on : Option Reduction) → ExecutionInRange e → Kept elements on → (b : Option (List Value)) → branching 0 e ≡ b → Kept elements (option_map_or (branch store locals below arity continuation rest) b (option_map (inside_label below arity continuation rest) on))
      open_kept e on e_is k None is = in_label on k
      open_kept e on e_is k (Some values) is =
          kept_topmost arity values (λ carried. leads_to 1 store locals (instructions (carried ++ below) (followed_by continuation rest))) (branch_in_range e 0 values e_is is)
          (λ vs vs_are. there elements 1 store locals (instructions (vs ++ below) (followed_by continuation rest)) store_is locals_are (all-append InRange vs below vs_are below_are, followed_in_range continuation rest continuation_is rest_is))

      opened : (e : Execution) (on : Option Reduction) → (IsEnd e → ⊥) → ExecutionInRange e → Kept elements on → Kept elements (reduce_label store locals below arity continuation e rest on)
      opened e on unended e_is k = subst (Kept elements) (sym (open_label e store locals below arity continuation rest on unended)) (open_kept e on e_is k (branching 0 e) refl)

      kept_label : (e : Execution) (on : Option Reduction) → ExecutionInRange e → Kept elements on → Kept elements (reduce_label store locals below arity continuation e rest on)
      kept_label (instructions vs done) on e_is k = there elements 0 store locals (instructions (vs ++ below) rest) store_is locals_are (all-append InRange vs below e_is.0 below_are, rest_is)
      kept_label (trap t) on e_is k = there elements 0 store locals (trap t) store_is locals_are tt
      kept_label (instructions vs (plain p r)) on e_is k = opened (instructions vs (plain p r)) on (λ end. cc) e_is k
      kept_label (instructions vs (block t i r)) on e_is k = opened (instructions vs (block t i r)) on (λ end. cc) e_is k
      kept_label (instructions vs (loop t i r)) on e_is k = opened (instructions vs (loop t i r)) on (λ end. cc) e_is k
      kept_label (instructions vs (if_else t i j r)) on e_is k = opened (instructions vs (if_else t i j r)) on (λ end. cc) e_is k
      kept_label (instructions vs (br_table ls d r)) on e_is k = opened (instructions vs (br_table ls d r)) on (λ end. cc) e_is k
      kept_label (label b a c i r) on e_is k = opened (label b a c i r) on (λ end. end) e_is k
      kept_label (frame b a ls i r) on e_is k = opened (frame b a ls i r) on (λ end. end) e_is k
      kept_label (invoke b f r) on e_is k = opened (invoke b f r) on (λ end. end) e_is k

    -- inside a frame, whose own locals are the reduction's
    in_frame : (on : Option Reduction) → Kept elements on → Kept elements (option_map (inside_frame locals below arity rest) on)
    in_frame None k = tt
    in_frame (Some r) k = record { store = k.store; locals = locals_are; execution = (below_are, k.locals, k.execution, rest_is) }

    open_frame_kept : (e : Execution) (on : Option Reduction) → ExecutionInRange e → Kept elements on → (b : Option (List Value)) → returning e ≡ b → Kept elements (option_map_or (return_from store locals below arity rest) b (option_map (inside_frame locals below arity rest) on))
    open_frame_kept e on e_is k None is = in_frame on k
    open_frame_kept e on e_is k (Some values) is =
        kept_topmost arity values (λ carried. leads_to 1 store locals (instructions (carried ++ below) rest)) (return_in_range e values e_is is)
        (λ vs vs_are. there elements 1 store locals (instructions (vs ++ below) rest) store_is locals_are (all-append InRange vs below vs_are below_are, rest_is))

    opened_frame : (e : Execution) (on : Option Reduction) → (IsEnd e → ⊥) → ExecutionInRange e → Kept elements on → Kept elements (reduce_frame store locals below arity e rest on)
    opened_frame e on unended e_is k = subst (Kept elements) (sym (open_frame e store locals below arity rest on unended)) (open_frame_kept e on e_is k (returning e) refl)

    kept_frame : (e : Execution) (on : Option Reduction) → ExecutionInRange e → Kept elements on → Kept elements (reduce_frame store locals below arity e rest on)
    kept_frame (instructions vs done) on e_is k =
        kept_if elements (length vs == arity) _ None (λ yes. there elements 0 store locals (instructions (vs ++ below) rest) store_is locals_are (all-append InRange vs below e_is.0 below_are, rest_is)) tt
    kept_frame (trap t) on e_is k = there elements 0 store locals (trap t) store_is locals_are tt
    kept_frame (instructions vs (plain p r)) on e_is k = opened_frame (instructions vs (plain p r)) on (λ end. cc) e_is k
    kept_frame (instructions vs (block t i r)) on e_is k = opened_frame (instructions vs (block t i r)) on (λ end. cc) e_is k
    kept_frame (instructions vs (loop t i r)) on e_is k = opened_frame (instructions vs (loop t i r)) on (λ end. cc) e_is k
    kept_frame (instructions vs (if_else t i j r)) on e_is k = opened_frame (instructions vs (if_else t i j r)) on (λ end. cc) e_is k
    kept_frame (instructions vs (br_table ls d r)) on e_is k = opened_frame (instructions vs (br_table ls d r)) on (λ end. cc) e_is k
    kept_frame (label b a c i r) on e_is k = opened_frame (label b a c i r) on (λ end. end) e_is k
    kept_frame (frame b a ls i r) on e_is k = opened_frame (frame b a ls i r) on (λ end. end) e_is k
    kept_frame (invoke b f r) on e_is k = opened_frame (invoke b f r) on (λ end. end) e_is k

  module _ (setting : Setting) (records : RecordsFit setting.records) (bodies : BodiesInRange (setting.module_syntax)) where
    kept_instructions : (store : Store) → MemoryFits (setting.module_syntax.memories) store.memory → StoreInRange elements store → (locals : List Value) → AllInRange locals → (values : List Value) (e : Body) → AllInRange values → BodyInRange e → Kept elements (reduce_instructions setting store locals values e)
    kept_instructions store memory store_is locals locals_are values done are e_is = tt
    kept_instructions store memory store_is locals locals_are values (plain p rest) are e_is =
        kept_plain elements setting records store memory store_is locals locals_are rest e_is.1 p values e_is.0 are
    kept_instructions store memory store_is locals locals_are values (block t inside rest) are e_is =
        there elements 1 store locals (label values (length (results_of t)) done (instructions [] inside) rest) store_is locals_are (are, tt, (tt, e_is.0), e_is.1)
    kept_instructions store memory store_is locals locals_are values (loop t inside rest) are e_is =
        there elements 1 store locals (label values 0 (loop t inside done) (instructions [] inside) rest) store_is locals_are (are, (e_is.0, tt), (tt, e_is.0), e_is.1)
    kept_instructions store memory store_is locals locals_are values (if_else t then_arm else_arm rest) are e_is =
        kept_one elements types.I32 values (λ condition below. leads_to 1 store locals (label below (length (results_of t)) done (instructions [] (if condition == 0 then else_arm else then_arm)) rest)) are
        (λ condition below condition_is below_are. there elements 1 store locals (label below (length (results_of t)) done (instructions [] (if condition == 0 then else_arm else then_arm)) rest) store_is locals_are
        (below_are, tt, (tt, either_body (condition == 0) else_arm then_arm e_is.1 e_is.0), e_is.2))
    kept_instructions store memory store_is locals locals_are values (br_table labels default rest) are e_is =
        kept_one elements types.I32 values (λ i below. leads_to 1 store locals (instructions below (plain (Br (unwrap_or (slice_get labels i) default)) rest))) are
        (λ i below i_is below_are. there elements 1 store locals (instructions below (plain (Br (unwrap_or (slice_get labels i) default)) rest)) store_is locals_are (below_are, (tt, e_is)))

    kept_enter : (store : Store) → StoreInRange elements store → (locals : List Value) → AllInRange locals → (values : List Value) → AllInRange values → (rest : Body) → BodyInRange rest → (f : FunctionSyntax) → BodyInRange f.body → (type : Signature) → Kept elements (enter store locals values f type rest)
    kept_enter store store_is locals locals_are values are rest rest_is f body_is type =
        let arity = length (at_most_one type.result) in
        let n = length type.parameters in
        kept_topmost n values (λ arguments. leads_to 0 store locals (frame (drop n values) arity (reverse arguments ++ map zero_of f.locals) (label [] arity done (instructions [] f.body) done) rest)) are
        (λ arguments arguments_are. there elements 0 store locals (frame (drop n values) arity (reverse arguments ++ map zero_of f.locals) (label [] arity done (instructions [] f.body) done) rest) store_is locals_are
        (all-drop InRange n values are, all-append InRange (reverse arguments) (map zero_of f.locals) (all-reverse InRange arguments arguments_are) (zeros_in_range f.locals), (tt, tt, (tt, body_is), tt), rest_is))

    kept_invoke : (frames : ℕ) (store : Store) → MemoryFits (setting.module_syntax.memories) store.memory → StoreInRange elements store → (locals : List Value) → AllInRange locals → (values : List Value) → AllInRange values → (function : ℕ) (rest : Body) → BodyInRange rest → Kept elements (reduce_invoke setting frames store locals values function rest)
    kept_invoke frames store memory store_is locals locals_are values are function rest rest_is =
        let m = setting.module_syntax in
        let by_index = option_and_then (λ (g : FunctionSyntax). option_and_then (λ t. enter store locals values g t rest) (slice_get m.types g.signature)) (slice_get m.functions (function - imported_count m)) in
        let found : Kept elements by_index = kept_and_then elements (slice_get m.functions (function - imported_count m)) (λ (g : FunctionSyntax). option_and_then (λ t. enter store locals values g t rest) (slice_get m.types g.signature))
        (λ g e. kept_and_then elements (slice_get m.types g.signature) (λ t. enter store locals values g t rest) (λ t f. kept_enter store store_is locals locals_are values are rest rest_is g (bodies (function - imported_count m) g e) t)) in
        kept_if elements (nat_lt function (imported_count m)) (reduce_import setting store locals values function rest) _
        (λ yes. kept_import elements setting records store memory store_is locals locals_are rest rest_is values function are)
        (kept_if elements (nat_lt frames most_frames) by_index (leads_to 0 store locals (trap CallDepth)) (λ yes. found) (there elements 0 store locals (trap CallDepth) store_is locals_are tt))

    -- one reduction
    pub kept_in_range : (e : Execution) (frames : ℕ) (store : Store) → MemoryFits (setting.module_syntax.memories) store.memory → StoreInRange elements store → (locals : List Value) → AllInRange locals → ExecutionInRange e → Kept elements (reduce setting frames store locals e)
    kept_in_range (instructions values rest) frames store memory store_is locals locals_are e_is =
        kept_instructions store memory store_is locals locals_are values rest e_is.0 e_is.1
    kept_in_range (label below arity continuation inside rest) frames store memory store_is locals locals_are e_is =
        kept_label store store_is locals locals_are below (e_is.0) arity rest (e_is.3) continuation (e_is.1) inside _ (e_is.2) (kept_in_range inside frames store memory store_is locals locals_are (e_is.2))
    kept_in_range (frame below arity locals inside rest) frames store memory store_is outer outer_are e_is =
        kept_frame store store_is outer outer_are below (e_is.0) arity rest (e_is.3) inside _ (e_is.2) (kept_in_range inside (frames + 1) store memory store_is locals (e_is.1) (e_is.2))
    kept_in_range (invoke values function rest) frames store memory store_is locals locals_are e_is =
        kept_invoke frames store memory store_is locals locals_are values e_is.0 function rest e_is.1
    kept_in_range (trap t) frames store memory store_is locals locals_are e_is = tt

  -- a configuration in range
  pub record CallInRange (c : Configuration) : Type 0 where
    pub store : StoreInRange elements c.store
    pub locals : AllInRange c.locals
    pub execution : ExecutionInRange c.execution

  -- a chain of reductions
  pub ranges_by_chain : (setting : Setting) → Accepted (setting.module_syntax) → RecordsFit setting.records → (after : Operands) (n cost : ℕ) (from to : Configuration) → CallTyped setting after from → CallInRange from → Chain setting n from cost to → CallInRange to
  ranges_by_chain setting ok records after zero cost from to t k ch = subst CallInRange ch.0 k
  ranges_by_chain setting ok records after (suc n) cost from to t k ch =
      let m = setting.module_syntax in
      let s = sound setting (functions_right m ok) from.execution 0 from.store from.locals [] None after t.store t.typed in
      let on = kept_in_range setting records (bodies_in_range m ok) from.execution 0 from.store t.store.memory k.store from.locals k.locals k.execution in
      let reached : InRangeThere elements ch.0 = subst (λ (o : Option Reduction). Kept elements o) ch.1 on in
      let there_is : CallInRange (ch.0.to) = record { store = reached.store; locals = reached.locals; execution = reached.execution } in
      ranges_by_chain setting ok records after n (ch.2.0) (ch.0.to) to (kept setting after from ch.0 s ch.1) there_is ch.2.2
