-- Numbers that are in range stay so: a reduction leads to values, locals, bytes and constants that
-- are in range.
use Rattle.std.proofs.Common.{◌≡◌, ℕ, ◌+◌, ◌*◌, ◌/◌, ◌%◌, ◌^◌, ◌<◌, List, [], ◌∷◌, ◌++◌, Bool, true, false, Option, Some, None, length, refl, ap, ◌∙◌, subst, arith, lit<, mod-lt}
use Rattle.std.specs.Prelude.{Result, Ok, Err, IfSome, slice_get, slice_set, option_and_then, nat_lt, nat_le, ◌==◌, if◌then◌else◌}
use Rattle.std.specs.List.{AllByRecursion}
use Rattle.std.proofs.Math.Nat.{mul-div_cancel}
use Rattle.wnum.specs.declared.trap.Trap.{Trap as Undefined}
use Rattle.wcode.specs.declared.value.ValueType.{ValueType}
use Rattle.wcode.specs.declared.value.ValueType.TheVariants as types
use Rattle.wcode.specs.declared.value.Value.{Value}
use Rattle.wcode.specs.declared.value.Value.TheVariants as value
use Rattle.wcode.specs.declared.instruction.Plain.{Plain}
use Rattle.wcode.specs.declared.instruction.Plain.TheVariants as instruction
use Rattle.wcode.specs.declared.operator.LoadOp.{LoadOp}
use Rattle.wcode.specs.declared.operator.StoreOp.{StoreOp}
use Rattle.wcode.specs.declared.instruction.MemArg.{MemArg}
use Rattle.wcode.specs.Operators.{load_type, store_type}
use Rattle.wcode.specs.Syntax.{Body, done, plain, block, loop, if_else, br_table}
use Rattle.wmem.specs.Access.{byte_count, with_bytes, reading_of, value_read}
use Rattle.wmem.specs.Memory.{page_size, pages_in, zeros}
use Rattle.wmodule.specs.declared.module.Limits.{Limits}
use Rattle.wmodule.specs.Syntax.{Signature, ModuleSyntax}
use Rattle.wtype.specs.Accepted.{host_number}
use Rattle.rules.specs.declared.trap.Trap.{Trap}
use Rattle.rules.specs.declared.trap.Trap.TheVariants.{MemoryOutOfBounds}
use Rattle.wmach.specs.Configuration.{Store, Setting, Execution, instructions, label, frame, invoke, trap, Reduction, leads_to}
use Rattle.wmach.specs.Operands.{InRange, number_of, value_of, width_of, with_any, with_one, with_two}
use Rattle.wmach.specs.Numeric.{converted_from, converted_to, conversion_gives, after_binary, unary_gives, binary_gives, test_gives, relation_gives}
use Rattle.wmach.specs.Access.{load_of, with_memory, stored_bytes, stored_width, cap_of, minus_one}
use Rattle.wmach.specs.Indirect.{same_signature, type_of_function, call_element}
use Rattle.wmach.specs.Host.{cost_of_bytes, has_room, hand_over, hand_over_given, imported_names, reduce_host, reduce_import}
use Rattle.wmach.specs.Plain.{reduce_plain}
use Rattle.wmach.specs.Fits.{MemoryFits}
use Rattle.wmach.specs.Call.{RecordsFit}
use Rattle.wmach.proofs.Values.{all_at}
use Rattle.wmach.proofs.AllOf.{all-set}
use Rattle.wmach.proofs.InRange.{AllBytes, value_in_range, unary_in_range, binary_in_range, test_in_range, relation_in_range, conversion_in_range, bytes_of_number, bytes_with, bytes_grown, loaded_in_range}

abbrev pub AllInRange : List Value → Type 0
AllInRange values = AllByRecursion InRange values

-- the constants of code are in range
abbrev pub PlainInRange : Plain → Type 0
PlainInRange (instruction.Const v) = InRange v
PlainInRange _ = Unit {0}

abbrev pub BodyInRange : Body → Type 0
BodyInRange done = Unit {0}
BodyInRange (plain p rest) = PlainInRange p × BodyInRange rest
BodyInRange (block t inside rest) = BodyInRange inside × BodyInRange rest
BodyInRange (loop t inside rest) = BodyInRange inside × BodyInRange rest
BodyInRange (if_else t then_arm else_arm rest) = BodyInRange then_arm × BodyInRange else_arm × BodyInRange rest
BodyInRange (br_table labels default rest) = BodyInRange rest

-- all values and constants of what is under way
abbrev pub ExecutionInRange : Execution → Type 0
ExecutionInRange (instructions values rest) = AllInRange values × BodyInRange rest
ExecutionInRange (label below arity continuation inside rest) = AllInRange below × BodyInRange continuation × ExecutionInRange inside × BodyInRange rest
ExecutionInRange (frame below arity locals inside rest) = AllInRange below × AllInRange locals × ExecutionInRange inside × BodyInRange rest
ExecutionInRange (invoke values function rest) = AllInRange values × BodyInRange rest
ExecutionInRange (trap t) = Unit {0}

-- a memory that fits has no more than the most pages
pub pages_small : (ls : List Limits) (bytes : List ℕ) → MemoryFits ls bytes → pages_in bytes < 2 ^ 32
pages_small [] bytes fits = let none : pages_in bytes ≡ 0 = ap pages_in fits in omega (arith, none)
pages_small (l ∷ ls) bytes fits =
    let pages : pages_in bytes ≡ fits.0 = ap (λ n. n / page_size) fits.1 ∙ mul-div_cancel (fits.0) (omega arith) in
    omega (arith, pages, fits.2)

either_value : (b : Bool) (v w : Value) → InRange v → InRange w → InRange (if b then v else w)
either_value true v w p q = p
either_value false v w p q = q

pub either_body : (b : Bool) (x y : Body) → BodyInRange x → BodyInRange y → BodyInRange (if b then x else y)
either_body true x y p q = p
either_body false x y p q = q

number_in_range : (t : ValueType) (v : Value) (n : ℕ) → InRange v → number_of t v ≡ Some n → n < 2 ^ width_of t
number_in_range types.I32 (value.I32 m) n p e = let same : m ≡ n = cc in subst (λ k. k < 2 ^ 32) same p
number_in_range types.I32 (value.I64 m) n p e = absurd (cc)
number_in_range types.I64 (value.I32 m) n p e = absurd (cc)
number_in_range types.I64 (value.I64 m) n p e = let same : m ≡ n = cc in subst (λ k. k < 2 ^ 64) same p

module _ (elements : List (Option ℕ)) where
  -- bytes and globals in range, and the table as it was
  pub record StoreInRange (store : Store) : Type 0 where
    pub bytes : AllBytes store.memory
    pub globals : AllInRange store.globals
    pub table_is : store.table ≡ elements

  pub record InRangeThere (r : Reduction) : Type 0 where
    pub store : StoreInRange r.to.store
    pub locals : AllInRange r.to.locals
    pub execution : ExecutionInRange r.to.execution

  -- where it reduces, it does so in range
  abbrev pub Kept : Option Reduction → Type 0
  Kept on = IfSome on InRangeThere

  -- ---- how reductions are made

  pub kept_if : (b : Bool) (x y : Option Reduction) → (b ≡ true → Kept x) → Kept y → Kept (if b then x else y)
  kept_if true x y first second = first refl
  kept_if false x y first second = second

  pub kept_and_then : {A : Type 0} (o : Option A) (go : A → Option Reduction) → ((x : A) → o ≡ Some x → Kept (go x)) → Kept (option_and_then go o)
  kept_and_then None go k = tt
  kept_and_then (Some x) go k = k x refl

  kept_any : (values : List Value) (go : Value → List Value → Option Reduction) → AllInRange values → ((v : Value) (below : List Value) → InRange v → AllInRange below → Kept (go v below)) → Kept (with_any values go)
  kept_any [] go are k = tt
  kept_any (v ∷ vs) go are k = k v vs are.0 are.1

  pub kept_one : (t : ValueType) (values : List Value) (go : ℕ → List Value → Option Reduction) → AllInRange values → ((n : ℕ) (below : List Value) → n < 2 ^ width_of t → AllInRange below → Kept (go n below)) → Kept (with_one t values go)
  kept_one t values go are k =
      kept_any values (λ v below. option_and_then (λ n. go n below) (number_of t v)) are
      (λ v below v_is below_are. kept_and_then (number_of t v) (λ n. go n below) (λ n e. k n below (number_in_range t v n v_is e) below_are))

  pub kept_two : (t : ValueType) (values : List Value) (go : ℕ → ℕ → List Value → Option Reduction) → AllInRange values → ((a b : ℕ) (below : List Value) → a < 2 ^ width_of t → b < 2 ^ width_of t → AllInRange below → Kept (go a b below)) → Kept (with_two t values go)
  kept_two t values go are k =
      kept_one t values (λ second others. with_one t others (λ first below. go first second below)) are
      (λ second others second_is others_are. kept_one t others (λ first below. go first second below) others_are (λ first below first_is below_are. k first second below first_is second_is below_are))

  -- to a store, locals and an execution that are in range
  pub there : (cost : ℕ) (store : Store) (locals : List Value) (e : Execution) → StoreInRange store → AllInRange locals → ExecutionInRange e → Kept (leads_to cost store locals e)
  there cost store locals e store_is locals_are e_is = record { store = store_is; locals = locals_are; execution = e_is }

  module _ (setting : Setting) (records : RecordsFit setting.records) (store : Store) (memory : MemoryFits (setting.module_syntax.memories) store.memory) (store_is : StoreInRange store) (locals : List Value) (locals_are : AllInRange locals) (rest : Body) (rest_is : BodyInRange rest) where
    abbrev m : ModuleSyntax
    m = setting.module_syntax

    -- to values, and what comes next
    on : (cost : ℕ) (values : List Value) → AllInRange values → Kept (leads_to cost store locals (instructions values rest))
    on cost values are = record { store = store_is; locals = locals_are; execution = (are, rest_is) }

    off : (cost : ℕ) (t : Trap) → Kept (leads_to cost store locals (trap t))
    off cost t = record { store = store_is; locals = locals_are; execution = tt }

    to_call : (values : List Value) (function : ℕ) → AllInRange values → Kept (leads_to 1 store locals (invoke values function rest))
    to_call values function are = record { store = store_is; locals = locals_are; execution = (are, rest_is) }

    kept_binary : (t : ValueType) (r : Result ℕ Undefined) (below : List Value) → ((v : ℕ) → r ≡ Ok v → v < 2 ^ width_of t) → AllInRange below → Kept (after_binary store locals below t r rest)
    kept_binary t (Ok n) below small are = on 1 (value_of t n ∷ below) (value_in_range t n (small n refl), are)
    kept_binary t (Err u) below small are = off 1 _

    kept_element : (wanted : Signature) (below : List Value) (o : Option (Option ℕ)) → AllInRange below → Kept (call_element m store locals below wanted o rest)
    kept_element wanted below None are = off 1 _
    kept_element wanted below (Some None) are = off 1 _
    kept_element wanted below (Some (Some function)) are =
        kept_and_then (type_of_function m function) (λ type. if same_signature type wanted then leads_to 1 store locals (invoke below function rest) else leads_to 1 store locals (trap _))
        (λ type e. kept_if (same_signature type wanted) _ _ (λ yes. to_call below function are) (off 1 _))

    kept_hand_over : (below : List Value) (address limit : ℕ) (bytes : List ℕ) → AllBytes bytes → AllInRange below → Kept (hand_over m store locals below address limit bytes rest)
    kept_hand_over below address limit bytes bytes_are are =
        let answer : length bytes % 2 ^ 32 < 2 ^ 32 = mod-lt (length bytes) (lit< tt) in
        let written : StoreInRange (record store { memory = with_bytes store.memory address bytes }) = record { bytes = bytes_with store.memory bytes address store_is.bytes bytes_are; globals = store_is.globals; table_is = store_is.table_is } in
        kept_if (nat_lt limit (length bytes)) _ _ (λ yes. on 0 (value.I32 (length bytes % 2 ^ 32) ∷ below) (answer, are))
        (kept_if (has_room m store address (length bytes)) _ _
        (λ yes. there (cost_of_bytes (length bytes)) (record store { memory = with_bytes store.memory address bytes }) locals (instructions (value.I32 (length bytes % 2 ^ 32) ∷ below) rest) written locals_are ((answer, are), rest_is))
        (off 0 _))

    kept_given : (below : List Value) (address limit : ℕ) (o : Option (List ℕ)) → IfSome o AllBytes → AllInRange below → Kept (hand_over_given m store locals below address limit o rest)
    kept_given below address limit None bytes_are are = off 0 _
    kept_given below address limit (Some bytes) bytes_are are = kept_hand_over below address limit bytes bytes_are are

    pub kept_import : (values : List Value) (function : ℕ) → AllInRange values → Kept (reduce_import setting store locals values function rest)
    kept_import values function are =
        kept_and_then (slice_get (imported_names m.imports) function) (λ name. option_and_then (λ import. reduce_host setting store locals values import rest) (host_number name))
        (λ name e. kept_and_then (host_number name) (λ import. reduce_host setting store locals values import rest)
        (λ import f. kept_two types.I32 values (λ address limit below. hand_over_given m store locals below address limit (setting.records import) rest) are
        (λ address limit below p q below_are. kept_given below address limit (setting.records import) (records import) below_are)))

    in_memory : (x : Option Reduction) → Kept x → Kept (with_memory m x)
    in_memory x k = kept_if _ x None (λ yes. k) tt

    kept_load : (op : LoadOp) (arg : MemArg) (base : ℕ) (below : List Value) → AllInRange below → Kept (if nat_le (base + arg.offset + (reading_of (load_of op)).bytes) (length store.memory) then leads_to 1 store locals (instructions (value_of (load_type op) (value_read (reading_of (load_of op)) store.memory (base + arg.offset)) ∷ below) rest) else leads_to 1 store locals (trap MemoryOutOfBounds))
    kept_load op arg base below are =
        kept_if (nat_le (base + arg.offset + (reading_of (load_of op)).bytes) (length store.memory)) (leads_to 1 store locals (instructions (value_of (load_type op) (value_read (reading_of (load_of op)) store.memory (base + arg.offset)) ∷ below) rest)) (leads_to 1 store locals (trap MemoryOutOfBounds))
        (λ yes. on 1 (value_of (load_type op) (value_read (reading_of (load_of op)) store.memory (base + arg.offset)) ∷ below) (loaded_in_range op store.memory (base + arg.offset) store_is.bytes, are))
        (off 1 MemoryOutOfBounds)

    kept_store : (op : StoreOp) (arg : MemArg) (number base : ℕ) (below : List Value) → AllInRange below → Kept (if nat_le (base + arg.offset + length (stored_bytes op number)) (length store.memory) then leads_to 1 (record store { memory = with_bytes store.memory (base + arg.offset) (stored_bytes op number) }) locals (instructions below rest) else leads_to 1 store locals (trap MemoryOutOfBounds))
    kept_store op arg number base below are =
        let bytes = bytes_with store.memory (stored_bytes op number) (base + arg.offset) store_is.bytes (bytes_of_number (byte_count (stored_width op)) number) in
        kept_if (nat_le (base + arg.offset + length (stored_bytes op number)) (length store.memory)) (leads_to 1 (record store { memory = with_bytes store.memory (base + arg.offset) (stored_bytes op number) }) locals (instructions below rest)) (leads_to 1 store locals (trap MemoryOutOfBounds))
        (λ yes. there 1 (record store { memory = with_bytes store.memory (base + arg.offset) (stored_bytes op number) }) locals (instructions below rest) (record { bytes = bytes; globals = store_is.globals; table_is = store_is.table_is }) locals_are (are, rest_is))
        (off 1 MemoryOutOfBounds)

    kept_grow : (delta : ℕ) (below : List Value) → AllInRange below → Kept (if nat_le (pages_in store.memory + delta) (cap_of m.memories) then leads_to 1 (record store { memory = store.memory ++ zeros (page_size * delta) }) locals (instructions (value.I32 (pages_in store.memory) ∷ below) rest) else leads_to 1 store locals (instructions (value.I32 minus_one ∷ below) rest))
    kept_grow delta below are =
        let bytes = bytes_grown store.memory (page_size * delta) store_is.bytes in
        kept_if (nat_le (pages_in store.memory + delta) (cap_of m.memories)) (leads_to 1 (record store { memory = store.memory ++ zeros (page_size * delta) }) locals (instructions (value.I32 (pages_in store.memory) ∷ below) rest)) (leads_to 1 store locals (instructions (value.I32 minus_one ∷ below) rest))
        (λ yes. there 1 (record store { memory = store.memory ++ zeros (page_size * delta) }) locals (instructions (value.I32 (pages_in store.memory) ∷ below) rest) (record { bytes = bytes; globals = store_is.globals; table_is = store_is.table_is }) locals_are ((pages_small m.memories store.memory memory, are), rest_is))
        (on 1 (value.I32 minus_one ∷ below) (lit< tt, are))

    pub kept_plain : (p : Plain) (values : List Value) → PlainInRange p → AllInRange values → Kept (reduce_plain setting store locals values p rest)
    kept_plain instruction.Unreachable values p are = off 1 _
    kept_plain instruction.Nop values p are = on 1 values are
    kept_plain (instruction.Br l) values p are = tt
    kept_plain (instruction.BrIf l) values p are =
        kept_one types.I32 values _ are (λ n below n_is below_are. kept_if (n == 0) _ _ (λ yes. on 1 below below_are) (there 1 store locals (instructions below (plain (instruction.Br l) rest)) store_is locals_are (below_are, (tt, rest_is))))
    kept_plain instruction.Return values p are = tt
    kept_plain (instruction.Call function) values p are = to_call values function are
    kept_plain (instruction.CallIndirect x) values p are =
        kept_if _ _ None (λ yes. kept_and_then (slice_get m.types x) _ (λ wanted e. kept_one types.I32 values _ are (λ i below i_is below_are. kept_element wanted below (slice_get store.table i) below_are))) tt
    kept_plain instruction.Drop values p are = kept_any values _ are (λ v below v_is below_are. on 1 below below_are)
    kept_plain instruction.Select values p are =
        kept_one types.I32 values _ are (λ c others c_is others_are. kept_any others _ others_are (λ second more second_is more_are. kept_any more _ more_are (λ first below first_is below_are.
        on 1 ((if c == 0 then second else first) ∷ below) (either_value (c == 0) second first second_is first_is, below_are))))
    kept_plain (instruction.LocalGet x) values p are =
        kept_and_then (slice_get locals x) _ (λ v e. on 1 (v ∷ values) (all_at InRange locals x v locals_are e, are))
    kept_plain (instruction.LocalSet x) values p are =
        kept_any values _ are (λ v below v_is below_are. kept_if (nat_lt x (length locals)) _ None (λ yes. there 1 store (slice_set locals x v) (instructions below rest) store_is (all-set InRange locals x v v_is locals_are) (below_are, rest_is)) tt)
    kept_plain (instruction.LocalTee x) values p are =
        kept_any values _ are (λ v below v_is below_are. there 1 store locals (instructions (v ∷ v ∷ below) (plain (instruction.LocalSet x) rest)) store_is locals_are ((v_is, (v_is, below_are)), (tt, rest_is)))
    kept_plain (instruction.GlobalGet x) values p are =
        kept_and_then (slice_get store.globals x) _ (λ v e. on 1 (v ∷ values) (all_at InRange store.globals x v store_is.globals e, are))
    kept_plain (instruction.GlobalSet x) values p are =
        kept_any values _ are (λ v below v_is below_are. kept_if (nat_lt x (length store.globals)) _ None
        (λ yes. there 1 (record store { globals = slice_set store.globals x v }) locals (instructions below rest) (record { bytes = store_is.bytes; globals = all-set InRange store.globals x v v_is store_is.globals; table_is = store_is.table_is }) locals_are (below_are, rest_is)) tt)
    kept_plain (instruction.Load op arg) values p are =
        in_memory _ (kept_one types.I32 values _ are (λ base below base_is below_are. kept_load op arg base below below_are))
    kept_plain (instruction.Store op arg) values p are =
        in_memory _ (kept_one (store_type op) values _ are (λ number others number_is others_are. kept_one types.I32 others _ others_are (λ base below base_is below_are. kept_store op arg number base below below_are)))
    kept_plain instruction.MemorySize values p are = in_memory _ (on 1 (value.I32 (pages_in store.memory) ∷ values) (pages_small m.memories store.memory memory, are))
    kept_plain instruction.MemoryGrow values p are =
        in_memory _ (kept_one types.I32 values _ are (λ delta below delta_is below_are. kept_grow delta below below_are))
    kept_plain (instruction.Const v) values p are = on 0 (v ∷ values) (p, are)
    kept_plain (instruction.Unary t op) values p are =
        kept_one t values _ are (λ a below a_is below_are. on 1 (value_of t (unary_gives op (width_of t) a) ∷ below) (value_in_range t _ (unary_in_range t op a a_is), below_are))
    kept_plain (instruction.Binary t op) values p are =
        kept_two t values _ are (λ a b below a_is b_is below_are. kept_binary t (binary_gives op (width_of t) a b) below (λ v e. binary_in_range t op a b v a_is b_is e) below_are)
    kept_plain (instruction.Test t op) values p are =
        kept_one t values _ are (λ a below a_is below_are. on 1 (value.I32 (test_gives op (width_of t) a) ∷ below) (test_in_range op (width_of t) a, below_are))
    kept_plain (instruction.Relation t op) values p are =
        kept_two t values _ are (λ a b below a_is b_is below_are. on 1 (value.I32 (relation_gives op (width_of t) a b) ∷ below) (relation_in_range op (width_of t) a b, below_are))
    kept_plain (instruction.Convert op) values p are =
        kept_one (converted_from op) values _ are (λ a below a_is below_are. on 1 (value_of (converted_to op) (conversion_gives op a) ∷ below) (value_in_range (converted_to op) _ (conversion_in_range op a a_is), below_are))
