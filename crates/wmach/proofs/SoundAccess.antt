-- The memory instructions are sound: the size of the memory stays whole pages within its limits.
use Rattle.std.proofs.Common.{◌≡◌, ℕ, ◌+◌, ◌*◌, ◌/◌, ◌≤◌, List, [], ◌∷◌, ◌++◌, true, Option, Some, None, length, take, drop, refl, sym, ap, ◌∙◌, subst, arith, length-append, length-drop}
use Rattle.std.specs.Prelude.{nat_le, if◌then◌else◌, IfSome}
use Rattle.std.proofs.lemmas.List.{length-take-le, length-replicate, nil_from_length}
use Rattle.std.proofs.lemmas.Bool.{leb-true}
use Rattle.std.proofs.Math.Nat.{mul-div_cancel}
use Rattle.wcode.specs.declared.value.ValueType.TheVariants.{I32}
use Rattle.wcode.specs.declared.value.Value.{Value}
use Rattle.wcode.specs.declared.value.Value.TheVariants as value
use Rattle.wcode.specs.declared.operator.LoadOp.{LoadOp}
use Rattle.wcode.specs.declared.operator.StoreOp.{StoreOp}
use Rattle.wcode.specs.declared.instruction.MemArg.{MemArg}
use Rattle.wcode.specs.Operators.{load_type, store_type}
use Rattle.wcode.specs.Syntax.{Body}
use Rattle.wmem.specs.Access.{reading_of, value_read, with_bytes}
use Rattle.wmem.specs.Memory.{page_size, most_pages, pages_in, zeros}
use Rattle.wmodule.specs.declared.module.Limits.{Limits}
use Rattle.wmodule.specs.Syntax.{ModuleSyntax}
use Rattle.wbody.specs.Context.{Operands, is_there}
use Rattle.wbody.specs.Typing.{Typed}
use Rattle.rules.specs.declared.trap.Trap.TheVariants.{MemoryOutOfBounds}
use Rattle.wmach.specs.Configuration.{Store, Execution, instructions, trap, Reduction, leads_to}
use Rattle.wmach.specs.Operands.{value_of, with_one}
use Rattle.wmach.specs.Access.{load_of, stored_bytes, with_memory, most_of, cap_of, minus_one, reduce_load, reduce_store, reduce_size, reduce_grow}
use Rattle.wmach.specs.Fits.{types_of, MemoryFits, StoreTyped}
use Rattle.wmach.proofs.Values.{type_of_value, one_taken}
use Rattle.wmach.proofs.TypedExecution.{inner_context}
use Rattle.wmach.proofs.Sound.{Sound, to_values, to_trap, either}

-- a write leaves the size
pub length-with_bytes : (bytes new : List ℕ) (address : ℕ) → address + length new ≤ length bytes → length (with_bytes bytes address new) ≡ length bytes
length-with_bytes bytes new address within =
    let front = length-take-le address bytes (omega (arith, within)) in
    let back = length-drop (address + length new) bytes in
    let whole = length-append (take address bytes ++ new) (drop (address + length new) bytes) in
    let behind = length-append (take address bytes) new in
    omega (arith, within, front, back, whole, behind)

-- a memory of the same size fits alike
pub same_size : (ls : List Limits) (before after : List ℕ) → length after ≡ length before → MemoryFits ls before → MemoryFits ls after
same_size [] before after long fits = nil_from_length after (long ∙ ap length fits)
same_size (l ∷ ls) before after long fits = (fits.0, long ∙ fits.1, fits.2, fits.3)

pub with_written : (m : ModuleSyntax) (store : Store) (address : ℕ) (new : List ℕ) → StoreTyped m store → address + length new ≤ length store.memory → StoreTyped m (record store { memory = with_bytes store.memory address new })
with_written m store address new fits within =
    record { memory = same_size m.memories store.memory (with_bytes store.memory address new) (length-with_bytes store.memory new address within) fits.memory; globals = fits.globals; table = fits.table }

length-zeros : (n : ℕ) → length (zeros n) ≡ n
unfolding zeros
length-zeros n = length-replicate n 0

-- no more than the most, in what is declared and in all
within_most : (most : Option ℕ) (n : ℕ) → n ≤ most_of most → (n ≤ most_pages) × IfSome most (λ greatest. n ≤ greatest)
within_most None n le = (le, tt)
within_most (Some greatest) n le = (omega (arith, le), omega (arith, le))

-- a grown memory
pub grown : (ls : List Limits) (bytes : List ℕ) (delta : ℕ) → MemoryFits ls bytes → pages_in bytes + delta ≤ cap_of ls → is_there ls ≡ true → MemoryFits ls (bytes ++ zeros (page_size * delta))
grown [] bytes delta fits within there = absurd (cc)
grown (l ∷ ls) bytes delta fits within there =
    let pages : pages_in bytes ≡ fits.0 = ap (λ n. n / page_size) fits.1 ∙ mul-div_cancel (fits.0) (omega arith) in
    let enough : fits.0 + delta ≤ most_of l.most = omega (arith, within, pages) in
    let most = within_most l.most (fits.0 + delta) enough in
    let long : length (bytes ++ zeros (page_size * delta)) ≡ (fits.0 + delta) * page_size =
    omega (arith, length-append bytes (zeros (page_size * delta)), length-zeros (page_size * delta), fits.1) in
    (fits.0 + delta, long, most.0, (omega (arith, fits.3.0), most.1))

module _ (m : ModuleSyntax) (store : Store) (locals : List Value) (labels : List Operands) (result : Option Operands) (after : Operands) (e : Execution) (rest : Body) (fits : StoreTyped m store) (there : is_there m.memories ≡ true) where
  -- these operands, and what comes next
  abbrev Next : Operands → Type 0
  Next between = Typed (inner_context m (types_of locals) labels result) rest between after

  abbrev Here : Option Reduction → Type 0
  Here on = Sound m (types_of locals) labels result e after on

  cut_off : Here (leads_to 1 store locals (trap MemoryOutOfBounds))
  cut_off = to_trap m (types_of locals) labels result after e 1 store locals MemoryOutOfBounds fits refl

  -- there is a memory
  in_memory : (on : Option Reduction) → Here on → Here (with_memory m on)
  in_memory on s = subst Here (sym (ap (λ b. if b then on else None) there)) s

  pub sound_load : (values : List Value) (op : LoadOp) (arg : MemArg) (below : Operands) → types_of values ≡ I32 ∷ below → Next (load_type op ∷ below) → Here (reduce_load m store locals values op arg rest)
  sound_load values op arg below are next =
      let one = one_taken I32 values below are in
      let r = reading_of (load_of op) in
      let read = λ (base : ℕ) (others : List Value). leads_to 1 store locals (instructions (value_of (load_type op) (value_read r store.memory (base + arg.offset)) ∷ others) rest) in
      let go = λ (base : ℕ) (others : List Value). if nat_le (base + arg.offset + r.bytes) (length store.memory) then read base others else leads_to 1 store locals (trap MemoryOutOfBounds) in
      let number = value_read r store.memory (one.number + arg.offset) in
      let types = ap (λ x. x ∷ types_of one.others) (type_of_value (load_type op) number) ∙ ap (λ l. load_type op ∷ l) one.others_are in
      let goes_on = to_values m (types_of locals) labels result after e (load_type op ∷ below) 1 store locals (value_of (load_type op) number ∷ one.others) rest fits refl types next in
      let all = either m (types_of locals) labels result after e (nat_le (one.number + arg.offset + r.bytes) (length store.memory)) (read one.number one.others) (leads_to 1 store locals (trap MemoryOutOfBounds)) (λ yes. goes_on) cut_off in
      in_memory (with_one I32 values go) (subst Here (sym (one.goes go)) all)

  pub sound_store : (values : List Value) (op : StoreOp) (arg : MemArg) (below : Operands) → types_of values ≡ store_type op ∷ I32 ∷ below → Next below → Here (reduce_store m store locals values op arg rest)
  sound_store values op arg below are next =
      let upper = one_taken (store_type op) values (I32 ∷ below) are in
      let lower = one_taken I32 upper.others below upper.others_are in
      let write = λ (number base : ℕ) (others : List Value). leads_to 1 (record store { memory = with_bytes store.memory (base + arg.offset) (stored_bytes op number) }) locals (instructions others rest) in
      let inner = λ (number base : ℕ) (others : List Value). if nat_le (base + arg.offset + length (stored_bytes op number)) (length store.memory) then write number base others else leads_to 1 store locals (trap MemoryOutOfBounds) in
      let go = λ (number : ℕ) (others : List Value). with_one I32 others (λ base below. inner number base below) in
      let reduces = upper.goes go ∙ lower.goes (λ base below. inner upper.number base below) in
      let at = lower.number + arg.offset in
      let bytes = stored_bytes op upper.number in
      let all = either m (types_of locals) labels result after e (nat_le (at + length bytes) (length store.memory)) (write upper.number lower.number lower.others) (leads_to 1 store locals (trap MemoryOutOfBounds))
      (λ yes. to_values m (types_of locals) labels result after e below 1 (record store { memory = with_bytes store.memory at bytes }) locals lower.others rest (with_written m store at bytes fits (leb-true (at + length bytes) (length store.memory) yes)) refl lower.others_are next)
      cut_off in
      in_memory (with_one (store_type op) values go) (subst Here (sym reduces) all)

  pub sound_size : (values : List Value) (below : Operands) → types_of values ≡ below → Next (I32 ∷ below) → Here (reduce_size m store locals values rest)
  sound_size values below are next =
      in_memory (leads_to 1 store locals (instructions (value.I32 (pages_in store.memory) ∷ values) rest))
      (to_values m (types_of locals) labels result after e (I32 ∷ below) 1 store locals (value.I32 (pages_in store.memory) ∷ values) rest fits refl (ap (λ l. I32 ∷ l) are) next)

  pub sound_grow : (values : List Value) (below : Operands) → types_of values ≡ I32 ∷ below → Next (I32 ∷ below) → Here (reduce_grow m store locals values rest)
  sound_grow values below are next =
      let one = one_taken I32 values below are in
      let larger = λ (delta : ℕ). record store { memory = store.memory ++ zeros (page_size * delta) } in
      let yes_to = λ (delta : ℕ) (others : List Value). leads_to 1 (larger delta) locals (instructions (value.I32 (pages_in store.memory) ∷ others) rest) in
      let no_to = λ (others : List Value). leads_to 1 store locals (instructions (value.I32 minus_one ∷ others) rest) in
      let go = λ (delta : ℕ) (others : List Value). if nat_le (pages_in store.memory + delta) (cap_of m.memories) then yes_to delta others else no_to others in
      let kept : nat_le (pages_in store.memory + one.number) (cap_of m.memories) ≡ true → StoreTyped m (larger one.number) = λ yes. record { memory = grown m.memories store.memory one.number fits.memory (leb-true (pages_in store.memory + one.number) (cap_of m.memories) yes) there; globals = fits.globals; table = fits.table } in
      let types = ap (λ l. I32 ∷ l) one.others_are in
      let all = either m (types_of locals) labels result after e (nat_le (pages_in store.memory + one.number) (cap_of m.memories)) (yes_to one.number one.others) (no_to one.others)
      (λ yes. to_values m (types_of locals) labels result after e (I32 ∷ below) 1 (larger one.number) locals (value.I32 (pages_in store.memory) ∷ one.others) rest (kept yes) refl types next)
      (to_values m (types_of locals) labels result after e (I32 ∷ below) 1 store locals (value.I32 minus_one ∷ one.others) rest fits refl types next) in
      in_memory (with_one I32 values go) (subst Here (sym (one.goes go)) all)
