-- How a machine's call goes over the memory instructions.
use Rattle.std.proofs.Common.{◌≡◌, ℕ, ◌+◌, ◌*◌, ◌^◌, ◌<◌, ◌≤◌, List, [], ◌∷◌, ◌++◌, Bool, true, false, Option, Some, None, length, drop, refl, sym, ap, ◌∙◌, subst, lit<}
use Rattle.std.specs.Prelude.{nat_le, ◌&&◌, if◌then◌else◌}
use Rattle.std.specs.List.{AllByRecursion}
use Rattle.std.proofs.lemmas.Bool.{le-leb, lt-leb}
use Rattle.wcode.specs.declared.value.Value.{Value}
use Rattle.wcode.specs.declared.value.Value.TheVariants as value
use Rattle.wcode.specs.declared.value.ValueType.TheVariants.{I32}
use Rattle.wcode.specs.declared.operator.LoadOp.{LoadOp}
use Rattle.wcode.specs.declared.operator.StoreOp.{StoreOp}
use Rattle.wcode.specs.declared.instruction.MemArg.{MemArg}
use Rattle.wcode.specs.declared.instruction.Plain.{Plain}
use Rattle.wcode.specs.declared.instruction.Plain.TheVariants as plains
use Rattle.wcode.specs.Operators.{load_type, load_bytes, store_type, store_bytes}
use Rattle.wcode.specs.Syntax.{Body, plain}
use Rattle.wcode.specs.Grammar.{one, SpellsWord}
use Rattle.wmem.specs.Access.{byte_count, reading_of, value_read, with_bytes}
use Rattle.wmem.specs.Memory.{page_size, pages_in, zeros}
use Rattle.wmodule.specs.Syntax.{ModuleSyntax}
use Rattle.wbody.specs.Context.{Context, is_there}
use Rattle.wbody.specs.Typing.{PlainType, takes_gives, only_where, is_aligned, plain_type, TypeAllows, Weakened}
use Rattle.wtype.specs.CheckedModule.{CheckedModule}
use Rattle.wmach.specs.declared.activation.Activation.{Activation}
use Rattle.rules.specs.declared.trap.Trap.TheVariants.{MemoryOutOfBounds}
use Rattle.wmach.specs.Configuration.{Store, Setting, instructions, trap, Configuration, Reduction, leads_to}
use Rattle.wmach.specs.Operands.{InRange, value_of, width_of, with_one}
use Rattle.wmach.specs.Access.{load_of, stored_width, stored_bytes, cap_of, minus_one}
use Rattle.wmach.specs.Fits.{types_of, StoreFits}
use Rattle.wmach.specs.Plain.{reduce_plain}
use Rattle.wmach.specs.inside.OpenLabels.{Open}
use Rattle.wmach.specs.inside.InPlace.{Whole, context_in}
use Rattle.wmach.specs.inside.Machine.{frame_words, belows, On, Spent, Trapped}
use Rattle.wmach.proofs.Sound.{first_holds}
use Rattle.wmach.proofs.SoundAccess.{length-with_bytes, same_size, grown}
use Rattle.wmach.proofs.InRange.{bytes_of_number, bytes_with, bytes_grown, loaded_in_range}
use Rattle.wmach.proofs.RangesKept.{pages_small}
use Rattle.wmach.proofs.Ranges.{only_true}
use Rattle.wmach.proofs.SlotLemmas.{frame_push, frame_pop}
use Rattle.wmach.proofs.Going.{at}
use Rattle.wmach.proofs.MachineSteps.{went}
use Rattle.wmach.proofs.OverWords.{stands_as}
use Rattle.wmach.proofs.OverLeaves.{plain_here}
use Rattle.wmach.proofs.OverPlain.{Staying, Typing, plain_spent, over_plain, over_trap}
use Rattle.wmach.proofs.OverNumbers.{word_of_value, number_in_range, top_value, with_value, OneHere, one_here, one_top, over_one, one_spent}

-- the context inside labels has the module's memory
memory_in : (w : Whole) (os : List Open) → (context_in w os).has_memory ≡ w.context.has_memory
memory_in w [] = refl
memory_in w (o ∷ os) = memory_in w os

staying_load : (op : LoadOp) (arg : MemArg) → Staying (plains.Load op arg)
staying_load op arg = record { no_branch = λ depth values rest. refl; no_return = λ values rest. refl }

staying_store : (op : StoreOp) (arg : MemArg) → Staying (plains.Store op arg)
staying_store op arg = record { no_branch = λ depth values rest. refl; no_return = λ values rest. refl }

staying_size : Staying plains.MemorySize
staying_size = record { no_branch = λ depth values rest. refl; no_return = λ values rest. refl }

staying_grow : Staying plains.MemoryGrow
staying_grow = record { no_branch = λ depth values rest. refl; no_return = λ values rest. refl }

-- a reduction that costs one
pub record CostsOne (o : Option Reduction) : Type 0 where
  pub reduction : Reduction
  pub is : o ≡ Some reduction
  pub one : reduction.cost ≡ 1

pub either_one : (b : Bool) (x y : Configuration) → CostsOne (if b then Some (record { cost = 1; to = x }) else Some (record { cost = 1; to = y }))
either_one true x y = record { reduction = record { cost = 1; to = x }; is = refl; one = refl }
either_one false x y = record { reduction = record { cost = 1; to = y }; is = refl; one = refl }

-- a store whose memory was written to
pub written_fits : (m : ModuleSyntax) (store : Store) → StoreFits m store → (address : ℕ) (new : List ℕ) → AllByRecursion (λ byte. byte < 256) new → address + length new ≤ length store.memory → StoreFits m (record store { memory = with_bytes store.memory address new })
written_fits m store fits address new are within =
    record {
      memory = same_size m.memories store.memory (with_bytes store.memory address new) (length-with_bytes store.memory new address within) fits.memory;
      bytes = bytes_with store.memory new address fits.bytes are;
      globals = fits.globals;
      numbers = fits.numbers;
      table = fits.table;
    }

-- a store whose memory has grown
grown_fits : (m : ModuleSyntax) (store : Store) → StoreFits m store → (delta : ℕ) → is_there m.memories ≡ true → pages_in store.memory + delta ≤ cap_of m.memories → StoreFits m (record store { memory = store.memory ++ zeros (page_size * delta) })
grown_fits m store fits delta there within = record {
  memory = grown m.memories store.memory delta fits.memory within there;
  bytes = bytes_grown store.memory (page_size * delta) fits.bytes;
  globals = fits.globals;
  numbers = fits.numbers;
  table = fits.table;
}

module _ (setting : Setting) (bytes : List ℕ) (checked : CheckedModule) (start : Configuration) (spent : ℕ) (a : Activation) (waiting : List Activation) (slots : List ℕ) (store : Store) (o : On setting bytes checked start spent a waiting slots store) where
  -- an instruction whose typing depends on something: it is so
  only_here : (p : Plain) (b : Bool) (type : PlainType) (more : List ℕ) → plain_type (context_in o.whole o.labels) p ≡ only_where b type → SpellsWord (drop a.at bytes) (one p) more → b ≡ true
  only_here p b type more type_is read =
      let h = plain_here setting bytes checked start spent a waiting slots store o p more read in
      let s = stands_as setting bytes checked start spent a waiting slots store o (plain p h.rest) h.is in
      let first = subst (λ y. Weakened (TypeAllows y) (types_of o.values) s.typed.between) type_is s.typed.first in
      only_true b type first.takes first.gives first.rule

  -- there is a memory
  has_memory : (context_in o.whole o.labels).has_memory ≡ true → is_there setting.module_syntax.memories ≡ true
  has_memory h = sym (memory_in o.whole o.labels ∙ ap (λ (k : Context). k.has_memory) o.code.context_is) ∙ h

  -- t.load
  abbrev pub read_end : LoadOp → MemArg → (base : ℕ) → ℕ
  read_end op arg base = base + arg.offset + (reading_of (load_of op)).bytes

  abbrev pub read_value : LoadOp → MemArg → (base : ℕ) → ℕ
  read_value op arg base = value_read (reading_of (load_of op)) store.memory (base + arg.offset)

  load_reduces : is_there setting.module_syntax.memories ≡ true → (op : LoadOp) (arg : MemArg) (rest : Body) (base : ℕ) (others : List Value)
      → reduce_plain setting store o.locals (value_of I32 base ∷ others) (plains.Load op arg) rest
      ≡ (if nat_le (read_end op arg base) (length store.memory) then leads_to 1 store o.locals (instructions (value_of (load_type op) (read_value op arg base) ∷ others) rest) else leads_to 1 store o.locals (trap MemoryOutOfBounds))
  load_reduces there op arg rest base others =
      ap (λ b. if b then (if nat_le (read_end op arg base) (length store.memory) then leads_to 1 store o.locals (instructions (value_of (load_type op) (read_value op arg base) ∷ others) rest) else leads_to 1 store o.locals (trap MemoryOutOfBounds)) else None) there

  load_only : (op : LoadOp) (arg : MemArg) (more : List ℕ) → SpellsWord (drop a.at bytes) (one (plains.Load op arg)) more → ((context_in o.whole o.labels).has_memory && is_aligned arg (load_bytes op)) ≡ true
  load_only op arg more read = only_here (plains.Load op arg) ((context_in o.whole o.labels).has_memory && is_aligned arg (load_bytes op)) (takes_gives (I32 ∷ []) (load_type op ∷ [])) more refl read

  load_memory : (op : LoadOp) (arg : MemArg) (more : List ℕ) → SpellsWord (drop a.at bytes) (one (plains.Load op arg)) more → is_there setting.module_syntax.memories ≡ true
  load_memory op arg more read = has_memory (first_holds (context_in o.whole o.labels).has_memory (is_aligned arg (load_bytes op)) (load_only op arg more read))

  pub load_here : (op : LoadOp) (arg : MemArg) (more : List ℕ) → SpellsWord (drop a.at bytes) (one (plains.Load op arg)) more → OneHere setting bytes checked start spent a waiting slots store o (plains.Load op arg) I32 (load_type op ∷ [])
  load_here op arg more read =
      one_here setting bytes checked start spent a waiting slots store o (plains.Load op arg) I32 (load_type op ∷ []) more
      (ap (λ b. only_where b (takes_gives (I32 ∷ []) (load_type op ∷ []))) (load_only op arg more read)) read

  pub load_spent : (op : LoadOp) (arg : MemArg) (more : List ℕ) → SpellsWord (drop a.at bytes) (one (plains.Load op arg)) more → Spent setting start spent store
  load_spent op arg more read =
      let h = load_here op arg more read in
      let k = either_one (nat_le (read_end op arg h.number) (length store.memory)) (at store o.locals (instructions (value_of (load_type op) (read_value op arg h.number) ∷ h.others) h.rest)) (at store o.locals (trap MemoryOutOfBounds)) in
      one_spent setting bytes checked start spent a waiting slots store o (plains.Load op arg) I32 (load_type op ∷ []) h k.reduction (staying_load op arg)
      (load_reduces (load_memory op arg more read) op arg h.rest h.number h.others ∙ k.is) k.one

  pub over_load : (op : LoadOp) (arg : MemArg) (place gives : ℕ) (left : List ℕ) (base : ℕ) → place ≤ length bytes → SpellsWord (drop a.at bytes) (one (plains.Load op arg)) (drop place bytes) → slots ≡ left ++ base ∷ []
      → read_end op arg base ≤ length store.memory → gives ≡ read_value op arg base
      → On setting bytes checked start (spent + 1) (went a place a.cursor) waiting (left ++ gives ∷ []) store
  over_load op arg place gives left base within read popped inside is =
      let h = load_here op arg (drop place bytes) read in
      let top = one_top setting bytes checked start spent a waiting slots store o (plains.Load op arg) I32 (load_type op ∷ []) h left base popped in
      let to = λ (b : Bool) (n : ℕ). if b then leads_to 1 store o.locals (instructions (value_of (load_type op) n ∷ h.others) h.rest) else leads_to 1 store o.locals (trap MemoryOutOfBounds) in
      let yes : nat_le (read_end op arg h.number) (length store.memory) ≡ true = ap (λ n. nat_le (read_end op arg n) (length store.memory)) (sym top) ∙ le-leb (read_end op arg base) (length store.memory) inside in
      let number : read_value op arg h.number ≡ gives = ap (read_value op arg) (sym top) ∙ sym is in
      let reduces = load_reduces (load_memory op arg (drop place bytes) read) op arg h.rest h.number h.others ∙ ap (λ b. to b (read_value op arg h.number)) yes ∙ ap (to true) number in
      let in_range = number_in_range (load_type op) (read_value op arg base) (loaded_in_range op store.memory (base + arg.offset) o.fits.bytes) in
      over_one setting bytes checked start spent a waiting slots store o (plains.Load op arg) I32 (load_type op) h place gives left base within read (staying_load op arg) refl reduces
      (subst (λ n. n < 2 ^ width_of (load_type op)) (sym is) in_range) popped

  pub over_load_trap : (op : LoadOp) (arg : MemArg) (more left : List ℕ) (base : ℕ) → SpellsWord (drop a.at bytes) (one (plains.Load op arg)) more → slots ≡ left ++ base ∷ [] → length store.memory < read_end op arg base → Trapped setting start (spent + 1) MemoryOutOfBounds store
  over_load_trap op arg more left base read popped outside =
      let h = load_here op arg more read in
      let top = one_top setting bytes checked start spent a waiting slots store o (plains.Load op arg) I32 (load_type op ∷ []) h left base popped in
      let to = λ (b : Bool). if b then leads_to 1 store o.locals (instructions (value_of (load_type op) (read_value op arg h.number) ∷ h.others) h.rest) else leads_to 1 store o.locals (trap MemoryOutOfBounds) in
      let no : nat_le (read_end op arg h.number) (length store.memory) ≡ false = ap (λ n. nat_le (read_end op arg n) (length store.memory)) (sym top) ∙ lt-leb (read_end op arg base) (length store.memory) outside in
      let reduces = ap (λ vs. reduce_plain setting store o.locals vs (plains.Load op arg) h.rest) h.values_are ∙ load_reduces (load_memory op arg more read) op arg h.rest h.number h.others ∙ ap to no in
      over_trap setting bytes checked start spent a waiting slots store o (plains.Load op arg) h.rest 1 store MemoryOutOfBounds h.is (staying_load op arg) reduces

  -- t.store: a number above an address
  abbrev pub write_end : StoreOp → MemArg → (base number : ℕ) → ℕ
  write_end op arg base number = base + arg.offset + length (stored_bytes op number)

  abbrev pub with_stored : StoreOp → MemArg → (base number : ℕ) → Store
  with_stored op arg base number = record store { memory = with_bytes store.memory (base + arg.offset) (stored_bytes op number) }

  store_reduces : is_there setting.module_syntax.memories ≡ true → (op : StoreOp) (arg : MemArg) (rest : Body) (base number : ℕ) (others : List Value)
      → reduce_plain setting store o.locals (value_of (store_type op) number ∷ value_of I32 base ∷ others) (plains.Store op arg) rest
      ≡ (if nat_le (write_end op arg base number) (length store.memory) then leads_to 1 (with_stored op arg base number) o.locals (instructions others rest) else leads_to 1 store o.locals (trap MemoryOutOfBounds))
  store_reduces there op arg rest base number others =
      let go = λ (n b : ℕ) (below : List Value). if nat_le (write_end op arg b n) (length store.memory) then leads_to 1 (with_stored op arg b n) o.locals (instructions below rest) else leads_to 1 store o.locals (trap MemoryOutOfBounds) in
      let inner = λ (n : ℕ) (more : List Value). with_one I32 more (λ b below. go n b below) in
      ap (λ b. if b then with_one (store_type op) (value_of (store_type op) number ∷ value_of I32 base ∷ others) inner else None) there
      ∙ with_value (store_type op) number (value_of I32 base ∷ others) inner

  store_only : (op : StoreOp) (arg : MemArg) (more : List ℕ) → SpellsWord (drop a.at bytes) (one (plains.Store op arg)) more → ((context_in o.whole o.labels).has_memory && is_aligned arg (store_bytes op)) ≡ true
  store_only op arg more read = only_here (plains.Store op arg) ((context_in o.whole o.labels).has_memory && is_aligned arg (store_bytes op)) (takes_gives (store_type op ∷ I32 ∷ []) []) more refl read

  pub record StoreHere (op : StoreOp) (arg : MemArg) : Type 0 where
    pub rest : Body
    pub is : o.body ≡ plain (plains.Store op arg) rest
    pub base : ℕ
    pub number : ℕ
    pub others : List Value
    pub values_are : o.values ≡ value_of (store_type op) number ∷ value_of I32 base ∷ others
    pub typing : Typing (context_in o.whole o.labels) (plains.Store op arg) rest (types_of o.values) (stands_as setting bytes checked start spent a waiting slots store o (plain (plains.Store op arg) rest) is).leaves
    pub between_is : types_of others ≡ typing.between
    pub others_fit : AllByRecursion InRange (others ++ belows o.labels)
    pub reduces : reduce_plain setting store o.locals o.values (plains.Store op arg) rest ≡ (if nat_le (write_end op arg base number) (length store.memory) then leads_to 1 (with_stored op arg base number) o.locals (instructions others rest) else leads_to 1 store o.locals (trap MemoryOutOfBounds))

  pub store_here : (op : StoreOp) (arg : MemArg) (more : List ℕ) → SpellsWord (drop a.at bytes) (one (plains.Store op arg)) more → StoreHere op arg
  store_here op arg more read =
      let p = plains.Store op arg in
      let t = store_type op in
      let type = takes_gives (t ∷ I32 ∷ []) [] in
      let b = plain_here setting bytes checked start spent a waiting slots store o p more read in
      let s = stands_as setting bytes checked start spent a waiting slots store o (plain p b.rest) b.is in
      let only = store_only op arg more read in
      let there = has_memory (first_holds (context_in o.whole o.labels).has_memory (is_aligned arg (store_bytes op)) only) in
      let type_is : plain_type (context_in o.whole o.labels) p ≡ type = ap (λ k. only_where k type) only in
      let first = subst (λ y. Weakened (TypeAllows y) (types_of o.values) s.typed.between) type_is s.typed.first in
      let types : types_of o.values ≡ t ∷ (I32 ∷ first.below) = first.before_is ∙ ap (λ g. g ++ first.below) first.rule.0 in
      let v = top_value t o.values (I32 ∷ first.below) types in
      let u = top_value I32 v.others first.below v.others_are in
      let whole = v.is ∙ ap (λ l. value_of t v.number ∷ l) u.is in
      let fit = subst (λ vs. AllByRecursion InRange (vs ++ belows o.labels)) whole o.values_in_range in
      record {
        rest = b.rest;
        is = b.is;
        base = u.number;
        number = v.number;
        others = u.others;
        values_are = whole;
        typing = record { type = type; type_is = type_is; left = tt; between = s.typed.between; first = first; others = s.typed.others };
        between_is = u.others_are ∙ sym (first.after_is ∙ ap (λ g. g ++ first.below) first.rule.1);
        others_fit = fit.1.1;
        reduces = ap (λ vs. reduce_plain setting store o.locals vs p b.rest) whole ∙ store_reduces there op arg b.rest u.number v.number u.others;
      }

  record StoreTop (op : StoreOp) (arg : MemArg) (h : StoreHere op arg) (left : List ℕ) (x y : ℕ) : Type 0 where
    left_is : left ≡ frame_words o.under o.locals (h.others ++ belows o.labels)
    x_is : x ≡ h.base
    y_is : y ≡ h.number

  store_top : (op : StoreOp) (arg : MemArg) (h : StoreHere op arg) (left : List ℕ) (x y : ℕ) → slots ≡ (left ++ x ∷ []) ++ y ∷ [] → StoreTop op arg h left x y
  store_top op arg h left x y popped =
      let there = o.slots_are ∙ ap (λ vs. frame_words o.under o.locals (vs ++ belows o.labels)) h.values_are in
      let p = frame_pop o.under o.locals (value_of I32 h.base ∷ (h.others ++ belows o.labels)) (value_of (store_type op) h.number) slots (left ++ x ∷ []) y there popped in
      let q = frame_pop o.under o.locals (h.others ++ belows o.labels) (value_of I32 h.base) (left ++ x ∷ []) left x p.0 refl in
      record { left_is = q.0; x_is = q.1; y_is = p.1 ∙ word_of_value (store_type op) h.number }

  -- the address is an i32
  pub store_base : (op : StoreOp) (arg : MemArg) (more left : List ℕ) (x y : ℕ) → SpellsWord (drop a.at bytes) (one (plains.Store op arg)) more → slots ≡ (left ++ x ∷ []) ++ y ∷ [] → x < 2 ^ 32
  store_base op arg more left x y read popped =
      let h = store_here op arg more read in
      let top = store_top op arg h left x y popped in
      let fit = subst (λ vs. AllByRecursion InRange (vs ++ belows o.labels)) h.values_are o.values_in_range in
      subst (λ n. n < 2 ^ 32) (sym top.x_is) (number_in_range I32 h.base fit.1.0)

  pub store_spent : (op : StoreOp) (arg : MemArg) (more : List ℕ) → SpellsWord (drop a.at bytes) (one (plains.Store op arg)) more → Spent setting start spent store
  store_spent op arg more read =
      let h = store_here op arg more read in
      let k = either_one (nat_le (write_end op arg h.base h.number) (length store.memory)) (at (with_stored op arg h.base h.number) o.locals (instructions h.others h.rest)) (at store o.locals (trap MemoryOutOfBounds)) in
      plain_spent setting bytes checked start spent a waiting slots store o (plains.Store op arg) h.rest k.reduction h.is (staying_store op arg) (h.reduces ∙ k.is) k.one

  end_is : (op : StoreOp) (arg : MemArg) (x y b n : ℕ) → x ≡ b → y ≡ n → write_end op arg b n ≡ write_end op arg x y
  end_is op arg x y b n e f = ap (λ z. write_end op arg z n) (sym e) ∙ ap (λ z. write_end op arg x z) (sym f)

  pub over_store : (op : StoreOp) (arg : MemArg) (place : ℕ) (left : List ℕ) (base number : ℕ) → place ≤ length bytes → SpellsWord (drop a.at bytes) (one (plains.Store op arg)) (drop place bytes) → slots ≡ (left ++ base ∷ []) ++ number ∷ []
      → write_end op arg base number ≤ length store.memory
      → On setting bytes checked start (spent + 1) (went a place a.cursor) waiting left (with_stored op arg base number)
  over_store op arg place left base number within read popped inside =
      let h = store_here op arg (drop place bytes) read in
      let top = store_top op arg h left base number popped in
      let to = λ (b : Bool) (s : Store). if b then leads_to 1 s o.locals (instructions h.others h.rest) else leads_to 1 store o.locals (trap MemoryOutOfBounds) in
      let yes : nat_le (write_end op arg h.base h.number) (length store.memory) ≡ true = ap (λ n. nat_le n (length store.memory)) (end_is op arg base number h.base h.number top.x_is top.y_is) ∙ le-leb (write_end op arg base number) (length store.memory) inside in
      let same : with_stored op arg h.base h.number ≡ with_stored op arg base number = ap (λ z. with_stored op arg z h.number) (sym top.x_is) ∙ ap (λ z. with_stored op arg base z) (sym top.y_is) in
      let reduces = h.reduces ∙ ap (λ b. to b (with_stored op arg h.base h.number)) yes ∙ ap (to true) same in
      let fits = written_fits setting.module_syntax store o.fits (base + arg.offset) (stored_bytes op number) (bytes_of_number (byte_count (stored_width op)) number) inside in
      over_plain setting bytes checked start spent a waiting slots store o (plains.Store op arg) h.rest h.is place 1 left (with_stored op arg base number) o.locals h.others h.typing within read (staying_store op arg) refl reduces h.between_is refl top.left_is
      o.locals_in_range h.others_fit fits

  pub over_store_trap : (op : StoreOp) (arg : MemArg) (more left : List ℕ) (base number : ℕ) → SpellsWord (drop a.at bytes) (one (plains.Store op arg)) more → slots ≡ (left ++ base ∷ []) ++ number ∷ [] → length store.memory < write_end op arg base number → Trapped setting start (spent + 1) MemoryOutOfBounds store
  over_store_trap op arg more left base number read popped outside =
      let h = store_here op arg more read in
      let top = store_top op arg h left base number popped in
      let to = λ (b : Bool). if b then leads_to 1 (with_stored op arg h.base h.number) o.locals (instructions h.others h.rest) else leads_to 1 store o.locals (trap MemoryOutOfBounds) in
      let no : nat_le (write_end op arg h.base h.number) (length store.memory) ≡ false = ap (λ n. nat_le n (length store.memory)) (end_is op arg base number h.base h.number top.x_is top.y_is) ∙ lt-leb (write_end op arg base number) (length store.memory) outside in
      over_trap setting bytes checked start spent a waiting slots store o (plains.Store op arg) h.rest 1 store MemoryOutOfBounds h.is (staying_store op arg) (h.reduces ∙ ap to no)

  -- memory.size
  size_only : (more : List ℕ) → SpellsWord (drop a.at bytes) (one plains.MemorySize) more → (context_in o.whole o.labels).has_memory ≡ true
  size_only more read = only_here plains.MemorySize (context_in o.whole o.labels).has_memory (takes_gives [] (I32 ∷ [])) more refl read

  size_reduces : is_there setting.module_syntax.memories ≡ true → (rest : Body) → reduce_plain setting store o.locals o.values plains.MemorySize rest ≡ leads_to 1 store o.locals (instructions (value.I32 (pages_in store.memory) ∷ o.values) rest)
  size_reduces there rest = ap (λ b. if b then leads_to 1 store o.locals (instructions (value.I32 (pages_in store.memory) ∷ o.values) rest) else None) there

  pub size_spent : (more : List ℕ) → SpellsWord (drop a.at bytes) (one plains.MemorySize) more → Spent setting start spent store
  size_spent more read =
      let b = plain_here setting bytes checked start spent a waiting slots store o plains.MemorySize more read in
      plain_spent setting bytes checked start spent a waiting slots store o plains.MemorySize b.rest (record { cost = 1; to = at store o.locals (instructions (value.I32 (pages_in store.memory) ∷ o.values) b.rest) }) b.is staying_size
      (size_reduces (has_memory (size_only more read)) b.rest) refl

  pub over_size : (place gives : ℕ) → place ≤ length bytes → SpellsWord (drop a.at bytes) (one plains.MemorySize) (drop place bytes) → gives ≡ pages_in store.memory → On setting bytes checked start (spent + 1) (went a place a.cursor) waiting (slots ++ gives ∷ []) store
  over_size place gives within read is =
      let b = plain_here setting bytes checked start spent a waiting slots store o plains.MemorySize (drop place bytes) read in
      let s = stands_as setting bytes checked start spent a waiting slots store o (plain plains.MemorySize b.rest) b.is in
      let type = takes_gives [] (I32 ∷ []) in
      let only = size_only (drop place bytes) read in
      let type_is : plain_type (context_in o.whole o.labels) plains.MemorySize ≡ type = ap (λ k. only_where k type) only in
      let f = subst (λ y. Weakened (TypeAllows y) (types_of o.values) s.typed.between) type_is s.typed.first in
      let typing : Typing (context_in o.whole o.labels) plains.MemorySize b.rest (types_of o.values) s.leaves = record { type = type; type_is = type_is; left = tt; between = s.typed.between; first = f; others = s.typed.others } in
      let pages = value.I32 (pages_in store.memory) in
      let types : types_of (pages ∷ o.values) ≡ s.typed.between = ap (λ l. I32 ∷ l) (f.before_is ∙ ap (λ g. g ++ f.below) f.rule.0) ∙ sym (f.after_is ∙ ap (λ g. g ++ f.below) f.rule.1) in
      let pushed : slots ++ gives ∷ [] ≡ frame_words o.under o.locals ((pages ∷ o.values) ++ belows o.labels) = ap (λ n. slots ++ n ∷ []) is ∙ ap (λ l. l ++ pages_in store.memory ∷ []) o.slots_are ∙ sym (frame_push o.under o.locals (o.values ++ belows o.labels) pages) in
      over_plain setting bytes checked start spent a waiting slots store o plains.MemorySize b.rest b.is place 1 (slots ++ gives ∷ []) store o.locals (pages ∷ o.values) typing within read staying_size refl (size_reduces (has_memory only) b.rest) types refl pushed
      o.locals_in_range (pages_small setting.module_syntax.memories store.memory o.fits.memory, o.values_in_range) o.fits

  -- memory.grow
  abbrev pub with_more : (delta : ℕ) → Store
  with_more delta = record store { memory = store.memory ++ zeros (page_size * delta) }

  grow_only : (more : List ℕ) → SpellsWord (drop a.at bytes) (one plains.MemoryGrow) more → (context_in o.whole o.labels).has_memory ≡ true
  grow_only more read = only_here plains.MemoryGrow (context_in o.whole o.labels).has_memory (takes_gives (I32 ∷ []) (I32 ∷ [])) more refl read

  pub grow_here : (more : List ℕ) → SpellsWord (drop a.at bytes) (one plains.MemoryGrow) more → OneHere setting bytes checked start spent a waiting slots store o plains.MemoryGrow I32 (I32 ∷ [])
  grow_here more read =
      one_here setting bytes checked start spent a waiting slots store o plains.MemoryGrow I32 (I32 ∷ []) more (ap (λ b. only_where b (takes_gives (I32 ∷ []) (I32 ∷ []))) (grow_only more read)) read

  grow_reduces : is_there setting.module_syntax.memories ≡ true → (rest : Body) (delta : ℕ) (others : List Value)
      → reduce_plain setting store o.locals (value_of I32 delta ∷ others) plains.MemoryGrow rest
      ≡ (if nat_le (pages_in store.memory + delta) (cap_of setting.module_syntax.memories) then leads_to 1 (with_more delta) o.locals (instructions (value.I32 (pages_in store.memory) ∷ others) rest) else leads_to 1 store o.locals (instructions (value.I32 minus_one ∷ others) rest))
  grow_reduces there rest delta others =
      ap (λ b. if b then (if nat_le (pages_in store.memory + delta) (cap_of setting.module_syntax.memories) then leads_to 1 (with_more delta) o.locals (instructions (value.I32 (pages_in store.memory) ∷ others) rest) else leads_to 1 store o.locals (instructions (value.I32 minus_one ∷ others) rest)) else None) there

  pub grow_spent : (more : List ℕ) → SpellsWord (drop a.at bytes) (one plains.MemoryGrow) more → Spent setting start spent store
  grow_spent more read =
      let h = grow_here more read in
      let k = either_one (nat_le (pages_in store.memory + h.number) (cap_of setting.module_syntax.memories)) (at (with_more h.number) o.locals (instructions (value.I32 (pages_in store.memory) ∷ h.others) h.rest)) (at store o.locals (instructions (value.I32 minus_one ∷ h.others) h.rest)) in
      one_spent setting bytes checked start spent a waiting slots store o plains.MemoryGrow I32 (I32 ∷ []) h k.reduction staying_grow
      (grow_reduces (has_memory (grow_only more read)) h.rest h.number h.others ∙ k.is) k.one

  pub over_grow : (place gives : ℕ) (left : List ℕ) (delta : ℕ) → place ≤ length bytes → SpellsWord (drop a.at bytes) (one plains.MemoryGrow) (drop place bytes) → slots ≡ left ++ delta ∷ []
      → pages_in store.memory + delta ≤ cap_of setting.module_syntax.memories → gives ≡ pages_in store.memory
      → On setting bytes checked start (spent + 1) (went a place a.cursor) waiting (left ++ gives ∷ []) (with_more delta)
  over_grow place gives left delta within read popped room is =
      let h = grow_here (drop place bytes) read in
      let there = has_memory (grow_only (drop place bytes) read) in
      let top = one_top setting bytes checked start spent a waiting slots store o plains.MemoryGrow I32 (I32 ∷ []) h left delta popped in
      let pages = value.I32 (pages_in store.memory) in
      let to = λ (b : Bool) (s : Store). if b then leads_to 1 s o.locals (instructions (pages ∷ h.others) h.rest) else leads_to 1 store o.locals (instructions (value.I32 minus_one ∷ h.others) h.rest) in
      let yes : nat_le (pages_in store.memory + h.number) (cap_of setting.module_syntax.memories) ≡ true = ap (λ n. nat_le (pages_in store.memory + n) (cap_of setting.module_syntax.memories)) (sym top) ∙ le-leb (pages_in store.memory + delta) (cap_of setting.module_syntax.memories) room in
      let reduces = ap (λ vs. reduce_plain setting store o.locals vs plains.MemoryGrow h.rest) h.values_are ∙ grow_reduces there h.rest h.number h.others ∙ ap (λ b. to b (with_more h.number)) yes ∙ ap (λ n. to true (with_more n)) (sym top) in
      let slots_here = o.slots_are ∙ ap (λ vs. frame_words o.under o.locals (vs ++ belows o.labels)) h.values_are in
      let p = frame_pop o.under o.locals (h.others ++ belows o.labels) (value_of I32 h.number) slots left delta slots_here popped in
      let pushed : left ++ gives ∷ [] ≡ frame_words o.under o.locals ((pages ∷ h.others) ++ belows o.labels) = ap (λ n. left ++ n ∷ []) is ∙ ap (λ l. l ++ pages_in store.memory ∷ []) p.0 ∙ sym (frame_push o.under o.locals (h.others ++ belows o.labels) pages) in
      over_plain setting bytes checked start spent a waiting slots store o plains.MemoryGrow h.rest h.is place 1 (left ++ gives ∷ []) (with_more delta) o.locals (pages ∷ h.others) h.typing within read staying_grow refl reduces (sym h.between_is) refl pushed
      o.locals_in_range (pages_small setting.module_syntax.memories store.memory o.fits.memory, h.others_fit) (grown_fits setting.module_syntax store o.fits delta there room)

  -- where it may not have as many
  pub over_grow_fails : (place : ℕ) (left : List ℕ) (delta : ℕ) → place ≤ length bytes → SpellsWord (drop a.at bytes) (one plains.MemoryGrow) (drop place bytes) → slots ≡ left ++ delta ∷ []
      → cap_of setting.module_syntax.memories < pages_in store.memory + delta
      → On setting bytes checked start (spent + 1) (went a place a.cursor) waiting (left ++ minus_one ∷ []) store
  over_grow_fails place left delta within read popped full =
      let h = grow_here (drop place bytes) read in
      let top = one_top setting bytes checked start spent a waiting slots store o plains.MemoryGrow I32 (I32 ∷ []) h left delta popped in
      let to = λ (b : Bool). if b then leads_to 1 (with_more h.number) o.locals (instructions (value.I32 (pages_in store.memory) ∷ h.others) h.rest) else leads_to 1 store o.locals (instructions (value.I32 minus_one ∷ h.others) h.rest) in
      let no : nat_le (pages_in store.memory + h.number) (cap_of setting.module_syntax.memories) ≡ false = ap (λ n. nat_le (pages_in store.memory + n) (cap_of setting.module_syntax.memories)) (sym top) ∙ lt-leb (pages_in store.memory + delta) (cap_of setting.module_syntax.memories) full in
      over_one setting bytes checked start spent a waiting slots store o plains.MemoryGrow I32 I32 h place minus_one left delta within read staying_grow refl
      (grow_reduces (has_memory (grow_only (drop place bytes) read)) h.rest h.number h.others ∙ ap to no) (lit< tt) popped
