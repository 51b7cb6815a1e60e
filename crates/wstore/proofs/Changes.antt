-- What each change of a store's fields does to what they mean, and that it keeps them sound.
use Rattle.std.proofs.Common.{◌≡◌, ℕ, ◌+◌, ◌*◌, ◌<◌, ◌≤◌, List, Option, Some, length, map, set, sym, ap, ◌∙◌, subst, arith, length-set}
use Rattle.std.specs.Prelude.{slice_get, IfSome}
use Rattle.std.specs.Arc.{arc_value}
use Rattle.std.specs.List.{AllByRecursion}
use Rattle.std.proofs.lemmas.List.{length-map}
use Rattle.wcode.specs.declared.value.Value.{Value}
use Rattle.wcode.specs.Operators.{type_of}
use Rattle.wmem.specs.declared.trap.Trap.{Trap}
use Rattle.wmem.specs.Memory.{MemoryInstance, IsMemory, new_memory, page_size}
use Rattle.wmem.proofs.Buffers.{length-zeros}
use Rattle.wmodule.specs.declared.module.GlobalVariable.{GlobalVariable}
use Rattle.wmodule.specs.declared.module.Limits.{Limits}
use Rattle.wmodule.specs.Syntax.{ModuleParts, module_of}
use Rattle.wbody.specs.Context.{function_types}
use Rattle.wtype.specs.Accepted.{Accepted}
use Rattle.wstore.specs.declared.store.Store.TheInside.{Inside}
use Rattle.wstore.specs.Values.{value_of, InRange}
use Rattle.wstore.specs.inside.Words.{values_in, first_word_of}
use Rattle.wstore.specs.inside.Kept.{WithImage}
use Rattle.wstore.specs.Store.{cap_of, first_memory, first_table}
use Rattle.wstore.specs.inside.Store.{least_of}
use Rattle.wstore.specs.Fits.{StoreFits}
use Rattle.wstore.specs.Segments.{overwritten}
use Rattle.wstore.specs.State.{StoreState, syntax_of, new_state, with_globals, with_number}
use Rattle.wstore.specs.inside.Inside.{parts_of, state_of, GlobalsFit, IsSound}
use Rattle.wstore.proofs.Globals.{length-values, values_set, in_range_set, types_in, first_values, first_values_in_range}
use Rattle.wstore.proofs.Sizes.{memory_fits, table_fits_put, first_table_fits, first_zeros}

-- ---- what is so of every store

pub current_fits : (s : Inside) → IsSound s → IsMemory s.memory → AllByRecursion (λ byte. byte < 256) s.memory.bytes → StoreFits (syntax_of (state_of s)) (state_of s).current
current_fits s sound shape bytes = record {
  memory = memory_fits (parts_of s).tables.memories.items s.memory.bytes s.memory.cap sound.cap shape.whole_pages shape.within_cap (omega (arith, sound.least, shape.grown));
  bytes = bytes;
  globals = types_in (parts_of s).bytes (parts_of s).tables.globals.items s.globals.places sound.globals.as_many;
  numbers = sound.globals.in_range;
  table = sound.table;
}

pub image_fits : (s : Inside) → IsSound s → IsMemory s.memory → AllByRecursion (λ byte. byte < 256) s.memory.image → StoreFits (syntax_of (state_of s)) (state_of s).image
image_fits s sound shape bytes = record {
  memory = memory_fits (parts_of s).tables.memories.items s.memory.image s.memory.cap sound.cap shape.whole_image (omega (arith, shape.grown, shape.within_cap)) sound.least;
  bytes = bytes;
  globals = types_in (parts_of s).bytes (parts_of s).tables.globals.items s.globals.image sound.image_globals.as_many;
  numbers = sound.image_globals.in_range;
  table = sound.image_table;
}

-- ---- globals

-- places and image are all that there is
both : {T : Type 0} (w : WithImage T) (places image : List T) → w.places ≡ places → w.image ≡ image → w ≡ record { places = places; image = image }
both {T} w places image is image_is =
    let first : List T → WithImage T = λ ps. record { places = ps; image = w.image } in
    let second : List T → WithImage T = λ i. record { places = places; image = i } in
    ap first is ∙ ap second image_is

-- as many values are seen as there are numbers
pub there : (s : Inside) (i : ℕ) → IsSound s → i < length (state_of s).current.globals → i < length s.globals.places
there s i sound within = subst (λ (n : ℕ). i < n) (length-values (parts_of s).tables.globals.items s.globals.places sound.globals.as_many) within

pub set_sound : (s : Inside) (later : WithImage ℕ) (i n : ℕ) → IsSound s → later.places ≡ set s.globals.places i n → later.image ≡ s.globals.image
    → IfSome (slice_get (state_of s).current.globals i) (λ v. InRange (value_of (type_of v) n)) → IsSound (record s { globals = later })
set_sound s later i n sound is image_is here =
    let gs : List GlobalVariable = (parts_of s).tables.globals.items in
    let fit : GlobalsFit gs (set s.globals.places i n) = record {
      as_many = length-set s.globals.places i n ∙ sound.globals.as_many;
      in_range = in_range_set gs s.globals.places i n sound.globals.in_range here;
    } in
    record {
      cap = sound.cap;
      least = sound.least;
      globals = subst (GlobalsFit gs) (sym is) fit;
      image_globals = subst (GlobalsFit gs) (sym image_is) sound.image_globals;
      table = sound.table;
      image_table = sound.image_table;
    }

pub set_view : (s : Inside) (later : WithImage ℕ) (i n : ℕ) → later.places ≡ set s.globals.places i n → later.image ≡ s.globals.image
    → state_of (record s { globals = later }) ≡ with_globals (state_of s) (with_number (state_of s).current.globals i n)
set_view s later i n is image_is =
    let gs : List GlobalVariable = (parts_of s).tables.globals.items in
    let seen : WithImage ℕ → StoreState = λ words. state_of (record s { globals = words }) in
    ap seen (both later (set s.globals.places i n) s.globals.image is image_is) ∙ ap (λ (values : List Value). with_globals (state_of s) values) (values_set gs s.globals.places i n)

-- ---- segments

pub put_sound : (s : Inside) (later : WithImage (Option ℕ)) (at : ℕ) (functions : List ℕ) → IsSound s → at + length functions ≤ length s.table.places
    → later.places ≡ overwritten s.table.places at (map (λ (f : ℕ). Some f) functions) → later.image ≡ s.table.image
    → AllByRecursion (λ f. f < length (function_types (module_of (parts_of s)))) functions → IsSound (record s { table = later })
put_sound s later at functions sound within is image_is all = record {
  cap = sound.cap;
  least = sound.least;
  globals = sound.globals;
  image_globals = sound.image_globals;
  table = rw is (table_fits_put (module_of (parts_of s)) (parts_of s).tables.tables.items s.table.places at functions within sound.table all);
  image_table = rw image_is sound.image_table;
}

-- ---- the image

-- the store made the image: both are what the module declares
pub keep_sound : (s : Inside) (memory : MemoryInstance) (globals : WithImage ℕ) (table : WithImage (Option ℕ)) → IsSound s → IsMemory s.memory
    → memory ≡ record s.memory { image = s.memory.bytes }
    → globals.places ≡ s.globals.places → globals.image ≡ s.globals.places → table.places ≡ s.table.places → table.image ≡ s.table.places
    → IsSound (record s { memory = memory; globals = globals; table = table })
keep_sound s memory globals table sound shape memory_is globals_are globals_image table_is table_image = record {
  cap = ap (λ (x : MemoryInstance). x.cap) memory_is ∙ sound.cap;
  least = let size : length memory.image ≡ length s.memory.bytes = ap (λ (x : MemoryInstance). length x.image) memory_is in omega (arith, size, sound.least, shape.grown);
  globals = subst (GlobalsFit (parts_of s).tables.globals.items) (sym globals_are) sound.globals;
  image_globals = subst (GlobalsFit (parts_of s).tables.globals.items) (sym globals_image) sound.globals;
  table = rw table_is sound.table;
  image_table = rw table_image sound.table;
}

-- ---- at first

-- what a new store's fields are
pub record IsFirst (s : Inside) : Type 0 where
  pub accepted : Accepted (module_of (parts_of s))
  pub memory : s.memory ≡ new_memory (least_of (parts_of s).tables.memories.items) (cap_of (parts_of s).tables.memories.items)
  pub globals : s.globals.places ≡ map (first_word_of (parts_of s).bytes) (parts_of s).tables.globals.items
  pub globals_image : s.globals.image ≡ map (first_word_of (parts_of s).bytes) (parts_of s).tables.globals.items
  pub table : s.table.places ≡ first_table (parts_of s).tables.tables.items
  pub table_image : s.table.image ≡ first_table (parts_of s).tables.tables.items

-- it is what the module declares
pub first_sound : (s : Inside) → IsFirst s → IsSound s
first_sound s is =
    let p : ModuleParts = parts_of s in
    let ls : List Limits = p.tables.memories.items in
    let fit : GlobalsFit p.tables.globals.items (map (first_word_of p.bytes) p.tables.globals.items) = record {
      as_many = length-map p.tables.globals.items (first_word_of p.bytes);
      in_range = first_values_in_range p.bytes p.tables.globals.items is.accepted.typed.rules.globals;
    } in
    let size : length s.memory.image ≡ page_size * least_of ls = ap (λ (x : MemoryInstance). length x.image) is.memory ∙ length-zeros (page_size * least_of ls) in
    record {
      cap = ap (λ (x : MemoryInstance). x.cap) is.memory;
      least = subst (λ (n : ℕ). page_size * least_of ls ≤ n) (sym size) (omega arith);
      globals = subst (GlobalsFit p.tables.globals.items) (sym is.globals) fit;
      image_globals = subst (GlobalsFit p.tables.globals.items) (sym is.globals_image) fit;
      table = rw is.table (first_table_fits (module_of p) p.tables.tables.items);
      image_table = rw is.table_image (first_table_fits (module_of p) p.tables.tables.items);
    }

-- and is seen as the module's first store
pub first_view : (s : Inside) → IsFirst s → state_of s ≡ new_state (arc_value s.checked)
first_view s is =
    let p : ModuleParts = parts_of s in
    let gs : List GlobalVariable = p.tables.globals.items in
    let ls : List Limits = p.tables.memories.items in
    let elements : List (Option ℕ) = first_table p.tables.tables.items in
    let words : List ℕ = map (first_word_of p.bytes) gs in
    let seen : MemoryInstance → WithImage ℕ → WithImage (Option ℕ) → StoreState = λ memory globals table. state_of (record s { memory = memory; globals = globals; table = table }) in
    let shown : List ℕ → List Value → StoreState = λ bytes values. record {
      checked = arc_value s.checked;
      current = record { memory = bytes; globals = values; table = elements };
      image = record { memory = bytes; globals = values; table = elements };
    } in
    ap (λ (x : MemoryInstance). seen x s.globals s.table) is.memory
    ∙ ap (λ (x : WithImage ℕ). seen (new_memory (least_of ls) (cap_of ls)) x s.table) (both s.globals words words is.globals is.globals_image)
    ∙ ap (λ (x : WithImage (Option ℕ)). seen (new_memory (least_of ls) (cap_of ls)) (record { places = words; image = words }) x)
    (both s.table elements elements is.table is.table_image)
    ∙ ap (λ (bytes : List ℕ). shown bytes (values_in gs words)) (first_zeros ls)
    ∙ ap (λ (values : List Value). shown (first_memory ls) values) (first_values p.bytes gs is.accepted.typed.rules.globals)

-- ---- sums of what is the same

pub same_bound : (a b n x y : ℕ) → a ≡ x → b ≡ y → x + y ≤ n → a + b ≤ n
same_bound a b n x y p q h = omega arith
