-- A host function is sound.
use Rattle.std.proofs.Common.{◌≡◌, ℕ, ◌+◌, ◌%◌, ◌^◌, List, ◌∷◌, true, Option, Some, None, length, refl, sym, ap, ◌∙◌, subst}
use Rattle.std.specs.Prelude.{slice_get, option_and_then, nat_lt, nat_le, if◌then◌else◌}
use Rattle.std.proofs.lemmas.Bool.{leb-true}
use Rattle.wcode.specs.declared.value.ValueType.TheVariants.{I32}
use Rattle.wcode.specs.declared.value.Value.{Value}
use Rattle.wcode.specs.declared.value.Value.TheVariants as value
use Rattle.wcode.specs.Syntax.{Body}
use Rattle.wmem.specs.Access.{with_bytes}
use Rattle.wmodule.specs.Syntax.{ModuleSyntax}
use Rattle.wbody.specs.Context.{Operands, is_there}
use Rattle.wbody.specs.Typing.{Typed}
use Rattle.wtype.specs.Accepted.{ImportName, host_number}
use Rattle.rules.specs.declared.trap.Trap.TheVariants.{HostOutOfBounds, NoRecord}
use Rattle.wmach.specs.Configuration.{Store, Setting, Execution, instructions, trap, Reduction, leads_to}
use Rattle.wmach.specs.Host.{imported_names, cost_of_bytes, has_room, hand_over, hand_over_given, reduce_host, reduce_import}
use Rattle.wmach.specs.Fits.{types_of, StoreTyped}
use Rattle.wmach.proofs.Values.{two_taken}
use Rattle.wmach.proofs.TypedExecution.{inner_context}
use Rattle.wmach.proofs.Sound.{Sound, to_values, to_trap, either}
use Rattle.wmach.proofs.SoundAccess.{with_written}
use Rattle.wmach.proofs.SoundIndirect.{second_holds}

module _ (setting : Setting) (store : Store) (locals : List Value) (labels : List Operands) (result : Option Operands) (after : Operands) (e : Execution) (rest : Body) (fits : StoreTyped (setting.module_syntax) store) where
  abbrev m : ModuleSyntax
  m = setting.module_syntax

  abbrev Next : (below : Operands) → Type 0
  Next below = Typed (inner_context m (types_of locals) labels result) rest (I32 ∷ below) after

  abbrev Here : Option Reduction → Type 0
  Here on = Sound m (types_of locals) labels result e after on

  sound_hand_over : (others : List Value) (below : Operands) (address limit : ℕ) (bytes : List ℕ) → types_of others ≡ below → Next below → Here (hand_over m store locals others address limit bytes rest)
  sound_hand_over others below address limit bytes are next =
      let answered = instructions (value.I32 (length bytes % 2 ^ 32) ∷ others) rest in
      let written = record store { memory = with_bytes store.memory address bytes } in
      let types = ap (λ l. I32 ∷ l) are in
      let room = has_room m store address (length bytes) in
      let yes_to = leads_to (cost_of_bytes (length bytes)) written locals answered in
      let no_to = leads_to 0 store locals (trap HostOutOfBounds) in
      let whole = λ (yes : has_room m store address (length bytes) ≡ true).
      to_values m (types_of locals) labels result after e (I32 ∷ below) (cost_of_bytes (length bytes)) written locals (value.I32 (length bytes % 2 ^ 32) ∷ others) rest
      (with_written m store address bytes fits (leb-true (address + length bytes) (length store.memory) (second_holds (is_there m.memories) (nat_le (address + length bytes) (length store.memory)) yes)))
      refl types next in
      let write = either m (types_of locals) labels result after e room yes_to no_to whole (to_trap m (types_of locals) labels result after e 0 store locals HostOutOfBounds fits refl) in
      let length_alone = to_values m (types_of locals) labels result after e (I32 ∷ below) 0 store locals (value.I32 (length bytes % 2 ^ 32) ∷ others) rest fits refl types next in
      either m (types_of locals) labels result after e (nat_lt limit (length bytes)) (leads_to 0 store locals answered) (if room then yes_to else no_to) (λ yes. length_alone) write

  sound_given : (others : List Value) (below : Operands) (address limit : ℕ) (o : Option (List ℕ)) → types_of others ≡ below → Next below → Here (hand_over_given m store locals others address limit o rest)
  sound_given others below address limit None are next = to_trap m (types_of locals) labels result after e 0 store locals NoRecord fits refl
  sound_given others below address limit (Some bytes) are next = sound_hand_over others below address limit bytes are next

  pub sound_import : (values : List Value) (function : ℕ) (name : ImportName) (import : ℕ) (below : Operands) → slice_get (imported_names m.imports) function ≡ Some name → host_number name ≡ Some import → types_of values ≡ I32 ∷ I32 ∷ below → Next below → Here (reduce_import setting store locals values function rest)
  sound_import values function name import below name_is import_is are next =
      let two = two_taken I32 values below are in
      let go = λ (address limit : ℕ) (others : List Value). hand_over_given m store locals others address limit (setting.records import) rest in
      let by_record = λ (o : Option ℕ). option_and_then (λ i. reduce_host setting store locals values i rest) o in
      let by_name = λ (o : Option ImportName). option_and_then (λ n. by_record (host_number n)) o in
      let reduces : reduce_import setting store locals values function rest ≡ go two.first two.second two.others =
      ap by_name name_is ∙ ap by_record import_is ∙ two.goes go in
      subst Here (sym reduces) (sound_given two.others below two.first two.second (setting.records import) two.others_are next)
