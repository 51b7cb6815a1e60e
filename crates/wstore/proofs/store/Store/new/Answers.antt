use Rattle.std.proofs.Common.{◌≡◌, ◌∙◌, ◌≤◌, ℕ, List, map, sym, ap, subst}
use Rattle.std.specs.Prelude.{All}
use Rattle.std.specs.Arc.{arc_value}
use Rattle.wmem.specs.Memory.{new_memory}
use Rattle.wmodule.specs.declared.module.Tables.{Tables}
use Rattle.wmodule.specs.declared.module.GlobalVariable.{GlobalVariable}
use Rattle.wmodule.specs.Placed.{IsGlobal}
use Rattle.wmodule.specs.Syntax.{ModuleParts, module_of}
use Rattle.wtype.specs.CheckedModule.{CheckedModule}
use Rattle.wtype.specs.Accepted.{Accepted}
use Rattle.wstore.specs.Store.{cap_of, first_table}
use Rattle.wstore.specs.inside.Store.{least_of}
use Rattle.wstore.specs.inside.Words.{first_word_of}
use Rattle.wstore.proofs.Changes.{IsFirst, first_sound, first_view}
use Rattle.wstore.proofs.Sizes.{cap_limited, least_within_cap}
use Rattle.wstore.proofs.store.Store.new.Goals as goal

pub first_words-requires : goal.first_words-requires
first_words-requires c =
    subst (λ (globals : List GlobalVariable). All (IsGlobal c.module-module.result.now.bytes) globals) (sym c.as_slice-2.ensures.value) c.tables-tables.ensures.stands.places.globals

pub new-requires-3-clause-within : goal.new-requires-3-clause-within
new-requires-3-clause-within c =
    let p : ModuleParts = c.deref.result.now.content in
    let accepted : Accepted (module_of p) = c.module-module.ensures.accepted in
    let memories_are : c.as_slice-memories.result.now ≡ p.tables.memories.items =
    c.as_slice-memories.ensures.value
    ∙ ap (λ (t : Tables). t.memories.items) (c.tables-tables.ensures.tables ∙ ap (λ (m : ModuleParts). m.tables) c.module-module.ensures.value) in
    subst (λ (n : ℕ). n ≤ c.cap.result) (sym (c.least.ensures ∙ ap least_of memories_are))
    (subst (λ (n : ℕ). least_of p.tables.memories.items ≤ n) (sym (c.cap.ensures ∙ ap cap_of memories_are))
    (least_within_cap p.tables.memories.items accepted.typed.rules.memories accepted.small.memories))

pub new-requires-3-clause-limited : goal.new-requires-3-clause-limited
new-requires-3-clause-limited c = subst (λ (n : ℕ). n ≤ 32) (sym c.cap.ensures) (cap_limited c.as_slice-memories.result.now)

made : (c : goal.In-Ok-new-3) → IsFirst (record { checked = c.args.checked; memory = c.in-Ok-new-3.memory; globals = c.in-Ok-new-2.globals; table = c.in-Ok-new.table })
made c =
    let p : ModuleParts = (arc_value c.args.checked).content in
    let module_is : c.module-module.result.now ≡ p = c.module-module.ensures.value ∙ ap (λ (k : CheckedModule). k.content) c.deref.ensures in
    let tables_are : c.tables-tables.result.now ≡ p.tables = c.tables-tables.ensures.tables ∙ ap (λ (m : ModuleParts). m.tables) module_is in
    let memories_are : c.as_slice-memories.result.now ≡ p.tables.memories.items = c.as_slice-memories.ensures.value ∙ ap (λ (t : Tables). t.memories.items) tables_are in
    let globals_are : c.as_slice-2.result.now ≡ p.tables.globals.items = c.as_slice-2.ensures.value ∙ ap (λ (t : Tables). t.globals.items) tables_are in
    let elements_are : c.as_slice.result.now ≡ p.tables.tables.items = c.as_slice.ensures.value ∙ ap (λ (t : Tables). t.tables.items) tables_are in
    let words_are : c.in-Ok-first_words.words.items ≡ map (first_word_of p.bytes) p.tables.globals.items =
    c.in-Ok-first_words.ensures
    ∙ ap (λ (m : ModuleParts). map (first_word_of m.bytes) c.as_slice-2.result.now) module_is
    ∙ ap (map (first_word_of p.bytes)) globals_are in
    let none : c.in-Ok.empty.items ≡ first_table p.tables.tables.items = c.in-Ok.ensures ∙ ap first_table elements_are in
    record {
      accepted = subst (λ (k : CheckedModule). Accepted (module_of k.content)) c.deref.ensures c.module-module.ensures.accepted;
      memory =
          c.in-Ok-new-3.ensures
          ∙ ap (λ (n : ℕ). new_memory n c.cap.result) (c.least.ensures ∙ ap least_of memories_are)
          ∙ ap (λ (n : ℕ). new_memory (least_of p.tables.memories.items) n) (c.cap.ensures ∙ ap cap_of memories_are);
      globals = c.in-Ok-new-2.ensures.places ∙ words_are;
      globals_image = c.in-Ok-new-2.ensures.image ∙ words_are;
      table = c.in-Ok-new.ensures.places ∙ none;
      table_image = c.in-Ok-new.ensures.image ∙ none;
    }

pub invariant_of-result : goal.invariant_of-result
invariant_of-result c = first_sound _ (made c)

pub returns : goal.returns
returns c = first_view _ (made c)
