use Rattle.std.proofs.Common.{◌≡◌, ◌<◌, ℕ, List, Bool, true, false, length, sym, ap, ◌∙◌, subst, arith}
use Rattle.std.proofs.lemmas.Bool.{le-ltb}
use Rattle.std.specs.Prelude.{vec_len}
use Rattle.std.specs.Bool.{MatchBool}
use Rattle.std.specs.List.{AllByRecursion}
use Rattle.wcode.specs.declared.value.ValueType.TheVariants.{I32}
use Rattle.wmodule.specs.declared.module.Tables.{Tables}
use Rattle.wmodule.specs.Syntax.{ModuleSyntax, ElementSyntax, module_of, element_in}
use Rattle.wbody.specs.Context.{function_types}
use Rattle.wtype.specs.Accepted.{ConstantOf, ElementTyped}
use Rattle.wtype.proofs.Kept.{on_true}
use Rattle.wtype.proofs.globals.element_typed.Goals.{then-segment-len, else-segment-len}
use Rattle.wtype.proofs.globals.element_typed.Goals as goal

abbrev AllFunctions : ModuleSyntax → List ℕ → Type 0
AllFunctions m = AllByRecursion (λ index. index < length (function_types m))

-- where the table is there and the offset is one, the functions decide
by_functions : (m : ModuleSyntax) (s : ElementSyntax) (r : Bool) → s.table < length m.tables → ConstantOf I32 s.offset
    → MatchBool r (AllFunctions m s.functions) (AllFunctions m s.functions → ⊥)
    → MatchBool r (ElementTyped m s) (ElementTyped m s → ⊥)
by_functions m s true table offset all = record { table = table; offset = offset; functions = all }
by_functions m s false table offset none = λ e. none e.functions

no_offset : (m : ModuleSyntax) (s : ElementSyntax) (r : Bool) → r ≡ false → MatchBool r (ConstantOf I32 s.offset) (ConstantOf I32 s.offset → ⊥) → ElementTyped m s → ⊥
no_offset m s true is h e = cc is
no_offset m s false is h e = h e.offset

not_both : {b : Bool} → b ≡ true → b ≡ false → ⊥
not_both t f = let e = sym t ∙ f in cc e

pub returns-then-is_constant : goal.returns-then-is_constant
returns-then-is_constant c =
    let p = c.args.decoded.now in
    let s = element_in p.bytes c.args.segment.now in
    elim c.if-segment-len.branch [
      | then-segment-len w ↦ (
          let many = ap (λ (t : Tables). vec_len t.tables) c.tables.ensures.tables in
          let table : s.table < length p.tables.tables.items = omega (arith, w.if-segment-len.true, c.len.ensures, many, p.tables.tables.ok.0) in
          let offset : ConstantOf I32 s.offset = on_true _ w.is_constant.result (sym w.value-is ∙ c.if-is_constant.true) w.is_constant.ensures in
          by_functions (module_of p) s c.are_functions.result table offset
          (subst (λ l. MatchBool c.are_functions.result (AllFunctions (module_of p) l) (AllFunctions (module_of p) l → ⊥)) c.as_slice.ensures.value c.are_functions.ensures))
      | else-segment-len w ↦ absurd (not_both c.if-is_constant.true (w.value-is ∙ le-ltb _ _ w.if-segment-len.false))
    ]

pub returns-else-is_constant : goal.returns-else-is_constant
returns-else-is_constant c =
    let p = c.args.decoded.now in
    let s = element_in p.bytes c.args.segment.now in
    rw c.if-is_constant.false
    (elim c.if-segment-len.branch [
      | then-segment-len w ↦ no_offset (module_of p) s w.is_constant.result (sym w.value-is ∙ c.if-is_constant.false) w.is_constant.ensures
      | else-segment-len w ↦ λ e. (
          let many = ap (λ (t : Tables). vec_len t.tables) c.tables.ensures.tables in
          let table = e.table in
          omega (arith, w.if-segment-len.false, c.len.ensures, many, p.tables.tables.ok.0, table))
    ])
