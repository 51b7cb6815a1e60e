-- What may become of what is typed and under way: it reduces to what is typed alike, or has ended,
-- or stands before a branch or a return that the labels and the frame around it take.
use Rattle.std.proofs.Common.{◌≡◌, ℕ, List, ◌++◌, Bool, true, false, Option, Some, None, map, refl, sym, ap, ◌∙◌, subst}
use Rattle.std.specs.Prelude.{slice_get, if◌then◌else◌, ◌&&◌}
use Rattle.wcode.specs.declared.value.ValueType.{ValueType}
use Rattle.wcode.specs.declared.value.Value.{Value}
use Rattle.wcode.specs.Syntax.{Body}
use Rattle.wmodule.specs.Syntax.{ModuleSyntax}
use Rattle.wbody.specs.Context.{Operands, Context}
use Rattle.wbody.specs.Typing.{PlainType, takes_gives, of_found, only_where, Rule, TypeAllows, Typed, Then}
use Rattle.rules.specs.declared.trap.Trap.{Trap}
use Rattle.wmach.specs.Configuration.{Store, Execution, instructions, trap, Reduction, leads_to}
use Rattle.wmach.specs.Reduction.{branching, returning}
use Rattle.wmach.specs.Fits.{types_of, StoreTyped}
use Rattle.wmach.specs.Outcome.{IsEnd}
use Rattle.wmach.proofs.TypedExecution.{inner_context, ExecutionTyped}

-- what a reduction keeps: the store's types, the types of the locals, and what is left in the end
pub record Keeps (m : ModuleSyntax) (locals : List ValueType) (labels : List Operands) (result : Option Operands) (after : Operands) (r : Reduction) : Type 0 where
  pub store : StoreTyped m (r.to.store)
  pub locals_are : types_of (r.to.locals) ≡ locals
  pub typed : ExecutionTyped m locals labels result (r.to.execution) after

pub data Sound (m : ModuleSyntax) (locals : List ValueType) (labels : List Operands) (result : Option Operands) (e : Execution) (after : Operands) (on : Option Reduction) : Type 0 where
  goes : (r : Reduction) → on ≡ Some r → Keeps m locals labels result after r → Sound m locals labels result e after on
  ended : IsEnd e → on ≡ None → Sound m locals labels result e after on
  branches : (depth : ℕ) (values : List Value) (carries more : Operands) → branching depth e ≡ Some values → slice_get labels depth ≡ Some carries → types_of values ≡ carries ++ more → Sound m locals labels result e after on
  returns : (values : List Value) (carries more : Operands) → returning e ≡ Some values → result ≡ Some carries → types_of values ≡ carries ++ more → Sound m locals labels result e after on

-- what an instruction of this type takes and leaves, and how it goes on
pub record Taken (c : Context) (first second : Operands) (rest : Body) (before after : Operands) : Type 0 where
  pub below : Operands
  pub before_is : before ≡ first ++ below
  pub others : Typed c rest (second ++ below) after

pub taken : (c : Context) (first second : Operands) (rest : Body) (before after : Operands) → Then (TypeAllows (takes_gives first second)) (Typed c rest) before after → Taken c first second rest before after
taken c first second rest before after t =
    let f = t.first in
    record {
      below = f.below;
      before_is = f.before_is ∙ ap (λ g. g ++ f.below) f.rule.0;
      others = subst (λ o. Typed c rest o after) (f.after_is ∙ ap (λ g. g ++ f.below) f.rule.1) t.others;
    }

-- what a typed instruction names is there
pub record Found {A : Type 0} (f : A → PlainType) (o : Option A) (Others : Rule) (before after : Operands) : Type 0 where
  pub item : A
  pub is : o ≡ Some item
  pub typed : Then (TypeAllows (f item)) Others before after

pub found : {A : Type 0} (f : A → PlainType) (o : Option A) (Others : Rule) (before after : Operands) → Then (TypeAllows (of_found f o)) Others before after → Found f o Others before after
found f None Others before after t = absurd (t.first.rule)
found f (Some x) Others before after t = record { item = x; is = refl; typed = t }

-- what its typing depends on is so
pub record Holds (b : Bool) (type : PlainType) (Others : Rule) (before after : Operands) : Type 0 where
  pub is : b ≡ true
  pub typed : Then (TypeAllows type) Others before after

pub holds : (b : Bool) (type : PlainType) (Others : Rule) (before after : Operands) → Then (TypeAllows (only_where b type)) Others before after → Holds b type Others before after
holds true type Others before after t = record { is = refl; typed = t }
holds false type Others before after t = absurd (t.first.rule)

pub first_holds : (a b : Bool) → (a && b) ≡ true → a ≡ true
first_holds true b e = refl
first_holds false b e = absurd (cc)

module _ (m : ModuleSyntax) (locals : List ValueType) (labels : List Operands) (result : Option Operands) (after : Operands) (e : Execution) where
  -- to values of the right types, and what comes next
  pub to_values : (between : Operands) (cost : ℕ) (store : Store) (locals_after values : List Value) (rest : Body) → StoreTyped m store → types_of locals_after ≡ locals → types_of values ≡ between → Typed (inner_context m locals labels result) rest between after → Sound m locals labels result e after (leads_to cost store locals_after (instructions values rest))
  to_values between cost store locals_after values rest fits locals_are are others =
      goes _ refl (record { store = fits; locals_are = locals_are; typed = subst (λ o. Typed (inner_context m locals labels result) rest o after) (sym are) others })

  pub to_trap : (cost : ℕ) (store : Store) (locals_after : List Value) (t : Trap) → StoreTyped m store → types_of locals_after ≡ locals → Sound m locals labels result e after (leads_to cost store locals_after (trap t))
  to_trap cost store locals_after t fits locals_are = goes _ refl (record { store = fits; locals_are = locals_are; typed = tt })

  -- one of two ways
  pub either : (b : Bool) (x y : Option Reduction) → (b ≡ true → Sound m locals labels result e after x) → Sound m locals labels result e after y → Sound m locals labels result e after (if b then x else y)
  either true x y first second = first refl
  either false x y first second = second
