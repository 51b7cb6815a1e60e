-- How a machine's call goes over the numeric instructions.
use Rattle.std.proofs.Common.{◌≡◌, ℕ, ◌+◌, ◌^◌, ◌<◌, ◌≤◌, List, [], ◌∷◌, ◌++◌, Option, Some, length, drop, refl, sym, ap, ◌∙◌, subst}
use Rattle.std.specs.Prelude.{Result, Ok, Err}
use Rattle.std.specs.List.{AllByRecursion}
use Rattle.wnum.specs.declared.trap.Trap.{Trap as Undefined}
use Rattle.wcode.specs.declared.value.Value.{Value}
use Rattle.wcode.specs.declared.value.Value.TheVariants as value
use Rattle.wcode.specs.declared.value.ValueType.{ValueType}
use Rattle.wcode.specs.declared.value.ValueType.TheVariants.{I32, I64}
use Rattle.wcode.specs.declared.operator.UnOp.{UnOp}
use Rattle.wcode.specs.declared.operator.BinOp.{BinOp}
use Rattle.wcode.specs.declared.operator.TestOp.{TestOp}
use Rattle.wcode.specs.declared.operator.RelOp.{RelOp}
use Rattle.wcode.specs.declared.operator.CvtOp.{CvtOp}
use Rattle.wcode.specs.declared.operator.CvtOp.TheVariants as conversion
use Rattle.wcode.specs.declared.instruction.Plain.{Plain}
use Rattle.wcode.specs.declared.instruction.Plain.TheVariants as plains
use Rattle.wcode.specs.Operators.{type_of}
use Rattle.wcode.specs.Syntax.{Body, plain}
use Rattle.wcode.specs.Grammar.{one, SpellsWord}
use Rattle.wbody.specs.Context.{Operands, Context}
use Rattle.wbody.specs.Typing.{takes_gives, plain_type, TypeAllows, Weakened}
use Rattle.wbody.specs.Branches.{plain_branches}
use Rattle.wtype.specs.CheckedModule.{CheckedModule}
use Rattle.wmach.specs.declared.activation.Activation.{Activation}
use Rattle.wmach.specs.Configuration.{Store, Setting, instructions, trap, Configuration, Reduction, leads_to}
use Rattle.wmach.specs.Operands.{InRange, value_of, width_of, with_one}
use Rattle.wmach.specs.Numeric.{unary_gives, binary_gives, test_gives, relation_gives, conversion_gives, converted_from, converted_to, trap_where, after_binary}
use Rattle.wmach.specs.Fits.{types_of}
use Rattle.wmach.specs.Plain.{reduce_plain}
use Rattle.wmach.specs.inside.InPlace.{place_of, context_in, labels_in}
use Rattle.wmach.specs.inside.Machine.{frame_words, belows, On, Spent, Trapped}
use Rattle.wstore.specs.Values.{word_of}
use Rattle.wmach.proofs.SlotLemmas.{frame_push, snoc_same}
use Rattle.wmach.proofs.MachineSteps.{went}
use Rattle.wmach.proofs.OverWords.{stands_as}
use Rattle.wmach.proofs.OverLeaves.{plain_here}
use Rattle.wmach.proofs.OverPlain.{Staying, Typing, plain_spent, over_plain, over_trap}

pub word_of_value : (t : ValueType) (n : ℕ) → word_of (value_of t n) ≡ n
word_of_value I32 n = refl
word_of_value I64 n = refl

pub value_in_range : (t : ValueType) (n : ℕ) → n < 2 ^ width_of t → InRange (value_of t n)
value_in_range I32 n h = h
value_in_range I64 n h = h

pub number_in_range : (t : ValueType) (n : ℕ) → InRange (value_of t n) → n < 2 ^ width_of t
number_in_range I32 n h = h
number_in_range I64 n h = h

pub type_is_of : (t : ValueType) (n : ℕ) → type_of (value_of t n) ≡ t
type_is_of I32 n = refl
type_is_of I64 n = refl

-- the topmost value by its type
pub record TopValue (t : ValueType) (values : List Value) (others_types : Operands) : Type 0 where
  pub number : ℕ
  pub others : List Value
  pub is : values ≡ value_of t number ∷ others
  pub others_are : types_of others ≡ others_types

pub top_value : (t : ValueType) (values : List Value) (types : Operands) → types_of values ≡ t ∷ types → TopValue t values types
top_value t [] types e = absurd (cc)
top_value I32 (value.I32 n ∷ vs) types e = record { number = n; others = vs; is = refl; others_are = cc }
top_value I32 (value.I64 n ∷ vs) types e = absurd (cc)
top_value I64 (value.I32 n ∷ vs) types e = absurd (cc)
top_value I64 (value.I64 n ∷ vs) types e = record { number = n; others = vs; is = refl; others_are = cc }

pub with_value : (t : ValueType) (n : ℕ) (others : List Value) (go : ℕ → List Value → Option Reduction) → with_one t (value_of t n ∷ others) go ≡ go n others
with_value I32 n others go = refl
with_value I64 n others go = refl

pub staying_unary : (t : ValueType) (op : UnOp) → Staying (plains.Unary t op)
staying_unary t op = record { no_branch = λ depth values rest. refl; no_return = λ values rest. refl }

pub staying_binary : (t : ValueType) (op : BinOp) → Staying (plains.Binary t op)
staying_binary t op = record { no_branch = λ depth values rest. refl; no_return = λ values rest. refl }

pub staying_test : (t : ValueType) (op : TestOp) → Staying (plains.Test t op)
staying_test t op = record { no_branch = λ depth values rest. refl; no_return = λ values rest. refl }

pub staying_relation : (t : ValueType) (op : RelOp) → Staying (plains.Relation t op)
staying_relation t op = record { no_branch = λ depth values rest. refl; no_return = λ values rest. refl }

pub staying_convert : (op : CvtOp) → Staying (plains.Convert op)
staying_convert op = record { no_branch = λ depth values rest. refl; no_return = λ values rest. refl }

-- a conversion's type
convert_is : (c : Context) (op : CvtOp) → plain_type c (plains.Convert op) ≡ takes_gives (converted_from op ∷ []) (converted_to op ∷ [])
convert_is c conversion.WrapI64 = refl
convert_is c conversion.ExtendI32S = refl
convert_is c conversion.ExtendI32U = refl
convert_is c (conversion.Extend8S t) = refl
convert_is c (conversion.Extend16S t) = refl
convert_is c conversion.Extend32S = refl

module _ (setting : Setting) (bytes : List ℕ) (checked : CheckedModule) (start : Configuration) (spent : ℕ) (a : Activation) (waiting : List Activation) (slots : List ℕ) (store : Store) (o : On setting bytes checked start spent a waiting slots store) where
  -- An instruction that takes one value of this type, and gives these.
  pub record OneHere (p : Plain) (t : ValueType) (gives : Operands) : Type 0 where
    pub rest : Body
    pub is : o.body ≡ plain p rest
    pub number : ℕ
    pub others : List Value
    pub values_are : o.values ≡ value_of t number ∷ others
    pub typing : Typing (context_in o.whole o.labels) p rest (types_of o.values) (stands_as setting bytes checked start spent a waiting slots store o (plain p rest) is).leaves
    pub between_is : typing.between ≡ gives ++ types_of others
    pub in_range : number < 2 ^ width_of t
    pub others_fit : AllByRecursion InRange (others ++ belows o.labels)

  pub one_here : (p : Plain) (t : ValueType) (gives : Operands) (more : List ℕ) → plain_type (context_in o.whole o.labels) p ≡ takes_gives (t ∷ []) gives → SpellsWord (drop a.at bytes) (one p) more → OneHere p t gives
  one_here p t gives more type_is read =
      let b = plain_here setting bytes checked start spent a waiting slots store o p more read in
      let s = stands_as setting bytes checked start spent a waiting slots store o (plain p b.rest) b.is in
      let first = subst (λ y. Weakened (TypeAllows y) (types_of o.values) s.typed.between) type_is s.typed.first in
      let types : types_of o.values ≡ t ∷ first.below = first.before_is ∙ ap (λ g. g ++ first.below) first.rule.0 in
      let v = top_value t o.values first.below types in
      let fit = subst (λ vs. AllByRecursion InRange (vs ++ belows o.labels)) v.is o.values_in_range in
      record {
        rest = b.rest;
        is = b.is;
        number = v.number;
        others = v.others;
        values_are = v.is;
        typing = record { type = takes_gives (t ∷ []) gives; type_is = type_is; left = tt; between = s.typed.between; first = first; others = s.typed.others };
        between_is = first.after_is ∙ ap (λ g. g ++ first.below) first.rule.1 ∙ ap (λ l. gives ++ l) (sym v.others_are);
        in_range = number_in_range t v.number fit.0;
        others_fit = fit.1;
      }

  -- what its operand is in the slots
  pub one_slots : (p : Plain) (t : ValueType) (gives : Operands) (h : OneHere p t gives) → slots ≡ frame_words o.under o.locals (h.others ++ belows o.labels) ++ h.number ∷ []
  one_slots p t gives h =
      o.slots_are
      ∙ ap (λ vs. frame_words o.under o.locals (vs ++ belows o.labels)) h.values_are
      ∙ frame_push o.under o.locals (h.others ++ belows o.labels) (value_of t h.number)
      ∙ ap (λ n. frame_words o.under o.locals (h.others ++ belows o.labels) ++ n ∷ []) (word_of_value t h.number)

  -- Over one that gives one number of a type.
  pub over_one : (p : Plain) (t u : ValueType) (h : OneHere p t (u ∷ [])) (place gives : ℕ) (left : List ℕ) (x : ℕ) → place ≤ length bytes → SpellsWord (drop a.at bytes) (one p) (drop place bytes) → Staying p
      → length (plain_branches (labels_in o.whole o.labels) (place_of o.whole (drop a.at bytes)) p) ≡ 0
      → reduce_plain setting store o.locals (value_of t h.number ∷ h.others) p h.rest ≡ leads_to 1 store o.locals (instructions (value_of u gives ∷ h.others) h.rest)
      → gives < 2 ^ width_of u → slots ≡ left ++ x ∷ []
      → On setting bytes checked start (spent + 1) (went a place a.cursor) waiting (left ++ gives ∷ []) store
  over_one p t u h place gives left x within read staying no_note reduces in_range popped =
      let under_is = (snoc_same left (frame_words o.under o.locals (h.others ++ belows o.labels)) x h.number (sym popped ∙ one_slots p t (u ∷ []) h)).0 in
      let next_slots : left ++ gives ∷ [] ≡ frame_words o.under o.locals ((value_of u gives ∷ h.others) ++ belows o.labels) =
      ap (λ l. l ++ gives ∷ []) under_is
      ∙ ap (λ n. frame_words o.under o.locals (h.others ++ belows o.labels) ++ n ∷ []) (sym (word_of_value u gives))
      ∙ sym (frame_push o.under o.locals (h.others ++ belows o.labels) (value_of u gives)) in
      let reduces_here = ap (λ vs. reduce_plain setting store o.locals vs p h.rest) h.values_are ∙ reduces in
      let types : types_of (value_of u gives ∷ h.others) ≡ h.typing.between = ap (λ y. y ∷ types_of h.others) (type_is_of u gives) ∙ sym h.between_is in
      over_plain setting bytes checked start spent a waiting slots store o p h.rest h.is place 1 (left ++ gives ∷ []) store o.locals (value_of u gives ∷ h.others) h.typing within read staying no_note reduces_here types refl next_slots
      o.locals_in_range (value_in_range u gives in_range, h.others_fit) o.fits

  -- no more fuel for one that takes one value
  pub one_spent : (p : Plain) (t : ValueType) (gives : Operands) (h : OneHere p t gives) (r : Reduction) → Staying p → reduce_plain setting store o.locals (value_of t h.number ∷ h.others) p h.rest ≡ Some r → r.cost ≡ 1 → Spent setting start spent store
  one_spent p t gives h r staying reduces cost =
      plain_spent setting bytes checked start spent a waiting slots store o p h.rest r h.is staying (ap (λ vs. reduce_plain setting store o.locals vs p h.rest) h.values_are ∙ reduces) cost

  -- the number on top of the slots is its operand
  pub one_top : (p : Plain) (t : ValueType) (gives : Operands) (h : OneHere p t gives) (left : List ℕ) (x : ℕ) → slots ≡ left ++ x ∷ [] → x ≡ h.number
  one_top p t gives h left x popped = (snoc_same left (frame_words o.under o.locals (h.others ++ belows o.labels)) x h.number (sym popped ∙ one_slots p t gives h)).1

  -- t.unop
  unary_reduces : (t : ValueType) (op : UnOp) (rest : Body) (n : ℕ) (others : List Value) → reduce_plain setting store o.locals (value_of t n ∷ others) (plains.Unary t op) rest ≡ leads_to 1 store o.locals (instructions (value_of t (unary_gives op (width_of t) n) ∷ others) rest)
  unary_reduces t op rest n others = with_value t n others (λ a below. leads_to 1 store o.locals (instructions (value_of t (unary_gives op (width_of t) a) ∷ below) rest))

  pub unary_here : (t : ValueType) (op : UnOp) (more : List ℕ) → SpellsWord (drop a.at bytes) (one (plains.Unary t op)) more → OneHere (plains.Unary t op) t (t ∷ [])
  unary_here t op more read = one_here (plains.Unary t op) t (t ∷ []) more refl read

  pub unary_spent : (t : ValueType) (op : UnOp) (more : List ℕ) → SpellsWord (drop a.at bytes) (one (plains.Unary t op)) more → Spent setting start spent store
  unary_spent t op more read =
      let h = unary_here t op more read in
      one_spent (plains.Unary t op) t (t ∷ []) h (record { cost = 1; to = record { store = store; locals = o.locals; execution = instructions (value_of t (unary_gives op (width_of t) h.number) ∷ h.others) h.rest } }) (staying_unary t op) (unary_reduces t op h.rest h.number h.others) refl

  pub over_unary : (t : ValueType) (op : UnOp) (place gives : ℕ) (left : List ℕ) (x : ℕ) → place ≤ length bytes → SpellsWord (drop a.at bytes) (one (plains.Unary t op)) (drop place bytes) → slots ≡ left ++ x ∷ [] → gives ≡ unary_gives op (width_of t) x → gives < 2 ^ width_of t → On setting bytes checked start (spent + 1) (went a place a.cursor) waiting (left ++ gives ∷ []) store
  over_unary t op place gives left x within read popped is in_range =
      let h = unary_here t op (drop place bytes) read in
      let top = one_top (plains.Unary t op) t (t ∷ []) h left x popped in
      let reduces = unary_reduces t op h.rest h.number h.others ∙ ap (λ n. leads_to 1 store o.locals (instructions (value_of t n ∷ h.others) h.rest)) (ap (unary_gives op (width_of t)) (sym top) ∙ sym is) in
      over_one (plains.Unary t op) t t h place gives left x within read (staying_unary t op) refl reduces in_range popped

  -- t.testop
  test_reduces : (t : ValueType) (op : TestOp) (rest : Body) (n : ℕ) (others : List Value) → reduce_plain setting store o.locals (value_of t n ∷ others) (plains.Test t op) rest ≡ leads_to 1 store o.locals (instructions (value_of I32 (test_gives op (width_of t) n) ∷ others) rest)
  test_reduces t op rest n others = with_value t n others (λ a below. leads_to 1 store o.locals (instructions (value.I32 (test_gives op (width_of t) a) ∷ below) rest))

  pub test_here : (t : ValueType) (op : TestOp) (more : List ℕ) → SpellsWord (drop a.at bytes) (one (plains.Test t op)) more → OneHere (plains.Test t op) t (I32 ∷ [])
  test_here t op more read = one_here (plains.Test t op) t (I32 ∷ []) more refl read

  pub test_spent : (t : ValueType) (op : TestOp) (more : List ℕ) → SpellsWord (drop a.at bytes) (one (plains.Test t op)) more → Spent setting start spent store
  test_spent t op more read =
      let h = test_here t op more read in
      one_spent (plains.Test t op) t (I32 ∷ []) h (record { cost = 1; to = record { store = store; locals = o.locals; execution = instructions (value_of I32 (test_gives op (width_of t) h.number) ∷ h.others) h.rest } }) (staying_test t op) (test_reduces t op h.rest h.number h.others) refl

  pub over_test : (t : ValueType) (op : TestOp) (place gives : ℕ) (left : List ℕ) (x : ℕ) → place ≤ length bytes → SpellsWord (drop a.at bytes) (one (plains.Test t op)) (drop place bytes) → slots ≡ left ++ x ∷ [] → gives ≡ test_gives op (width_of t) x → gives < 2 ^ 32 → On setting bytes checked start (spent + 1) (went a place a.cursor) waiting (left ++ gives ∷ []) store
  over_test t op place gives left x within read popped is in_range =
      let h = test_here t op (drop place bytes) read in
      let top = one_top (plains.Test t op) t (I32 ∷ []) h left x popped in
      let reduces = test_reduces t op h.rest h.number h.others ∙ ap (λ n. leads_to 1 store o.locals (instructions (value_of I32 n ∷ h.others) h.rest)) (ap (test_gives op (width_of t)) (sym top) ∙ sym is) in
      over_one (plains.Test t op) t I32 h place gives left x within read (staying_test t op) refl reduces in_range popped

  -- a conversion
  convert_reduces : (op : CvtOp) (rest : Body) (n : ℕ) (others : List Value) → reduce_plain setting store o.locals (value_of (converted_from op) n ∷ others) (plains.Convert op) rest ≡ leads_to 1 store o.locals (instructions (value_of (converted_to op) (conversion_gives op n) ∷ others) rest)
  convert_reduces op rest n others = with_value (converted_from op) n others (λ a below. leads_to 1 store o.locals (instructions (value_of (converted_to op) (conversion_gives op a) ∷ below) rest))

  pub convert_here : (op : CvtOp) (more : List ℕ) → SpellsWord (drop a.at bytes) (one (plains.Convert op)) more → OneHere (plains.Convert op) (converted_from op) (converted_to op ∷ [])
  convert_here op more read = one_here (plains.Convert op) (converted_from op) (converted_to op ∷ []) more (convert_is (context_in o.whole o.labels) op) read

  pub convert_spent : (op : CvtOp) (more : List ℕ) → SpellsWord (drop a.at bytes) (one (plains.Convert op)) more → Spent setting start spent store
  convert_spent op more read =
      let h = convert_here op more read in
      one_spent (plains.Convert op) (converted_from op) (converted_to op ∷ []) h (record { cost = 1; to = record { store = store; locals = o.locals; execution = instructions (value_of (converted_to op) (conversion_gives op h.number) ∷ h.others) h.rest } }) (staying_convert op) (convert_reduces op h.rest h.number h.others) refl

  pub over_convert : (op : CvtOp) (place gives : ℕ) (left : List ℕ) (x : ℕ) → place ≤ length bytes → SpellsWord (drop a.at bytes) (one (plains.Convert op)) (drop place bytes) → slots ≡ left ++ x ∷ [] → gives ≡ conversion_gives op x → gives < 2 ^ width_of (converted_to op) → On setting bytes checked start (spent + 1) (went a place a.cursor) waiting (left ++ gives ∷ []) store
  over_convert op place gives left x within read popped is in_range =
      let h = convert_here op (drop place bytes) read in
      let top = one_top (plains.Convert op) (converted_from op) (converted_to op ∷ []) h left x popped in
      let reduces = convert_reduces op h.rest h.number h.others ∙ ap (λ n. leads_to 1 store o.locals (instructions (value_of (converted_to op) n ∷ h.others) h.rest)) (ap (conversion_gives op) (sym top) ∙ sym is) in
      over_one (plains.Convert op) (converted_from op) (converted_to op) h place gives left x within read (staying_convert op) refl reduces in_range popped

  -- An instruction that takes two values of this type.
  pub record TwoHere (p : Plain) (t : ValueType) (gives : Operands) : Type 0 where
    pub rest : Body
    pub is : o.body ≡ plain p rest
    pub first : ℕ
    pub second : ℕ
    pub others : List Value
    pub values_are : o.values ≡ value_of t second ∷ value_of t first ∷ others
    pub typing : Typing (context_in o.whole o.labels) p rest (types_of o.values) (stands_as setting bytes checked start spent a waiting slots store o (plain p rest) is).leaves
    pub between_is : typing.between ≡ gives ++ types_of others
    pub first_in_range : first < 2 ^ width_of t
    pub second_in_range : second < 2 ^ width_of t
    pub others_fit : AllByRecursion InRange (others ++ belows o.labels)

  pub two_here : (p : Plain) (t : ValueType) (gives : Operands) (more : List ℕ) → plain_type (context_in o.whole o.labels) p ≡ takes_gives (t ∷ t ∷ []) gives → SpellsWord (drop a.at bytes) (one p) more → TwoHere p t gives
  two_here p t gives more type_is read =
      let b = plain_here setting bytes checked start spent a waiting slots store o p more read in
      let s = stands_as setting bytes checked start spent a waiting slots store o (plain p b.rest) b.is in
      let first = subst (λ y. Weakened (TypeAllows y) (types_of o.values) s.typed.between) type_is s.typed.first in
      let types : types_of o.values ≡ t ∷ (t ∷ first.below) = first.before_is ∙ ap (λ g. g ++ first.below) first.rule.0 in
      let v = top_value t o.values (t ∷ first.below) types in
      let u = top_value t v.others first.below v.others_are in
      let whole = v.is ∙ ap (λ l. value_of t v.number ∷ l) u.is in
      let fit = subst (λ vs. AllByRecursion InRange (vs ++ belows o.labels)) whole o.values_in_range in
      record {
        rest = b.rest;
        is = b.is;
        first = u.number;
        second = v.number;
        others = u.others;
        values_are = whole;
        typing = record { type = takes_gives (t ∷ t ∷ []) gives; type_is = type_is; left = tt; between = s.typed.between; first = first; others = s.typed.others };
        between_is = first.after_is ∙ ap (λ g. g ++ first.below) first.rule.1 ∙ ap (λ l. gives ++ l) (sym u.others_are);
        first_in_range = number_in_range t u.number fit.1.0;
        second_in_range = number_in_range t v.number fit.0;
        others_fit = fit.1.1;
      }

  -- what its operands are in the slots
  pub two_slots : (p : Plain) (t : ValueType) (gives : Operands) (h : TwoHere p t gives) → slots ≡ (frame_words o.under o.locals (h.others ++ belows o.labels) ++ h.first ∷ []) ++ h.second ∷ []
  two_slots p t gives h =
      let base = h.others ++ belows o.labels in
      o.slots_are
      ∙ ap (λ vs. frame_words o.under o.locals (vs ++ belows o.labels)) h.values_are
      ∙ frame_push o.under o.locals (value_of t h.first ∷ base) (value_of t h.second)
      ∙ ap (λ n. frame_words o.under o.locals (value_of t h.first ∷ base) ++ n ∷ []) (word_of_value t h.second)
      ∙ ap (λ l. l ++ h.second ∷ []) (frame_push o.under o.locals base (value_of t h.first) ∙ ap (λ n. frame_words o.under o.locals base ++ n ∷ []) (word_of_value t h.first))

  pub record TwoTop (p : Plain) (t : ValueType) (gives : Operands) (h : TwoHere p t gives) (left : List ℕ) (x y : ℕ) : Type 0 where
    pub left_is : left ≡ frame_words o.under o.locals (h.others ++ belows o.labels)
    pub x_is : x ≡ h.first
    pub y_is : y ≡ h.second

  pub two_top : (p : Plain) (t : ValueType) (gives : Operands) (h : TwoHere p t gives) (left : List ℕ) (x y : ℕ) → slots ≡ (left ++ x ∷ []) ++ y ∷ [] → TwoTop p t gives h left x y
  two_top p t gives h left x y popped =
      let base = frame_words o.under o.locals (h.others ++ belows o.labels) in
      let k = snoc_same (left ++ x ∷ []) (base ++ h.first ∷ []) y h.second (sym popped ∙ two_slots p t gives h) in
      let l = snoc_same left base x h.first k.0 in
      record { left_is = l.0; x_is = l.1; y_is = k.1 }

  pub over_two : (p : Plain) (t u : ValueType) (h : TwoHere p t (u ∷ [])) (place gives : ℕ) (left : List ℕ) (x y : ℕ) → place ≤ length bytes → SpellsWord (drop a.at bytes) (one p) (drop place bytes) → Staying p
      → length (plain_branches (labels_in o.whole o.labels) (place_of o.whole (drop a.at bytes)) p) ≡ 0
      → reduce_plain setting store o.locals (value_of t h.second ∷ value_of t h.first ∷ h.others) p h.rest ≡ leads_to 1 store o.locals (instructions (value_of u gives ∷ h.others) h.rest)
      → gives < 2 ^ width_of u → slots ≡ (left ++ x ∷ []) ++ y ∷ []
      → On setting bytes checked start (spent + 1) (went a place a.cursor) waiting (left ++ gives ∷ []) store
  over_two p t u h place gives left x y within read staying no_note reduces in_range popped =
      let top = two_top p t (u ∷ []) h left x y popped in
      let next_slots : left ++ gives ∷ [] ≡ frame_words o.under o.locals ((value_of u gives ∷ h.others) ++ belows o.labels) =
      ap (λ l. l ++ gives ∷ []) top.left_is
      ∙ ap (λ n. frame_words o.under o.locals (h.others ++ belows o.labels) ++ n ∷ []) (sym (word_of_value u gives))
      ∙ sym (frame_push o.under o.locals (h.others ++ belows o.labels) (value_of u gives)) in
      let reduces_here = ap (λ vs. reduce_plain setting store o.locals vs p h.rest) h.values_are ∙ reduces in
      let types : types_of (value_of u gives ∷ h.others) ≡ h.typing.between = ap (λ k. k ∷ types_of h.others) (type_is_of u gives) ∙ sym h.between_is in
      over_plain setting bytes checked start spent a waiting slots store o p h.rest h.is place 1 (left ++ gives ∷ []) store o.locals (value_of u gives ∷ h.others) h.typing within read staying no_note reduces_here types refl next_slots
      o.locals_in_range (value_in_range u gives in_range, h.others_fit) o.fits

  -- no more fuel for one that takes two values
  pub two_spent : (p : Plain) (t : ValueType) (gives : Operands) (h : TwoHere p t gives) (r : Reduction) → Staying p → reduce_plain setting store o.locals (value_of t h.second ∷ value_of t h.first ∷ h.others) p h.rest ≡ Some r → r.cost ≡ 1 → Spent setting start spent store
  two_spent p t gives h r staying reduces cost =
      plain_spent setting bytes checked start spent a waiting slots store o p h.rest r h.is staying (ap (λ vs. reduce_plain setting store o.locals vs p h.rest) h.values_are ∙ reduces) cost

  -- t.relop
  relation_reduces : (t : ValueType) (op : RelOp) (rest : Body) (x y : ℕ) (others : List Value) → reduce_plain setting store o.locals (value_of t y ∷ value_of t x ∷ others) (plains.Relation t op) rest ≡ leads_to 1 store o.locals (instructions (value_of I32 (relation_gives op (width_of t) x y) ∷ others) rest)
  relation_reduces t op rest x y others =
      let go = λ (a b : ℕ) (below : List Value). leads_to 1 store o.locals (instructions (value.I32 (relation_gives op (width_of t) a b) ∷ below) rest) in
      with_value t y (value_of t x ∷ others) (λ second more. with_one t more (λ first below. go first second below)) ∙ with_value t x others (λ first below. go first y below)

  pub relation_here : (t : ValueType) (op : RelOp) (more : List ℕ) → SpellsWord (drop a.at bytes) (one (plains.Relation t op)) more → TwoHere (plains.Relation t op) t (I32 ∷ [])
  relation_here t op more read = two_here (plains.Relation t op) t (I32 ∷ []) more refl read

  pub relation_spent : (t : ValueType) (op : RelOp) (more : List ℕ) → SpellsWord (drop a.at bytes) (one (plains.Relation t op)) more → Spent setting start spent store
  relation_spent t op more read =
      let h = relation_here t op more read in
      two_spent (plains.Relation t op) t (I32 ∷ []) h (record { cost = 1; to = record { store = store; locals = o.locals; execution = instructions (value_of I32 (relation_gives op (width_of t) h.first h.second) ∷ h.others) h.rest } }) (staying_relation t op) (relation_reduces t op h.rest h.first h.second h.others) refl

  pub over_relation : (t : ValueType) (op : RelOp) (place gives : ℕ) (left : List ℕ) (x y : ℕ) → place ≤ length bytes → SpellsWord (drop a.at bytes) (one (plains.Relation t op)) (drop place bytes) → slots ≡ (left ++ x ∷ []) ++ y ∷ [] → gives ≡ relation_gives op (width_of t) x y → gives < 2 ^ 32 → On setting bytes checked start (spent + 1) (went a place a.cursor) waiting (left ++ gives ∷ []) store
  over_relation t op place gives left x y within read popped is in_range =
      let h = relation_here t op (drop place bytes) read in
      let top = two_top (plains.Relation t op) t (I32 ∷ []) h left x y popped in
      let number_is : gives ≡ relation_gives op (width_of t) h.first h.second = is ∙ ap (λ n. relation_gives op (width_of t) n y) top.x_is ∙ ap (λ n. relation_gives op (width_of t) h.first n) top.y_is in
      let reduces = relation_reduces t op h.rest h.first h.second h.others ∙ ap (λ n. leads_to 1 store o.locals (instructions (value_of I32 n ∷ h.others) h.rest)) (sym number_is) in
      over_two (plains.Relation t op) t I32 h place gives left x y within read (staying_relation t op) refl reduces in_range popped

  -- t.binop: a number, or it is undefined
  binary_reduces : (t : ValueType) (op : BinOp) (rest : Body) (x y : ℕ) (others : List Value) → reduce_plain setting store o.locals (value_of t y ∷ value_of t x ∷ others) (plains.Binary t op) rest ≡ after_binary store o.locals others t (binary_gives op (width_of t) x y) rest
  binary_reduces t op rest x y others =
      let go = λ (a b : ℕ) (below : List Value). after_binary store o.locals below t (binary_gives op (width_of t) a b) rest in
      with_value t y (value_of t x ∷ others) (λ second more. with_one t more (λ first below. go first second below)) ∙ with_value t x others (λ first below. go first y below)

  pub binary_here : (t : ValueType) (op : BinOp) (more : List ℕ) → SpellsWord (drop a.at bytes) (one (plains.Binary t op)) more → TwoHere (plains.Binary t op) t (t ∷ [])
  binary_here t op more read = two_here (plains.Binary t op) t (t ∷ []) more refl read

  -- it costs one, whatever comes of it
  after_binary_costs : (others : List Value) (t : ValueType) (rest : Body) (gives : Result ℕ Undefined) → (r : Reduction) × (after_binary store o.locals others t gives rest ≡ Some r) × (r.cost ≡ 1)
  after_binary_costs others t rest (Ok n) = (record { cost = 1; to = record { store = store; locals = o.locals; execution = instructions (value_of t n ∷ others) rest } }, refl, refl)
  after_binary_costs others t rest (Err u) = (record { cost = 1; to = record { store = store; locals = o.locals; execution = trap (trap_where u) } }, refl, refl)

  pub binary_spent : (t : ValueType) (op : BinOp) (more : List ℕ) → SpellsWord (drop a.at bytes) (one (plains.Binary t op)) more → Spent setting start spent store
  binary_spent t op more read =
      let h = binary_here t op more read in
      let k = after_binary_costs h.others t h.rest (binary_gives op (width_of t) h.first h.second) in
      two_spent (plains.Binary t op) t (t ∷ []) h k.0 (staying_binary t op) (binary_reduces t op h.rest h.first h.second h.others ∙ k.1) k.2

  binary_number : (t : ValueType) (op : BinOp) (h : TwoHere (plains.Binary t op) t (t ∷ [])) (left : List ℕ) (x y : ℕ) → TwoTop (plains.Binary t op) t (t ∷ []) h left x y → binary_gives op (width_of t) h.first h.second ≡ binary_gives op (width_of t) x y
  binary_number t op h left x y top = ap (λ n. binary_gives op (width_of t) n h.second) (sym top.x_is) ∙ ap (λ n. binary_gives op (width_of t) x n) (sym top.y_is)

  pub over_binary : (t : ValueType) (op : BinOp) (place gives : ℕ) (left : List ℕ) (x y : ℕ) → place ≤ length bytes → SpellsWord (drop a.at bytes) (one (plains.Binary t op)) (drop place bytes) → slots ≡ (left ++ x ∷ []) ++ y ∷ [] → binary_gives op (width_of t) x y ≡ Ok gives → gives < 2 ^ width_of t → On setting bytes checked start (spent + 1) (went a place a.cursor) waiting (left ++ gives ∷ []) store
  over_binary t op place gives left x y within read popped is in_range =
      let h = binary_here t op (drop place bytes) read in
      let top = two_top (plains.Binary t op) t (t ∷ []) h left x y popped in
      let reduces = binary_reduces t op h.rest h.first h.second h.others ∙ ap (λ g. after_binary store o.locals h.others t g h.rest) (binary_number t op h left x y top ∙ is) in
      over_two (plains.Binary t op) t t h place gives left x y within read (staying_binary t op) refl reduces in_range popped

  pub over_binary_trap : (t : ValueType) (op : BinOp) (more left : List ℕ) (x y : ℕ) (u : Undefined) → SpellsWord (drop a.at bytes) (one (plains.Binary t op)) more → slots ≡ (left ++ x ∷ []) ++ y ∷ [] → binary_gives op (width_of t) x y ≡ Err u → Trapped setting start (spent + 1) (trap_where u) store
  over_binary_trap t op more left x y u read popped is =
      let h = binary_here t op more read in
      let top = two_top (plains.Binary t op) t (t ∷ []) h left x y popped in
      let reduces = ap (λ vs. reduce_plain setting store o.locals vs (plains.Binary t op) h.rest) h.values_are ∙ binary_reduces t op h.rest h.first h.second h.others ∙ ap (λ g. after_binary store o.locals h.others t g h.rest) (binary_number t op h left x y top ∙ is) in
      over_trap setting bytes checked start spent a waiting slots store o (plains.Binary t op) h.rest 1 store (trap_where u) h.is (staying_binary t op) reduces
