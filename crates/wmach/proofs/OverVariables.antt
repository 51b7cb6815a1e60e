-- How a machine's call goes over constants, locals, and the instructions on operands of any type.
use Rattle.std.proofs.Common.{◌≡◌, ℕ, suc, zero, ◌+◌, ◌^◌, ◌<◌, ◌≤◌, List, [], ◌∷◌, ◌++◌, Bool, true, false, Some, None, length, drop, refl, sym, ap, ◌∙◌, subst, arith}
use Rattle.std.specs.Prelude.{slice_get, slice_set, option_and_then, ◌==◌, if◌then◌else◌}
use Rattle.std.specs.List.{AllByRecursion}
use Rattle.std.proofs.lemmas.Bool.{lt-ltb, ltb-true}
use Rattle.std.proofs.lemmas.Option.{slice_get_within}
use Rattle.wcode.specs.declared.value.Value.{Value}
use Rattle.wcode.specs.declared.value.Value.TheVariants as value
use Rattle.wcode.specs.declared.value.ValueType.{ValueType}
use Rattle.wcode.specs.declared.value.ValueType.TheVariants.{I32}
use Rattle.wcode.specs.declared.instruction.Plain.TheVariants as plains
use Rattle.wcode.specs.Operators.{type_of}
use Rattle.wcode.specs.Syntax.{Body, plain}
use Rattle.wcode.specs.Grammar.{one, SpellsWord}
use Rattle.wbody.specs.Context.{Operands, Context}
use Rattle.wbody.specs.Typing.{takes_gives, drops, selects, of_found, only_where, is_in_range, plain_type, Typed}
use Rattle.wtype.specs.CheckedModule.{CheckedModule}
use Rattle.wmach.specs.declared.activation.Activation.{Activation}
use Rattle.rules.specs.declared.trap.Trap.TheVariants.{Unreachable}
use Rattle.wmach.specs.Configuration.{Store, Setting, instructions, trap, Configuration, Reduction, leads_to}
use Rattle.wmach.specs.Operands.{InRange}
use Rattle.wmach.specs.Fits.{types_of}
use Rattle.wmach.specs.Plain.{reduce_plain}
use Rattle.wbody.specs.Heights.{height_by}
use Rattle.wmach.specs.inside.OpenLabels.{Open, nest}
use Rattle.wmach.specs.inside.InPlace.{Whole, Stands, context_in, floor_in}
use Rattle.wmach.specs.inside.Machine.{frame_words, belows, On, Spent, Trapped}
use Rattle.wstore.specs.Values.{word_of}
use Rattle.wmach.proofs.AllOf.{all-set}
use Rattle.wmach.proofs.Values.{all_at}
use Rattle.wmach.proofs.Sound.{found, holds}
use Rattle.wmach.proofs.SlotLemmas.{frame_long, frame_push, frame_pop, frame_local, frame_set}
use Rattle.wmach.proofs.Going.{at, Quiet, and_then}
use Rattle.wmach.proofs.Nested.{Spends, one_step, spends_nest}
use Rattle.wmach.proofs.StandsOn.{height_is, stands_plain}
use Rattle.wmach.proofs.MachineSteps.{went, on_goes, cursor_moves, spent_after}
use Rattle.wmach.proofs.OverWords.{stands_as, leads_here}
use Rattle.wmach.proofs.OverArms.{i32_on_top}
use Rattle.wmach.proofs.OverLeaves.{plain_here}
use Rattle.wmach.proofs.OverPlain.{Staying, Typing, plain_spent, over_plain, over_trap}

-- the context inside labels has the function's locals
pub locals_in : (w : Whole) (os : List Open) → (context_in w os).locals ≡ w.context.locals
locals_in w [] = refl
locals_in w (o ∷ os) = locals_in w os

in_range_is : (v : Value) → is_in_range v ≡ true → InRange v
in_range_is (value.I32 n) e = ltb-true n (2 ^ 32) e
in_range_is (value.I64 n) e = ltb-true n (2 ^ 64) e

staying_const : (v : Value) → Staying (plains.Const v)
staying_const v = record { no_branch = λ depth values rest. refl; no_return = λ values rest. refl }

staying_nop : Staying plains.Nop
staying_nop = record { no_branch = λ depth values rest. refl; no_return = λ values rest. refl }

staying_unreachable : Staying plains.Unreachable
staying_unreachable = record { no_branch = λ depth values rest. refl; no_return = λ values rest. refl }

staying_drop : Staying plains.Drop
staying_drop = record { no_branch = λ depth values rest. refl; no_return = λ values rest. refl }

staying_select : Staying plains.Select
staying_select = record { no_branch = λ depth values rest. refl; no_return = λ values rest. refl }

staying_get : (x : ℕ) → Staying (plains.LocalGet x)
staying_get x = record { no_branch = λ depth values rest. refl; no_return = λ values rest. refl }

staying_set : (x : ℕ) → Staying (plains.LocalSet x)
staying_set x = record { no_branch = λ depth values rest. refl; no_return = λ values rest. refl }

staying_tee : (x : ℕ) → Staying (plains.LocalTee x)
staying_tee x = record { no_branch = λ depth values rest. refl; no_return = λ values rest. refl }

tail_of : (x y : Operands) → I32 ∷ x ≡ I32 ∷ y → x ≡ y
tail_of x y e = cc

-- a value on top
pub record AnyOnTop (t : ValueType) (values : List Value) (types : Operands) : Type 0 where
  pub top : Value
  pub others : List Value
  pub is : values ≡ top ∷ others
  pub type_is : type_of top ≡ t
  pub others_are : types_of others ≡ types

pub any_on_top : (t : ValueType) (values : List Value) (types : Operands) → types_of values ≡ t ∷ types → AnyOnTop t values types
any_on_top t [] types e = absurd (cc)
any_on_top t (v ∷ vs) types e = record { top = v; others = vs; is = refl; type_is = cc; others_are = cc }

module _ (setting : Setting) (bytes : List ℕ) (checked : CheckedModule) (start : Configuration) (spent : ℕ) (a : Activation) (waiting : List Activation) (slots : List ℕ) (store : Store) (o : On setting bytes checked start spent a waiting slots store) where
  -- a constant, at no cost
  pub over_const : (v : Value) (place : ℕ) → place ≤ length bytes → SpellsWord (drop a.at bytes) (one (plains.Const v)) (drop place bytes) → On setting bytes checked start (spent + 0) (went a place a.cursor) waiting (slots ++ word_of v ∷ []) store
  over_const v place within read =
      let b = plain_here setting bytes checked start spent a waiting slots store o (plains.Const v) (drop place bytes) read in
      let s = stands_as setting bytes checked start spent a waiting slots store o (plain (plains.Const v) b.rest) b.is in
      let c = context_in o.whole o.labels in
      let h = holds (is_in_range v) (takes_gives [] (type_of v ∷ [])) (Typed c b.rest) (types_of o.values) s.leaves s.typed in
      let f = h.typed.first in
      let type_is : plain_type c (plains.Const v) ≡ takes_gives [] (type_of v ∷ []) = ap (λ x. only_where x (takes_gives [] (type_of v ∷ []))) h.is in
      let t : Typing c (plains.Const v) b.rest (types_of o.values) s.leaves = record { type = takes_gives [] (type_of v ∷ []); type_is = type_is; left = tt; between = h.typed.between; first = f; others = h.typed.others } in
      let types : types_of (v ∷ o.values) ≡ h.typed.between = ap (λ l. type_of v ∷ l) (f.before_is ∙ ap (λ g. g ++ f.below) f.rule.0) ∙ sym (f.after_is ∙ ap (λ g. g ++ f.below) f.rule.1) in
      let pushed : slots ++ word_of v ∷ [] ≡ frame_words o.under o.locals ((v ∷ o.values) ++ belows o.labels) = ap (λ l. l ++ word_of v ∷ []) o.slots_are ∙ sym (frame_push o.under o.locals (o.values ++ belows o.labels) v) in
      over_plain setting bytes checked start spent a waiting slots store o (plains.Const v) b.rest b.is place 0 (slots ++ word_of v ∷ []) store o.locals (v ∷ o.values) t within read (staying_const v) refl refl types refl pushed
      o.locals_in_range (in_range_is v h.is, o.values_in_range) o.fits

  -- nop
  pub nop_spent : (more : List ℕ) → SpellsWord (drop a.at bytes) (one plains.Nop) more → Spent setting start spent store
  nop_spent more read =
      let b = plain_here setting bytes checked start spent a waiting slots store o plains.Nop more read in
      plain_spent setting bytes checked start spent a waiting slots store o plains.Nop b.rest (record { cost = 1; to = record { store = store; locals = o.locals; execution = instructions o.values b.rest } }) b.is staying_nop refl refl

  pub over_nop : (place : ℕ) → place ≤ length bytes → SpellsWord (drop a.at bytes) (one plains.Nop) (drop place bytes) → On setting bytes checked start (spent + 1) (went a place a.cursor) waiting slots store
  over_nop place within read =
      let b = plain_here setting bytes checked start spent a waiting slots store o plains.Nop (drop place bytes) read in
      let s = stands_as setting bytes checked start spent a waiting slots store o (plain plains.Nop b.rest) b.is in
      let f = s.typed.first in
      let t : Typing (context_in o.whole o.labels) plains.Nop b.rest (types_of o.values) s.leaves = record { type = takes_gives [] []; type_is = refl; left = tt; between = s.typed.between; first = f; others = s.typed.others } in
      let types : types_of o.values ≡ s.typed.between = f.before_is ∙ ap (λ g. g ++ f.below) f.rule.0 ∙ sym (f.after_is ∙ ap (λ g. g ++ f.below) f.rule.1) in
      over_plain setting bytes checked start spent a waiting slots store o plains.Nop b.rest b.is place 1 slots store o.locals o.values t within read staying_nop refl refl types refl o.slots_are
      o.locals_in_range o.values_in_range o.fits

  -- unreachable
  pub unreachable_spent : (more : List ℕ) → SpellsWord (drop a.at bytes) (one plains.Unreachable) more → Spent setting start spent store
  unreachable_spent more read =
      let b = plain_here setting bytes checked start spent a waiting slots store o plains.Unreachable more read in
      plain_spent setting bytes checked start spent a waiting slots store o plains.Unreachable b.rest (record { cost = 1; to = record { store = store; locals = o.locals; execution = trap Unreachable } }) b.is staying_unreachable refl refl

  pub over_unreachable : (more : List ℕ) → SpellsWord (drop a.at bytes) (one plains.Unreachable) more → Trapped setting start (spent + 1) Unreachable store
  over_unreachable more read =
      let b = plain_here setting bytes checked start spent a waiting slots store o plains.Unreachable more read in
      over_trap setting bytes checked start spent a waiting slots store o plains.Unreachable b.rest 1 store Unreachable b.is staying_unreachable refl

  -- drop
  pub record DropHere : Type 0 where
    pub rest : Body
    pub is : o.body ≡ plain plains.Drop rest
    pub top : Value
    pub others : List Value
    pub values_are : o.values ≡ top ∷ others
    pub typing : Typing (context_in o.whole o.labels) plains.Drop rest (types_of o.values) (stands_as setting bytes checked start spent a waiting slots store o (plain plains.Drop rest) is).leaves
    pub between_is : types_of others ≡ typing.between
    pub others_fit : AllByRecursion InRange (others ++ belows o.labels)

  pub drop_here : (more : List ℕ) → SpellsWord (drop a.at bytes) (one plains.Drop) more → DropHere
  drop_here more read =
      let b = plain_here setting bytes checked start spent a waiting slots store o plains.Drop more read in
      let s = stands_as setting bytes checked start spent a waiting slots store o (plain plains.Drop b.rest) b.is in
      let f = s.typed.first in
      let types : types_of o.values ≡ f.rule.0 ∷ f.below = f.before_is ∙ ap (λ g. g ++ f.below) f.rule.1 in
      let v = any_on_top f.rule.0 o.values f.below types in
      let fit = subst (λ vs. AllByRecursion InRange (vs ++ belows o.labels)) v.is o.values_in_range in
      record {
        rest = b.rest;
        is = b.is;
        top = v.top;
        others = v.others;
        values_are = v.is;
        typing = record { type = drops; type_is = refl; left = tt; between = s.typed.between; first = f; others = s.typed.others };
        between_is = v.others_are ∙ sym (f.after_is ∙ ap (λ g. g ++ f.below) f.rule.2);
        others_fit = fit.1;
      }

  drop_reduces : (h : DropHere) → reduce_plain setting store o.locals o.values plains.Drop h.rest ≡ leads_to 1 store o.locals (instructions h.others h.rest)
  drop_reduces h = ap (λ vs. reduce_plain setting store o.locals vs plains.Drop h.rest) h.values_are

  pub drop_spent : (more : List ℕ) → SpellsWord (drop a.at bytes) (one plains.Drop) more → Spent setting start spent store
  drop_spent more read =
      let h = drop_here more read in
      plain_spent setting bytes checked start spent a waiting slots store o plains.Drop h.rest (record { cost = 1; to = record { store = store; locals = o.locals; execution = instructions h.others h.rest } }) h.is staying_drop (drop_reduces h) refl

  pub over_drop : (place : ℕ) (left : List ℕ) (x : ℕ) → place ≤ length bytes → SpellsWord (drop a.at bytes) (one plains.Drop) (drop place bytes) → slots ≡ left ++ x ∷ [] → On setting bytes checked start (spent + 1) (went a place a.cursor) waiting left store
  over_drop place left x within read popped =
      let h = drop_here (drop place bytes) read in
      let there = o.slots_are ∙ ap (λ vs. frame_words o.under o.locals (vs ++ belows o.labels)) h.values_are in
      let p = frame_pop o.under o.locals (h.others ++ belows o.labels) h.top slots left x there popped in
      over_plain setting bytes checked start spent a waiting slots store o plains.Drop h.rest h.is place 1 left store o.locals h.others h.typing within read staying_drop refl (drop_reduces h) h.between_is refl p.0
      o.locals_in_range h.others_fit o.fits

  -- the local that an index names
  pub record LocalHere (x : ℕ) (t : ValueType) : Type 0 where
    pub local : Value
    pub is : slice_get o.locals x ≡ Some local
    pub type_is : type_of local ≡ t
    pub in_range : InRange local

  mapped_some : (vs : List Value) (x : ℕ) (t : ValueType) → slice_get (types_of vs) x ≡ Some t → (v : Value) × (slice_get vs x ≡ Some v) × (type_of v ≡ t)
  mapped_some [] x t e = absurd (cc)
  mapped_some (v ∷ vs) zero t e = (v, refl, cc)
  mapped_some (v ∷ vs) (suc x) t e = mapped_some vs x t e

  local_here : (x : ℕ) (t : ValueType) → slice_get (context_in o.whole o.labels).locals x ≡ Some t → LocalHere x t
  local_here x t e =
      let locals : (context_in o.whole o.labels).locals ≡ types_of o.locals = locals_in o.whole o.labels ∙ ap (λ (k : Context). k.locals) o.code.context_is ∙ sym o.typed in
      let k = mapped_some o.locals x t (ap (λ l. slice_get l x) (sym locals) ∙ e) in
      record { local = k.0; is = k.1; type_is = k.2; in_range = all_at InRange o.locals x k.0 o.locals_in_range k.1 }

  -- local.get: the slot of the local once more on top
  pub record GetHere (x : ℕ) : Type 0 where
    pub word : ℕ
    pub there : slice_get slots (a.base + x) ≡ Some word
    pub spent_here : Spent setting start spent store
    pub goes : (place : ℕ) → place ≤ length bytes → SpellsWord (drop a.at bytes) (one (plains.LocalGet x)) (drop place bytes) → On setting bytes checked start (spent + 1) (went a place a.cursor) waiting (slots ++ word ∷ []) store

  pub get_here : (x : ℕ) (more : List ℕ) → SpellsWord (drop a.at bytes) (one (plains.LocalGet x)) more → GetHere x
  get_here x more read =
      let b = plain_here setting bytes checked start spent a waiting slots store o (plains.LocalGet x) more read in
      let s = stands_as setting bytes checked start spent a waiting slots store o (plain (plains.LocalGet x) b.rest) b.is in
      let c = context_in o.whole o.labels in
      let f = found (λ t. takes_gives [] (t ∷ [])) (slice_get c.locals x) (Typed c b.rest) (types_of o.values) s.leaves s.typed in
      let w = f.typed.first in
      let v = local_here x f.item f.is in
      let type = takes_gives [] (f.item ∷ []) in
      let type_is : plain_type c (plains.LocalGet x) ≡ type = ap (of_found (λ t. takes_gives [] (t ∷ []))) f.is in
      let t : Typing c (plains.LocalGet x) b.rest (types_of o.values) s.leaves = record { type = type; type_is = type_is; left = tt; between = f.typed.between; first = w; others = f.typed.others } in
      let types : types_of (v.local ∷ o.values) ≡ f.typed.between = ap (λ y. y ∷ types_of o.values) v.type_is ∙ ap (λ l. f.item ∷ l) (w.before_is ∙ ap (λ g. g ++ w.below) w.rule.0) ∙ sym (w.after_is ∙ ap (λ g. g ++ w.below) w.rule.1) in
      let reduces : reduce_plain setting store o.locals o.values (plains.LocalGet x) b.rest ≡ leads_to 1 store o.locals (instructions (v.local ∷ o.values) b.rest) = ap (λ k. option_and_then (λ y. leads_to 1 store o.locals (instructions (y ∷ o.values) b.rest)) k) v.is in
      let pushed : slots ++ word_of v.local ∷ [] ≡ frame_words o.under o.locals ((v.local ∷ o.values) ++ belows o.labels) = ap (λ l. l ++ word_of v.local ∷ []) o.slots_are ∙ sym (frame_push o.under o.locals (o.values ++ belows o.labels) v.local) in
      let place_is : a.base + x ≡ length o.under + x = ap (λ n. n + x) o.base in
      record {
        word = word_of v.local;
        there = ap (λ l. slice_get l (a.base + x)) o.slots_are ∙ ap (λ n. slice_get (frame_words o.under o.locals (o.values ++ belows o.labels)) n) place_is ∙ frame_local o.under o.locals (o.values ++ belows o.labels) x v.local v.is;
        spent_here = plain_spent setting bytes checked start spent a waiting slots store o (plains.LocalGet x) b.rest (record { cost = 1; to = record { store = store; locals = o.locals; execution = instructions (v.local ∷ o.values) b.rest } }) b.is (staying_get x) reduces refl;
        goes = λ place within read_on. over_plain setting bytes checked start spent a waiting slots store o (plains.LocalGet x) b.rest b.is place 1 (slots ++ word_of v.local ∷ []) store o.locals (v.local ∷ o.values) t within read_on (staying_get x) refl reduces types refl pushed
            o.locals_in_range (v.in_range, o.values_in_range) o.fits;
      }

  -- local.set: the number on top into the local's slot
  pub record SetHere (x : ℕ) : Type 0 where
    pub less : a.base + x < length slots
    pub spent_here : Spent setting start spent store
    pub goes : (place : ℕ) (left : List ℕ) (word : ℕ) → place ≤ length bytes → SpellsWord (drop a.at bytes) (one (plains.LocalSet x)) (drop place bytes) → slots ≡ left ++ word ∷ [] → On setting bytes checked start (spent + 1) (went a place a.cursor) waiting (slice_set left (a.base + x) word) store

  set_types : (ls : List Value) (x : ℕ) (old v : Value) → slice_get ls x ≡ Some old → type_of v ≡ type_of old → types_of (slice_set ls x v) ≡ types_of ls
  set_types [] x old v is same = refl
  set_types (l ∷ ls) zero old v is same = let first : l ≡ old = cc in ap (λ t. t ∷ types_of ls) (same ∙ ap type_of (sym first))
  set_types (l ∷ ls) (suc x) old v is same = ap (λ ts. type_of l ∷ ts) (set_types ls x old v is same)

  pub set_here : (x : ℕ) (more : List ℕ) → SpellsWord (drop a.at bytes) (one (plains.LocalSet x)) more → SetHere x
  set_here x more read =
      let b = plain_here setting bytes checked start spent a waiting slots store o (plains.LocalSet x) more read in
      let s = stands_as setting bytes checked start spent a waiting slots store o (plain (plains.LocalSet x) b.rest) b.is in
      let c = context_in o.whole o.labels in
      let f = found (λ t. takes_gives (t ∷ []) []) (slice_get c.locals x) (Typed c b.rest) (types_of o.values) s.leaves s.typed in
      let w = f.typed.first in
      let l = local_here x f.item f.is in
      let type = takes_gives (f.item ∷ []) [] in
      let type_is : plain_type c (plains.LocalSet x) ≡ type = ap (of_found (λ t. takes_gives (t ∷ []) [])) f.is in
      let t : Typing c (plains.LocalSet x) b.rest (types_of o.values) s.leaves = record { type = type; type_is = type_is; left = tt; between = f.typed.between; first = w; others = f.typed.others } in
      let v = any_on_top f.item o.values w.below (w.before_is ∙ ap (λ g. g ++ w.below) w.rule.0) in
      let types : types_of v.others ≡ f.typed.between = v.others_are ∙ sym (w.after_is ∙ ap (λ g. g ++ w.below) w.rule.1) in
      let less = slice_get_within o.locals x l.local l.is in
      let to = leads_to 1 store (slice_set o.locals x v.top) (instructions v.others b.rest) in
      let reduces : reduce_plain setting store o.locals o.values (plains.LocalSet x) b.rest ≡ to =
      ap (λ vs. reduce_plain setting store o.locals vs (plains.LocalSet x) b.rest) v.is ∙ ap (λ k. if k then to else None) (lt-ltb x (length o.locals) less) in
      let fit = subst (λ vs. AllByRecursion InRange (vs ++ belows o.labels)) v.is o.values_in_range in
      let there = o.slots_are ∙ ap (λ vs. frame_words o.under o.locals (vs ++ belows o.labels)) v.is in
      let long = ap length o.slots_are ∙ frame_long o.under o.locals (o.values ++ belows o.labels) in
      record {
        less = omega (arith, long, less, o.base);
        spent_here = plain_spent setting bytes checked start spent a waiting slots store o (plains.LocalSet x) b.rest (record { cost = 1; to = record { store = store; locals = slice_set o.locals x v.top; execution = instructions v.others b.rest } }) b.is (staying_set x) reduces refl;
        goes = λ place left word within read_on popped.
            let p = frame_pop o.under o.locals (v.others ++ belows o.labels) v.top slots left word there popped in
            let written : slice_set left (a.base + x) word ≡ frame_words o.under (slice_set o.locals x v.top) (v.others ++ belows o.labels) =
            ap (λ l. slice_set l (a.base + x) word) p.0
            ∙ ap (λ n. slice_set (frame_words o.under o.locals (v.others ++ belows o.labels)) n word) (ap (λ n. n + x) o.base)
            ∙ ap (λ k. slice_set (frame_words o.under o.locals (v.others ++ belows o.labels)) (length o.under + x) k) p.1
            ∙ frame_set o.under o.locals (v.others ++ belows o.labels) x v.top less in
            over_plain setting bytes checked start spent a waiting slots store o (plains.LocalSet x) b.rest b.is place 1 (slice_set left (a.base + x) word) store (slice_set o.locals x v.top) v.others t within read_on (staying_set x) refl reduces types
            (set_types o.locals x l.local v.top l.is (v.type_is ∙ sym l.type_is)) written
            (all-set InRange o.locals x v.top fit.0 o.locals_in_range) fit.1 o.fits;
      }

  -- local.tee: into the local's slot, and still on top; it reduces twice
  pub record TeeHere (x : ℕ) : Type 0 where
    pub less : a.base + x < length slots
    pub spent_first : Spent setting start spent store
    pub spent_second : Spent setting start (spent + 1) store
    pub goes : (place : ℕ) (left : List ℕ) (word : ℕ) → place ≤ length bytes → SpellsWord (drop a.at bytes) (one (plains.LocalTee x)) (drop place bytes) → slots ≡ left ++ word ∷ [] → On setting bytes checked start (spent + 2) (went a place a.cursor) waiting (slice_set slots (a.base + x) word) store

  pub tee_here : (x : ℕ) (more : List ℕ) → SpellsWord (drop a.at bytes) (one (plains.LocalTee x)) more → TeeHere x
  tee_here x more read =
      let b = plain_here setting bytes checked start spent a waiting slots store o (plains.LocalTee x) more read in
      let s = stands_as setting bytes checked start spent a waiting slots store o (plain (plains.LocalTee x) b.rest) b.is in
      let c = context_in o.whole o.labels in
      let f = found (λ t. takes_gives (t ∷ []) (t ∷ [])) (slice_get c.locals x) (Typed c b.rest) (types_of o.values) s.leaves s.typed in
      let w = f.typed.first in
      let l = local_here x f.item f.is in
      let type = takes_gives (f.item ∷ []) (f.item ∷ []) in
      let type_is : plain_type c (plains.LocalTee x) ≡ type = ap (of_found (λ t. takes_gives (t ∷ []) (t ∷ []))) f.is in
      let v = any_on_top f.item o.values w.below (w.before_is ∙ ap (λ g. g ++ w.below) w.rule.0) in
      let types : types_of o.values ≡ f.typed.between = w.before_is ∙ ap (λ g. g ++ w.below) (w.rule.0 ∙ sym w.rule.1) ∙ sym w.after_is in
      let less = slice_get_within o.locals x l.local l.is in
      let locals = slice_set o.locals x v.top in
      let frames = length o.callers + 1 in
      -- the reductions
      let between = instructions (v.top ∷ v.top ∷ v.others) (plain (plains.LocalSet x) b.rest) in
      let after = instructions (v.top ∷ v.others) b.rest in
      let first_reduces : reduce_plain setting store o.locals o.values (plains.LocalTee x) b.rest ≡ leads_to 1 store o.locals between = ap (λ vs. reduce_plain setting store o.locals vs (plains.LocalTee x) b.rest) v.is in
      let to = leads_to 1 store locals after in
      let second_reduces : reduce_plain setting store o.locals (v.top ∷ v.top ∷ v.others) (plains.LocalSet x) b.rest ≡ to = ap (λ k. if k then to else None) (lt-ltb x (length o.locals) less) in
      let first_r : Reduction = record { cost = 1; to = at store o.locals between } in
      let second_r : Reduction = record { cost = 1; to = at store locals after } in
      let first_quiet : Quiet setting frames (at store o.locals (instructions o.values (plain (plains.LocalTee x) b.rest))) first_r = record { reduces = first_reduces; unended = λ end. cc; no_branch = λ depth. refl; no_return = refl } in
      let second_quiet : Quiet setting frames (at store o.locals between) second_r = record { reduces = second_reduces; unended = λ end. cc; no_branch = λ depth. refl; no_return = refl } in
      let first_step = one_step setting frames (at store o.locals (instructions o.values (plain (plains.LocalTee x) b.rest))) first_r first_quiet in
      let second_step = one_step setting frames (at store o.locals between) second_r second_quiet in
      let both = and_then setting frames (at store o.locals (instructions o.values (plain (plains.LocalTee x) b.rest))) (at store o.locals between) (at store locals after) 1 1 first_step second_step in
      let first_leads = leads_here setting bytes checked start spent a waiting slots store o (plain (plains.LocalTee x) b.rest) store o.locals between 1 b.is first_step in
      let second_spends : Spends setting frames (at store o.locals (nest o.labels between)) = spends_nest setting frames o.labels store o.locals between (record { reduction = second_r; quiet = second_quiet; one = refl }) in
      -- where it stands
      let floor = floor_in o.labels in
      let height = ap (λ y. height_by y floor (floor + length (types_of o.values))) type_is ∙ height_is type floor (types_of o.values) f.typed.between tt w in
      let long = ap length o.slots_are ∙ frame_long o.under o.locals (o.values ++ belows o.labels) in
      record {
        less = omega (arith, long, less, o.base);
        spent_first = plain_spent setting bytes checked start spent a waiting slots store o (plains.LocalTee x) b.rest first_r b.is (staying_tee x) first_reduces refl;
        spent_second = spent_after setting bytes checked start spent a waiting slots store o 1 (nest o.labels between) first_leads second_spends;
        goes = λ place left word within read_on popped.
            let m = stands_plain o.whole o.all o.labels (plains.LocalTee x) b.rest (types_of o.values) f.typed.between (drop a.at bytes) (drop place bytes) s read_on f.typed.others height in
            let cursor = cursor_moves setting bytes checked start spent a waiting slots store o place 0 within o.labels b.rest f.typed.between m in
            let there = o.slots_are ∙ ap (λ vs. frame_words o.under o.locals (vs ++ belows o.labels)) v.is in
            let p = frame_pop o.under o.locals (v.others ++ belows o.labels) v.top slots left word there popped in
            let values_are : types_of (v.top ∷ v.others) ≡ types_of o.values = ap types_of (sym v.is) in
            let fit = subst (λ vs. AllByRecursion InRange (vs ++ belows o.labels)) v.is o.values_in_range in
            let written : slice_set slots (a.base + x) word ≡ frame_words o.under locals ((v.top ∷ v.others) ++ belows o.labels) =
            ap (λ l. slice_set l (a.base + x) word) there
            ∙ ap (λ n. slice_set (frame_words o.under o.locals ((v.top ∷ v.others) ++ belows o.labels)) n word) (ap (λ n. n + x) o.base)
            ∙ ap (λ k. slice_set (frame_words o.under o.locals ((v.top ∷ v.others) ++ belows o.labels)) (length o.under + x) k) p.1
            ∙ frame_set o.under o.locals ((v.top ∷ v.others) ++ belows o.labels) x v.top less in
            on_goes setting bytes checked start spent a waiting slots store o place a.cursor 2 (slice_set slots (a.base + x) word) store b.rest (v.top ∷ v.others) o.labels locals
            (subst (λ ts. Stands o.whole o.all o.labels b.rest ts (drop place bytes)) (sym (values_are ∙ types)) m.stands) within (omega (arith, cursor))
            (set_types o.locals x l.local v.top l.is (v.type_is ∙ sym l.type_is)) written (all-set InRange o.locals x v.top fit.0 o.locals_in_range) fit o.fits
            (leads_here setting bytes checked start spent a waiting slots store o (plain (plains.LocalTee x) b.rest) store locals after 2 b.is both);
      }

  -- select: the number on top decides which of the two below it stays
  pub record SelectHere : Type 0 where
    pub deep : 2 < length o.values
    pub spent_here : Spent setting start spent store
    pub goes : (place : ℕ) (left : List ℕ) (x y condition : ℕ) → place ≤ length bytes → SpellsWord (drop a.at bytes) (one plains.Select) (drop place bytes) → slots ≡ ((left ++ x ∷ []) ++ y ∷ []) ++ condition ∷ [] → On setting bytes checked start (spent + 1) (went a place a.cursor) waiting (left ++ (if condition == 0 then y else x) ∷ []) store

  word_either : (b : Bool) (v w : Value) → (if b then word_of v else word_of w) ≡ word_of (if b then v else w)
  word_either true v w = refl
  word_either false v w = refl

  type_either : (t : ValueType) (b : Bool) (v w : Value) → type_of v ≡ t → type_of w ≡ t → type_of (if b then v else w) ≡ t
  type_either t true v w e f = e
  type_either t false v w e f = f

  fit_either : (b : Bool) (v w : Value) → InRange v → InRange w → InRange (if b then v else w)
  fit_either true v w e f = e
  fit_either false v w e f = f

  pub select_here : (more : List ℕ) → SpellsWord (drop a.at bytes) (one plains.Select) more → SelectHere
  select_here more read =
      let b = plain_here setting bytes checked start spent a waiting slots store o plains.Select more read in
      let s = stands_as setting bytes checked start spent a waiting slots store o (plain plains.Select b.rest) b.is in
      let f = s.typed.first in
      let u = f.rule.0 in
      let types : types_of o.values ≡ I32 ∷ (u ∷ (u ∷ f.below)) = f.before_is ∙ ap (λ g. g ++ f.below) f.rule.1 in
      let top = i32_on_top o.values (u ∷ (u ∷ f.below)) types in
      let rest_types : types_of top.below ≡ u ∷ (u ∷ f.below) = tail_of (types_of top.below) (u ∷ (u ∷ f.below)) (ap types_of (sym top.is) ∙ types) in
      let upper = any_on_top u top.below (u ∷ f.below) rest_types in
      let lower = any_on_top u upper.others f.below upper.others_are in
      let whole : o.values ≡ value.I32 top.number ∷ upper.top ∷ lower.top ∷ lower.others = top.is ∙ ap (λ l. value.I32 top.number ∷ l) (upper.is ∙ ap (λ l. upper.top ∷ l) lower.is) in
      let fit = subst (λ vs. AllByRecursion InRange (vs ++ belows o.labels)) whole o.values_in_range in
      let chosen = if top.number == 0 then upper.top else lower.top in
      let reduces : reduce_plain setting store o.locals o.values plains.Select b.rest ≡ leads_to 1 store o.locals (instructions (chosen ∷ lower.others) b.rest) = ap (λ vs. reduce_plain setting store o.locals vs plains.Select b.rest) whole in
      let t : Typing (context_in o.whole o.labels) plains.Select b.rest (types_of o.values) s.leaves = record { type = selects; type_is = refl; left = tt; between = s.typed.between; first = f; others = s.typed.others } in
      let left_types : types_of (chosen ∷ lower.others) ≡ s.typed.between = ap (λ y. y ∷ types_of lower.others) (type_either u (top.number == 0) upper.top lower.top upper.type_is lower.type_is) ∙ ap (λ l. u ∷ l) lower.others_are ∙ sym (f.after_is ∙ ap (λ g. g ++ f.below) f.rule.2) in
      let base = lower.others ++ belows o.labels in
      let there = o.slots_are ∙ ap (λ vs. frame_words o.under o.locals (vs ++ belows o.labels)) whole in
      let long : length o.values ≡ suc (suc (suc (length lower.others))) = ap length whole in
      record {
        deep = omega (arith, long);
        spent_here = plain_spent setting bytes checked start spent a waiting slots store o plains.Select b.rest (record { cost = 1; to = at store o.locals (instructions (chosen ∷ lower.others) b.rest) }) b.is staying_select reduces refl;
        goes = λ place left x y condition within read_on popped.
            let p = frame_pop o.under o.locals (upper.top ∷ lower.top ∷ base) (value.I32 top.number) slots ((left ++ x ∷ []) ++ y ∷ []) condition there popped in
            let q = frame_pop o.under o.locals (lower.top ∷ base) upper.top ((left ++ x ∷ []) ++ y ∷ []) (left ++ x ∷ []) y p.0 refl in
            let r = frame_pop o.under o.locals base lower.top (left ++ x ∷ []) left x q.0 refl in
            let same : (if condition == 0 then y else x) ≡ word_of chosen = ap (λ n. if n == 0 then y else x) p.1 ∙ ap (λ n. if top.number == 0 then n else x) q.1 ∙ ap (λ n. if top.number == 0 then word_of upper.top else n) r.1 ∙ word_either (top.number == 0) upper.top lower.top in
            let pushed : left ++ (if condition == 0 then y else x) ∷ [] ≡ frame_words o.under o.locals ((chosen ∷ lower.others) ++ belows o.labels) = ap (λ l. l ++ (if condition == 0 then y else x) ∷ []) r.0 ∙ ap (λ n. frame_words o.under o.locals base ++ n ∷ []) same ∙ sym (frame_push o.under o.locals base chosen) in
            over_plain setting bytes checked start spent a waiting slots store o plains.Select b.rest b.is place 1 (left ++ (if condition == 0 then y else x) ∷ []) store o.locals (chosen ∷ lower.others) t within read_on staying_select refl reduces left_types refl pushed
            o.locals_in_range (fit_either (top.number == 0) upper.top lower.top fit.1.0 fit.1.1.0, fit.1.1.1) o.fits;
      }
