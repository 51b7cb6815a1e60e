-- Which operands can be there, before and behind one instruction.
use Rattle.std.proofs.Common.{◌≡◌, ℕ, List, [], ◌∷◌, ◌++◌, Bool, true, false, Option, Some, None, map, refl, sym, ap, ◌∙◌, subst, append_assoc}
use Rattle.std.specs.Prelude.{option_and_then, option_map, ◌&&◌, if◌then◌else◌, slice_get}
use Rattle.std.specs.List.{AllByRecursion, list_all}
use Rattle.std.proofs.lemmas.List.{append-nil}
use Rattle.wcode.specs.declared.value.ValueType.{ValueType}
use Rattle.wcode.specs.declared.value.ValueType.TheVariants.{I32, I64}
use Rattle.wbody.specs.Context.{Operands, Context}
use Rattle.wbody.specs.Typing.{PlainType, takes_gives, drops, selects, ends, untyped, of_found, only_where, Rule, TypeAllows, TableTyped, Weakened}
use Rattle.wbody.specs.Pass.{same_type, same_types}
use Rattle.wbody.specs.inside.Pass.{Stack, unreached, may_be, fit_operands, fits, take_types, taken, given, drop_top, common, join_top, pass_type, carries_these, table_type}

-- ---- tests and options

pub both_true : (a b : Bool) → (a && b) ≡ true → (a ≡ true) × (b ≡ true)
both_true true true e = (refl, refl)
both_true true false e = absurd (cc)
both_true false b e = absurd (cc)

pub and_true : (a b : Bool) → a ≡ true → b ≡ true → (a && b) ≡ true
and_true true true e f = refl
and_true true false e f = absurd (cc)
and_true false b e f = absurd (cc)

-- a chain of two that gives something, gives something in the middle
pub record Through {A B : Type 0} (f : A → Option B) (o : Option A) (y : B) : Type 0 where
  pub mid : A
  pub first : o ≡ Some mid
  pub second : f mid ≡ Some y

pub through : {A B : Type 0} (f : A → Option B) (o : Option A) (y : B) → option_and_then f o ≡ Some y → Through f o y
through f None y e = absurd (cc)
through f (Some x) y e = record { mid = x; first = refl; second = e }

pub record Mapped {A B : Type 0} (f : A → B) (o : Option A) (y : B) : Type 0 where
  pub from : A
  pub first : o ≡ Some from
  pub second : f from ≡ y

pub mapped : {A B : Type 0} (f : A → B) (o : Option A) (y : B) → option_map f o ≡ Some y → Mapped f o y
mapped f None y e = absurd (cc)
mapped f (Some x) y e = record { from = x; first = refl; second = cc }

-- a value that is given under a test
pub under : {A : Type 0} (b : Bool) (x y : A) → (if b then Some x else None) ≡ Some y → (b ≡ true) × (x ≡ y)
under true x y e = (refl, cc)
under false x y e = absurd (cc)

pub when_true : {A : Type 0} (b : Bool) (x y : A) → b ≡ true → (if b then x else y) ≡ x
when_true true x y e = refl
when_true false x y e = absurd (cc)

-- ---- types

pub same_type_is : (t u : ValueType) → same_type t u ≡ true → t ≡ u
same_type_is I32 I32 e = refl
same_type_is I32 I64 e = absurd (cc)
same_type_is I64 I32 e = absurd (cc)
same_type_is I64 I64 e = refl

pub same_type-same : (t : ValueType) → same_type t t ≡ true
same_type-same I32 = refl
same_type-same I64 = refl

pub same_types_are : (ts us : Operands) → same_types ts us ≡ true → ts ≡ us
same_types_are [] [] e = refl
same_types_are [] (u ∷ us) e = absurd (cc)
same_types_are (t ∷ ts) [] e = absurd (cc)
same_types_are (t ∷ ts) (u ∷ us) e =
    let b = both_true (same_type t u) (same_types ts us) e in
    ap (λ x. x ∷ ts) (same_type_is t u b.0) ∙ ap (λ xs. u ∷ xs) (same_types_are ts us b.1)

pub same_types-same : (ts : Operands) → same_types ts ts ≡ true
same_types-same [] = refl
same_types-same (t ∷ ts) = and_true (same_type t t) (same_types ts ts) (same_type-same t) (same_types-same ts)

-- ---- operands that can be there

-- some can always be
pub record SomeFit (xs : List (Option ValueType)) (r : Bool) : Type 0 where
  pub types : Operands
  pub fit : fit_operands xs r types ≡ true

pub some_fit : (xs : List (Option ValueType)) (r : Bool) → SomeFit xs r
some_fit [] r = record { types = []; fit = refl }
some_fit (None ∷ xs) r = let more = some_fit xs r in record { types = I32 ∷ more.types; fit = more.fit }
some_fit (Some t ∷ xs) r =
    let more = some_fit xs r in
    record { types = t ∷ more.types; fit = and_true (same_type t t) (fit_operands xs r more.types) (same_type-same t) more.fit }

-- where nothing is reached, any can be
pub any_fit : (types : Operands) → fit_operands [] false types ≡ true
any_fit [] = refl
any_fit (t ∷ ts) = refl

-- and any can be taken
pub any_taken : (types : Operands) → taken types unreached ≡ Some unreached
any_taken [] = refl
any_taken (t ∷ ts) = any_taken ts

-- where all is reached and nothing is there, none can be
pub none_fit : (types : Operands) → fit_operands [] true types ≡ true → types ≡ []
none_fit [] e = refl
none_fit (t ∷ ts) e = absurd (cc)

-- those that were there before some were taken off
pub before_taken : (ts : Operands) (xs : List (Option ValueType)) (r : Bool) (s : Stack) (more : Operands) → take_types ts xs r ≡ Some s → fits s more ≡ true → fit_operands xs r (ts ++ more) ≡ true
before_taken [] xs r s more e f =
    let same : record { operands = xs; reached = r } ≡ s = cc in
    subst (λ (x : Stack). fits x more ≡ true) (sym same) f
before_taken (t ∷ ts) [] true s more e f = absurd (cc)
before_taken (t ∷ ts) [] false s more e f = refl
before_taken (t ∷ ts) (x ∷ xs) r s more e f =
    let b = through_test (may_be t x) (take_types ts xs r) s e in
    and_true (may_be t x) (fit_operands xs r (ts ++ more)) b.0 (before_taken ts xs r s more b.1 f)
  where
    through_test : (b : Bool) (o : Option Stack) (s : Stack) → (if b then o else None) ≡ Some s → (b ≡ true) × (o ≡ Some s)
    through_test true o s e = (refl, e)
    through_test false o s e = absurd (cc)

-- some were taken off
pub record Taken (ts : Operands) (xs : List (Option ValueType)) (r : Bool) (more : Operands) : Type 0 where
  pub left : Stack
  pub is : take_types ts xs r ≡ Some left
  pub fit : fits left more ≡ true

-- nothing is missing of operands that can be there
pub can_take : (ts : Operands) (xs : List (Option ValueType)) (r : Bool) (more : Operands) → fit_operands xs r (ts ++ more) ≡ true → Taken ts xs r more
can_take [] xs r more f = record { left = record { operands = xs; reached = r }; is = refl; fit = f }
can_take (t ∷ ts) [] true more f = absurd (cc)
can_take (t ∷ ts) [] false more f =
    let all = can_take ts [] false more (any_fit (ts ++ more)) in
    record { left = all.left; is = all.is; fit = all.fit }
can_take (t ∷ ts) (x ∷ xs) r more f =
    let b = both_true (may_be t x) (fit_operands xs r (ts ++ more)) f in
    let others = can_take ts xs r more b.1 in
    record { left = others.left; is = when_true (may_be t x) (take_types ts xs r) None b.0 ∙ others.is; fit = others.fit }

-- those that are there with others on top
pub record Given (ts : Operands) (xs : List (Option ValueType)) (r : Bool) (after : Operands) : Type 0 where
  pub more : Operands
  pub is : after ≡ ts ++ more
  pub fit : fit_operands xs r more ≡ true

pub were_given : (ts : Operands) (xs : List (Option ValueType)) (r : Bool) (after : Operands) → fit_operands (map Some ts ++ xs) r after ≡ true → Given ts xs r after
were_given [] xs r after f = record { more = after; is = refl; fit = f }
were_given (t ∷ ts) xs r [] f = absurd (cc)
were_given (t ∷ ts) xs r (u ∷ us) f =
    let b = both_true (same_type u t) (fit_operands (map Some ts ++ xs) r us) f in
    let others = were_given ts xs r us b.1 in
    record { more = others.more; is = ap (λ x. x ∷ us) (same_type_is u t b.0) ∙ ap (λ l. t ∷ l) others.is; fit = others.fit }

pub can_give : (ts : Operands) (xs : List (Option ValueType)) (r : Bool) (more : Operands) → fit_operands xs r more ≡ true → fit_operands (map Some ts ++ xs) r (ts ++ more) ≡ true
can_give [] xs r more f = f
can_give (t ∷ ts) xs r more f =
    and_true (same_type t t) (fit_operands (map Some ts ++ xs) r (ts ++ more)) (same_type-same t) (can_give ts xs r more f)

-- ---- one instruction

-- what can be there before it, for what is to be there behind it
pub record Before (rule : Rule) (s : Stack) (after : Operands) : Type 0 where
  pub before : Operands
  pub fit : fits s before ≡ true
  pub typed : Weakened rule before after

-- what is known behind it, where this can be there before it and that behind it
pub record Behind (type : PlainType) (s : Stack) (after : Operands) : Type 0 where
  pub behind : Stack
  pub is : pass_type type s ≡ Some behind
  pub fit : fits behind after ≡ true

dropped : (xs : List (Option ValueType)) (r : Bool) (s' : Stack) (after : Operands) → drop_top xs r ≡ Some s' → fits s' after ≡ true → Before (TypeAllows drops) (record { operands = xs; reached = r }) after
dropped [] true s' after e f = absurd (cc)
dropped [] false s' after e f =
    record { before = I32 ∷ after; fit = refl; typed = record { takes = I32 ∷ []; gives = []; below = after; rule = (I32, refl, refl); before_is = refl; after_is = refl } }
dropped (None ∷ xs) r s' after e f =
    let same : record { operands = xs; reached = r } ≡ s' = cc in
    record {
      before = I32 ∷ after;
      fit = subst (λ (x : Stack). fits x after ≡ true) (sym same) f;
      typed = record { takes = I32 ∷ []; gives = []; below = after; rule = (I32, refl, refl); before_is = refl; after_is = refl };
    }
dropped (Some t ∷ xs) r s' after e f =
    let same : record { operands = xs; reached = r } ≡ s' = cc in
    record {
      before = t ∷ after;
      fit = and_true (same_type t t) (fit_operands xs r after) (same_type-same t) (subst (λ (x : Stack). fits x after ≡ true) (sym same) f);
      typed = record { takes = t ∷ []; gives = []; below = after; rule = (t, refl, refl); before_is = refl; after_is = refl };
    }

-- an operand that is both can be what each can be
both_may_be : (x y z : Option ValueType) (t : ValueType) → common x y ≡ Some z → may_be t z ≡ true → (may_be t x ≡ true) × (may_be t y ≡ true)
both_may_be None y z t e f = let same : y ≡ z = cc in (refl, subst (λ (o : Option ValueType). may_be t o ≡ true) (sym same) f)
both_may_be (Some u) None z t e f = let same : Some u ≡ z = cc in (subst (λ (o : Option ValueType). may_be t o ≡ true) (sym same) f, refl)
both_may_be (Some u) (Some v) z t e f =
    let b = under (same_type u v) (Some u) z e in
    let is_u : may_be t (Some u) ≡ true = subst (λ (o : Option ValueType). may_be t o ≡ true) (sym b.1) f in
    (is_u, subst (λ w. same_type t w ≡ true) (same_type_is u v b.0) is_u)

joined : (xs : List (Option ValueType)) (r : Bool) (s' : Stack) (after : Operands) → join_top xs r ≡ Some s' → fits s' after ≡ true → (t : ValueType) × (more : Operands) × (after ≡ t ∷ more) × (fit_operands xs r (t ∷ t ∷ more) ≡ true)
joined [] true s' after e f = absurd (cc)
joined [] false s' [] e f =
    let same : record { operands = None ∷ []; reached = false } ≡ s' = cc in
    let g : fit_operands (None ∷ []) false [] ≡ true = subst (λ (x : Stack). fits x [] ≡ true) (sym same) f in absurd (cc)
joined [] false s' (t ∷ more) e f = (t, more, refl, refl)
joined (x ∷ []) true s' after e f = absurd (cc)
joined (x ∷ []) false s' [] e f =
    let same : record { operands = x ∷ []; reached = false } ≡ s' = cc in
    let g : fit_operands (x ∷ []) false [] ≡ true = subst (λ (x : Stack). fits x [] ≡ true) (sym same) f in absurd (cc)
joined (x ∷ []) false s' (t ∷ more) e f =
    let same : record { operands = x ∷ []; reached = false } ≡ s' = cc in
    let g : fit_operands (x ∷ []) false (t ∷ more) ≡ true = subst (λ (x : Stack). fits x (t ∷ more) ≡ true) (sym same) f in
    let b = both_true (may_be t x) (fit_operands [] false more) g in
    (t, more, refl, and_true (may_be t x) (fit_operands [] false (t ∷ more)) b.0 refl)
joined (x ∷ y ∷ xs) r s' after e f =
    let m = mapped (λ z. record { operands = z ∷ xs; reached = r }) (common x y) s' e in
    joined_two x y m.from xs r after m.first (subst (λ (x : Stack). fits x after ≡ true) (sym m.second) f)
  where
    joined_two : (x y z : Option ValueType) (xs : List (Option ValueType)) (r : Bool) (after : Operands) → common x y ≡ Some z → fit_operands (z ∷ xs) r after ≡ true → (t : ValueType) × (more : Operands) × (after ≡ t ∷ more) × (fit_operands (x ∷ y ∷ xs) r (t ∷ t ∷ more) ≡ true)
    joined_two x y z xs r [] e f = absurd (cc)
    joined_two x y z xs r (t ∷ more) e f =
        let b = both_true (may_be t z) (fit_operands xs r more) f in
        let c = both_may_be x y z t e b.0 in
        (t, more, refl, and_true (may_be t x) (may_be t y && fit_operands xs r more) c.0 (and_true (may_be t y) (fit_operands xs r more) c.1 b.1))

-- For each operands that can be behind an instruction there are some before it between which it has
-- a typing.
pub before_type : (type : PlainType) (s s' : Stack) (after : Operands) → pass_type type s ≡ Some s' → fits s' after ≡ true → Before (TypeAllows type) s after
before_type (takes_gives takes gives) s s' after e f =
    let m = mapped (given gives) (taken takes s) s' e in
    let g = were_given gives m.from.operands m.from.reached after (subst (λ (x : Stack). fits x after ≡ true) (sym m.second) f) in
    record {
      before = takes ++ g.more;
      fit = before_taken takes s.operands s.reached m.from g.more m.first g.fit;
      typed = record { takes = takes; gives = gives; below = g.more; rule = (refl, refl); before_is = refl; after_is = g.is };
    }
before_type drops s s' after e f = dropped s.operands s.reached s' after e f
before_type selects s s' after e f =
    let a = through (λ (two : Stack). join_top two.operands two.reached) (taken (I32 ∷ []) s) s' e in
    let j = joined a.mid.operands a.mid.reached s' after a.second f in
    record {
      before = I32 ∷ j.0 ∷ j.0 ∷ j.1;
      fit = before_taken (I32 ∷ []) s.operands s.reached a.mid (j.0 ∷ j.0 ∷ j.1) a.first j.3;
      typed = record { takes = I32 ∷ j.0 ∷ j.0 ∷ []; gives = j.0 ∷ []; below = j.1; rule = (j.0, refl, refl); before_is = refl; after_is = j.2 };
    }
before_type (ends takes) s s' after e f =
    let m = mapped (λ (left : Stack). unreached) (taken takes s) s' e in
    let some = some_fit m.from.operands m.from.reached in
    record {
      before = takes ++ some.types;
      fit = before_taken takes s.operands s.reached m.from some.types m.first some.fit;
      typed = record { takes = takes ++ some.types; gives = after; below = []; rule = (some.types, refl); before_is = sym (append-nil (takes ++ some.types)); after_is = sym (append-nil after) };
    }
before_type untyped s s' after e f = absurd (cc)

-- an operand of a type that each of two may be is one that both may be
can_be_both : (x y : Option ValueType) (t : ValueType) → may_be t x ≡ true → may_be t y ≡ true → (z : Option ValueType) × (common x y ≡ Some z) × (may_be t z ≡ true)
can_be_both None y t a b = (y, refl, b)
can_be_both (Some u) None t a b = (Some u, refl, a)
can_be_both (Some u) (Some v) t a b =
    let same : u ≡ v = sym (same_type_is t u a) ∙ same_type_is t v b in
    let test : same_type u v ≡ true = subst (λ w. same_type u w ≡ true) same (same_type-same u) in
    (Some u, when_true (same_type u v) (Some (Some u)) None test, a)

can_drop : (xs : List (Option ValueType)) (r : Bool) (t : ValueType) (more : Operands) → fit_operands xs r (t ∷ more) ≡ true → (s : Stack) × (drop_top xs r ≡ Some s) × (fits s more ≡ true)
can_drop [] true t more f = absurd (cc)
can_drop [] false t more f = (unreached, refl, any_fit more)
can_drop (x ∷ xs) r t more f =
    let b = both_true (may_be t x) (fit_operands xs r more) f in
    (record { operands = xs; reached = r }, refl, b.1)

can_join : (xs : List (Option ValueType)) (r : Bool) (t : ValueType) (more : Operands) → fit_operands xs r (t ∷ t ∷ more) ≡ true → (s : Stack) × (join_top xs r ≡ Some s) × (fits s (t ∷ more) ≡ true)
can_join [] true t more f = absurd (cc)
can_join [] false t more f = (record { operands = None ∷ []; reached = false }, refl, any_fit more)
can_join (x ∷ []) true t more f =
    let b = both_true (may_be t x) (fit_operands [] true (t ∷ more)) f in absurd (let no : fit_operands [] true (t ∷ more) ≡ true = b.1 in cc)
can_join (x ∷ []) false t more f =
    let b = both_true (may_be t x) (fit_operands [] false (t ∷ more)) f in
    (record { operands = x ∷ []; reached = false }, refl, and_true (may_be t x) (fit_operands [] false more) b.0 (any_fit more))
can_join (x ∷ y ∷ xs) r t more f =
    let b = both_true (may_be t x) (may_be t y && fit_operands xs r more) f in
    let c = both_true (may_be t y) (fit_operands xs r more) b.1 in
    let z = can_be_both x y t b.0 c.0 in
    (record { operands = z.0 ∷ xs; reached = r }, ap (option_map (λ (o : Option ValueType). record { operands = o ∷ xs; reached = r })) z.1, and_true (may_be t z.0) (fit_operands xs r more) z.2 c.1)

-- An instruction that has a typing from operands that can be there is passed, and what it leaves
-- can be behind it.
pub behind_type : (type : PlainType) (s : Stack) (before after : Operands) → Weakened (TypeAllows type) before after → fits s before ≡ true → Behind type s after
behind_type (takes_gives takes gives) s before after w f =
    let before_is : before ≡ takes ++ w.below = w.before_is ∙ ap (λ l. l ++ w.below) w.rule.0 in
    let after_is : gives ++ w.below ≡ after = ap (λ l. l ++ w.below) (sym w.rule.1) ∙ sym w.after_is in
    let t = can_take takes s.operands s.reached w.below (subst (λ (l : Operands). fits s l ≡ true) before_is f) in
    record {
      behind = given gives t.left;
      is = ap (option_map (given gives)) t.is;
      fit = subst (λ (l : Operands). fits (given gives t.left) l ≡ true) after_is (can_give gives t.left.operands t.left.reached w.below t.fit);
    }
behind_type drops s before after w f =
    let t = w.rule.0 in
    let before_is : before ≡ t ∷ w.below = w.before_is ∙ ap (λ l. l ++ w.below) w.rule.1 in
    let after_is : w.below ≡ after = sym (w.after_is ∙ ap (λ l. l ++ w.below) w.rule.2) in
    let d = can_drop s.operands s.reached t w.below (subst (λ (l : Operands). fits s l ≡ true) before_is f) in
    record { behind = d.0; is = d.1; fit = subst (λ (l : Operands). fits d.0 l ≡ true) after_is d.2 }
behind_type selects s before after w f =
    let t = w.rule.0 in
    let before_is : before ≡ I32 ∷ t ∷ t ∷ w.below = w.before_is ∙ ap (λ l. l ++ w.below) w.rule.1 in
    let after_is : t ∷ w.below ≡ after = sym (w.after_is ∙ ap (λ l. l ++ w.below) w.rule.2) in
    let k = can_take (I32 ∷ []) s.operands s.reached (t ∷ t ∷ w.below) (subst (λ (l : Operands). fits s l ≡ true) before_is f) in
    let j = can_join k.left.operands k.left.reached t w.below k.fit in
    record { behind = j.0; is = ap (option_and_then (λ (two : Stack). join_top two.operands two.reached)) k.is ∙ j.1; fit = subst (λ (l : Operands). fits j.0 l ≡ true) after_is j.2 }
behind_type (ends takes) s before after w f =
    let before_is : before ≡ takes ++ (w.rule.0 ++ w.below) = w.before_is ∙ ap (λ l. l ++ w.below) w.rule.1 ∙ append_assoc takes w.rule.0 w.below in
    let t = can_take takes s.operands s.reached (w.rule.0 ++ w.below) (subst (λ (l : Operands). fits s l ≡ true) before_is f) in
    record { behind = unreached; is = ap (option_map (λ (left : Stack). unreached)) t.is; fit = any_fit after }
behind_type untyped s before after w f = absurd w.rule

-- ---- a branch by an index

pub all_carry : (c : Context) (types : Operands) (labels : List ℕ) → list_all (λ l. carries_these types (slice_get c.labels l)) labels ≡ true → AllByRecursion (λ l. slice_get c.labels l ≡ Some types) labels
all_carry c types [] e = tt
all_carry c types (l ∷ ls) e =
    let b = both_true (carries_these types (slice_get c.labels l)) (list_all (λ l. carries_these types (slice_get c.labels l)) ls) e in
    (these (slice_get c.labels l) types b.0, all_carry c types ls b.1)
  where
    these : (o : Option Operands) (types : Operands) → carries_these types o ≡ true → o ≡ Some types
    these None types e = absurd (cc)
    these (Some us) types e = ap Some (same_types_are us types e)

pub carry_all : (c : Context) (types : Operands) (labels : List ℕ) → AllByRecursion (λ l. slice_get c.labels l ≡ Some types) labels → list_all (λ l. carries_these types (slice_get c.labels l)) labels ≡ true
carry_all c types [] a = refl
carry_all c types (l ∷ ls) a =
    and_true (carries_these types (slice_get c.labels l)) (list_all (λ l. carries_these types (slice_get c.labels l)) ls)
    (subst (λ o. carries_these types o ≡ true) (sym a.0) (same_types-same types)) (carry_all c types ls a.1)

where_true : (b : Bool) (type : PlainType) (takes gives : Operands) → TypeAllows (only_where b type) takes gives → (b ≡ true) × TypeAllows type takes gives
where_true true type takes gives a = (refl, a)
where_true false type takes gives a = absurd a

-- the type of a branch by an index says just its rule
pub table_allows : (c : Context) (labels : List ℕ) (default : ℕ) (takes gives : Operands) → TypeAllows (table_type c labels default) takes gives → TableTyped c labels default takes gives
table_allows c labels default takes gives a = found (slice_get c.labels default) refl a
  where
    found : (o : Option Operands) → slice_get c.labels default ≡ o → TypeAllows (of_found (λ carries. only_where (list_all (λ l. carries_these carries (slice_get c.labels l)) labels) (ends (I32 ∷ carries))) o) takes gives → TableTyped c labels default takes gives
    found None e a = absurd a
    found (Some carries) e a =
        let w = where_true (list_all (λ l. carries_these carries (slice_get c.labels l)) labels) (ends (I32 ∷ carries)) takes gives a in
        (carries, e, all_carry c carries labels w.0, w.1)

pub table_allowed : (c : Context) (labels : List ℕ) (default : ℕ) (takes gives : Operands) → TableTyped c labels default takes gives → TypeAllows (table_type c labels default) takes gives
table_allowed c labels default takes gives t =
    let type : Option Operands → PlainType = of_found (λ carries. only_where (list_all (λ l. carries_these carries (slice_get c.labels l)) labels) (ends (I32 ∷ carries))) in
    let is : type (slice_get c.labels default) ≡ ends (I32 ∷ t.0) =
    ap type t.1 ∙ when_true (list_all (λ l. carries_these t.0 (slice_get c.labels l)) labels) (ends (I32 ∷ t.0)) untyped (carry_all c t.0 labels t.2) in
    subst (λ (x : PlainType). TypeAllows x takes gives) (sym is) t.3
