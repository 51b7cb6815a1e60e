-- What the operands come to, where some are taken off and one is put on top.
use Rattle.std.proofs.Common.{◌≡◌, ℕ, ◌+◌, ◌<◌, ◌≤◌, List, [], ◌∷◌, ◌++◌, Bool, true, false, Option, Some, None, Result, Ok, Err, IsSome, length, drop, take, reverse, max, vec_len, refl, sym, ap, ◌∙◌, subst, arith}
use Rattle.std.specs.Option.{option_to_list}
use Rattle.std.proofs.lemmas.List.{drop-append-le, take-append-le, drop_all, take_all, length-take, reverse-append}
use Rattle.std.specs.Prelude.{option_and_then, option_map, if◌then◌else◌}
use Rattle.wcode.specs.declared.value.ValueType.{ValueType}
use Rattle.wcode.specs.declared.value.ValueType.TheVariants.{I32}
use Rattle.wbody.specs.declared.operand_stack.OperandStack.{OperandStack}
use Rattle.wbody.specs.declared.stop.Stop.{Stop}
use Rattle.wbody.specs.declared.stop.Stop.TheVariants as stops
use Rattle.wbody.specs.Context.{Operands}
use Rattle.wbody.specs.Typing.{takes_gives, drops, selects, ends}
use Rattle.wbody.specs.inside.Pass.{Stack, unreached, may_be, take_types, taken, given, drop_top, common, join_top}
use Rattle.wbody.specs.inside.OperandStack.{stack_of, SameBlock, top_of, pushed, TakesTop, Takes, Gives, Changes}

-- the greatest number stays where none is put on top
still : (s n : OperandStack) → n.greatest ≡ s.greatest → n.greatest ≡ max s.greatest (vec_len n.items)
still s n kept = let enough = n.enough in omega (arith, kept, enough)

-- ---- taking

-- a block that stays the same twice stays the same
pub same_on : (s m n : OperandStack) → SameBlock s m → SameBlock m n → SameBlock s n
same_on s m n a b = record { floor = b.floor ∙ a.floor; below = b.below ∙ a.below }

-- one was popped off those of the innermost block
pub popped : (s n : OperandStack) (r : Option (Option ValueType)) → n.floor ≡ s.floor → n.reached ≡ s.reached → n.greatest ≡ s.greatest → s.floor < vec_len s.items → s.items.items ≡ n.items.items ++ option_to_list r → vec_len n.items + length (option_to_list r) ≡ vec_len s.items → IsSome r
    → TakesTop r s n
popped s n None floor reached great more items len is = absurd (let none : false ≡ true = is in cc)
popped s n (Some x) floor reached great more items len is =
    let within : s.floor ≤ length n.items.items = (let one : vec_len n.items + 1 ≡ vec_len s.items = len in omega (arith, more, one, n.items.ok.0)) in
    let inner : drop s.floor s.items.items ≡ drop s.floor n.items.items ++ x ∷ [] = ap (drop s.floor) items ∙ drop-append-le s.floor n.items.items (x ∷ []) within in
    let operands : (stack_of s).operands ≡ x ∷ (stack_of n).operands =
    ap (λ (l : List (Option ValueType)). reverse l) inner ∙ reverse-append (drop s.floor n.items.items) (x ∷ []) ∙ ap (λ f. x ∷ reverse (drop f n.items.items)) (sym floor) in
    record {
      taken = ap (λ (l : List (Option ValueType)). drop_top l s.reached) operands ∙ ap (λ r. let y : Stack = record { operands = (stack_of n).operands; reached = r } in Some y) (sym reached);
      top = ap top_of (sym operands);
      missing = λ e. absurd (cc);
      same = record { floor = floor; below = ap (λ f. take f n.items.items) floor ∙ sym (ap (take s.floor) items ∙ take-append-le s.floor n.items.items (x ∷ []) within) };
      greatest = great;
    }

-- those of the innermost block are none
none_inside : (s : OperandStack) → vec_len s.items ≤ s.floor → (stack_of s).operands ≡ []
none_inside s few =
    let past : length s.items.items ≤ s.floor = omega (arith, few, s.items.ok.0) in
    ap (λ (l : List (Option ValueType)). reverse l) (drop_all s.floor s.items.items past)

pub none_to_pop : (s : OperandStack) → vec_len s.items ≤ s.floor → s.reached ≡ true → TakesTop None s s
none_to_pop s few is =
    record {
      taken = tt;
      top = tt;
      missing = λ e. ap (λ (l : List (Option ValueType)). drop_top l s.reached) (none_inside s few) ∙ ap (drop_top []) is;
      same = tt;
      greatest = refl;
    }

pub any_to_pop : (s : OperandStack) → vec_len s.items ≤ s.floor → s.reached ≡ false → TakesTop (Some None) s s
any_to_pop s few is =
    let none = none_inside s few in
    record {
      taken = ap (λ (l : List (Option ValueType)). drop_top l s.reached) none ∙ ap (drop_top []) is ∙ ap (λ r. let y : Stack = record { operands = []; reached = r } in Some y) (sym is)
          ∙ ap (λ l. let y : Stack = record { operands = l; reached = s.reached } in Some y) (sym none);
      top = ap top_of (sym none);
      missing = λ e. absurd (cc);
      same = record { floor = refl; below = refl };
      greatest = refl;
    }

-- without those of the innermost block, none of it is there, and those below are
pub none_behind : (items new : List (Option ValueType)) (k : ℕ) → new ≡ take k items → drop k new ≡ []
none_behind items new k is = ap (drop k) is ∙ drop_all k (take k items) (omega (arith, length-take k items))

pub same_below : (items new : List (Option ValueType)) (k : ℕ) → new ≡ take k items → take k new ≡ take k items
same_below items new k is = ap (take k) is ∙ take_all k (take k items) (omega (arith, length-take k items))

pub emptied : (items new : List (Option ValueType)) (k : ℕ) (reached : Bool) → new ≡ take k items → record { operands = reverse (drop k new); reached = reached } ≡ (let none : Stack = record { operands = []; reached = reached } in none)
emptied items new k reached is = ap (λ l. let s : Stack = record { operands = reverse l; reached = reached } in s) (none_behind items new k is)

-- what is taken by its type is the topmost one
dropped : (t : ValueType) (xs : List (Option ValueType)) (r : Bool) (m : Stack) → drop_top xs r ≡ Some m → take_types (t ∷ []) xs r ≡ (if may_be t (top_of xs) then Some m else None)
dropped t [] true m e = absurd (cc)
dropped t [] false m e = e
dropped t (x ∷ xs) r m e = ap (λ (o : Option Stack). if may_be t x then o else None) e

none_dropped : (t : ValueType) (xs : List (Option ValueType)) (r : Bool) → drop_top xs r ≡ None → take_types (t ∷ []) xs r ≡ None
none_dropped t [] true e = refl
none_dropped t [] false e = absurd (cc)
none_dropped t (x ∷ xs) r e = absurd (cc)

-- one was taken off by its type, or it is of another
pub one_taken : (t : ValueType) (x : Option ValueType) (did : Bool) (s n : OperandStack) → drop_top (stack_of s).operands (stack_of s).reached ≡ Some (stack_of n) → x ≡ top_of (stack_of s).operands → did ≡ may_be t x → SameBlock s n → n.greatest ≡ s.greatest
    → Takes (t ∷ []) did s n
one_taken t x did s n e top by same greatest =
    let is : taken (t ∷ []) (stack_of s) ≡ (if did then Some (stack_of n) else None) =
    dropped t (stack_of s).operands s.reached (stack_of n) e ∙ ap (λ (b : Bool). if b then Some (stack_of n) else None) (ap (may_be t) (sym top) ∙ sym by) in
    record {
      done = λ d. is ∙ ap (λ (b : Bool). if b then Some (stack_of n) else None) d;
      missing = λ d. is ∙ ap (λ (b : Bool). if b then Some (stack_of n) else None) d;
      same = λ d. same;
      greatest = greatest;
    }

pub none_taken : (t : ValueType) (s n : OperandStack) → drop_top (stack_of s).operands (stack_of s).reached ≡ None → n.greatest ≡ s.greatest → Takes (t ∷ []) false s n
none_taken t s n e greatest =
    record {
      done = λ d. absurd (cc);
      missing = λ d. none_dropped t (stack_of s).operands s.reached e;
      same = λ d. absurd (cc);
      greatest = greatest;
    }

-- to take some and then others is to take them all
take_on : (ts us : Operands) (xs : List (Option ValueType)) (r : Bool) → take_types (ts ++ us) xs r ≡ option_and_then (taken us) (take_types ts xs r)
take_on [] us xs r = refl
take_on (t ∷ ts) us [] true = refl
take_on (t ∷ ts) us [] false = take_on ts us [] false
take_on (t ∷ ts) us (x ∷ xs) r = by_test (may_be t x) (take_types ts xs r) us (take_types (ts ++ us) xs r) (take_on ts us xs r)
  where
    by_test : (b : Bool) (some : Option Stack) (us : Operands) (all : Option Stack) → all ≡ option_and_then (taken us) some → (if b then all else None) ≡ option_and_then (taken us) (if b then some else None)
    by_test true some us all e = e
    by_test false some us all e = refl

-- some were taken, and then others were or are missing
pub taken_both : (ts us : Operands) (first did : Bool) (s m n : OperandStack) → first ≡ true → Takes ts first s m → Takes us did m n → Takes (ts ++ us) did s n
taken_both ts us first did s m n took a b =
    let on = take_on ts us (stack_of s).operands s.reached ∙ ap (option_and_then (taken us)) (a.done took) in
    record {
      done = λ d. on ∙ b.done d;
      missing = λ d. on ∙ b.missing d;
      same = λ d. same_on s m n (a.same took) (b.same d);
      greatest = b.greatest ∙ a.greatest;
    }

-- where some are missing, those and others are
pub missing_both : (ts us : Operands) (first : Bool) (s n : OperandStack) → first ≡ false → Takes ts first s n → Takes (ts ++ us) first s n
missing_both ts us first s n missed a =
    record {
      done = λ d. absurd (cc);
      missing = λ d. take_on ts us (stack_of s).operands s.reached ∙ ap (option_and_then (taken us)) (a.missing missed);
      same = λ d. absurd (cc);
      greatest = a.greatest;
    }

-- to take none
pub nothing_taken : (s : OperandStack) → Takes [] true s s
nothing_taken s = record { done = λ d. refl; missing = λ d. absurd (cc); same = λ d. record { floor = refl; below = refl }; greatest = refl }

-- ---- and giving

-- where some are missing, there is no typing
pub untaken : (takes gives : Operands) (did : Bool) (s m n : OperandStack) → did ≡ false → Takes takes did s m → Changes (takes_gives takes gives) (Err stops.Untyped) s n
untaken takes gives did s m n missed t = record { ok = tt; err = λ e. ap (option_map (given gives)) (t.missing missed); same = tt; greatest = tt }

-- nothing is given
pub taken_alone : (takes : Operands) (did : Bool) (s n : OperandStack) → did ≡ true → Takes takes did s n → Changes (takes_gives takes []) (Ok tt) s n
taken_alone takes did s n took t =
    record { ok = ap (option_map (given [])) (t.done took); err = λ e. absurd (cc); same = t.same took; greatest = still s n t.greatest }

-- one is given
pub taken_given : (takes : Operands) (g : ValueType) (did : Bool) (r : Result Unit Stop) (s m n : OperandStack) → did ≡ true → Takes takes did s m → Gives (Some g) r m n → Changes (takes_gives takes (g ∷ [])) r s n
taken_given takes g did (Ok u) s m n took t v =
    record {
      ok = ap (option_map (given (g ∷ []))) (t.done took) ∙ ap (λ (x : Stack). Some x) (sym v.ok);
      err = λ e. absurd (cc);
      same = same_on s m n (t.same took) v.same;
      greatest = v.greatest ∙ ap (λ x. max x (vec_len n.items)) t.greatest;
    }
taken_given takes g did (Err f) s m n took t v = record { ok = tt; err = λ e. absurd (v.typed (let fault : f ≡ stops.Untyped = cc in ap (λ y. Err y) fault)); same = tt; greatest = tt }

-- ---- other instructions

-- the topmost one is dropped
pub one_dropped : (s n : OperandStack) → drop_top (stack_of s).operands (stack_of s).reached ≡ Some (stack_of n) → SameBlock s n → n.greatest ≡ s.greatest → Changes drops (Ok tt) s n
one_dropped s n e same kept = record { ok = e; err = λ x. absurd (cc); same = same; greatest = still s n kept }

pub none_to_drop : (s n : OperandStack) → drop_top (stack_of s).operands (stack_of s).reached ≡ None → Changes drops (Err stops.Untyped) s n
none_to_drop s n e = record { ok = tt; err = λ x. e; same = tt; greatest = tt }

-- nothing behind it is reached
pub ended : (takes : Operands) (did : Bool) (s m n : OperandStack) → did ≡ true → Takes takes did s m → stack_of n ≡ unreached → SameBlock m n → n.greatest ≡ m.greatest → Changes (ends takes) (Ok tt) s n
ended takes did s m n took t none same kept =
    record {
      ok = ap (option_map (λ (left : Stack). unreached)) (t.done took) ∙ ap (λ (x : Stack). Some x) (sym none);
      err = λ e. absurd (cc);
      same = same_on s m n (t.same took) same;
      greatest = still s n (kept ∙ t.greatest);
    }

pub not_ended : (takes : Operands) (did : Bool) (s m n : OperandStack) → did ≡ false → Takes takes did s m → Changes (ends takes) (Err stops.Untyped) s n
not_ended takes did s m n missed t = record { ok = tt; err = λ e. ap (option_map (λ (left : Stack). unreached)) (t.missing missed); same = tt; greatest = tt }

-- two of one type are taken for one
join_is : (xs : List (Option ValueType)) (r : Bool) (k n : Stack) (z : Option ValueType) → drop_top xs r ≡ Some k → drop_top k.operands k.reached ≡ Some n → common (top_of xs) (top_of k.operands) ≡ Some z → join_top xs r ≡ Some (pushed z n)
join_is [] true k n z a b e = absurd (cc)
join_is [] false k n z a b e =
    let k_is : k ≡ unreached = cc in
    let next = subst (λ (q : Stack). drop_top q.operands q.reached ≡ Some n) k_is b in
    let both = subst (λ (q : Stack). common None (top_of q.operands) ≡ Some z) k_is e in
    one_of None unreached n z next both
  where
    one_of : (x : Option ValueType) (m n : Stack) (z : Option ValueType) → Some m ≡ Some n → Some x ≡ Some z → Some (pushed x m) ≡ Some (pushed z n)
    one_of x m n z a b = ap (λ (q : Stack). Some (pushed x q)) (let same : m ≡ n = cc in same) ∙ ap (λ (q : Option ValueType). Some (pushed q n)) (let same : x ≡ z = cc in same)
join_is (x ∷ []) r k n z a b e =
    let k_is : k ≡ record { operands = []; reached = r } = cc in
    let next = subst (λ (q : Stack). drop_top q.operands q.reached ≡ Some n) k_is b in
    let both = subst (λ (q : Stack). common x (top_of q.operands) ≡ Some z) k_is e in
    one_of x r n z next both
  where
    one_of : (x : Option ValueType) (r : Bool) (n : Stack) (z : Option ValueType) → drop_top [] r ≡ Some n → common x None ≡ Some z → join_top (x ∷ []) r ≡ Some (pushed z n)
    one_of x true n z a b = absurd (cc)
    one_of None false n z a b = ap (λ (q : Stack). Some (pushed None q)) (let same : unreached ≡ n = cc in same) ∙ ap (λ (q : Option ValueType). Some (pushed q n)) (let same : None ≡ z = cc in same)
    one_of (Some t) false n z a b = ap (λ (q : Stack). Some (pushed (Some t) q)) (let same : unreached ≡ n = cc in same) ∙ ap (λ (q : Option ValueType). Some (pushed q n)) (let same : Some t ≡ z = cc in same)
join_is (x ∷ y ∷ xs) r k n z a b e =
    let k_is : k ≡ record { operands = y ∷ xs; reached = r } = cc in
    let next = subst (λ (q : Stack). drop_top q.operands q.reached ≡ Some n) k_is b in
    let both = subst (λ (q : Stack). common x (top_of q.operands) ≡ Some z) k_is e in
    let n_is : record { operands = xs; reached = r } ≡ n = cc in
    let first : join_top (x ∷ y ∷ xs) r ≡ Some (record { operands = z ∷ xs; reached = r }) = ap (option_map (λ (o : Option ValueType). record { operands = o ∷ xs; reached = r })) both in
    subst (λ (q : Stack). join_top (x ∷ y ∷ xs) r ≡ Some (pushed z q)) n_is first

none_joined : (xs : List (Option ValueType)) (r : Bool) → drop_top xs r ≡ None → join_top xs r ≡ None
none_joined [] true e = refl
none_joined [] false e = absurd (cc)
none_joined (x ∷ xs) r e = absurd (cc)

one_joined : (xs : List (Option ValueType)) (r : Bool) (k : Stack) → drop_top xs r ≡ Some k → drop_top k.operands k.reached ≡ None → join_top xs r ≡ None
one_joined [] true k a b = refl
one_joined [] false k a b =
    let k_is : k ≡ unreached = cc in
    let next = subst (λ (q : Stack). drop_top q.operands q.reached ≡ None) k_is b in absurd (cc)
one_joined (x ∷ []) true k a b = refl
one_joined (x ∷ []) false k a b =
    let k_is : k ≡ record { operands = []; reached = false } = cc in
    let next = subst (λ (q : Stack). drop_top q.operands q.reached ≡ None) k_is b in absurd (cc)
one_joined (x ∷ y ∷ xs) r k a b =
    let k_is : k ≡ record { operands = y ∷ xs; reached = r } = cc in
    let next = subst (λ (q : Stack). drop_top q.operands q.reached ≡ None) k_is b in absurd (cc)

two_differ : (xs : List (Option ValueType)) (r : Bool) (k : Stack) → drop_top xs r ≡ Some k → common (top_of xs) (top_of k.operands) ≡ None → join_top xs r ≡ None
two_differ [] r k a e = absurd (cc)
two_differ (None ∷ []) r k a e = absurd (cc)
two_differ (Some t ∷ []) r k a e =
    let k_is : k ≡ record { operands = []; reached = r } = cc in
    let both = subst (λ (q : Stack). common (Some t) (top_of q.operands) ≡ None) k_is e in absurd (cc)
two_differ (x ∷ y ∷ xs) r k a e =
    let k_is : k ≡ record { operands = y ∷ xs; reached = r } = cc in
    let both = subst (λ (q : Stack). common x (top_of q.operands) ≡ None) k_is e in
    ap (option_map (λ (o : Option ValueType). record { operands = o ∷ xs; reached = r })) both

-- what selects is missing
pub nothing_selects : (did : Bool) (s m n : OperandStack) → did ≡ false → Takes (I32 ∷ []) did s m → Changes selects (Err stops.Untyped) s n
nothing_selects did s m n missed t = record { ok = tt; err = λ e. ap (option_and_then (λ (two : Stack). join_top two.operands two.reached)) (t.missing missed); same = tt; greatest = tt }

-- none can be selected, for this reason
pub none_selected : (did : Bool) (s m n : OperandStack) → did ≡ true → Takes (I32 ∷ []) did s m → join_top (stack_of m).operands m.reached ≡ None → Changes selects (Err stops.Untyped) s n
none_selected did s m n took t none = record { ok = tt; err = λ e. ap (option_and_then (λ (two : Stack). join_top two.operands two.reached)) (t.done took) ∙ none; same = tt; greatest = tt }

pub first_missing : (m : OperandStack) → drop_top (stack_of m).operands (stack_of m).reached ≡ None → join_top (stack_of m).operands m.reached ≡ None
first_missing m e = none_joined (stack_of m).operands m.reached e

pub second_missing : (m k : OperandStack) → drop_top (stack_of m).operands (stack_of m).reached ≡ Some (stack_of k) → drop_top (stack_of k).operands (stack_of k).reached ≡ None → join_top (stack_of m).operands m.reached ≡ None
second_missing m k a e = one_joined (stack_of m).operands m.reached (stack_of k) a e

pub both_differ : (m k : OperandStack) (x y : Option ValueType) → drop_top (stack_of m).operands (stack_of m).reached ≡ Some (stack_of k) → x ≡ top_of (stack_of m).operands → y ≡ top_of (stack_of k).operands → common x y ≡ None → join_top (stack_of m).operands m.reached ≡ None
both_differ m k x y a at_x at_y e =
    two_differ (stack_of m).operands m.reached (stack_of k) a (ap (λ (q : Option ValueType). common q (top_of (stack_of k).operands)) (sym at_x) ∙ ap (common x) (sym at_y) ∙ e)

-- one is selected
pub one_selected : (did : Bool) (r : Result Unit Stop) (s m k l n : OperandStack) (x y z : Option ValueType) → did ≡ true → Takes (I32 ∷ []) did s m
    → drop_top (stack_of m).operands (stack_of m).reached ≡ Some (stack_of k) → x ≡ top_of (stack_of m).operands → SameBlock m k → k.greatest ≡ m.greatest
    → drop_top (stack_of k).operands (stack_of k).reached ≡ Some (stack_of l) → y ≡ top_of (stack_of k).operands → SameBlock k l → l.greatest ≡ k.greatest
    → common x y ≡ Some z → Gives z r l n → Changes selects r s n
one_selected did (Ok u) s m k l n x y z took t a at_x same_k great_k b at_y same_l great_l e v =
    let both = ap (λ (q : Option ValueType). common q (top_of (stack_of k).operands)) (sym at_x) ∙ ap (common x) (sym at_y) ∙ e in
    record {
      ok = ap (option_and_then (λ (two : Stack). join_top two.operands two.reached)) (t.done took) ∙ join_is (stack_of m).operands m.reached (stack_of k) (stack_of l) z a b both ∙ ap (λ (q : Stack). Some q) (sym v.ok);
      err = λ e. absurd (cc);
      same = same_on s m n (t.same took) (same_on m k n same_k (same_on k l n same_l v.same));
      greatest = v.greatest ∙ ap (λ q. max q (vec_len n.items)) (great_l ∙ great_k ∙ t.greatest);
    }
one_selected did (Err f) s m k l n x y z took t a at_x same_k great_k b at_y same_l great_l e v =
    record { ok = tt; err = λ e. absurd (v.typed (let fault : f ≡ stops.Untyped = cc in ap (λ q. Err q) fault)); same = tt; greatest = tt }
