-- What is passed has a typing, and what has a typing is passed.
use Rattle.std.proofs.Common.{◌≡◌, [], ◌∷◌, ◌++◌, true, false, Option, Some, None, refl, sym, ap, ◌∙◌, subst}
use Rattle.std.specs.Prelude.{option_and_then}
use Rattle.wcode.specs.declared.value.ValueType.TheVariants.{I32}
use Rattle.wcode.specs.declared.value.BlockType.{BlockType}
use Rattle.wcode.specs.Syntax.{Body, done, plain, block, loop, if_else, br_table}
use Rattle.wbody.specs.Context.{Operands, Context, results_of, with_label}
use Rattle.wbody.specs.Typing.{plain_type, Rule, Then, Typed}
use Rattle.wbody.specs.inside.Pass.{Stack, fresh, fits, taken, given, pass_type, table_type, closed, pass}
use Rattle.wbody.proofs.Operands.{through, under, when_true, none_fit, before_taken, can_take, were_given, can_give, Before, before_type, behind_type, table_allows, table_allowed}

-- For what is to be there behind instructions, what can be there before them.
pub record TypedBefore (c : Context) (e : Body) (s : Stack) (after : Operands) : Type 0 where
  pub before : Operands
  pub fit : fits s before ≡ true
  pub typed : Typed c e before after

-- What is known behind instructions, where this can be there behind them.
pub record PassedTo (c : Context) (e : Body) (s : Stack) (after : Operands) : Type 0 where
  pub behind : Stack
  pub is : pass c e s ≡ Some behind
  pub fit : fits behind after ≡ true

-- a block was closed: inside it came to its results, and behind it there are those above what was
-- there before it
record Closed (t : BlockType) (below inside s : Stack) (after : Operands) : Type 0 where
  results : fits inside (results_of t) ≡ true
  more : Operands
  is : after ≡ results_of t ++ more
  fit : fits below more ≡ true

was_closed : (t : BlockType) (below inside s : Stack) (after : Operands) → closed t below inside ≡ Some s → fits s after ≡ true → Closed t below inside s after
was_closed t below inside s after e f =
    let u = under (fits inside (results_of t)) (given (results_of t) below) s e in
    let g = were_given (results_of t) below.operands below.reached after (subst (λ (x : Stack). fits x after ≡ true) (sym u.1) f) in
    record { results = u.0; more = g.more; is = g.is; fit = g.fit }

-- what is passed has a typing
pub typed_before : (e : Body) (c : Context) (s s' : Stack) (after : Operands) → pass c e s ≡ Some s' → fits s' after ≡ true → TypedBefore c e s after
typed_before done c s s' after e f =
    let same : s ≡ s' = cc in
    record { before = after; fit = subst (λ (x : Stack). fits x after ≡ true) (sym same) f; typed = refl }
typed_before (plain p rest) c s s' after e f =
    let a = through (pass c rest) (pass_type (plain_type c p) s) s' e in
    let r = typed_before rest c a.mid s' after a.second f in
    let b = before_type (plain_type c p) s a.mid r.before a.first r.fit in
    record { before = b.before; fit = b.fit; typed = record { between = r.before; first = b.typed; others = r.typed } }
typed_before (block t inside rest) c s s' after e f =
    let inner = with_label (results_of t) c in
    let a = through (pass c rest) (option_and_then (closed t s) (pass inner inside fresh)) s' e in
    let b = through (closed t s) (pass inner inside fresh) a.mid a.first in
    let r = typed_before rest c a.mid s' after a.second f in
    let w = was_closed t s b.mid a.mid r.before b.second r.fit in
    let i = typed_before inside inner fresh b.mid (results_of t) b.first w.results in
    let nothing : i.before ≡ [] = none_fit i.before i.fit in
    record {
      before = w.more;
      fit = w.fit;
      typed = record {
        between = r.before;
        first = record { takes = []; gives = results_of t; below = w.more; rule = (refl, refl, subst (λ o. Typed inner inside o (results_of t)) nothing i.typed); before_is = refl; after_is = w.is };
        others = r.typed;
      };
    }
typed_before (loop t inside rest) c s s' after e f =
    let inner = with_label [] c in
    let a = through (pass c rest) (option_and_then (closed t s) (pass inner inside fresh)) s' e in
    let b = through (closed t s) (pass inner inside fresh) a.mid a.first in
    let r = typed_before rest c a.mid s' after a.second f in
    let w = was_closed t s b.mid a.mid r.before b.second r.fit in
    let i = typed_before inside inner fresh b.mid (results_of t) b.first w.results in
    let nothing : i.before ≡ [] = none_fit i.before i.fit in
    record {
      before = w.more;
      fit = w.fit;
      typed = record {
        between = r.before;
        first = record { takes = []; gives = results_of t; below = w.more; rule = (refl, refl, subst (λ o. Typed inner inside o (results_of t)) nothing i.typed); before_is = refl; after_is = w.is };
        others = r.typed;
      };
    }
typed_before (if_else t then_arm else_arm rest) c s s' after e f =
    let inner = with_label (results_of t) c in
    let no_arm : Stack → Option Stack = λ low. option_and_then (closed t low) (pass inner else_arm fresh) in
    let arms : Stack → Option Stack = λ low. option_and_then (λ arm. no_arm low) (option_and_then (closed t low) (pass inner then_arm fresh)) in
    let a = through (pass c rest) (option_and_then arms (taken (I32 ∷ []) s)) s' e in
    let b = through arms (taken (I32 ∷ []) s) a.mid a.first in
    let low = b.mid in
    let y = through (λ arm. no_arm low) (option_and_then (closed t low) (pass inner then_arm fresh)) a.mid b.second in
    let y_inside = through (closed t low) (pass inner then_arm fresh) y.mid y.first in
    let n = through (closed t low) (pass inner else_arm fresh) a.mid y.second in
    let r = typed_before rest c a.mid s' after a.second f in
    let w = was_closed t low n.mid a.mid r.before n.second r.fit in
    let y_results = under (fits y_inside.mid (results_of t)) (given (results_of t) low) y.mid y_inside.second in
    let y_typed = typed_before then_arm inner fresh y_inside.mid (results_of t) y_inside.first y_results.0 in
    let n_typed = typed_before else_arm inner fresh n.mid (results_of t) n.first w.results in
    record {
      before = I32 ∷ w.more;
      fit = before_taken (I32 ∷ []) s.operands s.reached low w.more b.first w.fit;
      typed = record {
        between = r.before;
        first = record {
          takes = I32 ∷ [];
          gives = results_of t;
          below = w.more;
          rule = (
            refl,
            refl,
            subst (λ o. Typed inner then_arm o (results_of t)) (none_fit y_typed.before y_typed.fit) y_typed.typed,
            subst (λ o. Typed inner else_arm o (results_of t)) (none_fit n_typed.before n_typed.fit) n_typed.typed,
          );
          before_is = refl;
          after_is = w.is;
        };
        others = r.typed;
      };
    }
typed_before (br_table labels default rest) c s s' after e f =
    let a = through (pass c rest) (pass_type (table_type c labels default) s) s' e in
    let r = typed_before rest c a.mid s' after a.second f in
    let b = before_type (table_type c labels default) s a.mid r.before a.first r.fit in
    let w = b.typed in
    record {
      before = b.before;
      fit = b.fit;
      typed = record {
        between = r.before;
        first = record { takes = w.takes; gives = w.gives; below = w.below; rule = table_allows c labels default w.takes w.gives w.rule; before_is = w.before_is; after_is = w.after_is };
        others = r.typed;
      };
    }

-- a block whose inside comes to its results can be closed
record Closes (t : BlockType) (below inside : Stack) (after : Operands) : Type 0 where
  behind : Stack
  is : closed t below inside ≡ Some behind
  fit : fits behind after ≡ true

can_close : (t : BlockType) (below inside : Stack) (more after : Operands) → fits inside (results_of t) ≡ true → fits below more ≡ true → after ≡ results_of t ++ more → Closes t below inside after
can_close t below inside more after results f is =
    record {
      behind = given (results_of t) below;
      is = when_true (fits inside (results_of t)) (Some (given (results_of t) below)) None results;
      fit = subst (λ (l : Operands). fits (given (results_of t) below) l ≡ true) (sym is) (can_give (results_of t) below.operands below.reached more f);
    }

-- what has a typing is passed
pub passed_to : (e : Body) (c : Context) (s : Stack) (before after : Operands) → Typed c e before after → fits s before ≡ true → PassedTo c e s after
passed_to done c s before after t f = record { behind = s; is = refl; fit = subst (λ (l : Operands). fits s l ≡ true) t f }
passed_to (plain p rest) c s before after t f =
    let b = behind_type (plain_type c p) s before t.between t.first f in
    let r = passed_to rest c b.behind t.between after t.others b.fit in
    record { behind = r.behind; is = ap (option_and_then (pass c rest)) b.is ∙ r.is; fit = r.fit }
passed_to (block bt inside rest) c s before after t f =
    let inner = with_label (results_of bt) c in
    let w = t.first in
    let before_is : before ≡ w.below = w.before_is ∙ ap (λ l. l ++ w.below) w.rule.0 in
    let between_is : t.between ≡ results_of bt ++ w.below = w.after_is ∙ ap (λ l. l ++ w.below) w.rule.1 in
    let i = passed_to inside inner fresh [] (results_of bt) w.rule.2 refl in
    let k = can_close bt s i.behind w.below t.between i.fit (subst (λ (l : Operands). fits s l ≡ true) before_is f) between_is in
    let r = passed_to rest c k.behind t.between after t.others k.fit in
    record { behind = r.behind; is = ap (λ o. option_and_then (pass c rest) (option_and_then (closed bt s) o)) i.is ∙ ap (option_and_then (pass c rest)) k.is ∙ r.is; fit = r.fit }
passed_to (loop bt inside rest) c s before after t f =
    let inner = with_label [] c in
    let w = t.first in
    let before_is : before ≡ w.below = w.before_is ∙ ap (λ l. l ++ w.below) w.rule.0 in
    let between_is : t.between ≡ results_of bt ++ w.below = w.after_is ∙ ap (λ l. l ++ w.below) w.rule.1 in
    let i = passed_to inside inner fresh [] (results_of bt) w.rule.2 refl in
    let k = can_close bt s i.behind w.below t.between i.fit (subst (λ (l : Operands). fits s l ≡ true) before_is f) between_is in
    let r = passed_to rest c k.behind t.between after t.others k.fit in
    record { behind = r.behind; is = ap (λ o. option_and_then (pass c rest) (option_and_then (closed bt s) o)) i.is ∙ ap (option_and_then (pass c rest)) k.is ∙ r.is; fit = r.fit }
passed_to (if_else bt then_arm else_arm rest) c s before after t f =
    let inner = with_label (results_of bt) c in
    let w = t.first in
    let before_is : before ≡ I32 ∷ w.below = w.before_is ∙ ap (λ l. l ++ w.below) w.rule.0 in
    let between_is : t.between ≡ results_of bt ++ w.below = w.after_is ∙ ap (λ l. l ++ w.below) w.rule.1 in
    let k = can_take (I32 ∷ []) s.operands s.reached w.below (subst (λ (l : Operands). fits s l ≡ true) before_is f) in
    let low = k.left in
    let y = passed_to then_arm inner fresh [] (results_of bt) w.rule.2 refl in
    let n = passed_to else_arm inner fresh [] (results_of bt) w.rule.3 refl in
    let y_close = can_close bt low y.behind w.below t.between y.fit k.fit between_is in
    let n_close = can_close bt low n.behind w.below t.between n.fit k.fit between_is in
    let no_arm : Stack → Option Stack = λ low. option_and_then (closed bt low) (pass inner else_arm fresh) in
    let arms : Stack → Option Stack = λ low. option_and_then (λ arm. no_arm low) (option_and_then (closed bt low) (pass inner then_arm fresh)) in
    let arms_are : arms low ≡ Some n_close.behind =
    ap (λ o. option_and_then (λ arm. no_arm low) (option_and_then (closed bt low) o)) y.is
    ∙ ap (option_and_then (λ arm. no_arm low)) y_close.is
    ∙ ap (option_and_then (closed bt low)) n.is
    ∙ n_close.is in
    let r = passed_to rest c n_close.behind t.between after t.others n_close.fit in
    record { behind = r.behind; is = ap (λ o. option_and_then (pass c rest) (option_and_then arms o)) k.is ∙ ap (option_and_then (pass c rest)) arms_are ∙ r.is; fit = r.fit }
passed_to (br_table labels default rest) c s before after t f =
    let w = t.first in
    let b = behind_type (table_type c labels default) s before t.between (record { takes = w.takes; gives = w.gives; below = w.below; rule = table_allowed c labels default w.takes w.gives w.rule; before_is = w.before_is; after_is = w.after_is }) f in
    let r = passed_to rest c b.behind t.between after t.others b.fit in
    record { behind = r.behind; is = ap (option_and_then (pass c rest)) b.is ∙ r.is; fit = r.fit }

-- ---- whole bodies

-- a body that is passed to its results has a typing
pub body_typed : (e : Body) (c : Context) (s : Stack) (results : Operands) → pass c e fresh ≡ Some s → fits s results ≡ true → Typed c e [] results
body_typed e c s results is f =
    let t = typed_before e c fresh s results is f in
    subst (λ o. Typed c e o results) (none_fit t.before t.fit) t.typed

-- and one that has a typing is passed to its results
pub body_passed : (e : Body) (c : Context) (results : Operands) → Typed c e [] results → PassedTo c e fresh results
body_passed e c results t = passed_to e c fresh [] results t refl

-- a body that isn't passed, or not to its results, has no typing
pub none_passed : (e : Body) (c : Context) (results : Operands) → pass c e fresh ≡ None → Typed c e [] results → ⊥
none_passed e c results none t = let p = body_passed e c results t in absurd (cc (p.is, none))

pub others_passed : (e : Body) (c : Context) (s : Stack) (results : Operands) → pass c e fresh ≡ Some s → fits s results ≡ false → Typed c e [] results → ⊥
others_passed e c s results is f t =
    let p = body_passed e c results t in
    let same : p.behind ≡ s = cc (p.is, is) in
    let g : fits s results ≡ true = subst (λ (x : Stack). fits x results ≡ true) same p.fit in
    absurd (cc (f, g))
