-- Where the typing of a body stands behind one word, if it stood before it.
use Rattle.std.proofs.Common.{◌≡◌, ℕ, ◌+◌, ◌-◌, ◌≤◌, List, [], ◌∷◌, ◌++◌, true, false, Option, Some, None, length, max, reverse, take, drop, vec_len, refl, sym, ap, ◌∙◌, subst, arith, length-drop}
use Rattle.std.specs.Prelude.{option_and_then, if◌then◌else◌, map}
use Rattle.std.proofs.lemmas.List.{length-append, length-map, length-reverse, length-take}
use Rattle.wcode.specs.declared.value.BlockType.{BlockType}
use Rattle.wcode.specs.declared.value.ValueType.{ValueType}
use Rattle.wcode.specs.declared.value.ValueType.TheVariants.{I32}
use Rattle.wcode.specs.declared.value.BlockType.TheVariants.{Empty, Result}
use Rattle.wcode.specs.declared.instruction.Plain.{Plain}
use Rattle.wcode.specs.declared.opcode.Opening.TheVariants as openings
use Rattle.wcode.specs.Syntax.{Body, done, plain, block, loop, if_else, br_table}
use Rattle.wcode.specs.inside.Ended.{closing}
use Rattle.wcode.proofs.Items.{first, first_spelled}
use Rattle.wcode.specs.Grammar.{Word, one, opens, otherwise, end, table, SpellsWord, SpellsExpr}
use Rattle.wbody.specs.declared.scope.Opened.{Opened}
use Rattle.wbody.specs.declared.scope.Opened.TheVariants as opened
use Rattle.wbody.specs.declared.scope.Level.{Level}
use Rattle.wbody.specs.declared.operand_stack.OperandStack.{OperandStack}
use Rattle.wbody.specs.Context.{Context, results_of, with_label}
use Rattle.wbody.specs.Typing.{plain_type, Typed}
use Rattle.wbody.specs.Heights.{greatest_height, height_by}
use Rattle.wbody.specs.inside.Pass.{Stack, fresh, fits, given, taken, pass_type, table_type, closed, pass}
use Rattle.wbody.specs.inside.OperandStack.{stack_of, below_of, SameBlock}
use Rattle.wbody.specs.inside.Standing.{Open, inner_context, finish, outcome, second_peak, low_of, outer_peak, Layers, GoesOn, Stands}
use Rattle.wbody.specs.inside.Steps.{Opens, IsPassed}
use Rattle.wbody.proofs.Passed.{body_typed, others_passed}
use Rattle.wbody.proofs.Operands.{when_true, under}
use Rattle.wbody.proofs.Lengths.{height_passed, length-take_types}
use Rattle.wbody.proofs.Outcomes.{outcome_plain, outcome_plain_none, outcome_table, outcome_table_none, opened_block, opened_loop, opened_first, opened_second, outcome_block, outcome_loop, outcome_if, outcome_if_none, outcome_else, outcome_else_none, outcome_left, outcome_left_none}
use Rattle.wbody.proofs.TableLabels.{table_unreached}
use Rattle.wbody.proofs.Places.{plain_next, table_next, block_next, loop_next, if_next, ends_here, else_of, end_of}

-- how many operands there are
pub count_of : (s : OperandStack) → length s.items.items ≡ s.floor + length (stack_of s).operands
count_of s =
    let within : s.floor ≤ vec_len s.items = s.in_range in
    omega (arith, s.items.ok.0, length-reverse (drop s.floor s.items.items), length-drop s.floor s.items.items)

-- a height at the start is at most the greatest
pub at_least : (c : Context) (e : Body) (floor height : ℕ) → height ≤ greatest_height c e floor height
at_least c done floor height = omega arith
at_least c (plain p rest) floor height = omega arith
at_least c (block t inside rest) floor height = omega (arith, at_least (with_label (results_of t) c) inside height height)
at_least c (loop t inside rest) floor height = omega (arith, at_least (with_label [] c) inside height height)
at_least c (if_else t then_arm else_arm rest) floor height = omega arith
at_least c (br_table labels default rest) floor height = omega arith

-- a plain instruction that is passed
pub plain_step : (c : Context) (total : Option Stack) (peak : ℕ) (final bytes more : List ℕ) (levels : List Level) (s n : OperandStack) (p : Plain) → Stands c total peak final bytes levels s → SpellsWord bytes (one p) more → ((os : List Open) → Layers levels os (below_of s) → pass_type (plain_type (inner_context c os) p) (stack_of s) ≡ Some (stack_of n)) → SameBlock s n → n.greatest ≡ max s.greatest (vec_len n.items) → Stands c total peak final more levels n
plain_step c total peak final bytes more levels s n p st w passes same greatest =
    let os = st.blocks in
    let here = inner_context c os in
    let q = plain_next os st.rest bytes final p more st.spelled w in
    let e = passes os st.layers in
    let len_s = length s.items.items in
    let len_n = length n.items.items in
    let passed = height_passed (plain_type here p) (stack_of s) (stack_of n) s.floor e in
    let goes : height_by (plain_type here p) s.floor len_s ≡ len_n = ap (λ h. height_by (plain_type here p) s.floor h) (count_of s) ∙ passed ∙ ap (λ f. f + length (stack_of n).operands) (sym same.floor) ∙ sym (count_of n) in
    let before : peak ≡ max s.greatest (max (max len_s (greatest_height here q.next s.floor (height_by (plain_type here p) s.floor len_s))) (outer_peak c os)) =
    st.height ∙ ap (λ r. max s.greatest (max (greatest_height here r s.floor len_s) (outer_peak c os))) q.rest_is in
    let next_is : greatest_height here q.next s.floor (height_by (plain_type here p) s.floor len_s) ≡ greatest_height here q.next n.floor len_n =
    ap (λ h. greatest_height here q.next s.floor h) goes ∙ ap (λ f. greatest_height here q.next f len_n) (sym same.floor) in
    let least = at_least here q.next n.floor len_n in
    let enough : vec_len s.items ≤ s.greatest = s.enough in
    record {
      blocks = os;
      rest = q.next;
      spelled = q.spelled;
      layers = subst (Layers levels os) (sym same.below) st.layers;
      typed = st.typed ∙ ap (λ r. outcome c os r (stack_of s)) q.rest_is ∙ outcome_plain c os p q.next (stack_of s) (stack_of n) e;
      height = omega (arith, before, next_is, least, enough, greatest, s.items.ok.0, n.items.ok.0);
    }

-- and one that isn't
pub plain_stop : (c : Context) (total : Option Stack) (peak : ℕ) (final bytes more : List ℕ) (levels : List Level) (s : OperandStack) (p : Plain) → Stands c total peak final bytes levels s → SpellsWord bytes (one p) more → ((os : List Open) → Layers levels os (below_of s) → pass_type (plain_type (inner_context c os) p) (stack_of s) ≡ None) → total ≡ None
plain_stop c total peak final bytes more levels s p st w passes =
    let os = st.blocks in
    let q = plain_next os st.rest bytes final p more st.spelled w in
    st.typed ∙ ap (λ r. outcome c os r (stack_of s)) q.rest_is ∙ outcome_plain_none c os p q.next (stack_of s) (passes os st.layers)

-- a branch by an index that is passed
pub table_step : (c : Context) (total : Option Stack) (peak : ℕ) (final bytes more : List ℕ) (levels : List Level) (s n : OperandStack) (labels : List ℕ) (default : ℕ) → Stands c total peak final bytes levels s → SpellsWord bytes (table labels default) more → ((os : List Open) → Layers levels os (below_of s) → pass_type (table_type (inner_context c os) labels default) (stack_of s) ≡ Some (stack_of n)) → SameBlock s n → n.greatest ≡ max s.greatest (vec_len n.items) → Stands c total peak final more levels n
table_step c total peak final bytes more levels s n labels default st w passes same greatest =
    let os = st.blocks in
    let here = inner_context c os in
    let q = table_next os st.rest bytes final labels default more st.spelled w in
    let e = passes os st.layers in
    let len_s = length s.items.items in
    let len_n = length n.items.items in
    let none : length (stack_of n).operands ≡ 0 = ap (λ (x : Stack). length x.operands) (table_unreached here labels default (stack_of s) (stack_of n) e) in
    let low : len_n ≡ n.floor = omega (arith, count_of n, none) in
    let before : peak ≡ max s.greatest (max (max len_s (greatest_height here q.next s.floor s.floor)) (outer_peak c os)) =
    st.height ∙ ap (λ r. max s.greatest (max (greatest_height here r s.floor len_s) (outer_peak c os))) q.rest_is in
    let next_is : greatest_height here q.next s.floor s.floor ≡ greatest_height here q.next n.floor len_n =
    ap (λ f. greatest_height here q.next f f) (sym same.floor) ∙ ap (λ h. greatest_height here q.next n.floor h) (sym low) in
    let enough : vec_len s.items ≤ s.greatest = s.enough in
    let within : s.floor ≤ vec_len s.items = s.in_range in
    record {
      blocks = os;
      rest = q.next;
      spelled = q.spelled;
      layers = subst (Layers levels os) (sym same.below) st.layers;
      typed = st.typed ∙ ap (λ r. outcome c os r (stack_of s)) q.rest_is ∙ outcome_table c os labels default q.next (stack_of s) (stack_of n) e;
      height = omega (arith, before, next_is, enough, within, low, same.floor, greatest, s.items.ok.0, n.items.ok.0);
    }

pub table_stop : (c : Context) (total : Option Stack) (peak : ℕ) (final bytes more : List ℕ) (levels : List Level) (s : OperandStack) (labels : List ℕ) (default : ℕ) → Stands c total peak final bytes levels s → SpellsWord bytes (table labels default) more → ((os : List Open) → Layers levels os (below_of s) → pass_type (table_type (inner_context c os) labels default) (stack_of s) ≡ None) → total ≡ None
table_stop c total peak final bytes more levels s labels default st w passes =
    let os = st.blocks in
    let q = table_next os st.rest bytes final labels default more st.spelled w in
    st.typed ∙ ap (λ r. outcome c os r (stack_of s)) q.rest_is ∙ outcome_table_none c os labels default q.next (stack_of s) (passes os st.layers)

-- ---- blocks

-- all operands are below a block that was opened
below_opened : (s n : OperandStack) (v : Level) → Opens s n v → below_of n ≡ s.items.items
below_opened s n v o =
    let floor : n.floor ≡ length s.items.items = o.floor ∙ s.items.ok.0 in
    ap (λ f. take f n.items.items) floor ∙ ap (λ i. take (length s.items.items) i.items) o.items ∙ take_all s.items.items
  where
    take_all : {A : Type 0} (xs : List A) → take (length xs) xs ≡ xs
    take_all [] = refl
    take_all (x ∷ xs) = ap (λ l. x ∷ l) (take_all xs)

-- the layers with one more block
one_layer : (s n : OperandStack) (v : Level) (levels : List Level) (os : List Open) (o : Open) → Opens s n v → Layers levels os (below_of s) → o.kind ≡ v.kind → o.type ≡ v.block_type → o.floor ≡ s.floor → o.below ≡ stack_of s → Layers (v ∷ levels) (o ∷ os) (below_of n)
one_layer s n v levels os o op layers kind type floor below =
    let all = below_opened s n v op in
    let within : s.floor ≤ vec_len s.items = s.in_range in
    let low : v.floor ≤ length s.items.items = omega (arith, op.outer_floor, s.items.ok.0) in
    subst (Layers (v ∷ levels) (o ∷ os)) (sym all) (
      kind,
      type,
      floor ∙ sym op.outer_floor,
      below ∙ ap (λ f. record { operands = reverse (drop f s.items.items); reached = s.reached }) (sym op.outer_floor) ∙ ap (λ r. record { operands = reverse (drop v.floor s.items.items); reached = r }) (sym op.outer_reached),
      low,
      subst (λ f. Layers levels os (take f s.items.items)) (sym op.outer_floor) layers,
    )

-- a block or a loop
pub block_step : (c : Context) (total : Option Stack) (peak : ℕ) (final bytes more : List ℕ) (levels : List Level) (s n : OperandStack) (v : Level) → Stands c total peak final bytes levels s → SpellsWord bytes (opens openings.Block v.block_type) more → v.kind ≡ opened.Block → Opens s n v → Stands c total peak final more (v ∷ levels) n
block_step c total peak final bytes more levels s n v st w kind op =
    let os = st.blocks in
    let t = v.block_type in
    let here = inner_context c os in
    let q = block_next os st.rest bytes final t (stack_of s) s.floor more st.spelled w in
    let o = opened_block t (stack_of s) q.next s.floor in
    let inner = with_label (results_of t) here in
    let len = length s.items.items in
    let before : peak ≡ max s.greatest (max (max (greatest_height inner q.inside len len) (greatest_height here q.next s.floor (len + length (results_of t)))) (outer_peak c os)) =
    st.height ∙ ap (λ r. max s.greatest (max (greatest_height here r s.floor len) (outer_peak c os))) q.rest_is in
    let inside_is : greatest_height inner q.inside n.floor (length n.items.items) ≡ greatest_height inner q.inside len len =
    ap (λ f. greatest_height inner q.inside f (length n.items.items)) (op.floor ∙ s.items.ok.0) ∙ ap (λ i. greatest_height inner q.inside len (length i.items)) op.items in
    let low : low_of o ≡ len = sym (count_of s) in
    let next_is : greatest_height here q.next s.floor (low_of o + length (results_of t)) ≡ greatest_height here q.next s.floor (len + length (results_of t)) =
    ap (λ h. greatest_height here q.next s.floor (h + length (results_of t))) low in
    record {
      blocks = o ∷ os;
      rest = q.inside;
      spelled = q.spelled;
      layers = one_layer s n v levels os o op st.layers (sym kind) refl refl refl;
      typed = st.typed ∙ ap (λ r. outcome c os r (stack_of s)) q.rest_is ∙ outcome_block c os t q.inside q.next (stack_of s) s.floor ∙ ap (outcome c (o ∷ os) q.inside) (sym op.stack);
      height = omega (arith, before, inside_is, next_is, op.greatest);
    }

pub loop_step : (c : Context) (total : Option Stack) (peak : ℕ) (final bytes more : List ℕ) (levels : List Level) (s n : OperandStack) (v : Level) → Stands c total peak final bytes levels s → SpellsWord bytes (opens openings.Loop v.block_type) more → v.kind ≡ opened.Loop → Opens s n v → Stands c total peak final more (v ∷ levels) n
loop_step c total peak final bytes more levels s n v st w kind op =
    let os = st.blocks in
    let t = v.block_type in
    let here = inner_context c os in
    let q = loop_next os st.rest bytes final t (stack_of s) s.floor more st.spelled w in
    let o = opened_loop t (stack_of s) q.next s.floor in
    let inner = with_label [] here in
    let len = length s.items.items in
    let before : peak ≡ max s.greatest (max (max (greatest_height inner q.inside len len) (greatest_height here q.next s.floor (len + length (results_of t)))) (outer_peak c os)) =
    st.height ∙ ap (λ r. max s.greatest (max (greatest_height here r s.floor len) (outer_peak c os))) q.rest_is in
    let inside_is : greatest_height inner q.inside n.floor (length n.items.items) ≡ greatest_height inner q.inside len len =
    ap (λ f. greatest_height inner q.inside f (length n.items.items)) (op.floor ∙ s.items.ok.0) ∙ ap (λ i. greatest_height inner q.inside len (length i.items)) op.items in
    let low : low_of o ≡ len = sym (count_of s) in
    let next_is : greatest_height here q.next s.floor (low_of o + length (results_of t)) ≡ greatest_height here q.next s.floor (len + length (results_of t)) =
    ap (λ h. greatest_height here q.next s.floor (h + length (results_of t))) low in
    record {
      blocks = o ∷ os;
      rest = q.inside;
      spelled = q.spelled;
      layers = one_layer s n v levels os o op st.layers (sym kind) refl refl refl;
      typed = st.typed ∙ ap (λ r. outcome c os r (stack_of s)) q.rest_is ∙ outcome_loop c os t q.inside q.next (stack_of s) s.floor ∙ ap (outcome c (o ∷ os) q.inside) (sym op.stack);
      height = omega (arith, before, inside_is, next_is, op.greatest);
    }

-- an if, from the operands without its condition
pub if_step : (c : Context) (total : Option Stack) (peak : ℕ) (final bytes more : List ℕ) (levels : List Level) (s low n : OperandStack) (v : Level) → Stands c total peak final bytes levels s → SpellsWord bytes (opens openings.If v.block_type) more → v.kind ≡ opened.First → taken (I32 ∷ []) (stack_of s) ≡ Some (stack_of low) → SameBlock s low → low.greatest ≡ s.greatest → Opens low n v → Stands c total peak final more (v ∷ levels) n
if_step c total peak final bytes more levels s low n v st w kind takes same lower op =
    let os = st.blocks in
    let t = v.block_type in
    let here = inner_context c os in
    let q = if_next os st.rest bytes final t (stack_of low) low.floor more st.spelled w in
    let o = opened_first t (stack_of low) q.no_arm q.next low.floor in
    let inner = with_label (results_of t) here in
    let len_s = length s.items.items in
    let len = length low.items.items in
    let without_is : max s.floor (len_s - 1) ≡ len =
    (let l = length-take_types (I32 ∷ []) (stack_of s).operands (stack_of s).reached (stack_of low) takes in omega (arith, l, count_of s, count_of low, same.floor)) in
    let before : peak ≡ max s.greatest (max (max len_s (max (max (greatest_height inner q.yes_arm (max s.floor (len_s - 1)) (max s.floor (len_s - 1))) (greatest_height inner q.no_arm (max s.floor (len_s - 1)) (max s.floor (len_s - 1)))) (greatest_height here q.next s.floor (max s.floor (len_s - 1) + length (results_of t))))) (outer_peak c os)) =
    st.height ∙ ap (λ r. max s.greatest (max (greatest_height here r s.floor len_s) (outer_peak c os))) q.rest_is in
    let yes_is : greatest_height inner q.yes_arm (max s.floor (len_s - 1)) (max s.floor (len_s - 1)) ≡ greatest_height inner q.yes_arm n.floor (length n.items.items) =
    ap (λ h. greatest_height inner q.yes_arm h h) without_is
    ∙ ap (λ f. greatest_height inner q.yes_arm f len) (sym (op.floor ∙ low.items.ok.0)) ∙ ap (λ i. greatest_height inner q.yes_arm n.floor (length i.items)) (sym op.items) in
    let low_is : max s.floor (len_s - 1) ≡ low_of o = without_is ∙ count_of low in
    let no_is : greatest_height inner q.no_arm (max s.floor (len_s - 1)) (max s.floor (len_s - 1)) ≡ greatest_height inner q.no_arm (low_of o) (low_of o) =
    ap (λ h. greatest_height inner q.no_arm h h) low_is in
    let next_is : greatest_height here q.next s.floor (max s.floor (len_s - 1) + length (results_of t)) ≡ greatest_height here q.next low.floor (low_of o + length (results_of t)) =
    ap (λ h. greatest_height here q.next s.floor (h + length (results_of t))) low_is ∙ ap (λ f. greatest_height here q.next f (low_of o + length (results_of t))) (sym same.floor) in
    let enough : vec_len s.items ≤ s.greatest = s.enough in
    record {
      blocks = o ∷ os;
      rest = q.yes_arm;
      spelled = q.spelled;
      layers = one_layer low n v levels os o op (subst (Layers levels os) (sym same.below) st.layers) (sym kind) refl refl refl;
      typed = st.typed ∙ ap (λ r. outcome c os r (stack_of s)) q.rest_is ∙ outcome_if c os t q.yes_arm q.no_arm q.next (stack_of s) (stack_of low) low.floor takes ∙ ap (outcome c (o ∷ os) q.yes_arm) (sym op.stack);
      height = omega (arith, before, yes_is, no_is, next_is, op.greatest, lower, enough, s.items.ok.0);
    }

pub if_stop : (c : Context) (total : Option Stack) (peak : ℕ) (final bytes more : List ℕ) (levels : List Level) (s : OperandStack) (t : BlockType) → Stands c total peak final bytes levels s → SpellsWord bytes (opens openings.If t) more → taken (I32 ∷ []) (stack_of s) ≡ None → total ≡ None
if_stop c total peak final bytes more levels s t st w takes =
    let os = st.blocks in
    let q = if_next os st.rest bytes final t (stack_of s) s.floor more st.spelled w in
    st.typed ∙ ap (λ r. outcome c os r (stack_of s)) q.rest_is ∙ outcome_if_none c os t q.yes_arm q.no_arm q.next (stack_of s) takes

-- the block that the code's innermost level is
pub record TopLevel (c : Context) (v : Level) (levels : List Level) (s : OperandStack) (os : List Open) : Type 0 where
  pub o : Open
  pub others : List Open
  pub is : os ≡ o ∷ others
  pub kind : o.kind ≡ v.kind
  pub type : o.type ≡ v.block_type
  pub floor : o.floor ≡ v.floor
  pub below : o.below ≡ record { operands = reverse (drop v.floor (below_of s)); reached = v.reached }
  pub within : v.floor ≤ length (below_of s)
  pub layers : Layers levels others (take v.floor (below_of s))

pub top_level : (c : Context) (v : Level) (levels : List Level) (s : OperandStack) (os : List Open) → Layers (v ∷ levels) os (below_of s) → TopLevel c v levels s os
top_level c v levels s [] l = absurd l
top_level c v levels s (o ∷ os) l =
    record { o = o; others = os; is = refl; kind = l.0; type = l.1; floor = l.2; below = l.3; within = l.4; layers = l.5 }

-- how many operands lie below the innermost block
length_below : (s : OperandStack) → length (below_of s) ≡ s.floor
length_below s =
    let within : s.floor ≤ vec_len s.items = s.in_range in short s.floor s.items.items (omega (arith, s.items.ok.0))
  where
    short : {A : Type 0} (n : ℕ) (xs : List A) → n ≤ length xs → length (take n xs) ≡ n
    short n xs h = omega (arith, length-take n xs)

-- no block began above the innermost one
pub level_within : (c : Context) (total : Option Stack) (peak : ℕ) (final bytes : List ℕ) (v : Level) (levels : List Level) (s : OperandStack) → Stands c total peak final bytes (v ∷ levels) s → v.floor ≤ s.floor
level_within c total peak final bytes v levels s st =
    let t = top_level c v levels s st.blocks st.layers in omega (arith, t.within, length_below s)

-- an `else` behind a first arm that leaves the results: the second begins where the first did
pub else_step : (c : Context) (total : Option Stack) (peak : ℕ) (final bytes more : List ℕ) (v v' : Level) (levels : List Level) (s n : OperandStack) → Stands c total peak final bytes (v ∷ levels) s → SpellsWord bytes otherwise more → v'.kind ≡ opened.Second → v'.block_type ≡ v.block_type → v'.floor ≡ v.floor → v'.reached ≡ v.reached → fits (stack_of s) (results_of v.block_type) ≡ true → stack_of n ≡ fresh → SameBlock s n → length n.items.items ≡ n.floor → n.greatest ≡ s.greatest → (v.kind ≡ opened.First) × Stands c total peak final more (v' ∷ levels) n
else_step c total peak final bytes more v v' levels s n st w kind type floor reached results stack same low greatest =
    let t = top_level c v levels s st.blocks st.layers in
    let o = t.o in
    let os = t.others in
    let o' = opened_second o in
    let here = inner_context c os in
    let e = ends_here st.blocks st.rest bytes final true more st.spelled w in
    let g = else_of os o more final (subst (λ l. GoesOn l true more final) t.is e.goes_on) in
    let len_s = length s.items.items in
    let results_there : fits (stack_of s) (results_of o.type) ≡ true = subst (λ (b : BlockType). fits (stack_of s) (results_of b) ≡ true) (sym t.type) results in
    let leaves : closed o.type o.below (stack_of s) ≡ Some (given (results_of o.type) o.below) = when_true (fits (stack_of s) (results_of o.type)) (Some (given (results_of o.type) o.below)) None results_there in
    let blocks_are : outcome c st.blocks st.rest (stack_of s) ≡ outcome c (o ∷ os) done (stack_of s) =
    ap (λ l. outcome c l st.rest (stack_of s)) t.is ∙ ap (λ r. outcome c (o ∷ os) r (stack_of s)) e.rest_is in
    let before : peak ≡ max s.greatest (max len_s (max (max (second_peak o.kind here o.type o.second (low_of o)) (greatest_height here o.next o.floor (low_of o + length (results_of o.type)))) (outer_peak c os))) =
    st.height
    ∙ ap (λ l. max s.greatest (max (greatest_height (inner_context c l) st.rest s.floor len_s) (outer_peak c l))) t.is
    ∙ ap (λ r. max s.greatest (max (greatest_height (inner_context c (o ∷ os)) r s.floor len_s) (outer_peak c (o ∷ os)))) e.rest_is in
    let second_is : second_peak o.kind here o.type o.second (low_of o) ≡ greatest_height (with_label (results_of o.type) here) o.second (low_of o) (low_of o) =
    ap (λ (k : Opened). second_peak k here o.type o.second (low_of o)) g.0 in
    let low_is : low_of o ≡ n.floor =
    (let d : length o.below.operands ≡ length (reverse (drop v.floor (below_of s))) = ap (λ (x : Stack). length x.operands) t.below in
    omega (arith, d, t.floor, t.within, length-reverse (drop v.floor (below_of s)), length-drop v.floor (below_of s), length_below s, same.floor)) in
    let now_is : greatest_height (with_label (results_of o.type) here) o.second (low_of o) (low_of o) ≡ greatest_height (with_label (results_of o.type) here) o.second n.floor (length n.items.items) =
    ap (λ h. greatest_height (with_label (results_of o.type) here) o.second h h) low_is ∙ ap (λ h. greatest_height (with_label (results_of o.type) here) o.second n.floor h) (sym low) in
    let enough : vec_len s.items ≤ s.greatest = s.enough in (
      sym t.kind ∙ g.0,
      record {
        blocks = o' ∷ os;
        rest = o.second;
        spelled = g.1;
        layers = subst (Layers (v' ∷ levels) (o' ∷ os)) (sym same.below) (
          sym kind,
          t.type ∙ sym type,
          t.floor ∙ sym floor,
          t.below ∙ ap (λ f. record { operands = reverse (drop f (below_of s)); reached = v.reached }) (sym floor) ∙ ap (λ r. record { operands = reverse (drop v'.floor (below_of s)); reached = r }) (sym reached),
          omega (arith, t.within, floor),
          subst (λ f. Layers levels os (take f (below_of s))) (sym floor) t.layers,
        );
        typed = st.typed ∙ blocks_are ∙ outcome_else c os o (stack_of s) (given (results_of o.type) o.below) g.0 leaves ∙ ap (outcome c (o' ∷ os) o.second) (sym stack);
        height = omega (arith, before, second_is, now_is, greatest, enough, s.items.ok.0);
      },
    )

pub else_stop : (c : Context) (total : Option Stack) (peak : ℕ) (final bytes more : List ℕ) (v : Level) (levels : List Level) (s : OperandStack) → Stands c total peak final bytes (v ∷ levels) s → SpellsWord bytes otherwise more → fits (stack_of s) (results_of v.block_type) ≡ false → total ≡ None
else_stop c total peak final bytes more v levels s st w results =
    let t = top_level c v levels s st.blocks st.layers in
    let o = t.o in
    let os = t.others in
    let e = ends_here st.blocks st.rest bytes final true more st.spelled w in
    let g = else_of os o more final (subst (λ l. GoesOn l true more final) t.is e.goes_on) in
    let results_there : fits (stack_of s) (results_of o.type) ≡ false = subst (λ (b : BlockType). fits (stack_of s) (results_of b) ≡ false) (sym t.type) results in
    let leaves : closed o.type o.below (stack_of s) ≡ None = ap (λ b. if b then Some (given (results_of o.type) o.below) else None) results_there in
    st.typed ∙ ap (λ l. outcome c l st.rest (stack_of s)) t.is ∙ ap (λ r. outcome c (o ∷ os) r (stack_of s)) e.rest_is ∙ outcome_else_none c os o (stack_of s) g.0 leaves

-- no `else` stands outside all blocks
pub no_else : (c : Context) (total : Option Stack) (peak : ℕ) (final bytes more : List ℕ) (s : OperandStack) → Stands c total peak final bytes [] s → SpellsWord bytes otherwise more → ⊥
no_else c total peak final bytes more s st w = none st.blocks st.layers (ends_here st.blocks st.rest bytes final true more st.spelled w).goes_on
  where
    none : (os : List Open) → Layers [] os (below_of s) → GoesOn os true more final → ⊥
    none [] l g = let e : true ≡ false = g.0 in absurd (cc)
    none (o ∷ os) l g = absurd l

-- behind a block that leaves its results; an if without `else` leaves none
finish_is : (k : Opened) (c : Context) (t : BlockType) (below inside r : Stack) (second : Body) → (k ≡ opened.First → second ≡ done) → (k ≡ opened.First → t ≡ Empty) → closed t below inside ≡ Some r → finish k c t below second inside ≡ Some r
finish_is opened.Block c t below inside r second d f e = e
finish_is opened.Loop c t below inside r second d f e = e
finish_is opened.Second c t below inside r second d f e = e
finish_is opened.First c t below inside r second d f e =
    let there : closed Empty below inside ≡ Some r = subst (λ x. closed x below inside ≡ Some r) (f refl) e in
    let u = under (fits inside []) (given [] below) r there in
    ap (λ b. option_and_then (λ arm. option_and_then (closed t below) (pass (with_label (results_of t) c) b fresh)) (closed t below inside)) (d refl)
    ∙ ap (λ x. option_and_then (λ arm. closed x below fresh) (closed x below inside)) (f refl)
    ∙ ap (option_and_then (λ arm. closed Empty below fresh)) there
    ∙ ap Some u.1

finish_none : (k : Opened) (c : Context) (t : BlockType) (below inside : Stack) (second : Body) → closed t below inside ≡ None → finish k c t below second inside ≡ None
finish_none opened.Block c t below inside second e = e
finish_none opened.Loop c t below inside second e = e
finish_none opened.Second c t below inside second e = e
finish_none opened.First c t below inside second e = ap (option_and_then (λ arm. option_and_then (closed t below) (pass (with_label (results_of t) c) second fresh))) e

-- an if without `else` that has a result leaves nothing
finish_missing : (c : Context) (t : ValueType) (below inside : Stack) → finish opened.First c (Result t) below done inside ≡ None
finish_missing c t below inside = both (closed (Result t) below inside)
  where
    both : (o : Option Stack) → option_and_then (λ (arm : Stack). closed (Result t) below fresh) o ≡ None
    both None = refl
    both (Some x) = refl

-- a second arm that is absent has no more operands than there are before it
second_low : (k : Opened) (c : Context) (t : BlockType) (second : Body) (low : ℕ) → (k ≡ opened.First → second ≡ done) → second_peak k c t second low ≤ low
second_low opened.Block c t second low d = omega arith
second_low opened.Loop c t second low d = omega arith
second_low opened.Second c t second low d = omega arith
second_low opened.First c t second low d =
    let is : greatest_height (with_label (results_of t) c) second low low ≡ low = ap (λ b. greatest_height (with_label (results_of t) c) b low low) (d refl) in omega (arith, is)

-- an `end` of a block that leaves its results
pub end_step : (c : Context) (total : Option Stack) (peak : ℕ) (final bytes more : List ℕ) (v : Level) (levels : List Level) (s n : OperandStack) → Stands c total peak final bytes (v ∷ levels) s → SpellsWord bytes end more → (v.kind ≡ opened.First → v.block_type ≡ Empty) → closed v.block_type (record { operands = reverse (drop v.floor (below_of s)); reached = v.reached }) (stack_of s) ≡ Some (stack_of n) → n.floor ≡ v.floor → below_of n ≡ take v.floor (below_of s) → n.greatest ≡ max s.greatest (vec_len n.items) → Stands c total peak final more levels n
end_step c total peak final bytes more v levels s n st w empty closes floor below greatest =
    let t = top_level c v levels s st.blocks st.layers in
    let o = t.o in
    let os = t.others in
    let here = inner_context c os in
    let e = ends_here st.blocks st.rest bytes final false more st.spelled w in
    let g = end_of os o more final (subst (λ l. GoesOn l false more final) t.is e.goes_on) in
    let len_s = length s.items.items in
    let len_n = length n.items.items in
    let closes_o : closed o.type o.below (stack_of s) ≡ Some (stack_of n) = ap (λ x. closed x o.below (stack_of s)) t.type ∙ ap (λ x. closed v.block_type x (stack_of s)) t.below ∙ closes in
    let leaves = finish_is o.kind here o.type o.below (stack_of s) (stack_of n) o.second g.0 (λ f. t.type ∙ empty (sym t.kind ∙ f)) closes_o in
    let before : peak ≡ max s.greatest (max len_s (max (max (second_peak o.kind here o.type o.second (low_of o)) (greatest_height here o.next o.floor (low_of o + length (results_of o.type)))) (outer_peak c os))) =
    st.height
    ∙ ap (λ l. max s.greatest (max (greatest_height (inner_context c l) st.rest s.floor len_s) (outer_peak c l))) t.is
    ∙ ap (λ r. max s.greatest (max (greatest_height (inner_context c (o ∷ os)) r s.floor len_s) (outer_peak c (o ∷ os)))) e.rest_is in
    let floors : n.floor ≡ o.floor = floor ∙ sym t.floor in
    let u = under (fits (stack_of s) (results_of o.type)) (given (results_of o.type) o.below) (stack_of n) closes_o in
    let given_long : length (map Some (results_of o.type) ++ o.below.operands) ≡ length (stack_of n).operands = ap (λ (x : Stack). length x.operands) u.1 in
    let len_is : low_of o + length (results_of o.type) ≡ len_n =
    omega (arith, given_long, length-append (map Some (results_of o.type)) o.below.operands, length-map (results_of o.type) (λ x. Some x), count_of n, floors) in
    let next_is : greatest_height here o.next o.floor (low_of o + length (results_of o.type)) ≡ greatest_height here o.next n.floor len_n =
    ap (λ f. greatest_height here o.next f (low_of o + length (results_of o.type))) (sym floors) ∙ ap (greatest_height here o.next n.floor) len_is in
    let second = second_low o.kind here o.type o.second (low_of o) g.0 in
    let least = at_least here o.next n.floor len_n in
    let enough : vec_len s.items ≤ s.greatest = s.enough in
    record {
      blocks = os;
      rest = o.next;
      spelled = g.1;
      layers = subst (Layers levels os) (sym below) t.layers;
      typed = st.typed ∙ ap (λ l. outcome c l st.rest (stack_of s)) t.is ∙ ap (λ r. outcome c (o ∷ os) r (stack_of s)) e.rest_is ∙ outcome_left c os o (stack_of s) (stack_of n) leaves;
      height = omega (arith, before, next_is, second, least, len_is, enough, greatest, s.items.ok.0, n.items.ok.0);
    }

pub end_stop : (c : Context) (total : Option Stack) (peak : ℕ) (final bytes more : List ℕ) (v : Level) (levels : List Level) (s : OperandStack) → Stands c total peak final bytes (v ∷ levels) s → SpellsWord bytes end more → fits (stack_of s) (results_of v.block_type) ≡ false → total ≡ None
end_stop c total peak final bytes more v levels s st w results =
    let t = top_level c v levels s st.blocks st.layers in
    let o = t.o in
    let os = t.others in
    let e = ends_here st.blocks st.rest bytes final false more st.spelled w in
    let results_there : fits (stack_of s) (results_of o.type) ≡ false = subst (λ (b : BlockType). fits (stack_of s) (results_of b) ≡ false) (sym t.type) results in
    let leaves : closed o.type o.below (stack_of s) ≡ None = ap (λ b. if b then Some (given (results_of o.type) o.below) else None) results_there in
    st.typed ∙ ap (λ l. outcome c l st.rest (stack_of s)) t.is ∙ ap (λ r. outcome c (o ∷ os) r (stack_of s)) e.rest_is
    ∙ outcome_left_none c os o (stack_of s) (finish_none o.kind (inner_context c os) o.type o.below (stack_of s) o.second leaves)

-- an `end` of an if without `else` that has a result
pub missing_stop : (c : Context) (total : Option Stack) (peak : ℕ) (final bytes more : List ℕ) (v : Level) (levels : List Level) (s : OperandStack) (r : ValueType) → Stands c total peak final bytes (v ∷ levels) s → SpellsWord bytes end more → v.kind ≡ opened.First → v.block_type ≡ Result r → total ≡ None
missing_stop c total peak final bytes more v levels s r st w kind type =
    let t = top_level c v levels s st.blocks st.layers in
    let o = t.o in
    let os = t.others in
    let here = inner_context c os in
    let e = ends_here st.blocks st.rest bytes final false more st.spelled w in
    let g = end_of os o more final (subst (λ l. GoesOn l false more final) t.is e.goes_on) in
    let first : o.kind ≡ opened.First = t.kind ∙ kind in
    let leaves : finish o.kind here o.type o.below o.second (stack_of s) ≡ None =
    ap (λ k. finish k here o.type o.below o.second (stack_of s)) first
    ∙ ap (λ b. finish opened.First here o.type o.below b (stack_of s)) (g.0 first)
    ∙ ap (λ x. finish opened.First here x o.below done (stack_of s)) (t.type ∙ type)
    ∙ finish_missing here r o.below (stack_of s) in
    st.typed ∙ ap (λ l. outcome c l st.rest (stack_of s)) t.is ∙ ap (λ x. outcome c (o ∷ os) x (stack_of s)) e.rest_is ∙ outcome_left_none c os o (stack_of s) leaves

-- the `end` of the body
pub record AtEnd (total : Option Stack) (peak : ℕ) (final more : List ℕ) (s : OperandStack) : Type 0 where
  pub typed : total ≡ Some (stack_of s)
  pub height : peak ≡ s.greatest
  pub final_is : more ≡ final

pub last_step : (c : Context) (total : Option Stack) (peak : ℕ) (final bytes more : List ℕ) (s : OperandStack) → Stands c total peak final bytes [] s → SpellsWord bytes end more → AtEnd total peak final more s
last_step c total peak final bytes more s st w =
    let e = ends_here st.blocks st.rest bytes final false more st.spelled w in
    none st.blocks st.layers e.goes_on st.typed st.height e.rest_is
  where
    none : (os : List Open) → Layers [] os (below_of s) → GoesOn os false more final → total ≡ outcome c os st.rest (stack_of s) → peak ≡ max s.greatest (max (greatest_height (inner_context c os) st.rest s.floor (length s.items.items)) (outer_peak c os)) → st.rest ≡ done → AtEnd total peak final more s
    none [] l g typed height d =
        let last : peak ≡ max s.greatest (max (length s.items.items) 0) = height ∙ ap (λ r. max s.greatest (max (greatest_height c r s.floor (length s.items.items)) 0)) d in
        let enough : vec_len s.items ≤ s.greatest = s.enough in
        record { typed = typed ∙ ap (λ r. pass c r (stack_of s)) d; height = omega (arith, last, enough, s.items.ok.0); final_is = g.1 }
    none (o ∷ os) l g typed height d = absurd l

-- where a body begins
pub start : (c : Context) (body : Body) (final bytes : List ℕ) (s : OperandStack) → SpellsExpr bytes body final → stack_of s ≡ fresh → s.floor ≡ 0 → s.greatest ≡ 0 → Stands c (pass c body fresh) (greatest_height c body 0 0) final bytes [] s
start c body final bytes s spelled stack floor greatest =
    let few : length (stack_of s).operands ≡ 0 = ap (λ (x : Stack). length x.operands) stack in
    let none : length s.items.items ≡ 0 = omega (arith, count_of s, few, floor) in
    let heights : greatest_height c body s.floor (length s.items.items) ≡ greatest_height c body 0 0 =
    ap (λ f. greatest_height c body f (length s.items.items)) floor ∙ ap (greatest_height c body 0) none in
    record {
      blocks = [];
      rest = body;
      spelled = record { by_else = false; after = final; here = spelled; goes_on = (refl, refl) };
      layers = ap (λ f. take f s.items.items) floor;
      typed = ap (pass c body) (sym stack);
      height = omega (arith, heights, greatest);
    }

-- where a body ends
pub finished : (c : Context) (body : Body) (final bytes more : List ℕ) (s : OperandStack) (t : BlockType) → Stands c (pass c body fresh) (greatest_height c body 0 0) final bytes [] s → SpellsWord bytes end more → fits (stack_of s) (results_of t) ≡ true → IsPassed c body t s.greatest
finished c body final bytes more s t st w f =
    let e = last_step c (pass c body fresh) (greatest_height c body 0 0) final bytes more s st w in
    record { typed = body_typed body c (stack_of s) (results_of t) e.typed f; height = sym e.height }

-- a word stands wherever the typing does
pub word_here : (c : Context) (total : Option Stack) (peak : ℕ) (final bytes : List ℕ) (levels : List Level) (s : OperandStack) → Stands c total peak final bytes levels s → (w : Word) × (more : List ℕ) × SpellsWord bytes w more
word_here c total peak final bytes levels s st =
    let p = first_spelled (256 - length st.blocks) (closing st.spelled.by_else) bytes st.rest st.spelled.after st.spelled.here in
    (first (closing st.spelled.by_else) st.rest, p.0, p.1)

-- where a body ends without its results
pub stopped : (c : Context) (body : Body) (final bytes more : List ℕ) (s : OperandStack) (t : BlockType) → Stands c (pass c body fresh) (greatest_height c body 0 0) final bytes [] s → SpellsWord bytes end more → fits (stack_of s) (results_of t) ≡ false → Typed c body [] (results_of t) → ⊥
stopped c body final bytes more s t st w f =
    let e = last_step c (pass c body fresh) (greatest_height c body 0 0) final bytes more s st w in
    others_passed body c (stack_of s) (results_of t) e.typed f
