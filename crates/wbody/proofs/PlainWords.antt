-- The words of plain instructions, told by their places, and how the typing goes over them.
use Rattle.std.proofs.Common.{◌≡◌, ℕ, ◌+◌, ◌<◌, ◌≤◌, Bool, true, false, List, [], ◌∷◌, ◌++◌, Option, Some, None, Result, Ok, Err, IfOk, length, drop, get_or, reverse, vec_len, max, refl, sym, ap, ◌∙◌, subst, arith, length-drop}
use Rattle.std.specs.Prelude.{◌&&◌, slice_get}
use Rattle.std.specs.Result.{result_and}
use Rattle.std.proofs.lemmas.List.{append-nil}
use Rattle.wcode.specs.declared.value.ValueType.{ValueType}
use Rattle.wcode.specs.declared.value.ValueType.TheVariants.{I32, I64}
use Rattle.wcode.specs.declared.value.Value.{Value}
use Rattle.wcode.specs.declared.operator.LoadOp.{LoadOp}
use Rattle.wcode.specs.declared.operator.StoreOp.{StoreOp}
use Rattle.wcode.specs.declared.instruction.MemArg.{MemArg}
use Rattle.wcode.specs.declared.instruction.Plain.{Plain}
use Rattle.wcode.specs.declared.instruction.Plain.TheVariants as plains
use Rattle.wcode.specs.declared.instruction.Op.TheVariants as ops
use Rattle.wcode.specs.declared.opcode.Form.{Form}
use Rattle.wcode.specs.declared.opcode.Form.TheVariants as forms
use Rattle.wcode.specs.Opcodes.{form}
use Rattle.wcode.specs.Operators.{type_of, load_type, load_bytes, store_type, store_bytes}
use Rattle.wcode.specs.Grammar.{Word, one, SpellsWord}
use Rattle.wcode.specs.Shown.{Shows}
use Rattle.wcode.proofs.KnownWords.{known_word}
use Rattle.wcode.proofs.Shorter.{word_shorter}
use Rattle.wmodule.specs.Syntax.{locals_of}
use Rattle.wbody.specs.declared.scope.Level.{Level}
use Rattle.wbody.specs.declared.scope.Scope.{Scope}
use Rattle.wbody.specs.declared.stop.Stop.{Stop}
use Rattle.wbody.specs.declared.stop.Stop.TheVariants as stops
use Rattle.wbody.specs.declared.operand_stack.OperandStack.{OperandStack}
use Rattle.wbody.specs.Context.{Context, Operands}
use Rattle.wbody.specs.Typing.{PlainType, takes_gives, untyped, of_found, only_where, is_in_range, is_aligned, plain_type}
use Rattle.wbody.specs.Heights.{height_by}
use Rattle.wbody.specs.Branches.{Branch, Label, plain_branches}
use Rattle.wbody.specs.inside.Pass.{pass_type}
use Rattle.wbody.specs.inside.Scope.{IsScope}
use Rattle.wbody.specs.inside.OperandStack.{stack_of, Changes}
use Rattle.wbody.specs.inside.Standing.{inner_context}
use Rattle.wbody.specs.inside.Trail.{Trace}
use Rattle.wbody.specs.inside.Words.{PlainHere, PlainPasses, PlainTo, PlainStops, OverPlain, Passes, PassesTo, StopsHere, OverWord}
use Rattle.wbody.proofs.Inside.{scope_inside}
use Rattle.wbody.proofs.Steps.{plain_step, plain_stop}
use Rattle.wbody.proofs.NotedMoves.{effect_moves}
use Rattle.wbody.proofs.KindForms.{PlainForm}

-- where a word stands there is a byte
pub word_within : (bytes : List ℕ) (at : ℕ) (w : Word) (rest : List ℕ) → SpellsWord (drop at bytes) w rest → at < length bytes
word_within bytes at w rest h = let short = word_shorter (drop at bytes) w rest h in omega (arith, short, length-drop at bytes)

-- an instruction that is its opcode alone
pub plain_here : (scope : Scope) (bytes : List ℕ) (at : ℕ) (type : PlainType) → at < length bytes → PlainForm (form (get_or bytes at 0)) type
    → ((floor height : ℕ) → floor ≤ height → height_by type floor height ≤ height + 1) → PlainHere scope bytes at (at + 1) type
plain_here scope bytes at type within f few =
    record {
      plain = f.plain;
      word = known_word bytes at (forms.Plain f.plain) (one f.plain) (drop (at + 1) bytes) within f.form_is (refl, refl);
      past = omega arith;
      within = omega arith;
      no_branch = f.no_branch;
      few = few;
      type_is = λ c h. f.type_is c;
    }

-- what gives one operand at most leaves one more at most
pub few_more : (takes gives : Operands) → length gives ≤ 1 → (floor height : ℕ) → floor ≤ height → height_by (takes_gives takes gives) floor height ≤ height + 1
few_more takes gives few floor height within = omega arith

-- over it, whatever is open and whatever branches there are
plain_word : (scope : Scope) (bytes : List ℕ) (at next : ℕ) (levels : List Level) (s n : OperandStack) (a : Trace) → PlainPasses scope bytes at next s n → PassesTo scope bytes at (Some next) levels s a levels n a
plain_word scope bytes at next levels s n a x =
    let h = x.here in
    record {
      op = ops.Plain h.plain;
      word = one h.plain;
      shown = refl;
      spelled = h.word;
      past = h.past;
      within = h.within;
      over = λ w shown c total peak final front more base st word.
          plain_step c total peak final front more (reverse levels) s n h.plain st (subst (λ v. SpellsWord front v more) shown word)
          (λ os layers. ap (λ (t : PlainType). pass_type t (stack_of s)) (h.type_is (inner_context c os) (scope_inside scope c os base.0)) ∙ x.ok) x.same x.greatest;
      moves = (
        refl,
        x.same.floor,
        record {
          made = x.type;
          is = effect_moves s n x.type x.ok x.same;
          type = λ c is labels. sym (h.type_is c is);
          few = λ low. let e = effect_moves s n x.type x.ok x.same in let f = h.few s.floor (vec_len s.items) low in omega (arith, e, f);
        },
      );
      adds = (sym (ap (λ l. a.branches ++ l) (h.no_branch a.labels at) ∙ append-nil a.branches), refl, refl);
    }

-- what comes of an instruction that stands there is what comes of its operands
of_operands : (scope : Scope) (bytes : List ℕ) (at next : ℕ) (type : PlainType) (r : Result Unit Stop) (s n : OperandStack) → PlainHere scope bytes at next type → Changes type r s n → OverPlain scope bytes at (result_and r (Ok (Some next))) s n
of_operands scope bytes at next type (Ok u) s n here x =
    record { ok = record { type = type; here = here; ok = x.ok; same = x.same; greatest = x.greatest }; err = λ e. absurd (cc) }
of_operands scope bytes at next type (Err f) s n here x =
    record { ok = tt; err = λ e. record { next = next; type = type; here = here; stops = (let fault : f ≡ stops.Untyped = cc in x.err (ap (λ y. Err y) fault)) } }

pub over_plain : (scope : Scope) (bytes : List ℕ) (at next : ℕ) (type : PlainType) (r : Result Unit Stop) (z : Result (Option ℕ) Stop) (s n : OperandStack) → PlainHere scope bytes at next type → Changes type r s n → z ≡ result_and r (Ok (Some next)) → OverPlain scope bytes at z s n
over_plain scope bytes at next type r z s n here x e =
    subst (λ (y : Result (Option ℕ) Stop). OverPlain scope bytes at y s n) (sym e) (of_operands scope bytes at next type r s n here x)

-- one that may not be there
pub over_untyped : (scope : Scope) (bytes : List ℕ) (at next : ℕ) (s n : OperandStack) → PlainHere scope bytes at next untyped → OverPlain scope bytes at (Err stops.Untyped) s n
over_untyped scope bytes at next s n here = record { ok = tt; err = λ e. record { next = next; type = untyped; here = here; stops = refl } }

plain_passes : (scope : Scope) (bytes : List ℕ) (at : ℕ) (levels : List Level) (s n : OperandStack) (a : Trace) (r : Result (Option ℕ) Stop) → IfOk r (λ x. PlainTo scope bytes at x s n) → IfOk r (λ x. PassesTo scope bytes at x levels s a levels n a)
plain_passes scope bytes at levels s n a (Ok (Some next)) h = plain_word scope bytes at next levels s n a h
plain_passes scope bytes at levels s n a (Ok None) h = absurd h
plain_passes scope bytes at levels s n a (Err e) h = tt

plain_stops : (scope : Scope) (bytes : List ℕ) (at : ℕ) (levels : List Level) (s : OperandStack) → PlainStops scope bytes at s → StopsHere scope bytes at levels s
plain_stops scope bytes at levels s x =
    let h = x.here in
    record {
      word = one h.plain;
      rest = drop x.next bytes;
      spelled = h.word;
      stops = λ c total peak final front more base st word.
          plain_stop c total peak final front more (reverse levels) s h.plain st word
          (λ os layers. ap (λ (t : PlainType). pass_type t (stack_of s)) (h.type_is (inner_context c os) (scope_inside scope c os base.0)) ∙ x.stops);
    }

-- so is what comes of the word, whatever is open and whatever branches there are
pub plain_over : (scope : Scope) (bytes : List ℕ) (at : ℕ) (levels : List Level) (s n : OperandStack) (a : Trace) (z : Result (Option ℕ) Stop) → OverPlain scope bytes at z s n → OverWord scope bytes at z levels s a levels n a
plain_over scope bytes at levels s n a z x =
    record { ok = plain_passes scope bytes at levels s n a z x.ok; err = λ e. plain_stops scope bytes at levels s (x.err e) }

-- what is done only where it may be, and where it may not be
pub only_true : (b : Bool) (type : PlainType) → b ≡ true → only_where b type ≡ type
only_true true type h = refl
only_true false type h = absurd (cc)

-- ---- with something behind the opcode

-- a constant
pub constant_here : (scope : Scope) (bytes : List ℕ) (at next : ℕ) (v : Value) → SpellsWord (drop at bytes) (one (plains.Const v)) (drop next bytes) → at < next → next ≤ length bytes → is_in_range v ≡ true
    → PlainHere scope bytes at next (takes_gives [] (type_of v ∷ []))
constant_here scope bytes at next v word past within range =
    record {
      plain = plains.Const v;
      word = word;
      past = past;
      within = within;
      no_branch = λ labels place. refl;
      few = few_more [] (type_of v ∷ []) (omega arith);
      type_is = λ c h. only_true (is_in_range v) (takes_gives [] (type_of v ∷ [])) range;
    }

-- what a local's index says, as it is found
abbrev pub get_type : Option ValueType → PlainType
get_type found = of_found (λ t. takes_gives [] (t ∷ [])) found

abbrev pub set_type : Option ValueType → PlainType
set_type found = of_found (λ t. takes_gives (t ∷ []) []) found

abbrev pub tee_type : Option ValueType → PlainType
tee_type found = of_found (λ t. takes_gives (t ∷ []) (t ∷ [])) found

few_get : (found : Option ValueType) (floor height : ℕ) → floor ≤ height → height_by (get_type found) floor height ≤ height + 1
few_get None floor height h = omega arith
few_get (Some t) floor height h = omega arith

few_set : (found : Option ValueType) (floor height : ℕ) → floor ≤ height → height_by (set_type found) floor height ≤ height + 1
few_set None floor height h = omega arith
few_set (Some t) floor height h = omega arith

few_tee : (found : Option ValueType) (floor height : ℕ) → floor ≤ height → height_by (tee_type found) floor height ≤ height + 1
few_tee None floor height h = omega arith
few_tee (Some t) floor height h = omega arith

abbrev pub local_at : Scope → ℕ → Option ValueType
local_at scope x = slice_get (scope.parameters.now ++ locals_of scope.locals.now) x

pub get_here : (scope : Scope) (bytes : List ℕ) (at next x : ℕ) (found : Option ValueType) → SpellsWord (drop at bytes) (one (plains.LocalGet x)) (drop next bytes) → at < next → next ≤ length bytes → found ≡ local_at scope x
    → PlainHere scope bytes at next (get_type found)
get_here scope bytes at next x found word past within is =
    record {
      plain = plains.LocalGet x;
      word = word;
      past = past;
      within = within;
      no_branch = λ labels place. refl;
      few = few_get found;
      type_is = λ c h. ap get_type (ap (λ l. slice_get l x) h.locals ∙ sym is);
    }

pub set_here : (scope : Scope) (bytes : List ℕ) (at next x : ℕ) (found : Option ValueType) → SpellsWord (drop at bytes) (one (plains.LocalSet x)) (drop next bytes) → at < next → next ≤ length bytes → found ≡ local_at scope x
    → PlainHere scope bytes at next (set_type found)
set_here scope bytes at next x found word past within is =
    record {
      plain = plains.LocalSet x;
      word = word;
      past = past;
      within = within;
      no_branch = λ labels place. refl;
      few = few_set found;
      type_is = λ c h. ap set_type (ap (λ l. slice_get l x) h.locals ∙ sym is);
    }

pub tee_here : (scope : Scope) (bytes : List ℕ) (at next x : ℕ) (found : Option ValueType) → SpellsWord (drop at bytes) (one (plains.LocalTee x)) (drop next bytes) → at < next → next ≤ length bytes → found ≡ local_at scope x
    → PlainHere scope bytes at next (tee_type found)
tee_here scope bytes at next x found word past within is =
    record {
      plain = plains.LocalTee x;
      word = word;
      past = past;
      within = within;
      no_branch = λ labels place. refl;
      few = few_tee found;
      type_is = λ c h. ap tee_type (ap (λ l. slice_get l x) h.locals ∙ sym is);
    }

-- an access, by whether it may be
few_by : (b : Bool) (takes gives : Operands) → length gives ≤ 1 → (floor height : ℕ) → floor ≤ height → height_by (only_where b (takes_gives takes gives)) floor height ≤ height + 1
few_by true takes gives few floor height h = omega arith
few_by false takes gives few floor height h = omega arith

pub load_here : (scope : Scope) (bytes : List ℕ) (at next : ℕ) (op : LoadOp) (arg : MemArg) → SpellsWord (drop at bytes) (one (plains.Load op arg)) (drop next bytes) → at < next → next ≤ length bytes
    → PlainHere scope bytes at next (only_where (scope.has_memory && is_aligned arg (load_bytes op)) (takes_gives (I32 ∷ []) (load_type op ∷ [])))
load_here scope bytes at next op arg word past within =
    record {
      plain = plains.Load op arg;
      word = word;
      past = past;
      within = within;
      no_branch = λ labels place. refl;
      few = few_by (scope.has_memory && is_aligned arg (load_bytes op)) (I32 ∷ []) (load_type op ∷ []) (omega arith);
      type_is = λ c h. ap (λ b. only_where (b && is_aligned arg (load_bytes op)) (takes_gives (I32 ∷ []) (load_type op ∷ []))) h.has_memory;
    }

pub store_here : (scope : Scope) (bytes : List ℕ) (at next : ℕ) (op : StoreOp) (arg : MemArg) → SpellsWord (drop at bytes) (one (plains.Store op arg)) (drop next bytes) → at < next → next ≤ length bytes
    → PlainHere scope bytes at next (only_where (scope.has_memory && is_aligned arg (store_bytes op)) (takes_gives (store_type op ∷ I32 ∷ []) []))
store_here scope bytes at next op arg word past within =
    record {
      plain = plains.Store op arg;
      word = word;
      past = past;
      within = within;
      no_branch = λ labels place. refl;
      few = few_by (scope.has_memory && is_aligned arg (store_bytes op)) (store_type op ∷ I32 ∷ []) [] (omega arith);
      type_is = λ c h. ap (λ b. only_where (b && is_aligned arg (store_bytes op)) (takes_gives (store_type op ∷ I32 ∷ []) [])) h.has_memory;
    }

pub here_true : (scope : Scope) (bytes : List ℕ) (at next : ℕ) (b : Bool) (type : PlainType) → b ≡ true → PlainHere scope bytes at next (only_where b type) → PlainHere scope bytes at next type
here_true scope bytes at next true type e h = h
here_true scope bytes at next false type e h = absurd cc

pub here_false : (scope : Scope) (bytes : List ℕ) (at next : ℕ) (b : Bool) (type : PlainType) → b ≡ false → PlainHere scope bytes at next (only_where b type) → PlainHere scope bytes at next untyped
here_false scope bytes at next false type e h = h
here_false scope bytes at next true type e h = absurd cc
