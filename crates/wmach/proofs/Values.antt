-- Values and their types.
use Rattle.std.proofs.Common.{◌≡◌, ℕ, suc, zero, ◌≤◌, List, [], ◌∷◌, ◌++◌, Option, Some, None, length, reverse, map, take, drop, refl, sym, ap, ◌∙◌, subst, arith, Bool, true, false}
use Rattle.std.specs.Prelude.{slice_get, slice_set, nat_le, nat_lt, option_map, if◌then◌else◌}
use Rattle.std.specs.List.{AllByRecursion}
use Rattle.std.proofs.lemmas.List.{map-append, length-append, length-map}
use Rattle.std.proofs.lemmas.Bool.{le-leb, lt-ltb}
use Rattle.std.proofs.lemmas.Option.{slice_get-map, slice_get_within}
use Rattle.std.proofs.Math.Seq.{take-append_seam, drop-append_seam}
use mathlib.Core.List.{reverse-cons}
use Rattle.wcode.specs.declared.value.ValueType.{ValueType}
use Rattle.wcode.specs.declared.value.ValueType.TheVariants.{I32, I64}
use Rattle.wcode.specs.declared.value.Value.{Value}
use Rattle.wcode.specs.declared.value.Value.TheVariants as value
use Rattle.wbody.specs.Context.{Operands}
use Rattle.wmach.specs.Configuration.{Reduction}
use Rattle.wmach.specs.Operands.{topmost, value_of, with_any, with_one, with_two}
use Rattle.wcode.specs.Operators.{type_of}
use Rattle.wmach.specs.Fits.{types_of}

pub types_of-append : (vs ws : List Value) → types_of (vs ++ ws) ≡ types_of vs ++ types_of ws
types_of-append vs ws = map-append type_of vs ws

pub types_of-reverse : (vs : List Value) → types_of (reverse vs) ≡ reverse (types_of vs)
types_of-reverse [] = refl
types_of-reverse (v ∷ vs) =
    ap types_of (reverse-cons v vs)
    ∙ types_of-append (reverse vs) (v ∷ [])
    ∙ ap (λ ts. ts ++ type_of v ∷ []) (types_of-reverse vs)
    ∙ sym (reverse-cons (type_of v) (types_of vs))

-- the first values of locals have their types
pub types_of-zeros : (ts : List ValueType) → types_of (map (λ t. value_of t 0) ts) ≡ ts
types_of-zeros [] = refl
types_of-zeros (I32 ∷ ts) = ap (λ l. I32 ∷ l) (types_of-zeros ts)
types_of-zeros (I64 ∷ ts) = ap (λ l. I64 ∷ l) (types_of-zeros ts)

pub type_of_value : (t : ValueType) (n : ℕ) → type_of (value_of t n) ≡ t
type_of_value I32 n = refl
type_of_value I64 n = refl

-- the topmost value of this type, and what lies below it
pub record OneTaken (t : ValueType) (values : List Value) (below : Operands) : Type 0 where
  pub number : ℕ
  pub others : List Value
  pub others_are : types_of others ≡ below
  pub goes : (go : ℕ → List Value → Option Reduction) → with_one t values go ≡ go number others

pub one_taken : (t : ValueType) (values : List Value) (below : Operands) → types_of values ≡ t ∷ below → OneTaken t values below
one_taken t [] below e = absurd (cc)
one_taken I32 (value.I32 n ∷ vs) below e = record { number = n; others = vs; others_are = cc; goes = λ go. refl }
one_taken I32 (value.I64 n ∷ vs) below e = absurd (cc)
one_taken I64 (value.I32 n ∷ vs) below e = absurd (cc)
one_taken I64 (value.I64 n ∷ vs) below e = record { number = n; others = vs; others_are = cc; goes = λ go. refl }

-- the two topmost values of this type, and what lies below them
pub record TwoTaken (t : ValueType) (values : List Value) (below : Operands) : Type 0 where
  pub first : ℕ
  pub second : ℕ
  pub others : List Value
  pub others_are : types_of others ≡ below
  pub goes : (go : ℕ → ℕ → List Value → Option Reduction) → with_two t values go ≡ go first second others

pub two_taken : (t : ValueType) (values : List Value) (below : Operands) → types_of values ≡ t ∷ t ∷ below → TwoTaken t values below
two_taken t values below e =
    let upper = one_taken t values (t ∷ below) e in
    let lower = one_taken t upper.others below upper.others_are in
    record {
      first = lower.number;
      second = upper.number;
      others = lower.others;
      others_are = lower.others_are;
      goes = λ go. upper.goes (λ second rest. with_one t rest (λ first more. go first second more)) ∙ lower.goes (λ first more. go first upper.number more);
    }

-- the topmost value, whatever its type
pub record AnyTaken (t : ValueType) (values : List Value) (below : Operands) : Type 0 where
  pub value : Value
  pub others : List Value
  pub type_is : type_of value ≡ t
  pub others_are : types_of others ≡ below
  pub goes : (go : Value → List Value → Option Reduction) → with_any values go ≡ go value others

pub any_taken : (t : ValueType) (values : List Value) (below : Operands) → types_of values ≡ t ∷ below → AnyTaken t values below
any_taken t [] below e = absurd (cc)
any_taken t (v ∷ vs) below e = record { value = v; others = vs; type_is = cc; others_are = cc; goes = λ go. refl }

-- one of two values of a type
pub type_of_either : (t : ValueType) (v w : Value) (b : Bool) → type_of v ≡ t → type_of w ≡ t → type_of (if b then v else w) ≡ t
type_of_either t v w true first second = first
type_of_either t v w false first second = second

-- the value at a place, by its type
pub record ValueAt (t : ValueType) (o : Option Value) : Type 0 where
  pub value : Value
  pub is : o ≡ Some value
  pub type_is : type_of value ≡ t

value_given : (t : ValueType) (o : Option Value) → option_map type_of o ≡ Some t → ValueAt t o
value_given t None e = absurd (cc)
value_given t (Some v) e = record { value = v; is = refl; type_is = cc }

pub value_at : (vs : List Value) (k : ℕ) (t : ValueType) → slice_get (types_of vs) k ≡ Some t → ValueAt t (slice_get vs k)
value_at vs k t e = value_given t (slice_get vs k) (sym (slice_get-map type_of vs k) ∙ e)

-- a value of the same type in its place
pub types_of-set : (vs : List Value) (k : ℕ) (t : ValueType) (v : Value) → slice_get (types_of vs) k ≡ Some t → type_of v ≡ t → types_of (slice_set vs k v) ≡ types_of vs
types_of-set [] k t v e is = absurd (cc)
types_of-set (w ∷ vs) zero t v e is = let same : type_of w ≡ t = cc in ap (λ x. x ∷ types_of vs) (is ∙ sym same)
types_of-set (w ∷ vs) (suc k) t v e is = ap (λ l. type_of w ∷ l) (types_of-set vs k t v e is)

-- the place is there
pub within_values : (vs : List Value) (k : ℕ) (t : ValueType) → slice_get (types_of vs) k ≡ Some t → nat_lt k (length vs) ≡ true
within_values vs k t e =
    let within = slice_get_within (types_of vs) k t e in
    lt-ltb k (length vs) (omega (arith, within, length-map vs type_of))

-- values of these types on top of others
pub record OnTop (vs : List Value) (carries more : Operands) : Type 0 where
  pub front : List Value
  pub back : List Value
  pub is : vs ≡ front ++ back
  pub front_are : types_of front ≡ carries
  pub back_are : types_of back ≡ more

pub on_top : (carries more : Operands) (vs : List Value) → types_of vs ≡ carries ++ more → OnTop vs carries more
on_top [] more vs e = record { front = []; back = vs; is = refl; front_are = refl; back_are = e }
on_top (t ∷ carries) more [] e = absurd (cc)
on_top (t ∷ carries) more (v ∷ vs) e =
    let ev : type_of v ≡ t = cc in
    let es : types_of vs ≡ carries ++ more = cc in
    let o = on_top carries more vs es in
    record {
      front = v ∷ o.front;
      back = o.back;
      is = ap (λ l. v ∷ l) o.is;
      front_are = ap (λ x. x ∷ types_of o.front) ev ∙ ap (λ l. t ∷ l) o.front_are;
      back_are = o.back_are;
    }

-- as many of them are taken
pub topmost_is : (n : ℕ) (carries more : Operands) (vs : List Value) → length carries ≡ n → (o : OnTop vs carries more) → topmost n vs ≡ Some o.front
topmost_is n carries more vs long o =
    let same : n ≡ length o.front = sym long ∙ sym (ap length o.front_are) ∙ length-map o.front type_of in
    let enough : length o.front ≤ length (o.front ++ o.back) = omega (arith, length-append o.front o.back) in
    let yes : nat_le (length o.front) (length (o.front ++ o.back)) ≡ true = le-leb _ _ enough in
    ap (λ k. topmost k vs) same
    ∙ ap (λ l. topmost (length o.front) l) o.is
    ∙ ap (λ b. if b then Some (take (length o.front) (o.front ++ o.back)) else None) yes
    ∙ ap Some (take-append_seam o.front o.back)

-- and the others are left
pub drop_is : (n : ℕ) (carries more : Operands) (vs : List Value) → length carries ≡ n → (o : OnTop vs carries more) → drop n vs ≡ o.back
drop_is n carries more vs long o =
    let same : n ≡ length o.front = sym long ∙ sym (ap length o.front_are) ∙ length-map o.front type_of in
    ap (λ k. drop k vs) same ∙ ap (λ l. drop (length o.front) l) o.is ∙ drop-append_seam o.front o.back

-- what holds of all of a list holds of the one at a place
pub all_at : {A : Type 0} (P : A → Type 0) (xs : List A) (k : ℕ) (x : A) → AllByRecursion P xs → slice_get xs k ≡ Some x → P x
all_at P [] k x all e = absurd (cc)
all_at P (y ∷ xs) zero x all e = let is : y ≡ x = cc in subst P is all.0
all_at P (y ∷ xs) (suc k) x all e = all_at P xs k x all.1 e
