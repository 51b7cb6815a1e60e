-- How many operands there are behind an instruction.
use Rattle.std.proofs.Common.{◌≡◌, ℕ, ◌+◌, ◌-◌, List, [], ◌∷◌, ◌++◌, Bool, true, false, Option, Some, None, length, map, ap, arith}
use Rattle.std.specs.Prelude.{if◌then◌else◌}
use Rattle.std.proofs.lemmas.List.{length-append, length-map}
use Rattle.wcode.specs.declared.value.ValueType.{ValueType}
use Rattle.wcode.specs.declared.value.ValueType.TheVariants.{I32}
use Rattle.wbody.specs.Context.{Operands}
use Rattle.wbody.specs.Typing.{PlainType, takes_gives, drops, selects, ends, untyped}
use Rattle.wbody.specs.Heights.{height_by}
use Rattle.wbody.specs.inside.Pass.{Stack, unreached, may_be, take_types, taken, given, drop_top, common, join_top, pass_type}
use Rattle.wbody.proofs.Operands.{through, mapped}

test_of : (b : Bool) (o : Option Stack) (s : Stack) → (if b then o else None) ≡ Some s → o ≡ Some s
test_of true o s e = e
test_of false o s e = absurd (cc)

pub length-take_types : (ts : Operands) (xs : List (Option ValueType)) (r : Bool) (s : Stack) → take_types ts xs r ≡ Some s → length s.operands ≡ length xs - length ts
length-take_types [] xs r s e =
    let same : record { operands = xs; reached = r } ≡ s = cc in
    let l : length xs ≡ length s.operands = ap (λ (x : Stack). length x.operands) same in omega arith
length-take_types (t ∷ ts) [] true s e = absurd (cc)
length-take_types (t ∷ ts) [] false s e = let l = length-take_types ts [] false s e in omega arith
length-take_types (t ∷ ts) (x ∷ xs) r s e =
    let l = length-take_types ts xs r s (test_of (may_be t x) (take_types ts xs r) s e) in omega arith

length-drop_top : (xs : List (Option ValueType)) (r : Bool) (s : Stack) → drop_top xs r ≡ Some s → length s.operands ≡ length xs - 1
length-drop_top [] true s e = absurd (cc)
length-drop_top [] false s e = let same : unreached ≡ s = cc in let l : 0 ≡ length s.operands = ap (λ (x : Stack). length x.operands) same in omega arith
length-drop_top (x ∷ xs) r s e =
    let same : record { operands = xs; reached = r } ≡ s = cc in
    let l : length xs ≡ length s.operands = ap (λ (x : Stack). length x.operands) same in omega arith

length-join_top : (xs : List (Option ValueType)) (r : Bool) (s : Stack) → join_top xs r ≡ Some s → length s.operands ≡ (length xs - 2) + 1
length-join_top [] true s e = absurd (cc)
length-join_top [] false s e = let same : record { operands = None ∷ []; reached = false } ≡ s = cc in let l : 1 ≡ length s.operands = ap (λ (x : Stack). length x.operands) same in omega arith
length-join_top (x ∷ []) true s e = absurd (cc)
length-join_top (x ∷ []) false s e = let same : record { operands = x ∷ []; reached = false } ≡ s = cc in let l : 1 ≡ length s.operands = ap (λ (x : Stack). length x.operands) same in omega arith
length-join_top (x ∷ y ∷ xs) r s e =
    let m = mapped (λ z. record { operands = z ∷ xs; reached = r }) (common x y) s e in
    let l : length (m.from ∷ xs) ≡ length s.operands = ap (λ (x : Stack). length x.operands) m.second in omega arith

-- the height tells how many operands there are
pub height_passed : (type : PlainType) (s s' : Stack) (floor : ℕ) → pass_type type s ≡ Some s' → height_by type floor (floor + length s.operands) ≡ floor + length s'.operands
height_passed (takes_gives takes gives) s s' floor e =
    let m = mapped (given gives) (taken takes s) s' e in
    let l = length-take_types takes s.operands s.reached m.from m.first in
    let g : length (map Some gives ++ m.from.operands) ≡ length s'.operands = ap (λ (x : Stack). length x.operands) m.second in
    omega (arith, l, g, length-append (map Some gives) m.from.operands, length-map gives (λ t. Some t))
height_passed drops s s' floor e = let l = length-drop_top s.operands s.reached s' e in omega arith
height_passed selects s s' floor e =
    let a = through (λ (two : Stack). join_top two.operands two.reached) (taken (I32 ∷ []) s) s' e in
    let l = length-take_types (I32 ∷ []) s.operands s.reached a.mid a.first in
    let k = length-join_top a.mid.operands a.mid.reached s' a.second in
    omega arith
height_passed (ends takes) s s' floor e =
    let m = mapped (λ (left : Stack). unreached) (taken takes s) s' e in
    let l : 0 ≡ length s'.operands = ap (λ (x : Stack). length x.operands) m.second in omega arith
height_passed untyped s s' floor e = absurd (cc)
