-- The node that goes first among some, and among one more.
use Rattle.std.proofs.Common.{◌≡◌, ℕ, zero, suc, ◌+◌, ◌<◌, ◌≤◌, Bool, true, false, ◌&&◌, ◌||◌, ◌==◌, nat_lt, if◌then◌else◌, ◌⊎◌, inl, inr, List, [], ◌∷◌, ◌++◌, length, map, take, get_or, Option, Some, None, IfSome, refl, max, ap, sym, ◌∙◌, subst, arith}
use Rattle.std.specs.declared.cmp.Ordering.{Ordering}
use Rattle.std.specs.declared.cmp.Ordering.TheVariants.{Less, Equal, Greater}
use Rattle.std.specs.Ordering.{is_lt, nat_cmp, ord_max, ordering_reverse}
use Rattle.std.specs.Cmp.Lexicographic.{slice_cmp}
use Rattle.std.specs.List.{All}
use Rattle.std.proofs.lemmas.Cmp.{nat_list_cmp_total}
use Rattle.std.proofs.lemmas.List.Elements.{All-push, All-weaker, Contains-push, Contains-append_left}
use Rattle.choose.specs.declared.decision.Verdict.{Verdict}
use Rattle.desk.specs.declared.snapshot.Row.{Row}
use Rattle.desk.specs.Shown.{Shown, shown}
use Rattle.std.proofs.lemmas.List.{take_more, take_all}
use Rattle.std.proofs.lemmas.Bool.{ltb-true, ltb-false, eqb-true, eq-eqb}
use Rattle.std.proofs.lemmas.Bool.Decides.{nat_tests}
use Rattle.choose.specs.Choice.{Judged, judged, IsFirst}
use Rattle.quant.specs.Name.{is_before}
use Rattle.quant.specs.Request.{greatest_by}
use Rattle.choose.specs.declared.best.Worth.{Worth}
use Rattle.choose.specs.declared.best.Found.{Found}
use Rattle.desk.specs.Order.{name_at}
use Rattle.choose.specs.inside.Finding.{node_at, nobody, worth_of, goes_before, after_one_more, StandsFirst}

less : (o : Ordering) → is_lt o ≡ true → o ≡ Less
less Less e = refl
less Equal e = cc
less Greater e = cc

not_before_itself : (o : Ordering) → o ≡ ordering_reverse o → is_lt o ≡ false
not_before_itself Less e = cc
not_before_itself Equal e = refl
not_before_itself Greater e = refl

-- no name comes before itself
pub irreflexive : (a : List ℕ) → is_before a a ≡ false
irreflexive a = not_before_itself (slice_cmp nat_cmp a a) (nat_list_cmp_total.antisymm a a)

-- what doesn't come before a name doesn't come before one that does
pub not_before_earlier : (a b c : List ℕ) → is_before a b ≡ true → is_before c b ≡ false → is_before c a ≡ false
not_before_earlier a b c first other = cases (slice_cmp nat_cmp c a) refl
  where
    cases : (o : Ordering) → slice_cmp nat_cmp c a ≡ o → is_lt o ≡ false
    cases Less e =
        let through : slice_cmp nat_cmp c b ≡ Less = nat_list_cmp_total.trans c a b e (less (slice_cmp nat_cmp a b) first) in
        let told : is_lt (slice_cmp nat_cmp c b) ≡ true = ap is_lt through in
        cc
    cases Equal e = refl
    cases Greater e = refl

some_within : (found : Option ℕ) (w most : ℕ) → found ≡ Some w → w ≤ most → IfSome found (λ v. v ≤ most)
some_within found w most e within = subst (λ o. IfSome o (λ v. v ≤ most)) (sym e) within

none_within : (found : Option ℕ) (most : ℕ) → found ≡ None → IfSome found (λ v. v ≤ most)
none_within found most e = subst (λ o. IfSome o (λ v. v ≤ most)) (sym e) tt

within_more : (found : Option ℕ) (w v : ℕ) → w ≤ v → IfSome found (λ x. x ≤ w) → IfSome found (λ x. x ≤ v)
within_more None w v more within = tt
within_more (Some x) w v more within = omega (arith, more, within)

-- the first that is worth anything
pub first_alone : (xs : List Judged) (worth : Verdict → Option ℕ) (j : Judged) (w : ℕ) → All (λ node. worth node.verdict ≡ None) xs → worth j.verdict ≡ Some w → IsFirst (xs ++ j ∷ []) worth j w
first_alone xs worth j w none has = record {
  there = Contains-push xs j;
  has = has;
  none_greater = All-push (λ other. IfSome (worth other.verdict) (λ v. v ≤ w)) xs j
      (All-weaker (λ node. worth node.verdict ≡ None) (λ other. IfSome (worth other.verdict) (λ v. v ≤ w)) (λ x e. none_within (worth x.verdict) w e) xs none)
      (some_within (worth j.verdict) w w has (omega arith));
  none_earlier = All-push (λ other. worth other.verdict ≡ Some w → is_before other.name j.name ≡ false) xs j
      (All-weaker (λ node. worth node.verdict ≡ None) (λ other. worth other.verdict ≡ Some w → is_before other.name j.name ≡ false) (λ x e same. cc) xs none)
      (λ same. irreflexive j.name);
}

-- one more that is worth nothing, or doesn't go before it
pub first_kept : (xs : List Judged) (worth : Verdict → Option ℕ) (n j : Judged) (w : ℕ) → IsFirst xs worth n w → IfSome (worth j.verdict) (λ v. v ≤ w) → (worth j.verdict ≡ Some w → is_before j.name n.name ≡ false) → IsFirst (xs ++ j ∷ []) worth n w
first_kept xs worth n j w first within later = record {
  there = Contains-append_left xs (j ∷ []) n first.there;
  has = first.has;
  none_greater = All-push (λ other. IfSome (worth other.verdict) (λ v. v ≤ w)) xs j first.none_greater within;
  none_earlier = All-push (λ other. worth other.verdict ≡ Some w → is_before other.name n.name ≡ false) xs j first.none_earlier later;
}

-- one more that is worth more
pub first_more : (xs : List Judged) (worth : Verdict → Option ℕ) (n j : Judged) (w v : ℕ) → IsFirst xs worth n w → worth j.verdict ≡ Some v → w < v → IsFirst (xs ++ j ∷ []) worth j v
first_more xs worth n j w v first has more = record {
  there = Contains-push xs j;
  has = has;
  none_greater = All-push (λ other. IfSome (worth other.verdict) (λ x. x ≤ v)) xs j
      (All-weaker (λ other. IfSome (worth other.verdict) (λ x. x ≤ w)) (λ other. IfSome (worth other.verdict) (λ x. x ≤ v))
      (λ x within. within_more (worth x.verdict) w v (omega (arith, more)) within) xs first.none_greater)
      (some_within (worth j.verdict) v v has (omega arith));
  none_earlier = All-push (λ other. worth other.verdict ≡ Some v → is_before other.name j.name ≡ false) xs j
      (All-weaker (λ other. IfSome (worth other.verdict) (λ x. x ≤ w)) (λ other. worth other.verdict ≡ Some v → is_before other.name j.name ≡ false)
      (λ x within same. absurd (too_great (worth x.verdict) within same)) xs first.none_greater)
      (λ same. irreflexive j.name);
}
  where
    too_great : (found : Option ℕ) → IfSome found (λ x. x ≤ w) → found ≡ Some v → ⊥
    too_great found within same = omega (arith, more, subst (λ o. IfSome o (λ x. x ≤ w)) same within)

-- one more that is worth as much and whose name comes before
pub first_earlier : (xs : List Judged) (worth : Verdict → Option ℕ) (n j : Judged) (w : ℕ) → IsFirst xs worth n w → worth j.verdict ≡ Some w → is_before j.name n.name ≡ true → IsFirst (xs ++ j ∷ []) worth j w
first_earlier xs worth n j w first has earlier = record {
  there = Contains-push xs j;
  has = has;
  none_greater = All-push (λ other. IfSome (worth other.verdict) (λ v. v ≤ w)) xs j first.none_greater (some_within (worth j.verdict) w w has (omega arith));
  none_earlier = All-push (λ other. worth other.verdict ≡ Some w → is_before other.name j.name ≡ false) xs j
      (All-weaker (λ other. worth other.verdict ≡ Some w → is_before other.name n.name ≡ false) (λ other. worth other.verdict ≡ Some w → is_before other.name j.name ≡ false)
      (λ x later same. not_before_earlier j.name n.name x.name earlier (later same)) xs first.none_earlier)
      (λ same. irreflexive j.name);
}

-- the name of the row at a place
pub shown_name : (rows : List Row) (k : ℕ) (row : Row) → k < length rows → row ≡ get_or rows k row → name_at (map shown rows) k ≡ row.node.name
shown_name [] k row below at = absurd (omega (arith, below))
shown_name (x ∷ rows) zero row below at = ap (λ r. r.node.name) (sym at)
shown_name (x ∷ rows) (suc k) row below at = shown_name rows k row (omega (arith, below)) at

-- the greatest number among some and one more
greatest_push : {X : Type 0} (f : X → ℕ) (xs : List X) (x : X) → greatest_by f (xs ++ x ∷ []) ≡ max (greatest_by f xs) (f x)
greatest_push f [] x = omega arith
greatest_push f (y ∷ xs) x =
    let more : greatest_by f (xs ++ x ∷ []) ≡ max (greatest_by f xs) (f x) = greatest_push f xs x in
    omega (arith, more)

pub greatest_next : {X : Type 0} (f : X → ℕ) (xs : List X) (i : ℕ) (d : X) → i < length xs → greatest_by f (take (i + 1) xs) ≡ max (greatest_by f (take i xs)) (f (get_or xs i d))
greatest_next f xs i d below = ap (greatest_by f) (take_more xs i d below) ∙ greatest_push f (take i xs) (get_or xs i d)

-- nodes with their verdicts, place by place
pub judged_length : (nodes : List Shown) (verdicts : List Verdict) → length verdicts ≡ length nodes → length (judged nodes verdicts) ≡ length nodes
judged_length [] verdicts same = refl
judged_length (x ∷ nodes) [] same = absurd (omega (arith, same))
judged_length (x ∷ nodes) (v ∷ verdicts) same =
    let rest : length (judged nodes verdicts) ≡ length nodes = judged_length nodes verdicts (omega (arith, same)) in
    omega (arith, rest)

pub judged_name : (nodes : List Shown) (verdicts : List Verdict) (k : ℕ) → length verdicts ≡ length nodes → k < length nodes → (node_at (judged nodes verdicts) k).name ≡ name_at nodes k
judged_name [] verdicts k same below = absurd (omega (arith, below))
judged_name (x ∷ nodes) [] k same below = absurd (omega (arith, same))
judged_name (x ∷ nodes) (v ∷ verdicts) zero same below = refl
judged_name (x ∷ nodes) (v ∷ verdicts) (suc k) same below = judged_name nodes verdicts k (omega (arith, same)) (omega (arith, below))

pub judged_verdict : (nodes : List Shown) (verdicts : List Verdict) (k : ℕ) (d : Verdict) → length verdicts ≡ length nodes → k < length nodes → (node_at (judged nodes verdicts) k).verdict ≡ get_or verdicts k d
judged_verdict [] verdicts k d same below = absurd (omega (arith, below))
judged_verdict (x ∷ nodes) [] k d same below = absurd (omega (arith, same))
judged_verdict (x ∷ nodes) (v ∷ verdicts) zero d same below = refl
judged_verdict (x ∷ nodes) (v ∷ verdicts) (suc k) d same below = judged_verdict nodes verdicts k d (omega (arith, same)) (omega (arith, below))

-- one node more, which is worth nothing
pub stands_over_none : (by : Worth) (nodes : List Judged) (i : ℕ) (first : Option Found) → i < length nodes → StandsFirst by nodes (take i nodes) first → worth_of by (node_at nodes i).verdict ≡ None →
    StandsFirst by nodes (take (i + 1) nodes) first
stands_over_none by nodes i None below stands nothing =
    subst (λ xs. All (λ node. worth_of by node.verdict ≡ None) xs) (sym (take_more nodes i nobody below))
    (All-push (λ node. worth_of by node.verdict ≡ None) (take i nodes) (node_at nodes i) stands nothing)
stands_over_none by nodes i (Some found) below stands nothing = (
  stands.0,
  subst (λ xs. IsFirst xs (worth_of by) (node_at nodes found.at) found.worth) (sym (take_more nodes i nobody below))
      (first_kept (take i nodes) (worth_of by) (node_at nodes found.at) (node_at nodes i) found.worth stands.1
      (none_within (worth_of by (node_at nodes i).verdict) found.worth nothing) (λ same. cc)),
)

or_true : (x y : Bool) → (x || y) ≡ true → (x ≡ true) ⊎ (y ≡ true)
or_true true y e = inl refl
or_true false y e = inr e

and_true : (x y : Bool) → (x && y) ≡ true → (x ≡ true) × (y ≡ true)
and_true true y e = (refl, e)
and_true false y e = cc

or_false : (x y : Bool) → (x || y) ≡ false → (x ≡ false) × (y ≡ false)
or_false true y e = cc
or_false false y e = (refl, e)

and_false : (x y : Bool) → (x && y) ≡ false → x ≡ true → y ≡ false
and_false true y e is = e
and_false false y e is = cc

-- one node more beside the one that was found, which is worth something: it goes before that one,
-- or doesn't
over_found : (by : Worth) (rows : List Shown) (verdicts : List Verdict) (i w : ℕ) (found : Found) → length verdicts ≡ length rows → i < length rows →
    StandsFirst by (judged rows verdicts) (take i (judged rows verdicts)) (Some found) → worth_of by (node_at (judged rows verdicts) i).verdict ≡ Some w →
    (before : Bool) → goes_before rows (record { at = i; worth = w }) found ≡ before →
    StandsFirst by (judged rows verdicts) (take (i + 1) (judged rows verdicts)) (Some (if before then record { at = i; worth = w } else found))
over_found by rows verdicts i w found same below stands has true goes =
    let there : i < length (judged rows verdicts) = omega (arith, judged_length rows verdicts same, below) in
    let known : found.at < length rows = omega (arith, judged_length rows verdicts same, stands.0) in (
      there,
      subst (λ xs. IsFirst xs (worth_of by) (node_at (judged rows verdicts) i) w) (sym (take_more (judged rows verdicts) i nobody there))
          (elim (or_true (nat_lt found.worth w) ((w == found.worth) && is_before (name_at rows i) (name_at rows found.at)) goes) [
            | inl more ↦ first_more (take i (judged rows verdicts)) (worth_of by) (node_at (judged rows verdicts) found.at) (node_at (judged rows verdicts) i) found.worth w stands.1 has (ltb-true found.worth w more)
            | inr tie ↦
                let both : ((w == found.worth) ≡ true) × (is_before (name_at rows i) (name_at rows found.at) ≡ true) = and_true (w == found.worth) (is_before (name_at rows i) (name_at rows found.at)) tie in
                let equal : w ≡ found.worth = eqb-true w found.worth both.0 in
                let earlier : is_before (node_at (judged rows verdicts) i).name (node_at (judged rows verdicts) found.at).name ≡ true =
                rw (judged_name rows verdicts i same below, judged_name rows verdicts found.at same known) both.1 in
                first_earlier (take i (judged rows verdicts)) (worth_of by) (node_at (judged rows verdicts) found.at) (node_at (judged rows verdicts) i) w
                (subst (λ v. IsFirst (take i (judged rows verdicts)) (worth_of by) (node_at (judged rows verdicts) found.at) v) (sym equal) stands.1) has earlier
          ]),
    )
over_found by rows verdicts i w found same below stands has false stays =
    let there : i < length (judged rows verdicts) = omega (arith, judged_length rows verdicts same, below) in
    let known : found.at < length rows = omega (arith, judged_length rows verdicts same, stands.0) in
    let neither : (nat_lt found.worth w ≡ false) × (((w == found.worth) && is_before (name_at rows i) (name_at rows found.at)) ≡ false) =
    or_false (nat_lt found.worth w) ((w == found.worth) && is_before (name_at rows i) (name_at rows found.at)) stays in (
      stands.0,
      subst (λ xs. IsFirst xs (worth_of by) (node_at (judged rows verdicts) found.at) found.worth) (sym (take_more (judged rows verdicts) i nobody there))
          (first_kept (take i (judged rows verdicts)) (worth_of by) (node_at (judged rows verdicts) found.at) (node_at (judged rows verdicts) i) found.worth stands.1
          (some_within (worth_of by (node_at (judged rows verdicts) i).verdict) w found.worth has (ltb-false found.worth w neither.0))
          (λ tie.
          let equal : w ≡ found.worth = cc in
          let later : is_before (name_at rows i) (name_at rows found.at) ≡ false = and_false (w == found.worth) (is_before (name_at rows i) (name_at rows found.at)) neither.1 (eq-eqb w found.worth equal) in
          rw (judged_name rows verdicts i same below, judged_name rows verdicts found.at same known) later)),
    )

-- one node more, which is worth something
pub stands_over_some : (by : Worth) (rows : List Shown) (verdicts : List Verdict) (i w : ℕ) (first : Option Found) → length verdicts ≡ length rows → i < length rows →
    StandsFirst by (judged rows verdicts) (take i (judged rows verdicts)) first → worth_of by (node_at (judged rows verdicts) i).verdict ≡ Some w →
    StandsFirst by (judged rows verdicts) (take (i + 1) (judged rows verdicts)) (Some (after_one_more rows first (record { at = i; worth = w })))
stands_over_some by rows verdicts i w None same below stands has =
    let there : i < length (judged rows verdicts) = omega (arith, judged_length rows verdicts same, below) in (
      there,
      subst (λ xs. IsFirst xs (worth_of by) (node_at (judged rows verdicts) i) w) (sym (take_more (judged rows verdicts) i nobody there))
          (first_alone (take i (judged rows verdicts)) (worth_of by) (node_at (judged rows verdicts) i) w stands has),
    )
stands_over_some by rows verdicts i w (Some found) same below stands has =
    over_found by rows verdicts i w found same below stands has (goes_before rows (record { at = i; worth = w }) found) refl

-- the greater of two numbers
pub max_of : (a b : ℕ) → ord_max nat_cmp a b ≡ max a b
max_of a b = grind (arith, nat_tests)

-- all the nodes
pub stands_over_all : (by : Worth) (nodes : List Judged) (n : ℕ) (first : Option Found) → length nodes ≤ n → StandsFirst by nodes (take n nodes) first → StandsFirst by nodes nodes first
stands_over_all by nodes n first all stands = subst (λ xs. StandsFirst by nodes xs first) (take_all n nodes all) stands

-- what was found is there
pub found_is_there : (by : Worth) (nodes some : List Judged) (first : Option Found) (n : ℕ) → length nodes ≡ n → StandsFirst by nodes some first → IfSome first (λ found. found.at < n)
found_is_there by nodes some None n same stands = tt
found_is_there by nodes some (Some found) n same stands = omega (arith, same, stands.0)
