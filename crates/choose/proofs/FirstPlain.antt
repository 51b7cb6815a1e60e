-- Which node goes first, where it is known which plain one does.
use Rattle.std.proofs.Common.{◌≡◌, ℕ, zero, suc, ◌+◌, ◌<◌, ◌≤◌, Bool, true, false, ◌==◌, nat_le, nat_lt, if◌then◌else◌, List, [], ◌∷◌, get_or, length, map, Option, Some, None, IfSome, refl, sym, ap, ◌∙◌, subst, arith}
use Rattle.std.proofs.lemmas.Bool.{ltb-true, ltb-false, eqb-true}
use Rattle.std.proofs.lemmas.Bool.Decides.{nat_tests}
use Rattle.std.proofs.lemmas.List.{length-map, get_or-map, get_or_default}
use Rattle.std.proofs.lemmas.List.Elements.{Contains-get_or}
use Rattle.quant.specs.declared.amount.Request.{Request}
use Rattle.quant.specs.declared.objects.Pod.{Pod}
use Rattle.quant.specs.Name.{is_before}
use Rattle.fit.specs.Fit.{fit_of}
use Rattle.fit.specs.Score.{least_allocated_score, score_from}
use Rattle.desk.specs.declared.snapshot.Row.{Row}
use Rattle.desk.specs.Plain.{is_plain}
use Rattle.desk.specs.Shown.{Shown, shown}
use Rattle.desk.specs.Order.{name_at, AreInOrder}
use Rattle.desk.specs.Worth.{ArePlain, IsFirstGreatest, after_score, worth}
use Rattle.choose.specs.declared.alone.Told.{Told}
use Rattle.choose.specs.declared.best.Found.{Found}
use Rattle.choose.specs.declared.best.Worth.TheVariants.{Total}
use Rattle.choose.specs.Choice.{Judged, count_of, most_of, total_of}
use Rattle.choose.specs.inside.Alone.{alone, judged_alone, told_of, verdicts_alone, worth_from}
use Rattle.choose.specs.inside.Finding.{StandsFirst, node_at, nobody}
use Rattle.choose.specs.inside.Plain.{GoesAfter, IsPassing, LeadsPlain, first_of_both, goes_later, told_unless_plain, total_at}
use Rattle.choose.proofs.First.{irreflexive, judged_length, judged_name}
use Rattle.choose.proofs.OnePass.{later_not_before, many_alone, plain_count, plain_worth, plus_hundred, verdict_at}

-- ---- one node more

-- what goes behind something goes behind nothing greater
if_later : (found : Found) (at w : ℕ) → goes_later found at w ≡ true → (w ≤ found.worth) × (w ≡ found.worth → found.at ≤ at)
if_later found at w e = grind (arith, nat_tests)

if_not_later : (found : Found) (at w : ℕ) → goes_later found at w ≡ false → (found.worth ≤ w) × (w ≡ found.worth → at ≤ found.at)
if_not_later found at w e = grind (arith, nat_tests)

module _ (most : ℕ) (nodes : List Judged) (i : ℕ) where
  -- what holds of both holds of the one that is taken
  after_either : (found next : Found) (k : ℕ) (b : Bool) → (b ≡ true → GoesAfter most nodes (Some found) k) → (b ≡ false → GoesAfter most nodes (Some next) k) → GoesAfter most nodes (if b then Some found else Some next) k
  after_either found next k true one other = one refl
  after_either found next k false one other = other refl

  there_either : (found next : Found) (b : Bool) → IsPassing most nodes found → IsPassing most nodes next → IfSome (if b then Some found else Some next) (IsPassing most nodes)
  there_either found next true one other = one
  there_either found next false one other = other

  -- what goes behind what was found goes behind one that is worth more, or as much and stands
  -- before
  behind : (found : Found) (w k : ℕ) → (found.worth ≤ w) × (w ≡ found.worth → i ≤ found.at) → (o : Option ℕ)
      → IfSome o (λ total. (total ≤ found.worth) × (total ≡ found.worth → found.at ≤ k)) → IfSome o (λ total. (total ≤ w) × (total ≡ w → i ≤ k))
  behind found w k more None h = tt
  behind found w k more (Some total) h = (
    omega (arith, h.0, more.0),
    λ same.
        let level : w ≡ found.worth = omega (arith, h.0, more.0, same) in
        let before = more.1 level in
        let gone = h.1 (same ∙ level) in
        omega (arith, before, gone),
  )

  -- those that went behind what was found go behind what goes first now
  pub still_after : (first : Option Found) (w : Option ℕ) → (k : ℕ) → GoesAfter most nodes first k → GoesAfter most nodes (first_of_both first i w) k
  still_after first None k after = after
  still_after None (Some w) k after = subst (λ (o : Option ℕ). IfSome o (λ total. (total ≤ w) × (total ≡ w → i ≤ k))) (sym after) tt
  still_after (Some found) (Some w) k after =
      after_either found (record { at = i; worth = w }) k (goes_later found i w) (λ _. after) (λ is. behind found w k (if_not_later found i w is) (total_at most nodes k) after)

  -- and so does this one
  pub goes_after : (first : Option Found) (w : Option ℕ) → total_at most nodes i ≡ w → GoesAfter most nodes (first_of_both first i w) i
  goes_after None None e = e
  goes_after (Some found) None e = subst (λ (o : Option ℕ). IfSome o (λ total. (total ≤ found.worth) × (total ≡ found.worth → found.at ≤ i))) (sym e) tt
  goes_after None (Some w) e = subst (λ (o : Option ℕ). IfSome o (λ total. (total ≤ w) × (total ≡ w → i ≤ i))) (sym e) (omega arith, λ _. omega arith)
  goes_after (Some found) (Some w) e =
      after_either found (record { at = i; worth = w }) i (goes_later found i w)
      (λ is. subst (λ (o : Option ℕ). IfSome o (λ total. (total ≤ found.worth) × (total ≡ found.worth → found.at ≤ i))) (sym e) (if_later found i w is))
      (λ _. subst (λ (o : Option ℕ). IfSome o (λ total. (total ≤ w) × (total ≡ w → i ≤ i))) (sym e) (omega arith, λ _. omega arith))

  -- what goes first passes
  pub still_there : (first : Option Found) (w : Option ℕ) → i < length nodes → total_at most nodes i ≡ w → IfSome first (IsPassing most nodes) → IfSome (first_of_both first i w) (IsPassing most nodes)
  still_there first None lt e there = there
  still_there None (Some w) lt e there = (lt, e)
  still_there (Some found) (Some w) lt e there = there_either found (record { at = i; worth = w }) (goes_later found i w) there (lt, e)

-- ---- all nodes

module _ (most : ℕ) (pod : Pod) (rows : List Row) where
  abbrev nodes : List Judged
  nodes = judged_alone pod (map shown rows)

  many : length nodes ≡ length rows
  many = judged_length (map shown rows) (verdicts_alone pod (map shown rows)) (many_alone pod (map shown rows)) ∙ length-map rows shown

  name_of : (k : ℕ) → k < length nodes → (node_at nodes k).name ≡ name_at (map shown rows) k
  name_of k lt = judged_name (map shown rows) (verdicts_alone pod (map shown rows)) k (many_alone pod (map shown rows)) (omega (arith, lt, many, length-map rows shown))

  none_greater : (found : Found) (o : Option ℕ) (k : ℕ) → IfSome o (λ total. (total ≤ found.worth) × (total ≡ found.worth → found.at ≤ k)) → IfSome o (λ w. w ≤ found.worth)
  none_greater found None k h = tt
  none_greater found (Some w) k h = h.0

  at_or_behind : (found : Found) (o : Option ℕ) (k : ℕ) → IfSome o (λ total. (total ≤ found.worth) × (total ≡ found.worth → found.at ≤ k)) → o ≡ Some found.worth → found.at ≤ k
  at_or_behind found None k h e = absurd (cc)
  at_or_behind found (Some w) k h e = h.1 (cc)

  -- a name at a place or behind it comes not before that one's
  not_before : AreInOrder (map shown rows) → (at k : ℕ) → at ≤ k → k < length rows → is_before (name_at (map shown rows) k) (name_at (map shown rows) at) ≡ false
  not_before ordered at k le lt = by (at == k) refl
    where
      by : (b : Bool) → (at == k) ≡ b → is_before (name_at (map shown rows) k) (name_at (map shown rows) at) ≡ false
      by true e = subst (λ (n : ℕ). is_before (name_at (map shown rows) k) (name_at (map shown rows) n) ≡ false) (sym (eqb-true at k e)) (irreflexive (name_at (map shown rows) k))
      by false e =
          let less : at < k = grind (arith, nat_tests) in
          later_not_before (name_at (map shown rows) at) (name_at (map shown rows) k) (ordered at k less (omega (arith, lt, length-map rows shown)))

  -- what no node goes before stands first
  pub leads_all : AreInOrder (map shown rows) → (first : Option Found) → IfSome first (IsPassing most nodes) → ((k : ℕ) → k < length rows → GoesAfter most nodes first k) → StandsFirst (Total most) nodes nodes first
  leads_all ordered None there leads =
      λ k d lt. subst (λ (n : Judged). total_of most n.verdict ≡ None) (get_or_default nodes k nobody d lt) (leads k (omega (arith, lt, many)))
  leads_all ordered (Some found) there leads = (
    there.0,
    record {
      there = Contains-get_or nodes found.at nobody there.0;
      has = there.1;
      none_greater =
          λ k d lt. subst (λ (n : Judged). IfSome (total_of most n.verdict) (λ w. w ≤ found.worth)) (get_or_default nodes k nobody d lt) (none_greater found (total_at most nodes k) k (leads k (omega (arith, lt, many))));
      none_earlier =
          λ k d lt. subst (λ (n : Judged). total_of most n.verdict ≡ Some found.worth → is_before n.name (node_at nodes found.at).name ≡ false) (get_or_default nodes k nobody d lt)
          (λ same.
          let le : found.at ≤ k = at_or_behind found (total_at most nodes k) k (leads k (omega (arith, lt, many))) same in
          rw (name_of k lt, name_of found.at there.0) (not_before ordered found.at k le (omega (arith, lt, many))));
    },
  )

-- ---- plain nodes

from_none : (o : Option ℕ) → o ≡ worth_from 0 o
from_none None = refl
from_none (Some w) = ap (λ b. if◌then◌else◌ {A = Option ℕ} b (Some w) None) (sym (least w))
  where
    least : (w : ℕ) → nat_le 0 w ≡ true
    least w = grind (arith, nat_tests)

abbrev score : Pod → Shown → Option ℕ
score pod s = score_from 0 (fit_of s.node.allocatable s.used pod.request) (least_allocated_score s.node.allocatable s.used pod.request)

-- a plain node's total is a hundred more than its score
total_plain : (pod : Pod) (s : Shown) (most : ℕ) → is_plain s.node ≡ true → total_of most (alone pod s) ≡ plus_hundred (score pod s)
total_plain pod s most plain = from_none (total_of most (alone pod s)) ∙ plain_worth pod s most 0 plain

worth_plain : (pod : Pod) (s : Shown) → is_plain s.node ≡ true → worth pod.request s ≡ after_score (score pod s)
worth_plain pod s plain = ap (λ b. if b then after_score (score pod s) else 0) plain

-- a node that is worth anything is plain
pub is_plain_there : (request : Request) (s : Shown) → 1 ≤ worth request s → is_plain s.node ≡ true
is_plain_there request s some = by (is_plain s.node) refl
  where
    by : (b : Bool) → is_plain s.node ≡ b → is_plain s.node ≡ true
    by true e = e
    by false e =
        let none : worth request s ≡ 0 = ap (λ b. if b then after_score (score_from 0 (fit_of s.node.allocatable s.used request) (least_allocated_score s.node.allocatable s.used request)) else 0) e in
        absurd (omega (arith, some, none))

module _ (pod : Pod) (rows : List Row) where
  abbrev worths : List ℕ
  worths = map (worth pod.request) (map shown rows)

  pub worth_at : (k : ℕ) (row : Row) → k < length rows → row ≡ get_or rows k row → get_or worths k 0 ≡ worth pod.request (shown row)
  worth_at k row lt is =
      get_or-map (worth pod.request) (map shown rows) k (shown row) 0 (omega (arith, lt, length-map rows shown))
      ∙ ap (worth pod.request) (get_or-map shown rows k row (shown row) lt)
      ∙ ap (λ (r : Row). worth pod.request (shown r)) (sym is)

  total_of_row : (most k : ℕ) (row : Row) → k < length rows → row ≡ get_or rows k row → is_plain row.node ≡ true → total_at most (judged_alone pod (map shown rows)) k ≡ plus_hundred (score pod (shown row))
  total_of_row most k row lt is plain = ap (total_of most) (verdict_at pod rows k row lt is) ∙ total_plain pod (shown row) most plain

  no_score : (o : Option ℕ) → after_score o ≡ 0 → plus_hundred o ≡ None
  no_score None e = refl
  no_score (Some n) e = absurd (omega (arith, e))

  -- none passes where none is worth anything
  pub none_leads : IsFirstGreatest worths None → (most : ℕ) → LeadsPlain most pod rows None
  none_leads none most = record {
    there = tt;
    leads = λ k row lt is plain.
        let nothing : after_score (score pod (shown row)) ≡ 0 = sym (worth_plain pod (shown row) plain) ∙ sym (worth_at k row lt is) ∙ none k (omega (arith, lt, length-map (map shown rows) (worth pod.request), length-map rows shown)) in
        total_of_row most k row lt is plain ∙ no_score (score pod (shown row)) nothing;
  }

  behind_first : (at k w best own : ℕ) (o : Option ℕ) → own ≡ after_score o → own ≤ best → (k < at → own < best) → w + 1 ≡ best + 100 → IfSome (plus_hundred o) (λ total. (total ≤ w) × (total ≡ w → at ≤ k))
  behind_first at k w best own None e le less is = tt
  behind_first at k w best own (Some n) e le less is = (omega (arith, e, le, is), λ same. by (nat_lt k at) refl (omega (arith, e, is, same)))
    where
      by : (b : Bool) → nat_lt k at ≡ b → own ≡ best → at ≤ k
      by true lt level = absurd (omega (arith, less (ltb-true k at lt), level))
      by false ge level = ltb-false k at ge

  -- the first of those that are worth most leads the plain ones
  pub some_leads : (at : ℕ) (row : Row) (w : ℕ) → IsFirstGreatest worths (Some at) → at < length rows → row ≡ get_or rows at row → ((most : ℕ) → Some w ≡ worth_from 0 (total_of most (alone pod (shown row))))
      → (most : ℕ) → LeadsPlain most pod rows (Some (record { at = at; worth = w }))
  some_leads at row w first lt is told most =
      let nodes = judged_alone pod (map shown rows) in
      let plain : is_plain row.node ≡ true = is_plain_there pod.request (shown row) (subst (λ n. 1 ≤ n) (worth_at at row lt is) first.1) in
      let total : total_at most nodes at ≡ Some w = ap (total_of most) (verdict_at pod rows at row lt is) ∙ from_none (total_of most (alone pod (shown row))) ∙ sym (told most) in
      let own : get_or worths at 0 + 100 ≡ w + 1 = level (score pod (shown row)) (worth_at at row lt is ∙ worth_plain pod (shown row) plain) first.1 (sym (total_of_row most at row lt is plain) ∙ total) in
      record {
        there = (omega (arith, lt, judged_length (map shown rows) (verdicts_alone pod (map shown rows)) (many_alone pod (map shown rows)), length-map rows shown), total);
        leads = λ k other below read other_plain.
            let there : k < length worths = omega (arith, below, length-map (map shown rows) (worth pod.request), length-map rows shown) in
            subst (λ (o : Option ℕ). IfSome o (λ t. (t ≤ w) × (t ≡ w → at ≤ k))) (sym (total_of_row most k other below read other_plain))
            (behind_first at k w (get_or worths at 0) (get_or worths k 0) (score pod (shown other)) (worth_at k other below read ∙ worth_plain pod (shown other) other_plain) (first.2 k there) (first.3 k) (sym own));
      }
    where
      level : (o : Option ℕ) → get_or worths at 0 ≡ after_score o → 1 ≤ get_or worths at 0 → plus_hundred o ≡ Some w → get_or worths at 0 + 100 ≡ w + 1
      level None e some same = absurd (cc)
      level (Some n) e some same = let both : n + 100 ≡ w = cc in omega (arith, e, both)

  -- the first of those that are worth most passes
  pub first_passes : (at : ℕ) (row : Row) → IsFirstGreatest worths (Some at) → at < length rows → row ≡ get_or rows at row → ((most : ℕ) → None ≡ worth_from 0 (total_of most (alone pod (shown row)))) → ⊥
  first_passes at row first lt is told =
      let plain : is_plain row.node ≡ true = is_plain_there pod.request (shown row) (subst (λ n. 1 ≤ n) (worth_at at row lt is) first.1) in
      no_worth (score pod (shown row)) (worth_at at row lt is ∙ worth_plain pod (shown row) plain) first.1 (told 0 ∙ sym (from_none (total_of 0 (alone pod (shown row)))) ∙ total_plain pod (shown row) 0 plain)
    where
      no_worth : (o : Option ℕ) → get_or worths at 0 ≡ after_score o → 1 ≤ get_or worths at 0 → None ≡ plus_hundred o → ⊥
      no_worth None e some same = omega (arith, e, some)
      no_worth (Some n) e some same = cc

  -- and is there
  pub first_there : (at : ℕ) → IsFirstGreatest worths (Some at) → at < length rows
  first_there at first = omega (arith, first.0, length-map (map shown rows) (worth pod.request), length-map rows shown)

-- ---- one node more is told of

pub record IsTold (most : ℕ) (pod : Pod) (rows : List Row) (i : ℕ) (first : Option Found) (told : Told) : Type 0 where
  pub there : IfSome (first_of_both first i told.worth) (IsPassing most (judged_alone pod (map shown rows)))
  pub plain : (k : ℕ) (row : Row) → k < length rows → row ≡ get_or rows k row → is_plain row.node ≡ true → GoesAfter most (judged_alone pod (map shown rows)) (first_of_both first i told.worth) k
  pub gone : (k : ℕ) → k < i + 1 → GoesAfter most (judged_alone pod (map shown rows)) (first_of_both first i told.worth) k
  pub count : told.count ≡ count_of (node_at (judged_alone pod (map shown rows)) i).verdict

module _ (most : ℕ) (pod : Pod) (rows : List Row) (i : ℕ) (row : Row) (lt : i < length rows) (is : row ≡ get_or rows i row) (first : Option Found) where
  abbrev all : List Judged
  all = judged_alone pod (map shown rows)

  next_or_before : (P : ℕ → Type 0) → ((k : ℕ) → k < i → P k) → P i → (k : ℕ) → k < i + 1 → P k
  next_or_before P before here k less = by (nat_lt k i) refl
    where
      by : (b : Bool) → nat_lt k i ≡ b → P k
      by true e = before k (ltb-true k i e)
      by false e =
          let same : i ≡ k = omega (arith, less, ltb-false k i e) in
          subst P same here

  pub one_told : IfSome first (IsPassing most all) → ((k : ℕ) (other : Row) → k < length rows → other ≡ get_or rows k other → is_plain other.node ≡ true → GoesAfter most all first k) → ((k : ℕ) → k < i → GoesAfter most all first k)
      → (told : Told) → told ≡ told_unless_plain most pod (shown row) → IsTold most pod rows i first told
  one_told there plain gone told e = by (is_plain row.node) refl
    where
      verdict : (node_at all i).verdict ≡ alone pod (shown row)
      verdict = verdict_at pod rows i row lt is

      here : i < length all
      here = omega (arith, lt, judged_length (map shown rows) (verdicts_alone pod (map shown rows)) (many_alone pod (map shown rows)), length-map rows shown)

      by : (b : Bool) → is_plain row.node ≡ b → IsTold most pod rows i first told
      by true p =
          let nothing : told ≡ record { count = 0; worth = None } = e ∙ ap (λ b. if◌then◌else◌ {A = Told} b (record { count = 0; worth = None }) (told_of most 0 (alone pod (shown row)))) p in
          subst (IsTold most pod rows i first) (sym nothing) (record {
            there = there;
            plain = plain;
            gone = next_or_before (GoesAfter most all first) gone (plain i row lt is p);
            count = sym (ap count_of verdict ∙ plain_count pod (shown row) p);
          })
      by false p =
          let own : told ≡ told_of most 0 (alone pod (shown row)) = e ∙ ap (λ b. if◌then◌else◌ {A = Told} b (record { count = 0; worth = None }) (told_of most 0 (alone pod (shown row)))) p in
          let w : Option ℕ = worth_from 0 (total_of most (alone pod (shown row))) in
          let total : total_at most all i ≡ w = ap (total_of most) verdict ∙ from_none (total_of most (alone pod (shown row))) in
          subst (IsTold most pod rows i first) (sym own) (record {
            there = still_there most all i first w here total there;
            plain = λ k other below read q. still_after most all i first w k (plain k other below read q);
            gone = next_or_before (GoesAfter most all (first_of_both first i w)) (λ k less. still_after most all i first w k (gone k less)) (goes_after most all i first w total);
            count = sym (ap count_of verdict);
          })

-- ---- what was found

module _ (most : ℕ) (pod : Pod) (rows : List Row) where
  -- what passes stands among the rows
  pub passes_there : (first : Option Found) → IfSome first (IsPassing most (judged_alone pod (map shown rows))) → IfSome first (λ found. found.at < length rows)
  passes_there None there = tt
  passes_there (Some found) there = omega (arith, there.0, judged_length (map shown rows) (verdicts_alone pod (map shown rows)) (many_alone pod (map shown rows)), length-map rows shown)

module _ (pod : Pod) (rows : List Row) where
  pub is_there : (first : Option Found) → LeadsPlain 0 pod rows first → IfSome first (λ found. found.at < length rows)
  is_there first leads = passes_there 0 pod rows first leads.there

  row_at : (xs : List Row) (k : ℕ) → k < length xs → (row : Row) × (row ≡ get_or xs k row)
  row_at [] k lt = absurd (omega (arith, lt))
  row_at (x ∷ xs) zero lt = (x, refl)
  row_at (x ∷ xs) (suc k) lt = row_at xs k (omega (arith, lt))

  -- where all nodes are plain, the first of the plain ones goes first of all
  pub all_lead : AreInOrder (map shown rows) → ArePlain (map shown rows) → (first : Option Found) → ((most : ℕ) → LeadsPlain most pod rows first)
      → StandsFirst (Total (most_of (judged_alone pod (map shown rows)))) (judged_alone pod (map shown rows)) (judged_alone pod (map shown rows)) first
  all_lead ordered plain first leads =
      let most = most_of (judged_alone pod (map shown rows)) in
      leads_all most pod rows ordered first (leads most).there
      (λ k lt.
      let at = row_at rows k lt in
      let own : is_plain at.0.node ≡ true =
      ap (λ (r : Row). is_plain r.node) at.1 ∙ ap (λ (s : Shown). is_plain s.node) (sym (get_or-map shown rows k at.0 (shown at.0) lt)) ∙ plain k (shown at.0) (omega (arith, lt, length-map rows shown)) in
      (leads most).leads k at.0 lt at.1 own)
