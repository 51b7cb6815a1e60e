-- How a body's place moves on over the words of its bytes, and where its branches lead.
use Rattle.std.proofs.Common.{◌≡◌, ℕ, suc, ◌+◌, ◌-◌, ◌<◌, ◌≤◌, List, ◌++◌, length, max, ap, ◌∙◌, subst, arith}
use Rattle.std.proofs.Math.Nat.{max-eq_right}
use Rattle.std.proofs.lemmas.List.{length-append}
use Rattle.wcode.specs.declared.instruction.Plain.{Plain}
use Rattle.wcode.specs.Syntax.{Body, plain}
use Rattle.wcode.specs.Grammar.{one, SpellsWord, SpellsBody}
use Rattle.wcode.proofs.Shorter.{word_shorter}
use Rattle.wcode.proofs.Unique.{word_once}
use Rattle.wbody.specs.Context.{Operands}
use Rattle.wbody.specs.Typing.{PlainType, takes_gives, drops, selects, ends, untyped, TypeAllows, Weakened, Typed}
use Rattle.wbody.specs.Heights.{without, height_by, height_after, greatest_height}
use Rattle.wbody.specs.declared.trail.Branch.{Branch}
use Rattle.wbody.specs.Branches.{plain_branches, branches_of}
use Rattle.wmach.specs.inside.OpenLabels.{Open}
use Rattle.wmach.specs.inside.InPlace.{Whole, place_of, context_in, room_in, floor_in, labels_in, branches_in, Stands, Moves}
use Rattle.wmach.proofs.Tails.{word_tail, ends_tail}
use Rattle.wmach.proofs.BranchPlaces.{Between, plain_there}
use Rattle.wmach.proofs.BehindPlaces.{weaker, next_cut}
use Rattle.wmach.proofs.Cuts.{cuts_count}
use Rattle.wmach.proofs.LowHeights.{second_low, low_at}

-- what comes behind an instruction of this type is reached
abbrev pub IsLeft : PlainType → Type 0
IsLeft (takes_gives takes gives) = Unit {0}
IsLeft drops = Unit {0}
IsLeft selects = Unit {0}
IsLeft (ends takes) = ⊥
IsLeft untyped = ⊥

-- taking so many of more leaves the others
without_is : (n floor others : ℕ) → without n floor (floor + (n + others)) ≡ floor + others
without_is n floor others =
    let left : floor + (n + others) - n ≡ floor + others = omega arith in
    let more : floor ≤ floor + others = omega arith in
    ap (λ k. max floor k) left ∙ max-eq_right more

-- the height behind an instruction counts the operands that it leaves
pub height_is : (t : PlainType) (floor : ℕ) (before after : Operands) → IsLeft t → Weakened (TypeAllows t) before after → height_by t floor (floor + length before) ≡ floor + length after
height_is (takes_gives takes gives) floor before after left f =
    let b : length before ≡ length takes + length f.below = ap length f.before_is ∙ length-append f.takes f.below ∙ ap (λ l. length l + length f.below) f.rule.0 in
    let a : length after ≡ length gives + length f.below = ap length f.after_is ∙ length-append f.gives f.below ∙ ap (λ l. length l + length f.below) f.rule.1 in
    ap (λ n. without (length takes) floor (floor + n) + length gives) b
    ∙ ap (λ n. n + length gives) (without_is (length takes) floor (length f.below))
    ∙ (let s : floor + length f.below + length gives ≡ floor + length after = omega (arith, a) in s)
height_is drops floor before after left f =
    let b : length before ≡ suc (length f.below) = ap length f.before_is ∙ ap (λ l. length (l ++ f.below)) f.rule.1 in
    let a : length after ≡ length f.below = ap length f.after_is ∙ ap (λ l. length (l ++ f.below)) f.rule.2 in
    let all : floor + length before ≡ floor + (1 + length f.below) = omega (arith, b) in
    ap (λ n. without 1 floor n) all ∙ without_is 1 floor (length f.below) ∙ (let s : floor + length f.below ≡ floor + length after = omega (arith, a) in s)
height_is selects floor before after left f =
    let b : length before ≡ suc (suc (suc (length f.below))) = ap length f.before_is ∙ ap (λ l. length (l ++ f.below)) f.rule.1 in
    let a : length after ≡ suc (length f.below) = ap length f.after_is ∙ ap (λ l. length (l ++ f.below)) f.rule.2 in
    let all : floor + length before ≡ floor + (3 + length f.below) = omega (arith, b) in
    ap (λ n. without 3 floor n + 1) all ∙ ap (λ n. n + 1) (without_is 3 floor (length f.below)) ∙ (let s : floor + length f.below + 1 ≡ floor + length after = omega (arith, a) in s)
height_is (ends takes) floor before after left f = absurd left
height_is untyped floor before after left f = absurd left

-- a branch before a place
abbrev Before : ℕ → Branch → Type 0
Before place b = b.at < place

module _ (w : Whole) (all : List Branch) where
  -- over an instruction that is left
  pub stands_plain : (os : List Open) (p : Plain) (b : Body) (types between : Operands) (front more : List ℕ) (s : Stands w all os (plain p b) types front) → SpellsWord front (one p) more → Typed (context_in w os) b between s.leaves → height_after (context_in w os) p (floor_in os) (floor_in os + length types) ≡ floor_in os + length between → Moves w all os b between front more (length (plain_branches (labels_in w os) (place_of w front) p))
  unfolding SpellsBody branches_of
  stands_plain os p b types between front more s word others_typed height =
      let c = context_in w os in
      let there = s.spelled.0 in
      let same_end : there ≡ more = (word_once front (one p) (one p) there more s.spelled.1 word).1 in
      let shorter = word_shorter front (one p) there s.spelled.1 in
      let passed = plain_branches (labels_in w os) (place_of w front) p in
      let others = λ (h : ℕ). branches_of (length w.bytes) c b (room_in os) s.last there s.rest (labels_in w os) (floor_in os) h s.spelled.2 in
      let same = ap (λ h. passed ++ others h) height in
      let low : place_of w front + 1 < place_of w there + 1 = omega (arith, shorter, s.within.within) in
      let passed_less = weaker (Between (place_of w front) (place_of w there + 1)) (Before (place_of w there)) (λ x h. omega (arith, h.1)) passed (plain_there (labels_in w os) (place_of w front) (place_of w there + 1) p low) in
      let moved : Stands w all os b between there = record {
        within = ends_tail w front there s.within (word_tail front (one p) there s.spelled.1);
        last = s.last;
        rest = s.rest;
        later = s.later;
        spelled = s.spelled.2;
        cut = next_cut w all os s.last front there s.rest (plain p b) b (length types) (length between) s.spelled s.spelled.2 passed s.later s.within.within (omega (arith, shorter)) same passed_less s.behind s.cut;
        behind = s.behind;
        leaves = s.leaves;
        typed = others_typed;
        typed_behind = s.typed_behind;
        low = low_at c b (floor_in os) (height_after c p (floor_in os) (floor_in os + length types)) (floor_in os + length between) w.most height (second_low (floor_in os + length types) (greatest_height c b (floor_in os) (height_after c p (floor_in os) (floor_in os + length types))) w.most s.low);
        low_behind = s.low_behind;
      } in
      let here = branches_in w os (length types) (plain p b) s.last front s.rest s.spelled in
      let here_next = branches_in w os (length between) b s.last there s.rest s.spelled.2 in
      let long : length here ≡ length passed + length here_next = ap length same ∙ length-append passed here_next in
      let count = cuts_count all (place_of w front) (place_of w there) here s.later here_next s.later (length passed) s.cut moved.cut (omega (arith, long)) in
      subst (λ m. Moves w all os b between front m (length passed)) same_end (record { stands = moved; count = count })
