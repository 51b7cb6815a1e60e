-- Facts about flags and the list of the places where they are set.
use Rattle.std.proofs.Common.{◌≡◌, ℕ, ◌+◌, ◌*◌, ◌/◌, ◌<◌, ◌≤◌, Bool, true, false, cond, List, [], ◌∷◌, ◌++◌, length, get_or, set, refl, sym, subst, ap, ◌∙◌, inl, inr, arith, length-set, length-append, get_or-set_other, get_or-set_same}
use Rattle.std.specs.List.{count_by, Contains}
use Rattle.std.proofs.lemmas.List.Elements.{All-append, Contains-push, Contains-push_cases, Contains-append_left}
use Rattle.std.proofs.lemmas.List.Sums.{count_by-le-length, sum_by-set, sum_by-append}
use Rattle.std.proofs.lemmas.List.{get_or_append_left, get_or_past, get_or_push}
use Rattle.std.proofs.lemmas.Grind.{get_or_head}
use Rattle.std.proofs.lemmas.Bool.{cases_eq, cases_lt}
use Rattle.wmem.specs.inside.Noted.{is_set, AreIn, IsListed}

-- setting a flag that wasn't set makes one more
pub count-set_true : (flags : List Bool) (page : ℕ) → page < length flags → get_or flags page true ≡ false
    → count_by is_set (set flags page true) ≡ count_by is_set flags + 1
count-set_true flags page within fresh =
    let one : Bool → ℕ = λ flag. cond (is_set flag) 1 0 in
    let was : one (get_or flags page true) ≡ 0 = ap one fresh in
    omega (arith, sum_by-set one flags page true true within, was)

-- a page that is noted first keeps the list right
pub note_listed : (flags : List Bool) (order : List ℕ) (room later page : ℕ) → IsListed (record { flags = flags; order = order; room = room })
    → page < length flags → get_or flags page true ≡ false
    → IsListed (record { flags = set flags page true; order = order ++ page ∷ []; room = later })
note_listed flags order room later page listed within fresh =
    let same : length (set flags page true) ≡ length flags = length-set flags page true in
    let more = count-set_true flags page within fresh in
    record {
      covers = λ other is. elim (cases_eq page other) [
        | inl e ↦ subst (λ (p : ℕ). Contains (order ++ page ∷ []) p) e (Contains-push order page)
        | inr ne ↦ Contains-append_left order (page ∷ []) other (listed.covers other (sym (get_or-set_other flags page other true false (λ e. ne (sym e))) ∙ is))
      ];
      within = All-append (λ (p : ℕ). p < length (set flags page true)) order (page ∷ []) (rw same listed.within) (λ k d h. let here : get_or (page ∷ []) k d ≡ page = get_or_head page [] k d (omega arith) in rw (here, same) within);
      few = rw more (simp length-append (omega (arith, listed.few)));
    }

-- there is room for one more while one isn't noted
pub listed_room : (flags : List Bool) (order : List ℕ) (room page : ℕ) → IsListed (record { flags = flags; order = order; room = room })
    → page < length flags → get_or flags page true ≡ false → length order < length flags
listed_room flags order room page listed within fresh =
    omega (arith, count-set_true flags page within fresh, listed.few, count_by-le-length is_set (set flags page true), length-set flags page true)

-- Marks of the first large pages: so many are set, and where one isn't none of its sixteen pages is
-- noted.
pub record AreMarked (flags : List Bool) (large count : ℕ) : Type 0 where
  pub marks : List Bool
  pub all : length marks ≡ large
  pub many : count_by is_set marks ≡ count
  pub unset : (page : ℕ) → page / 16 < large → get_or marks (page / 16) false ≡ false → get_or flags page false ≡ false

-- one large page more
pub one_more : (flags : List Bool) (large count : ℕ) (mark : Bool) → AreMarked flags large count
    → (mark ≡ false → (page : ℕ) → page / 16 ≡ large → get_or flags page false ≡ false) → AreMarked flags (large + 1) (count + cond mark 1 0)
one_more flags large count mark marked none =
    let one : Bool → ℕ = λ flag. cond (is_set flag) 1 0 in
    record {
      marks = marked.marks ++ mark ∷ [];
      all = omega (arith, length-append marked.marks (mark ∷ []), marked.all);
      many = omega (arith, sum_by-append one marked.marks (mark ∷ []), marked.many);
      unset = λ page below unset. elim (cases_eq (page / 16) large) [
        | inl here ↦ none (sym (get_or_push marked.marks mark false (page / 16) (marked.all ∙ sym here)) ∙ unset) page here
        | inr other ↦
            let before : page / 16 < large = omega (arith, below, other) in
            marked.unset page before (sym (get_or_append_left marked.marks (mark ∷ []) false (page / 16) (omega (arith, before, marked.all))) ∙ unset)
      ];
    }

-- no large page yet
pub none_yet : (flags : List Bool) → AreMarked flags 0 0
none_yet flags = record { marks = []; all = refl; many = refl; unset = λ page below unset. absurd (omega (arith, below)) }

-- all large pages
pub all_marked : (flags : List Bool) (large count : ℕ) → length flags ≤ large * 16 → AreMarked flags large count → AreIn flags count
all_marked flags large count all marked = record {
  large = marked.marks;
  many = marked.many;
  unset = λ page unset. elim (cases_lt (page / 16) large) [
    | inl below ↦ marked.unset page below unset
    | inr past ↦ get_or_past flags page false (omega (arith, past, all))
  ];
}

not_both : {flag : Bool} → flag ≡ true → flag ≡ false → ⊥
not_both t f = let e = sym t ∙ f in cc e

one_at_most : (flag : Bool) → cond (is_set flag) 1 0 ≤ 1
one_at_most true = omega arith
one_at_most false = omega arith

-- the page that was noted last is taken off
pub take_listed : (flags : List Bool) (order : List ℕ) (room later page : ℕ) → IsListed (record { flags = flags; order = order ++ page ∷ []; room = room })
    → IsListed (record { flags = set flags page false; order = order; room = later })
take_listed flags order room later page listed =
    let one : Bool → ℕ = λ flag. cond (is_set flag) 1 0 in
    let all : length (order ++ page ∷ []) ≡ length order + 1 = length-append order (page ∷ []) in
    let within : page < length flags = subst (λ (p : ℕ). p < length flags) (get_or_push order page page (length order) refl) (listed.within (length order) page (omega (arith, all))) in
    let same : length (set flags page false) ≡ length flags = length-set flags page false in
    record {
      covers = λ other is. elim (cases_eq page other) [
        | inl e ↦
            let unset = get_or-set_same flags page false false within in
            let here = ap (λ (p : ℕ). get_or (set flags page false) p false) e in
            absurd (not_both is (sym here ∙ unset))
        | inr ne ↦ elim (Contains-push_cases order page other (listed.covers other (sym (get_or-set_other flags page other false false (λ e. ne (sym e))) ∙ is))) [
          | inl there ↦ there
          | inr e ↦ absurd (ne e)
        ]
      ];
      within = λ k d h. rw same (subst (λ (p : ℕ). p < length flags) (get_or_append_left order (page ∷ []) d k h) (listed.within k d (omega (arith, all, h))));
      few = omega (arith, all, listed.few, sum_by-set one flags page false true within, one_at_most (get_or flags page true));
    }
