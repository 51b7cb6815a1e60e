-- Which plugins words spell.
use Rattle.std.proofs.Common.{◌≡◌, ◌+◌, ◌&&◌, ◌||◌, ◌-◌, get_or, take, drop, add-one, length-drop, ◌∙◌, ◌<◌, ◌≤◌, ◌==◌, ℕ, zero, suc, Bool, true, false, List, [], ◌∷◌, ◌++◌, length, map, Option, Some, None, option_map, option_and_then, refl, sym, ap, arith, nat_lt, Bor}
use Rattle.std.specs.Prelude.{not, slice_get, unwrap_or}
use Rattle.std.specs.List.{list_any, position_or_len}
use Rattle.std.specs.Str.{bytes_eq}
use Rattle.std.proofs.lemmas.Bool.{lt-ltb, le-leb, true≢false}
use Rattle.std.proofs.lemmas.Slice.Eq.{bytes_eq-Decides}
use Rattle.std.proofs.lemmas.Str.Pattern.{IsSplitOnceResult, split_once_first}
use Rattle.std.proofs.lemmas.List.{length-map, map-append, take_all, take_more, take-append-drop}
use Rattle.std.proofs.Math.Seq.{drop-cons}
use Rattle.clap.proofs.SimpleLemmas.{is_false}
use Rattle.clap.proofs.WalkLemmas.{both}
use Rattle.command.specs.declared.asked.Spec.{Spec}
use Rattle.quant.specs.declared.limits.TheConstants.{MAX_PLUGINS}
use Rattle.command.specs.Words.{SpecSyntax, cut, each, have_distinct_names, is_named, spec_from, spec_of, specs_of, syntax_of}
use Rattle.command.specs.Within.{HaveDistinctNames}

-- `split_once` cuts a text at its first colon
pub cut_is : (text : List ℕ) (r : Option (Bor (List ℕ) × Bor (List ℕ))) → IsSplitOnceResult 58 text r
    → option_map (λ parts. (parts.0.now, parts.1.now)) r ≡ cut text
unfolding cut
cut_is text None h =
    let none : position_or_len (λ b. b == 58) text ≡ length text = split_once_first 58 text None h (omega arith) in
    let past : nat_lt (position_or_len (λ b. b == 58) text) (length text) ≡ false = grind (arith, none) in
    rw past refl
cut_is text (Some x) h =
    let found = split_once_first 58 text (Some x) h (omega arith) in
    rw (lt-ltb _ _ found.0, found.1, found.2) refl

-- a word with three colons spells what its parts do
pub spec_of_parts : (word name behind_name weight behind_weight fuel file : List ℕ) → Some (name, behind_name) ≡ cut word
    → Some (weight, behind_weight) ≡ cut behind_name → Some (fuel, file) ≡ cut behind_weight
    → spec_of word ≡ spec_from name weight fuel file
unfolding spec_of
spec_of_parts word name behind_name weight behind_weight fuel file first second third = rw (← first, ← second, ← third) refl

-- and one with fewer spells nothing
pub spec_of_no_name : (word : List ℕ) → None ≡ cut word → spec_of word ≡ None
unfolding spec_of
spec_of_no_name word none = rw (← none) refl

pub spec_of_no_weight : (word name behind_name : List ℕ) → Some (name, behind_name) ≡ cut word → None ≡ cut behind_name → spec_of word ≡ None
unfolding spec_of
spec_of_no_weight word name behind_name first none = rw (← first, ← none) refl

pub spec_of_no_fuel : (word name behind_name weight behind_weight : List ℕ) → Some (name, behind_name) ≡ cut word
    → Some (weight, behind_weight) ≡ cut behind_name → None ≡ cut behind_weight → spec_of word ≡ None
unfolding spec_of
spec_of_no_fuel word name behind_name weight behind_weight first second none = rw (← first, ← second, ← none) refl

-- one more word that spells something
pub each_more : (spelled : List ℕ → Option SpecSyntax) (words : List (List ℕ)) (specs : List SpecSyntax) (word : List ℕ) (spec : SpecSyntax)
    → each spelled words ≡ Some specs → spelled word ≡ Some spec → each spelled (words ++ word ∷ []) ≡ Some (specs ++ spec ∷ [])
each_more spelled [] specs word spec e is = rw is (ap (option_map (λ l. l ++ spec ∷ [])) e)
each_more spelled (w ∷ words) specs word spec e is =
    go (spelled w) (each spelled words) (λ t o. each_more spelled words t word spec o is) refl e
  where
    go : (first : Option SpecSyntax) (others : Option (List SpecSyntax))
        → ((t : List SpecSyntax) → each spelled words ≡ Some t → each spelled (words ++ word ∷ []) ≡ Some (t ++ spec ∷ []))
        → each spelled words ≡ others
        → option_and_then (λ s. option_map (λ t. s ∷ t) others) first ≡ Some specs
        → option_and_then (λ s. option_map (λ t. s ∷ t) (each spelled (words ++ word ∷ []))) first ≡ Some (specs ++ spec ∷ [])
    go None others more o e = cc
    go (Some s) None more o e = cc
    go (Some s) (Some t) more o e = rw (more t o) (ap (option_map (λ l. l ++ spec ∷ [])) e)

-- a word that spells nothing
pub each_none : (spelled : List ℕ → Option SpecSyntax) (words : List (List ℕ)) (word : List ℕ) (rest : List (List ℕ))
    → spelled word ≡ None → each spelled (words ++ word ∷ rest) ≡ None
each_none spelled [] word rest is = rw is refl
each_none spelled (w ∷ words) word rest is = go (spelled w) (each_none spelled words word rest is)
  where
    go : (first : Option SpecSyntax) → each spelled (words ++ word ∷ rest) ≡ None
        → option_and_then (λ s. option_map (λ t. s ∷ t) (each spelled (words ++ word ∷ rest))) first ≡ None
    go None none = refl
    go (Some s) none = rw none refl

-- the same, of words by their places
pub each_more_at : (words : List (Bor (List ℕ))) (i : ℕ) (d : Bor (List ℕ)) (specs : List Spec) (spec : Spec) → i < length words
    → each spec_of (map (λ s. s.now) (take i words)) ≡ Some (map syntax_of specs) → Some (syntax_of spec) ≡ spec_of (get_or words i d).now
    → each spec_of (map (λ s. s.now) (take (i + 1) words)) ≡ Some (map syntax_of (specs ++ spec ∷ []))
each_more_at words i d specs spec within e is =
    rw (take_more words i d within, map-append (λ (s : Bor (List ℕ)). s.now) (take i words) (get_or words i d ∷ []), map-append syntax_of specs (spec ∷ []))
    (each_more spec_of (map (λ s. s.now) (take i words)) (map syntax_of specs) (get_or words i d).now (syntax_of spec) e (sym is))

pub each_none_at : (words : List (Bor (List ℕ))) (i : ℕ) (d : Bor (List ℕ)) → i < length words → None ≡ spec_of (get_or words i d).now
    → each spec_of (map (λ s. s.now) words) ≡ None
each_none_at words i d within is =
    let parts : words ≡ take i words ++ (get_or words i d ∷ drop (suc i) words) =
    sym (take-append-drop i words) ∙ ap (λ l. take i words ++ l) (drop-cons words i d within) in
    let texts : map (λ s. s.now) words ≡ map (λ s. s.now) (take i words) ++ ((get_or words i d).now ∷ map (λ s. s.now) (drop (suc i) words)) =
    ap (map (λ (s : Bor (List ℕ)). s.now)) parts ∙ map-append (λ (s : Bor (List ℕ)). s.now) (take i words) (get_or words i d ∷ drop (suc i) words) in
    ap (each spec_of) texts ∙ each_none spec_of (map (λ s. s.now) (take i words)) (get_or words i d).now (map (λ s. s.now) (drop (suc i) words)) (sym is)

-- there are as many plugins as words
each_length : (spelled : List ℕ → Option SpecSyntax) (words : List (List ℕ)) (specs : List SpecSyntax) → each spelled words ≡ Some specs
    → length specs ≡ length words
each_length spelled [] specs e = ap (λ o. length (unwrap_or o [])) (sym e)
each_length spelled (w ∷ words) specs e = go (spelled w) (each spelled words) (each_length spelled words) e
  where
    go : (first : Option SpecSyntax) (others : Option (List SpecSyntax))
        → ((t : List SpecSyntax) → others ≡ Some t → length t ≡ length words)
        → option_and_then (λ s. option_map (λ t. s ∷ t) others) first ≡ Some specs → length specs ≡ length (w ∷ words)
    go None others as_many e = cc
    go (Some s) None as_many e = cc
    go (Some s) (Some t) as_many e = ap (λ o. length (unwrap_or o [])) (sym e) ∙ ap suc (as_many t refl)

pub each_keeps_length : (words : List (Bor (List ℕ))) (specs : List Spec) → each spec_of (map (λ s. s.now) words) ≡ Some (map syntax_of specs)
    → length specs ≡ length words
each_keeps_length words specs e =
    sym (length-map specs syntax_of) ∙ each_length spec_of (map (λ s. s.now) words) (map syntax_of specs) e ∙ length-map words (λ (s : Bor (List ℕ)). s.now)

-- ---- names

-- where neither is so, the second isn't
later_false : (a b : Bool) → (a || b) ≡ false → b ≡ false
later_false true b e = absurd (true≢false e)
later_false false b e = e

-- a name that no plugin has is not that of the one at a place
other_name : (specs : List Spec) (name : List ℕ) (k : ℕ) (other : Spec) → is_named (map syntax_of specs) name ≡ false
    → slice_get specs k ≡ Some other → other.name ≡ name → ⊥
other_name [] name k other e at same = cc
other_name (x ∷ xs) name zero other e at same =
    let is : x ≡ other = ap (λ (o : Option Spec). unwrap_or o x) at in
    let named : bytes_eq x.name name ≡ true = (bytes_eq-Decides x.name name).1 (ap (λ (s : Spec). s.name) is ∙ same) in
    true≢false (rw named at e)
other_name (x ∷ xs) name (suc k) other e at same = other_name xs name k other (later_false _ _ e) at same

-- the plugins have names of their own
pub names_are_distinct : (specs : List Spec) → have_distinct_names (map syntax_of specs) ≡ true → HaveDistinctNames specs
names_are_distinct [] e j k spec other at_j at_k same = cc
names_are_distinct (x ∷ xs) e zero zero spec other at_j at_k same = refl
names_are_distinct (x ∷ xs) e zero (suc k) spec other at_j at_k same =
    let is : x ≡ spec = ap (λ (o : Option Spec). unwrap_or o x) at_j in
    absurd (other_name xs x.name k other (is_false _ (both _ _ e).0) at_k (sym same ∙ sym (ap (λ (s : Spec). s.name) is)))
names_are_distinct (x ∷ xs) e (suc j) zero spec other at_j at_k same =
    let is : x ≡ other = ap (λ (o : Option Spec). unwrap_or o x) at_k in
    absurd (other_name xs x.name j spec (is_false _ (both _ _ e).0) at_j (same ∙ sym (ap (λ (s : Spec). s.name) is)))
names_are_distinct (x ∷ xs) e (suc j) (suc k) spec other at_j at_k same = ap suc (names_are_distinct xs (both _ _ e).1 j k spec other at_j at_k same)

-- names are compared alike in the code's plugins
pub named_by : (specs : List Spec) (name : List ℕ) → list_any (λ spec. bytes_eq spec.name name) specs ≡ is_named (map syntax_of specs) name
named_by [] name = refl
named_by (x ∷ xs) name = ap (λ b. bytes_eq x.name name || b) (named_by xs name)

-- the plugin at a place, whose name a later one has or not
pub distinct_at : (specs : List Spec) (i : ℕ) (spec : Spec) → i < length specs → get_or specs i spec ≡ spec
    → have_distinct_names (map syntax_of (drop i specs))
    ≡ (not (list_any (λ s. bytes_eq s.name spec.name) (take (length specs - (i + 1)) (drop (i + 1) specs)))
    && have_distinct_names (map syntax_of (drop (i + 1) specs)))
distinct_at specs i spec within at =
    let whole : take (length specs - (i + 1)) (drop (i + 1) specs) ≡ drop (i + 1) specs =
    take_all _ (drop (i + 1) specs) (omega (arith, length-drop (i + 1) specs)) in
    rw (whole, add-one i, drop-cons specs i spec within, at, named_by (drop (suc i) specs) spec.name) refl

-- so few words spell these plugins, of which no two have one name
pub specs_read : (words : List (List ℕ)) (specs : List SpecSyntax) → length words ≤ MAX_PLUGINS → each spec_of words ≡ Some specs → have_distinct_names specs ≡ true → specs_of words ≡ Some specs
specs_read words specs few read own = simp (le-leb (length words) MAX_PLUGINS few, read, own)
