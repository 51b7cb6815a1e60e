-- What is wrong with words that ask for nothing.
use Rattle.std.proofs.Common.{◌≡◌, ◌∙◌, ◌==◌, ℕ, suc, ◌+◌, ◌<◌, false, List, ◌∷◌, length, map, drop, get_or, Option, Some, None, option_map, refl, sym, ap, ap₂, add-one, arith, nat_lt, drop-cons, Bor}
use Rattle.std.specs.Prelude.{unwrap_or}
use Rattle.std.specs.List.{position_or_len}
use Rattle.std.proofs.lemmas.Bool.{lt-ltb}
use Rattle.std.proofs.lemmas.Str.Pattern.{IsSplitOnceResult, split_once_first}
use Rattle.command.specs.declared.misuse.Misuse.{Misuse}
use Rattle.command.specs.declared.misuse.Part.TheVariants.{Spec}
use Rattle.command.specs.Words.{cut}
use Rattle.command.specs.declared.misuse.ReadAs.{ReadAs}
use Rattle.command.specs.declared.verb.Verb.{Verb}
use Rattle.command.specs.Misuse.{at_equals, misuse_in, part_of, read_behind, wrong_part, wrong_word}

-- `split_once` cuts a text at its first `=`
pub at_equals_is : (text : List ℕ) (r : Option (Bor (List ℕ) × Bor (List ℕ))) → IsSplitOnceResult 61 text r
    → option_map (λ sides. (sides.0.now, sides.1.now)) r ≡ at_equals text
unfolding at_equals
at_equals_is text None h =
    let none : position_or_len (λ b. b == 61) text ≡ length text = split_once_first 61 text None h (omega arith) in
    let past : nat_lt (position_or_len (λ b. b == 61) text) (length text) ≡ false = grind (arith, none) in
    rw past refl
at_equals_is text (Some x) h =
    let found = split_once_first 61 text (Some x) h (omega arith) in
    rw (lt-ltb _ _ found.0, found.1, found.2) refl

-- a word with fewer than three colons is no plugin
pub no_name : (word : List ℕ) → None ≡ cut word → Some Spec ≡ wrong_part word
unfolding wrong_part
no_name word none = rw (← none) refl

pub no_weight : (word name behind_name : List ℕ) → Some (name, behind_name) ≡ cut word → None ≡ cut behind_name → Some Spec ≡ wrong_part word
unfolding wrong_part
no_weight word name behind_name first none = rw (← first, ← none) refl

pub no_fuel : (word name behind_name weight behind_weight : List ℕ) → Some (name, behind_name) ≡ cut word
    → Some (weight, behind_weight) ≡ cut behind_name → None ≡ cut behind_weight → Some Spec ≡ wrong_part word
unfolding wrong_part
no_fuel word name behind_name weight behind_weight first second none = rw (← first, ← second, ← none) refl

-- and one with three is what its parts are
pub of_parts : (word name behind_name weight behind_weight fuel file : List ℕ) → Some (name, behind_name) ≡ cut word
    → Some (weight, behind_weight) ≡ cut behind_name → Some (fuel, file) ≡ cut behind_weight
    → part_of name weight fuel ≡ wrong_part word
unfolding wrong_part
of_parts word name behind_name weight behind_weight fuel file first second third = rw (← first, ← second, ← third) refl

-- the first of the words from a place on, and those behind it
pub one_word : {S : Type 0} (text : S → List ℕ) (verb : Verb) (read_as : ReadAs) (args : List S) (at : ℕ) (word : S) → at < length args → word ≡ get_or args at word
    → misuse_in verb (at + 1) read_as (map text (drop at args))
    ≡ unwrap_or (wrong_word verb (at + 1) read_as (text word)) (misuse_in verb (at + 1 + 1) (read_behind verb read_as (text word)) (map text (drop (at + 1) args)))
one_word text verb read_as args at word within is =
    let first : drop at args ≡ get_or args at word ∷ drop (suc at) args = drop-cons args at word within in
    let same : drop at args ≡ word ∷ drop (at + 1) args = first ∙ ap₂ (λ x n. x ∷ drop n args) (sym is) (sym (add-one at)) in
    ap (λ l. misuse_in verb (at + 1) read_as (map text l)) same

-- where that word isn't wrong, what is wrong is among those behind it, and else it is what is wrong
pub goes_on : {S : Type 0} (text : S → List ℕ) (verb : Verb) (read_as next : ReadAs) (args : List S) (at : ℕ) (word : S) (now : List ℕ) (wrong : Option Misuse) → at < length args
    → word ≡ get_or args at word → now ≡ text word → wrong ≡ wrong_word verb (at + 1) read_as now → wrong ≡ None → next ≡ read_behind verb read_as now
    → misuse_in verb (at + 1) read_as (map text (drop at args)) ≡ misuse_in verb (at + 1 + 1) next (map text (drop (at + 1) args))
goes_on text verb read_as next args at word now wrong within is spelled was none read =
    let rest = map text (drop (at + 1) args) in
    one_word text verb read_as args at word within is
    ∙ ap (λ (w : List ℕ). unwrap_or (wrong_word verb (at + 1) read_as w) (misuse_in verb (at + 1 + 1) (read_behind verb read_as w) rest)) (sym spelled)
    ∙ ap₂ (λ (o : Option Misuse) (n : ReadAs). unwrap_or o (misuse_in verb (at + 1 + 1) n rest)) (sym was ∙ none) (sym read)

pub stops : {S : Type 0} (text : S → List ℕ) (verb : Verb) (read_as : ReadAs) (args : List S) (at : ℕ) (word : S) (now : List ℕ) (wrong : Option Misuse) (misuse : Misuse)
    → at < length args → word ≡ get_or args at word → now ≡ text word → wrong ≡ wrong_word verb (at + 1) read_as now → wrong ≡ Some misuse
    → misuse_in verb (at + 1) read_as (map text (drop at args)) ≡ misuse
stops text verb read_as args at word now wrong misuse within is spelled was some =
    let rest = map text (drop (at + 1) args) in
    one_word text verb read_as args at word within is
    ∙ ap (λ (w : List ℕ). unwrap_or (wrong_word verb (at + 1) read_as w) (misuse_in verb (at + 1 + 1) (read_behind verb read_as w) rest)) (sym spelled)
    ∙ ap (λ (o : Option Misuse). unwrap_or o (misuse_in verb (at + 1 + 1) (read_behind verb read_as now) rest)) (sym was ∙ some)
