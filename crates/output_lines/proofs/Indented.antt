-- Whole lines that begin with two spaces, and those that don't.
use Rattle.std.proofs.Common.{◌≡◌, ◌+◌, ℤ, pos, negsuc, nat_le, ◌∙◌, ℕ, zero, suc, ◌<◌, ◌/◌, ◌%◌, ◌==◌, ◌&&◌, Bool, true, false, cond, not, List, [], ◌∷◌, ◌++◌, refl, sym, ap, subst, arith, append-nil, append_assoc, decimal, length}
use Rattle.std.specs.List.{All, flat_map, list_all}
use Rattle.std.specs.Fmt.{digit_glyph, digits, digits_onto, signed_decimal}
use Rattle.std.proofs.lemmas.List.Elements.{All-nil, All-cons, All-head, All-tail, All-append}
use Rattle.std.proofs.lemmas.Grind.{flat_map-append}
use Rattle.std.proofs.lemmas.Bool.{and_parts, lt-ltb, ne_eqb}
use Rattle.quant.specs.Name.{is_name, is_text, is_name_byte}
use Rattle.streams.specs.Lines.{is_newline, lines_of, IsLine, line_of}
use Rattle.output_lines.specs.Indented.{is_indented, AreLines, unless_indented, without_indented}
use Rattle.streams.proofs.Taking.{lines_of-newline, lines_of-nil}

-- ---- texts without a newline

-- the byte is no newline
abbrev pub stands_in_line : ℕ → Bool
stands_in_line b = not (is_newline b)

pub not_true : (b : Bool) → not b ≡ true → b ≡ false
not_true false e = refl
not_true true e = sym e

-- what computing says of a text
pub IsLine-by : (text : List ℕ) → list_all stands_in_line text ≡ true → IsLine text
IsLine-by [] e = All-nil (λ b. is_newline b ≡ false)
IsLine-by (b ∷ text) e =
    let parts = and_parts (stands_in_line b) (list_all stands_in_line text) e in
    All-cons (λ b. is_newline b ≡ false) b text (not_true (is_newline b) parts.0) (IsLine-by text parts.1)

pub IsLine-both : (one other : List ℕ) → IsLine one → IsLine other → IsLine (one ++ other)
IsLine-both one other = All-append (λ b. is_newline b ≡ false) one other

-- ---- numbers in decimal

-- a digit is no newline
digit_stands : (d : ℕ) → is_newline (48 + d) ≡ false
digit_stands d = ne_eqb (48 + d) 10 (λ e. omega arith)

glyph_stands : (d : ℕ) → d < 10 → is_newline (digit_glyph false d) ≡ false
glyph_stands d below = ap (λ (b : Bool). is_newline (cond b (48 + d) (87 + d))) (lt-ltb d 10 below) ∙ digit_stands d

digits_stand : (room n : ℕ) (behind : List ℕ) → IsLine behind → IsLine (digits_onto room 10 false n behind)
digits_stand zero n behind line = line
digits_stand (suc room) n behind line =
    let glyph = digit_glyph false (n % 10) in
    let more : IsLine (glyph ∷ behind) = All-cons (λ b. is_newline b ≡ false) glyph behind (glyph_stands (n % 10) (omega arith)) line in
    elim (n / 10 == 0) as (λ b. IsLine (cond b (glyph ∷ behind) (digits_onto room 10 false (n / 10) (glyph ∷ behind)))) [
      | true ↦ more
      | false ↦ digits_stand room (n / 10) (glyph ∷ behind) more
    ]

pub IsLine-decimal : (n : ℕ) → IsLine (decimal n)
unfolding digits
IsLine-decimal n = digits_stand 64 n [] (All-nil (λ b. is_newline b ≡ false))

pub IsLine-signed : (z : ℤ) → IsLine (signed_decimal z)
IsLine-signed (pos n) = IsLine-decimal n
IsLine-signed (negsuc n) = All-cons (λ b. is_newline b ≡ false) 45 (decimal (suc n)) refl (IsLine-decimal (suc n))

-- ---- names

-- a byte that names have isn't this one, which they don't
not_that : (that b : ℕ) → is_name_byte that ≡ false → is_name_byte b ≡ true → (b == that) ≡ false
not_that that b isnt is = ne_eqb b that (λ e. let also : is_name_byte that ≡ true = subst (λ c. is_name_byte c ≡ true) e is in absurd (cc))

name_bytes : (name : List ℕ) → list_all is_name_byte name ≡ true → IsLine name
name_bytes [] e = All-nil (λ b. is_newline b ≡ false)
name_bytes (b ∷ name) e =
    let parts = and_parts (is_name_byte b) (list_all is_name_byte name) e in
    All-cons (λ b. is_newline b ≡ false) b name (not_that 10 b refl parts.0) (name_bytes name parts.1)

-- what a name is: it has a byte, and each of its bytes is one that names have
name_parts : (name : List ℕ) → is_name name ≡ true → (nat_le 1 (length name) ≡ true) × (list_all is_name_byte name ≡ true)
unfolding is_name is_text
name_parts name e =
    let parts = and_parts (nat_le 1 (length name)) (nat_le (length name) 63 && list_all is_name_byte name) e in
    (parts.0, (and_parts (nat_le (length name) 63) (list_all is_name_byte name) parts.1).1)

-- a name has no newline
pub IsLine-name : (name : List ℕ) → is_name name ≡ true → IsLine name
IsLine-name name e = name_bytes name (name_parts name e).1

-- nor has a text that may be empty
pub IsLine-text : (text : List ℕ) → is_text text ≡ true → IsLine text
unfolding is_text
IsLine-text text e = name_bytes text (and_parts (nat_le (length text) 63) (list_all is_name_byte text) e).1

-- the first byte of a name is no space
abbrev pub is_flush : List ℕ → Bool
is_flush [] = false
is_flush (b ∷ text) = not (b == 32)

pub name_is_flush : (name : List ℕ) → is_name name ≡ true → is_flush name ≡ true
name_is_flush [] e = let none = (name_parts [] e).0 in absurd (cc)
name_is_flush (b ∷ name) e = ap not (not_that 32 b refl (and_parts (is_name_byte b) (list_all is_name_byte name) (name_parts (b ∷ name) e).1).0)

-- ---- whole lines

module _ (indented : Bool) where
  pub no_lines : AreLines indented []
  no_lines = ([], refl, All-nil (λ line. IsLine line × (is_indented line ≡ indented)))

  pub one_line : (line : List ℕ) → IsLine line → is_indented line ≡ indented → AreLines indented (line_of line)
  one_line line is begins =
      (line ∷ [], sym (append-nil (line_of line)), All-cons (λ line. IsLine line × (is_indented line ≡ indented)) line [] (is, begins) (All-nil (λ line. IsLine line × (is_indented line ≡ indented))))

  pub more_lines : (one other : List ℕ) → AreLines indented one → AreLines indented other → AreLines indented (one ++ other)
  more_lines one other (lines, is, all) (others, is_other, all_others) = (
    lines ++ others,
    (λ i. is i ++ is_other i) ∙ sym (flat_map-append line_of lines others),
    All-append (λ line. IsLine line × (is_indented line ≡ indented)) lines others all all_others,
  )

-- ---- a text without its indented lines

-- the first line is left out or stays, as the later ones do
without_first : (line later : List ℕ) → IsLine line → without_indented (line_of line ++ later) ≡ unless_indented line ++ without_indented later
unfolding without_indented
without_first line later is = ap (λ t. flat_map unless_indented (lines_of t)) (append_assoc line (10 ∷ []) later) ∙ ap (flat_map unless_indented) (lines_of-newline line later is)

without_them : (lines : List (List ℕ)) (later : List ℕ) → All (λ line. IsLine line × (is_indented line ≡ true)) lines
    → without_indented (flat_map line_of lines ++ later) ≡ without_indented later
without_them [] later all = refl
without_them (line ∷ lines) later all =
    let first = All-head (λ line. IsLine line × (is_indented line ≡ true)) line lines all in
    ap without_indented (append_assoc (line_of line) (flat_map line_of lines) later)
    ∙ without_first line (flat_map line_of lines ++ later) first.0
    ∙ ap (λ (b : Bool). cond b [] (line_of line) ++ without_indented (flat_map line_of lines ++ later)) first.1
    ∙ without_them lines later (All-tail (λ line. IsLine line × (is_indented line ≡ true)) line lines all)

with_them : (lines : List (List ℕ)) (later : List ℕ) → All (λ line. IsLine line × (is_indented line ≡ false)) lines
    → without_indented (flat_map line_of lines ++ later) ≡ flat_map line_of lines ++ without_indented later
with_them [] later all = refl
with_them (line ∷ lines) later all =
    let first = All-head (λ line. IsLine line × (is_indented line ≡ false)) line lines all in
    ap without_indented (append_assoc (line_of line) (flat_map line_of lines) later)
    ∙ without_first line (flat_map line_of lines ++ later) first.0
    ∙ ap (λ (b : Bool). cond b [] (line_of line) ++ without_indented (flat_map line_of lines ++ later)) first.1
    ∙ ap (λ t. line_of line ++ t) (with_them lines later (All-tail (λ line. IsLine line × (is_indented line ≡ false)) line lines all))
    ∙ sym (append_assoc (line_of line) (flat_map line_of lines) (without_indented later))

-- indented lines are left out, whatever stands behind them
pub left_out : (told later : List ℕ) → AreLines true told → without_indented (told ++ later) ≡ without_indented later
left_out told later (lines, is, all) = ap (λ t. without_indented (t ++ later)) is ∙ without_them lines later all

-- and the others stay
pub left_in : (plain later : List ℕ) → AreLines false plain → without_indented (plain ++ later) ≡ plain ++ without_indented later
left_in plain later (lines, is, all) =
    ap (λ t. without_indented (t ++ later)) is ∙ with_them lines later all ∙ ap (λ t. t ++ without_indented later) (sym is)

-- of nothing is left nothing
pub without-none : without_indented [] ≡ []
unfolding without_indented
without-none = ap (flat_map unless_indented) lines_of-nil
