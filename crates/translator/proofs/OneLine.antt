-- Each answer stands on one line.
use Rattle.std.proofs.Common.{◌≡◌, ◌∙◌, ℕ, ◌≤◌, suc, Bool, true, false, not, cond, List, [], ◌∷◌, ◌++◌, length, codes, Some, None, refl, sym, ap, subst, append_assoc, arith}
use Rattle.std.specs.Prelude.{◌&&◌, ◌==◌, flat_map, nat_le}
use Rattle.std.specs.List.{list_all}
use Rattle.std.proofs.lemmas.Bool.{leb-true, ne_eqb}
use Rattle.std.proofs.lemmas.List.Elements.{All-append, All-cons, All-drop, All-nil}
use Rattle.quant.specs.declared.limits.TheConstants.{MAX_VERSION}
use Rattle.objects.specs.declared.translation.Translation.{Translation}
use Rattle.objects.specs.LeftOut.{told_names}
use Rattle.objects.specs.Shown.{AreTexts, in_marks, stands_for_itself}
use Rattle.objects.specs.Told.{Told, told}
use Rattle.objects.specs.Translation.{IsTranslation}
use Rattle.objects.proofs.Shown.{names_are_texts}
use Rattle.streams.specs.Lines.{IsLine, is_newline, lines_of}
use Rattle.streams.proofs.Taking.{lines_of-newline, lines_of-nil}
use Rattle.translator.specs.Translate.{Manner, AreTranslated, answer_object, answer_text, answers_text, line_or_null, next_version, told_under}
use Rattle.translator.specs.Laws.{OneAnswerALine}
use Rattle.translator.proofs.Scripts.{one_line, spelled_line, split_and}

-- ---- what is left out

-- a byte that stands for itself ends no line
plain_byte : (b : ℕ) → stands_for_itself b ≡ true → is_newline b ≡ false
plain_byte b e = other_byte b (split_and (nat_le 32 b) (nat_le b 126) (split_and (nat_le 32 b && nat_le b 126) (not (b == 34)) (split_and (nat_le 32 b && nat_le b 126 && not (b == 34)) (not (b == 92)) e).0).0).0
  where
    other_byte : (b : ℕ) → nat_le 32 b ≡ true → is_newline b ≡ false
    other_byte b least = ne_eqb b 10 (λ ten. let small : 32 ≤ b = leb-true 32 b least in omega arith)

plain_text : (text : List ℕ) → list_all stands_for_itself text ≡ true → IsLine text
plain_text [] e = All-nil (λ b. is_newline b ≡ false)
plain_text (b ∷ text) e =
    let parts = split_and (stands_for_itself b) (list_all stands_for_itself text) e in
    All-cons (λ c. is_newline c ≡ false) b text (plain_byte b parts.0) (plain_text text parts.1)

-- a text that ends no line, behind another
behind : (a b : List ℕ) → IsLine a → IsLine b → IsLine (a ++ b)
behind a b first second = All-append (λ c. is_newline c ≡ false) a b first second

marked : (text : List ℕ) → IsLine text → IsLine (in_marks text)
marked text line = behind (codes ", " ++ 34 ∷ text) (34 ∷ []) (behind (codes ", ") (34 ∷ text) (one_line (codes ", ") refl) (All-cons (λ c. is_newline c ≡ false) 34 text refl line)) (one_line (34 ∷ []) refl)

all_marked : (texts : List (List ℕ)) → list_all (list_all stands_for_itself) texts ≡ true → IsLine (flat_map in_marks texts)
all_marked [] e = All-nil (λ b. is_newline b ≡ false)
all_marked (text ∷ texts) e =
    let parts = split_and (list_all stands_for_itself text) (list_all (list_all stands_for_itself) texts) e in
    behind (in_marks text) (flat_map in_marks texts) (marked text (plain_text text parts.0)) (all_marked texts parts.1)

-- what is told of a line that gives something
meant_of : (within uncounted : Bool) (meant given : Told) → cond within (cond uncounted None (Some meant)) None ≡ Some given → meant ≡ given
meant_of true true meant given is = cc
meant_of true false meant given is = cc
meant_of false uncounted meant given is = cc

told_of : (manner : Manner) (version : ℕ) (line : List ℕ) (given : Told) → told_under manner version line ≡ Some given
    → told manner.site manner.by_uid (record { 0 = version }) line ≡ given
unfolding told_under
told_of manner version line given is =
    let meant = told manner.site manner.by_uid (record { 0 = version }) line in
    meant_of (nat_le version MAX_VERSION) (meant.uncounted && not manner.answers) meant given is

left_out_line : (manner : Manner) (version : ℕ) (line : List ℕ) (given : Told) (translation : Translation) → told_under manner version line ≡ Some given
    → IsTranslation given translation → IsLine translation.left_out.items
left_out_line manner version line given translation gives is =
    let texts : AreTexts (told_names given.left_out) =
    subst (λ (t : Told). AreTexts (told_names t.left_out)) (told_of manner version line given gives) (names_are_texts manner.site manner.by_uid (record { 0 = version }) line) in
    let whole : IsLine (told_names given.left_out) = subst IsLine (sym texts.are) (all_marked texts.texts texts.plain) in
    subst IsLine (sym is.left_out) (All-drop (λ b. is_newline b ≡ false) 2 (told_names given.left_out) whole)

-- ---- an answer

spelled_or_null : (line : List ℕ) → IsLine line → IsLine (line_or_null line)
spelled_or_null [] is = one_line (codes "null") refl
spelled_or_null (x ∷ more) is = is

-- it is one line, and the end of it
object_line : (uncounted : Bool) (line left_out : List ℕ) → IsLine line → IsLine left_out
    → (text : List ℕ) × IsLine text × (answer_object uncounted line left_out ≡ text ++ codes "\n")
object_line false line left_out first second =
    let front = codes "{\"line\": " ++ line_or_null line in
    let both = front ++ codes ", \"left_out\": [" ++ left_out in (
      both ++ codes "]}",
      behind both (codes "]}") (behind (front ++ codes ", \"left_out\": [") left_out
          (behind front (codes ", \"left_out\": [") (behind (codes "{\"line\": ") (line_or_null line) (one_line (codes "{\"line\": ") refl)
          (spelled_or_null line first)) (one_line (codes ", \"left_out\": [") refl)) second) (one_line (codes "]}") refl),
      sym (append_assoc both (codes "]}") (codes "\n")),
    )
object_line true line left_out first second =
    let front = codes "{\"uncounted\": [" in (
      front ++ left_out ++ codes "]}",
      behind (front ++ left_out) (codes "]}") (behind front left_out (one_line front refl) second) (one_line (codes "]}") refl),
      sym (append_assoc (front ++ left_out) (codes "]}") (codes "\n")),
    )

answer_line : (answers : Bool) (translation : Translation) → IsLine translation.line.items → IsLine translation.left_out.items
    → (text : List ℕ) × IsLine text × (answer_text answers translation ≡ text ++ codes "\n")
unfolding answer_text
answer_line false translation line left_out = (translation.line.items, line, refl)
answer_line true translation line left_out = object_line translation.uncounted translation.line.items translation.left_out.items line left_out

answer_step : (answers : Bool) (translation : Translation) (rest : List ℕ) → IsLine translation.line.items → IsLine translation.left_out.items
    → length (lines_of (answer_text answers translation ++ rest)) ≡ suc (length (lines_of rest))
answer_step answers translation rest line left_out =
    let it = answer_line answers translation line left_out in
    ap (λ t. length (lines_of (t ++ rest))) it.2 ∙ (ap (λ t. length (lines_of t)) (append_assoc it.0 (codes "\n") rest) ∙ ap length (lines_of-newline it.0 rest it.1))

answers_from : (manner : Manner) (version : ℕ) (lines : List (List ℕ)) (translations : List Translation) (next : ℕ) → AreTranslated manner version lines translations next
    → length (lines_of (answers_text manner.answers translations)) ≡ length lines
answers_from manner version [] [] next are = ap length lines_of-nil
answers_from manner version [] (t ∷ ts) next are = absurd are
answers_from manner version (l ∷ lines) [] next are = absurd are
answers_from manner version (l ∷ lines) (t ∷ ts) next (given, gives, is, later) =
    answer_step manner.answers t (answers_text manner.answers ts) (spelled_line given.event t.line.items is.line) (left_out_line manner version l given t gives is)
    ∙ ap suc (answers_from manner (next_version version given.event) lines ts next later)

pub one_answer_a_line : OneAnswerALine
one_answer_a_line manner lines translations next are = answers_from manner 1 lines translations next are
