-- How far a translation has come: what is written and what waits answers the lines that were taken.
use Rattle.std.proofs.Common.{◌≡◌, ◌∙◌, ℕ, ◌+◌, Bool, true, false, cond, leb, List, [], ◌∷◌, ◌++◌, length, take, Option, Some, None, IfSome, ⊎_elim, refl, sym, subst, ap, arith, append_assoc}
use Rattle.std.specs.Prelude.{nat_le}
use Rattle.std.proofs.KnownBytes.{Appends-trans, Appends-nil}
use Rattle.std.proofs.lemmas.Bool.{lt-leb, cases_lt}
use Rattle.std.proofs.lemmas.List.{length-append, length-take, append-nil, take_all}
use Rattle.std.specs.Io.KnownBytes.{Appends, Consumes, IsAtEnd, prepend_known}
use Rattle.quant.specs.declared.limits.TheConstants.{MAX_VERSION}
use Rattle.quant.specs.declared.version.Version.{Version}
use Rattle.streams.specs.inside.Device.{WritesSome}
use Rattle.streams.specs.Lines.{lines_of, TakesFront}
use Rattle.streams.proofs.Taking.{lines_of-nil}
use Rattle.objects.specs.declared.translation.Translation.{Translation}
use Rattle.objects.specs.ObjectName.{name_in}
use Rattle.objects.specs.Site.{Site}
use Rattle.objects.specs.Told.{Told, line_told, told_or_uncounted, told}
use Rattle.objects.specs.Translation.{IsTranslation}
use Rattle.fault_line.specs.declared.unread.LineUncounted.{LineUncounted}
use Rattle.fault_line.specs.Excerpt.{excerpt_of}
use Rattle.translator.specs.declared.waiting.Waiting.{Waiting}
use Rattle.translator.specs.Translate.{Manner, AreTranslated, BeginsTranslation, EndsAtLine, IsWholeTranslation, answer_text, answers_text, left_out_line, left_out_text, left_out_texts, next_version, told_under, unless_uncounted}
use Rattle.translator.specs.inside.Translate.{IsLineAnswered}

-- ---- a line of which the front is kept

-- what is kept of a line tells what the line tells
line-kept : (site : Site) (by_uid : Bool) (version : Version) (text : List ℕ)
    → line_told site by_uid version (take 2097153 text) ≡ line_told site by_uid version text
unfolding line_told
line-kept site by_uid version text = ⊎_elim
    (λ long.
    let short_of : leb (length (take 2097153 text)) 2097152 ≡ false = lt-leb (length (take 2097153 text)) 2097152 (omega (arith, length-take 2097153 text)) in
    let too_long : leb (length text) 2097152 ≡ false = lt-leb (length text) 2097152 (omega arith) in
    rw (short_of, too_long) refl)
    (λ short. ap (line_told site by_uid version) (take_all 2097153 text short))
    (cases_lt 2097153 (length text))

told-kept : (site : Site) (by_uid : Bool) (version : Version) (text : List ℕ) → told site by_uid version (take 2097153 text) ≡ told site by_uid version text
unfolding told
told-kept site by_uid version text = ap told_or_uncounted (line-kept site by_uid version text)

-- and gives under a version what the line gives
pub told_under-kept : (manner : Manner) (version : ℕ) (text : List ℕ) → told_under manner version (take 2097153 text) ≡ told_under manner version text
unfolding told_under
told_under-kept manner version text =
    ap (λ t. cond (nat_le version MAX_VERSION) (unless_uncounted manner.answers t) None) (told-kept manner.site manner.by_uid (record { 0 = version }) text)

-- and names its object
name-kept : (text : List ℕ) → name_in (take 2097153 text) ≡ name_in text
unfolding name_in
name-kept text = ⊎_elim
    (λ long.
    let short_of : leb (length (take 2097153 text)) 2097152 ≡ false = lt-leb (length (take 2097153 text)) 2097152 (omega (arith, length-take 2097153 text)) in
    let too_long : leb (length text) 2097152 ≡ false = lt-leb (length text) 2097152 (omega arith) in
    rw (short_of, too_long) refl)
    (λ short. ap name_in (take_all 2097153 text short))
    (cases_lt 2097153 (length text))

-- so what is told beside its answer is what is told of the line
left_out-kept : (answers : Bool) (number : ℕ) (text : List ℕ) (translation : Translation)
    → left_out_text answers number (take 2097153 text) translation ≡ left_out_text answers number text translation
unfolding left_out_text
left_out-kept true number text translation = refl
left_out-kept false number text translation =
    ap (λ object. left_out_line number object translation.line.items translation.left_out.items) (name-kept text)

-- ---- translations

-- one more line has its translation
one_more : (manner : Manner) (version : ℕ) (lines : List (List ℕ)) (line : List ℕ) (translations : List Translation) (translation : Translation) (next : ℕ) (given : Told)
    → AreTranslated manner version lines translations next → told_under manner next line ≡ Some given → IsTranslation given translation
    → AreTranslated manner version (lines ++ line ∷ []) (translations ++ translation ∷ []) (next_version next given.event)
one_more manner version [] line [] translation next given are gives is =
    (given, subst (λ v. told_under manner v line ≡ Some given) are gives, is, ap (λ v. next_version v given.event) are)
one_more manner version [] line (t ∷ ts) translation next given are gives is = absurd are
one_more manner version (l ∷ lines) line [] translation next given are gives is = absurd are
one_more manner version (l ∷ lines) line (t ∷ ts) translation next given (first, tells, stands, later) gives is =
    (first, tells, stands, one_more manner (next_version version first.event) lines line ts translation next given later gives is)

-- there are as many as lines
as_many : (manner : Manner) (version : ℕ) (lines : List (List ℕ)) (translations : List Translation) (next : ℕ)
    → AreTranslated manner version lines translations next → length translations ≡ length lines
as_many manner version [] [] next are = refl
as_many manner version [] (t ∷ ts) next are = absurd are
as_many manner version (l ∷ lines) [] next are = absurd are
as_many manner version (l ∷ lines) (t ∷ ts) next (first, tells, stands, later) =
    let less : length ts ≡ length lines = as_many manner (next_version version first.event) lines ts next later in omega arith

-- one answer more
answers_more : (answers : Bool) (translations : List Translation) (translation : Translation)
    → answers_text answers (translations ++ translation ∷ []) ≡ answers_text answers translations ++ answer_text answers translation
answers_more answers [] translation = append-nil (answer_text answers translation)
answers_more answers (t ∷ ts) translation =
    ap (λ text. answer_text answers t ++ text) (answers_more answers ts translation)
    ∙ sym (append_assoc (answer_text answers t) (answers_text answers ts) (answer_text answers translation))

-- and what is told beside it
left_out_more : (answers : Bool) (first number : ℕ) (lines : List (List ℕ)) (line : List ℕ) (translations : List Translation) (translation : Translation)
    → length translations ≡ length lines → number ≡ first + length lines
    → left_out_texts answers first (lines ++ line ∷ []) (translations ++ translation ∷ [])
    ≡ left_out_texts answers first lines translations ++ left_out_text answers number line translation
left_out_more answers first number [] line [] translation many is =
    let same : first ≡ number = omega arith in
    append-nil (left_out_text answers first line translation) ∙ ap (λ n. left_out_text answers n line translation) same
left_out_more answers first number [] line (t ∷ ts) translation many is = absurd (omega (arith, many))
left_out_more answers first number (l ∷ lines) line [] translation many is = absurd (omega (arith, many))
left_out_more answers first number (l ∷ lines) line (t ∷ ts) translation many is =
    ap (λ text. left_out_text answers first l t ++ text) (left_out_more answers (first + 1) number lines line ts translation (omega (arith, many)) (omega (arith, is)))
    ∙ sym (append_assoc (left_out_text answers first l t) (left_out_texts answers (first + 1) lines ts) (left_out_text answers number line translation))

-- ---- the translation so far

-- Of a known input this rest is left, so many lines were answered, and of their answers, and of
-- what is told beside them, this much is written and the rest waits.
pub record IsAt (manner : Manner) (input rest written waits told tells : List ℕ) (version number : ℕ) : Type 0 where
  pub lines : List (List ℕ)
  pub cut : lines_of input ≡ lines ++ lines_of rest
  pub many : number ≡ length lines
  pub translations : List Translation
  pub are : AreTranslated manner 1 lines translations version
  pub answers_are : answers_text manner.answers translations ≡ written ++ waits
  pub left_out_are : left_out_texts manner.answers 1 lines translations ≡ told ++ tells

abbrev pub IsKnownAt : Manner → (input rest : Option (List ℕ)) → (written waits told tells : List ℕ) → (version number : ℕ) → Type 0
IsKnownAt manner None rest written waits told tells version number = Unit {0}
IsKnownAt manner (Some input) None written waits told tells version number = ⊥
IsKnownAt manner (Some input) (Some rest) written waits told tells version number = IsAt manner input rest written waits told tells version number

-- the same, where these were the bytes of the devices at first and are now
pub record IsGoing (manner : Manner) (input rest out_old out_now err_old err_now : Option (List ℕ)) (waits tells : List ℕ) (version number : ℕ) : Type 0 where
  pub written : List ℕ
  pub told : List ℕ
  pub out : Appends out_old out_now written
  pub err : Appends err_old err_now told
  pub at : IsKnownAt manner input rest written waits told tells version number

module _ (manner : Manner) where
  known_start : (input : Option (List ℕ)) → IsKnownAt manner input (prepend_known [] input) [] [] [] [] 1 0
  known_start None = tt
  known_start (Some input) = record {
    lines = [];
    cut = refl;
    many = refl;
    translations = [];
    are = refl;
    answers_are = refl;
    left_out_are = refl;
  }

  -- nothing is read yet, and nothing waits
  pub going_start : (input out err : Option (List ℕ)) (reader waits tells : List ℕ) → reader ≡ [] → waits ≡ [] → tells ≡ []
      → IsGoing manner input (prepend_known reader input) out out err err waits tells 1 0
  going_start input out err reader waits tells none nothing silent = rw (none, nothing, silent) (record {
    written = [];
    told = [];
    out = Appends-nil out;
    err = Appends-nil err;
    at = known_start input;
  })

  known_partly : (input rest : Option (List ℕ)) (written waits told tells out_front waits_later err_front tells_later : List ℕ) (version number : ℕ)
      → waits ≡ out_front ++ waits_later → tells ≡ err_front ++ tells_later → IsKnownAt manner input rest written waits told tells version number
      → IsKnownAt manner input rest (written ++ out_front) waits_later (told ++ err_front) tells_later version number
  known_partly None rest written waits told tells out_front waits_later err_front tells_later version number a b so_far = tt
  known_partly (Some input) None written waits told tells out_front waits_later err_front tells_later version number a b so_far = absurd so_far
  known_partly (Some input) (Some rest) written waits told tells out_front waits_later err_front tells_later version number a b so_far = record {
    lines = so_far.lines;
    cut = so_far.cut;
    many = so_far.many;
    translations = so_far.translations;
    are = so_far.are;
    answers_are = so_far.answers_are ∙ (ap (λ t. written ++ t) a ∙ sym (append_assoc written out_front waits_later));
    left_out_are = so_far.left_out_are ∙ (ap (λ t. told ++ t) b ∙ sym (append_assoc told err_front tells_later));
  }

  module _ (input rest out_old out_was out_now err_old err_was err_now : Option (List ℕ)) where
    -- a beginning of what waited is written, and the rest waits on
    pub going_partly : (waits waits_later tells tells_later : List ℕ) (version number : ℕ) → WritesSome out_was out_now waits waits_later → WritesSome err_was err_now tells tells_later
        → IsGoing manner input rest out_old out_was err_old err_was waits tells version number → IsGoing manner input rest out_old out_now err_old err_now waits_later tells_later version number
    going_partly waits waits_later tells tells_later version number wrote said so_far = record {
      written = so_far.written ++ wrote.0;
      told = so_far.told ++ said.0;
      out = Appends-trans out_old out_was out_now _ _ so_far.out wrote.2;
      err = Appends-trans err_old err_was err_now _ _ so_far.err said.2;
      at = known_partly input rest _ _ _ _ _ _ _ _ _ _ wrote.1 said.1 so_far.at;
    }

    -- all of it is
    pub going_flushed : (waits tells : List ℕ) (version number : ℕ) → Appends out_was out_now waits → Appends err_was err_now tells
        → IsGoing manner input rest out_old out_was err_old err_was waits tells version number → IsGoing manner input rest out_old out_now err_old err_now [] [] version number
    going_flushed waits tells version number wrote said so_far =
        going_partly waits [] tells [] version number (waits, sym (append-nil waits), wrote) (tells, sym (append-nil tells), said) so_far

  -- a line is answered
  known_answered : (input rest later : Option (List ℕ)) (written told line : List ℕ) (version next number : ℕ) (old new : Waiting)
      → TakesFront 2097153 rest later line → IsLineAnswered manner (number + 1) version line next old new
      → IsKnownAt manner input rest written old.answers.items told old.left_out.items version number
      → IsKnownAt manner input later written new.answers.items told new.left_out.items next (number + 1)
  known_answered None rest later written told line version next number old new took answered so_far = tt
  known_answered (Some input) None later written told line version next number old new took answered so_far = absurd so_far
  known_answered (Some input) (Some rest) None written told line version next number old new took answered so_far = absurd took
  known_answered (Some input) (Some rest) (Some later) written told line version next number old new took answered so_far =
      let text = took.0 in
      let gives : told_under manner version text ≡ Some answered.told =
      sym (told_under-kept manner version text) ∙ (ap (told_under manner version) (sym took.1) ∙ answered.gives) in
      let are = one_more manner 1 so_far.lines text so_far.translations answered.translation version answered.told so_far.are gives answered.is in
      let many : length so_far.translations ≡ length so_far.lines = as_many manner 1 so_far.lines so_far.translations version so_far.are in
      let count : number ≡ length so_far.lines = so_far.many in
      let beside : left_out_text manner.answers (number + 1) line answered.translation ≡ left_out_text manner.answers (number + 1) text answered.translation =
      ap (λ l. left_out_text manner.answers (number + 1) l answered.translation) took.1 ∙ left_out-kept manner.answers (number + 1) text answered.translation in
      record {
        lines = so_far.lines ++ text ∷ [];
        cut = so_far.cut ∙ (ap (λ l. so_far.lines ++ l) took.2 ∙ sym (append_assoc so_far.lines (text ∷ []) (lines_of later)));
        many = omega (arith, length-append so_far.lines (text ∷ []));
        translations = so_far.translations ++ answered.translation ∷ [];
        are = subst (AreTranslated manner 1 (so_far.lines ++ text ∷ []) (so_far.translations ++ answered.translation ∷ [])) (sym answered.next_is) are;
        answers_are = answers_more manner.answers so_far.translations answered.translation
            ∙ (ap (λ t. t ++ answer_text manner.answers answered.translation) so_far.answers_are
            ∙ (append_assoc written old.answers.items (answer_text manner.answers answered.translation) ∙ ap (λ t. written ++ t) (sym answered.answers)));
        left_out_are = left_out_more manner.answers 1 (number + 1) so_far.lines text so_far.translations answered.translation many (omega arith)
            ∙ (ap (λ t. t ++ left_out_text manner.answers (number + 1) text answered.translation) so_far.left_out_are
            ∙ (append_assoc told old.left_out.items (left_out_text manner.answers (number + 1) text answered.translation)
            ∙ ap (λ t. told ++ t) (sym (answered.left_out ∙ ap (λ t. old.left_out.items ++ t) beside))));
      }

  pub going_answered : (input rest later out_old out_now err_old err_now : Option (List ℕ)) (line : List ℕ) (version next number : ℕ) (old new : Waiting)
      → TakesFront 2097153 rest later line → IsLineAnswered manner (number + 1) version line next old new
      → IsGoing manner input rest out_old out_now err_old err_now old.answers.items old.left_out.items version number
      → IsGoing manner input later out_old out_now err_old err_now new.answers.items new.left_out.items next (number + 1)
  going_answered input rest later out_old out_now err_old err_now line version next number old new took answered so_far = record {
    written = so_far.written;
    told = so_far.told;
    out = so_far.out;
    err = so_far.err;
    at = known_answered input rest later so_far.written so_far.told line version next number old new took answered so_far.at;
  }

  -- ---- what is written then

  pub known_front : (input rest : Option (List ℕ)) (written waits told tells : List ℕ) (version number : ℕ) → IsKnownAt manner input rest written waits told tells version number
      → (out_front out_rest err_front err_rest : List ℕ) → waits ≡ out_front ++ out_rest → tells ≡ err_front ++ err_rest
      → IfSome input (λ text. BeginsTranslation manner text (written ++ out_front) (told ++ err_front))
  known_front None rest written waits told tells version number so_far out_front out_rest err_front err_rest a b = tt
  known_front (Some input) None written waits told tells version number so_far out_front out_rest err_front err_rest a b = absurd so_far
  known_front (Some input) (Some rest) written waits told tells version number so_far out_front out_rest err_front err_rest a b = record {
    lines = so_far.lines;
    later = lines_of rest;
    cut = so_far.cut;
    translations = so_far.translations;
    next = version;
    are = so_far.are;
    answers_rest = out_rest;
    answers_begin = so_far.answers_are ∙ (ap (λ t. written ++ t) a ∙ sym (append_assoc written out_front out_rest));
    left_out_rest = err_rest;
    left_out_begin = so_far.left_out_are ∙ (ap (λ t. told ++ t) b ∙ sym (append_assoc told err_front err_rest));
  }

  -- all of the input is read and answered
  pub known_whole : (input rest left : Option (List ℕ)) (reader written told : List ℕ) (version number : ℕ) → (reader ≡ []) × IsAtEnd left × Consumes rest (prepend_known reader left) []
      → IsKnownAt manner input rest written [] told [] version number → IfSome input (λ text. IsWholeTranslation manner text written told × (left ≡ Some []))
  known_whole None rest left reader written told version number ended so_far = tt
  known_whole (Some input) None left reader written told version number ended so_far = absurd so_far
  known_whole (Some input) (Some rest) None reader written told version number ended so_far = absurd ended.2
  known_whole (Some input) (Some rest) (Some left) reader written told version number ended so_far =
      let no_byte : rest ≡ [] = ended.2 ∙ ap (λ t. t ++ left) ended.0 ∙ ended.1 in
      let none : lines_of rest ≡ [] = ap lines_of no_byte ∙ lines_of-nil in
      let all : so_far.lines ≡ lines_of input = sym (so_far.cut ∙ (ap (λ l. so_far.lines ++ l) none ∙ append-nil so_far.lines)) in (
        record {
          translations = so_far.translations;
          next = version;
          are = subst (λ l. AreTranslated manner 1 l so_far.translations version) all so_far.are;
          answers_are = sym (so_far.answers_are ∙ append-nil written);
          left_out_are = sym (ap (λ l. left_out_texts manner.answers 1 l so_far.translations) (sym all) ∙ (so_far.left_out_are ∙ append-nil told));
        },
        ap Some ended.1,
      )

  -- a line can't be counted
  pub known_line : (input rest later : Option (List ℕ)) (line written told : List ℕ) (version number : ℕ) (lost : LineUncounted) → TakesFront 2097153 rest later line
      → lost.number ≡ number + 1 → lost.object.items ≡ excerpt_of (name_in line) → told_under manner version line ≡ None
      → IsKnownAt manner input rest written [] told [] version number → IfSome input (λ text. EndsAtLine manner text lost written told)
  known_line None rest later line written told version number lost took counted named none so_far = tt
  known_line (Some input) None later line written told version number lost took counted named none so_far = absurd so_far
  known_line (Some input) (Some rest) None line written told version number lost took counted named none so_far = absurd took
  known_line (Some input) (Some rest) (Some later) line written told version number lost took counted named none so_far = record {
    lines = so_far.lines;
    line = took.0;
    later = lines_of later;
    cut = so_far.cut ∙ ap (λ l. so_far.lines ++ l) took.2;
    number_is = counted ∙ ap (λ n. n + 1) so_far.many;
    object_is = named ∙ ap (λ l. excerpt_of (name_in l)) took.1 ∙ ap excerpt_of (name-kept took.0);
    translations = so_far.translations;
    next = version;
    are = so_far.are;
    uncounted = sym (told_under-kept manner version took.0) ∙ (ap (told_under manner version) (sym took.1) ∙ none);
    answers_are = sym (so_far.answers_are ∙ append-nil written);
    left_out_are = sym (so_far.left_out_are ∙ append-nil told);
  }
