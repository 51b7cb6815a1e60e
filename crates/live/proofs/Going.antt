-- How far the answers have come: what is written and what waits answers the lines that were taken.
use Rattle.std.proofs.Common.{◌≡◌, ◌∙◌, ℕ, false, leb, List, [], ◌∷◌, ◌++◌, length, take, Option, Some, None, IfSome, ⊎_elim, refl, sym, subst, ap, arith, append_assoc}
use Rattle.std.proofs.KnownBytes.{Appends-trans, Appends-nil}
use Rattle.std.proofs.lemmas.Bool.{lt-leb, cases_lt}
use Rattle.std.proofs.lemmas.List.{length-take, append-nil, take_all}
use Rattle.std.specs.Io.KnownBytes.{Appends, Consumes, IsAtEnd, prepend_known}
use Rattle.streams.specs.inside.Device.{WritesSome}
use Rattle.streams.specs.Lines.{lines_of, TakesFront}
use Rattle.streams.proofs.Taking.{lines_of-nil}
use Rattle.objects.specs.Heard.{value_in}
use Rattle.objects.specs.Site.{Site}
use Rattle.live_desk.specs.State.{Live}
use Rattle.live.specs.Live.{AreAnswered, IsAnswered, IsBegun, IsWhole, Manner, first_state, together}
use Rattle.live_line.specs.Meaning.{meaning, of_value, reasons, reasons_of}
use Rattle.live.specs.inside.Live.{IsLineAnswered}

-- what is kept of a line has the line's value
value-kept : (text : List ℕ) → value_in (take 2097153 text) ≡ value_in text
unfolding value_in
value-kept text = ⊎_elim
    (λ long.
    let short_of : leb (length (take 2097153 text)) 2097152 ≡ false = lt-leb (length (take 2097153 text)) 2097152 (omega (arith, length-take 2097153 text)) in
    let too_long : leb (length text) 2097152 ≡ false = lt-leb (length text) 2097152 (omega arith) in
    rw (short_of, too_long) refl)
    (λ short. ap value_in (take_all 2097153 text short))
    (cases_lt 2097153 (length text))

-- and means what the line means
pub meaning-kept : (site : Site) (text : List ℕ) → meaning site (take 2097153 text) ≡ meaning site text
unfolding meaning
meaning-kept site text = ap (of_value site) (value-kept text)

-- and as much is left out of it
pub reasons-kept : (site : Site) (text : List ℕ) → reasons site (take 2097153 text) ≡ reasons site text
unfolding reasons
reasons-kept site text = ap (reasons_of site) (value-kept text)

-- ---- answers

-- one line more has its answer
one_more : (m : Manner) (s : Live) (lines : List (List ℕ)) (line : List ℕ) (texts : List (List ℕ)) (text : List ℕ) (state next : Live)
    → AreAnswered m s lines texts state → IsAnswered m (meaning m.site line) (reasons m.site line) state text next
    → AreAnswered m s (lines ++ line ∷ []) (texts ++ text ∷ []) next
one_more m s [] line [] text state next are answered = (next, subst (λ s. IsAnswered m (meaning m.site line) (reasons m.site line) s text next) (sym are) answered, refl)
one_more m s [] line (t ∷ ts) text state next are answered = absurd are
one_more m s (l ∷ lines) line [] text state next are answered = absurd are
one_more m s (l ∷ lines) line (t ∷ ts) text state next (behind, first, later) answered =
    (behind, first, one_more m behind lines line ts text state next later answered)

-- and one text more
together_more : (texts : List (List ℕ)) (text : List ℕ) → together (texts ++ text ∷ []) ≡ together texts ++ text
together_more [] text = append-nil text
together_more (t ∷ ts) text = ap (λ rest. t ++ rest) (together_more ts text) ∙ sym (append_assoc t (together ts) text)

-- ---- so far

-- Of a known input this rest is left, and of the answers to the lines in front of it this much is
-- written and the rest waits.
pub record IsAt (m : Manner) (input rest written waits : List ℕ) (state : Live) : Type 0 where
  pub lines : List (List ℕ)
  pub cut : lines_of input ≡ lines ++ lines_of rest
  pub texts : List (List ℕ)
  pub are : AreAnswered m first_state lines texts state
  pub answers_are : together texts ≡ written ++ waits

abbrev pub IsKnownAt : Manner → (input rest : Option (List ℕ)) → (written waits : List ℕ) → Live → Type 0
IsKnownAt m None rest written waits state = Unit {0}
IsKnownAt m (Some input) None written waits state = ⊥
IsKnownAt m (Some input) (Some rest) written waits state = IsAt m input rest written waits state

-- the same, where these were the bytes of the devices at first and are now
pub record IsGoing (m : Manner) (input rest out_old out_now : Option (List ℕ)) (waits : List ℕ) (state : Live) : Type 0 where
  pub written : List ℕ
  pub out : Appends out_old out_now written
  pub at : IsKnownAt m input rest written waits state

module _ (m : Manner) where
  known_start : (input : Option (List ℕ)) → IsKnownAt m input (prepend_known [] input) [] [] first_state
  known_start None = tt
  known_start (Some input) = record {
    lines = [];
    cut = refl;
    texts = [];
    are = refl;
    answers_are = refl;
  }

  -- nothing is read yet, and nothing waits
  pub going_start : (input out : Option (List ℕ)) (reader waits : List ℕ) (state : Live) → reader ≡ [] → waits ≡ [] → state ≡ first_state
      → IsGoing m input (prepend_known reader input) out out waits state
  going_start input out reader waits state none nothing new = rw (none, nothing, new) (record {
    written = [];
    out = Appends-nil out;
    at = known_start input;
  })

  known_partly : (input rest : Option (List ℕ)) (written waits out_front waits_later : List ℕ) (state : Live)
      → waits ≡ out_front ++ waits_later → IsKnownAt m input rest written waits state
      → IsKnownAt m input rest (written ++ out_front) waits_later state
  known_partly None rest written waits out_front waits_later state a so_far = tt
  known_partly (Some input) None written waits out_front waits_later state a so_far = absurd so_far
  known_partly (Some input) (Some rest) written waits out_front waits_later state a so_far = record {
    lines = so_far.lines;
    cut = so_far.cut;
    texts = so_far.texts;
    are = so_far.are;
    answers_are = so_far.answers_are ∙ (ap (λ t. written ++ t) a ∙ sym (append_assoc written out_front waits_later));
  }

  -- a beginning of what waited is written, and the rest waits on
  pub going_partly : (input rest out_old out_was out_now : Option (List ℕ)) (waits waits_later : List ℕ) (state : Live) → WritesSome out_was out_now waits waits_later
      → IsGoing m input rest out_old out_was waits state → IsGoing m input rest out_old out_now waits_later state
  going_partly input rest out_old out_was out_now waits waits_later state wrote so_far = record {
    written = so_far.written ++ wrote.0;
    out = Appends-trans out_old out_was out_now _ _ so_far.out wrote.2;
    at = known_partly input rest _ _ _ _ _ wrote.1 so_far.at;
  }

  -- a line is answered
  known_answered : (input rest later : Option (List ℕ)) (written line waited waits : List ℕ) (old new : Live)
      → TakesFront 2097153 rest later line → IsLineAnswered m old line new waited waits
      → IsKnownAt m input rest written waited old → IsKnownAt m input later written waits new
  known_answered None rest later written line waited waits old new took answered so_far = tt
  known_answered (Some input) None later written line waited waits old new took answered so_far = absurd so_far
  known_answered (Some input) (Some rest) None written line waited waits old new took answered so_far = absurd took
  known_answered (Some input) (Some rest) (Some later) written line waited waits old new took answered so_far =
      let text = took.0 in
      let means : meaning m.site line ≡ meaning m.site text = ap (meaning m.site) took.1 ∙ meaning-kept m.site text in
      let why : reasons m.site line ≡ reasons m.site text = ap (reasons m.site) took.1 ∙ reasons-kept m.site text in
      let said : IsAnswered m (meaning m.site text) (reasons m.site text) old answered.text new =
      subst (λ x. IsAnswered m x (reasons m.site text) old answered.text new) means
      (subst (λ x. IsAnswered m (meaning m.site line) x old answered.text new) why answered.answered) in
      record {
        lines = so_far.lines ++ text ∷ [];
        cut = so_far.cut ∙ (ap (λ l. so_far.lines ++ l) took.2 ∙ sym (append_assoc so_far.lines (text ∷ []) (lines_of later)));
        texts = so_far.texts ++ answered.text ∷ [];
        are = one_more m first_state so_far.lines text so_far.texts answered.text old new so_far.are said;
        answers_are = together_more so_far.texts answered.text
            ∙ (ap (λ t. t ++ answered.text) so_far.answers_are
            ∙ (append_assoc written waited answered.text ∙ ap (λ t. written ++ t) (sym answered.behind)));
      }

  pub going_answered : (input rest later out_old out_now : Option (List ℕ)) (line waited waits : List ℕ) (old new : Live)
      → TakesFront 2097153 rest later line → IsLineAnswered m old line new waited waits
      → IsGoing m input rest out_old out_now waited old → IsGoing m input later out_old out_now waits new
  going_answered input rest later out_old out_now line waited waits old new took answered so_far = record {
    written = so_far.written;
    out = so_far.out;
    at = known_answered input rest later so_far.written line waited waits old new took answered so_far.at;
  }

  -- ---- what is written then

  pub known_front : (input rest : Option (List ℕ)) (written waits : List ℕ) (state : Live) → IsKnownAt m input rest written waits state
      → (front later : List ℕ) → waits ≡ front ++ later → IfSome input (λ text. IsBegun m text (written ++ front))
  known_front None rest written waits state so_far front later a = tt
  known_front (Some input) None written waits state so_far front later a = absurd so_far
  known_front (Some input) (Some rest) written waits state so_far front later a = record {
    lines = so_far.lines;
    later = lines_of rest;
    cut = so_far.cut;
    texts = so_far.texts;
    state = state;
    are = so_far.are;
    rest = later;
    begin = so_far.answers_are ∙ (ap (λ t. written ++ t) a ∙ sym (append_assoc written front later));
  }

  -- all of the input is read and answered
  pub known_whole : (input rest left : Option (List ℕ)) (reader written waits : List ℕ) (state : Live) → (reader ≡ []) × IsAtEnd left × Consumes rest (prepend_known reader left) []
      → waits ≡ [] → IsKnownAt m input rest written waits state → IfSome input (λ text. IsWhole m text written × (left ≡ Some []))
  known_whole None rest left reader written waits state ended all_written so_far = tt
  known_whole (Some input) None left reader written waits state ended all_written so_far = absurd so_far
  known_whole (Some input) (Some rest) None reader written waits state ended all_written so_far = absurd ended.2
  known_whole (Some input) (Some rest) (Some left) reader written waits state ended all_written so_far =
      let no_byte : rest ≡ [] = ended.2 ∙ ap (λ t. t ++ left) ended.0 ∙ ended.1 in
      let none : lines_of rest ≡ [] = ap lines_of no_byte ∙ lines_of-nil in
      let all : so_far.lines ≡ lines_of input = sym (so_far.cut ∙ (ap (λ l. so_far.lines ++ l) none ∙ append-nil so_far.lines)) in (
        record {
          texts = so_far.texts;
          state = state;
          are = subst (λ l. AreAnswered m first_state l so_far.texts state) all so_far.are;
          answers_are = sym (so_far.answers_are ∙ (ap (λ t. written ++ t) all_written ∙ append-nil written));
        },
        ap Some ended.1,
      )
