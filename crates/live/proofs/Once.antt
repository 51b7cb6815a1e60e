-- The lines of an input have one output.
use Rattle.std.proofs.Common.{◌≡◌, ◌∙◌, ℕ, List, [], ◌∷◌, ◌++◌, Option, Some, None, refl, sym, subst, ap, append_assoc}
use Rattle.streams.specs.Greatest.{limits}
use Rattle.streams.specs.Lines.{lines_of}
use Rattle.quant.specs.declared.name.Name.{Name}
use Rattle.quant.specs.declared.objects.Pod.{Pod}
use Rattle.rules.specs.RuleSet.{RuleSet, SayOneThing}
use Rattle.choose.proofs.OneVerdict.{one_list}
use Rattle.desk.specs.Machine.{snapshot}
use Rattle.output_lines.specs.declared.named_rule.NamedRule.{NamedRule}
use Rattle.cycle.proofs.OneCycle.{Own}
use Rattle.cycle.proofs.OwnNames.{at_opening}
use Rattle.live_desk.specs.State.{Live, to_place}
use Rattle.live_desk.proofs.Once.{one_pending, one_taken, one_turn}
use Rattle.live.specs.Answer.{explained_text, taken_text, told_text, turn_text}
use Rattle.live.specs.Laws.{OneLiveOutput, FrontsBeginIt}
use Rattle.live.specs.Live.{AreAnswered, IsAnswered, IsExplained, Manner, first_state, manner, together}
use Rattle.live_line.specs.Meaning.{meaning, reasons}
use Rattle.live_line.specs.declared.meaning.Meaning.{Meaning}
use Rattle.live_line.specs.declared.meaning.Meaning.TheVariants as means
use Rattle.live.proofs.Kept.{answered_goes}

-- a pod has one explanation
one_explained : (rules : RuleSet) (named : List NamedRule) (s : Live) (uid : Name) (pod : Option Pod) (text also : List ℕ) → SayOneThing rules → IsExplained rules named s uid pod text → IsExplained rules named s uid pod also → text ≡ also
one_explained rules named s uid None text also once a b = a ∙ sym b
one_explained rules named s uid (Some pod) text also once a b =
    let same : a.0 ≡ b.0 = one_list rules pod (snapshot s.desk.cluster) a.0 b.0 once a.1 b.1 in
    a.2 ∙ (ap (λ verdicts. explained_text named pod uid (snapshot s.desk.cluster) verdicts) same ∙ sym b.2)

-- a line has one answer
one_line : (m : Manner) (what : Meaning) (reasons : List ℕ) (s one other : Live) (text also : List ℕ) → SayOneThing m.rules → Own s.desk → IsAnswered m what reasons s text one → IsAnswered m what reasons s also other → (text ≡ also) × (one ≡ other)
one_line m (means.Tells event) reasons s one other text also once own (answer, told, spelled) (second, too, likewise) =
    let both = one_taken s one other event answer second told too in
    (spelled ∙ ap (λ answer. told_text event answer reasons) both.0 ∙ sym likewise, both.1)
one_line m (means.Pending version pod) reasons s one other text also once own (taken, told, spelled) (second, too, likewise) =
    let both = one_pending s one other version pod taken second told too in
    (spelled ∙ ap (λ taken. taken_text taken reasons) both.0 ∙ sym likewise, both.1)
one_line m (means.Aside uid) reasons s one other text also once own a b = (a.0 ∙ sym b.0, a.1 ∙ sym b.1)
one_line m (means.Tick now) reasons s one other text also once own a b = (a.0 ∙ sym b.0, a.1 ∙ sym b.1)
one_line m means.Cycle reasons s one other text also once own (turn, told, spelled) (second, too, likewise) =
    let both = one_turn m.rules s one other turn second once own told too in
    (spelled ∙ ap (turn_text m.named) both.0 ∙ sym likewise, both.1)
one_line m (means.Explain uid) reasons s one other text also once own a b = (one_explained m.rules m.named s uid (to_place s uid) text also once a.0 b.0, a.1 ∙ sym b.1)
one_line m means.Dump reasons s one other text also once own a b = (a.0 ∙ sym b.0, a.1 ∙ sym b.1)
one_line m means.Nothing reasons s one other text also once own a b = (a.0 ∙ sym b.0, a.1 ∙ sym b.1)
one_line m (means.Faulty field) reasons s one other text also once own a b = (a.0 ∙ sym b.0, a.1 ∙ sym b.1)

-- so have all lines
all_once : (m : Manner) (s one other : Live) (lines texts also : List (List ℕ)) → SayOneThing m.rules → Own s.desk → AreAnswered m s lines texts one → AreAnswered m s lines also other → (texts ≡ also) × (one ≡ other)
all_once m s one other [] [] [] once own a b = (refl, sym a ∙ b)
all_once m s one other [] [] (u ∷ us) once own a b = absurd b
all_once m s one other [] (t ∷ ts) also once own a b = absurd a
all_once m s one other (line ∷ lines) [] also once own a b = absurd a
all_once m s one other (line ∷ lines) (t ∷ ts) [] once own a b = absurd b
all_once m s one other (line ∷ lines) (t ∷ ts) (u ∷ us) once own (next, answered, later) (then, too, rest) =
    let both = one_line m (meaning m.site line) (reasons m.site line) s next then t u once own answered too in
    let kept : Own next.desk = (answered_goes m (meaning m.site line) (reasons m.site line) s next t answered).own own in
    let more = all_once m next one other lines ts us once kept later (subst (λ x. AreAnswered m x lines us other) (sym both.1) rest) in
    (ap (λ x. x ∷ ts) both.0 ∙ ap (λ x. u ∷ x) more.0, more.1)

-- the answers to lines, and those to the lines behind
pub record Cut (m : Manner) (s : Live) (lines texts : List (List ℕ)) : Type 0 where
  pub front : List (List ℕ)
  pub back : List (List ℕ)
  pub between : Live
  pub are : AreAnswered m s lines front between
  pub texts_are : texts ≡ front ++ back

cut_behind : (m : Manner) (s next : Live) (line : List ℕ) (lines ts : List (List ℕ)) (t : List ℕ) → IsAnswered m (meaning m.site line) (reasons m.site line) s t next → Cut m next lines ts → Cut m s (line ∷ lines) (t ∷ ts)
cut_behind m s next line lines ts t answered c = record {
  front = t ∷ c.front;
  back = c.back;
  between = c.between;
  are = (next, answered, c.are);
  texts_are = ap (λ x. t ∷ x) c.texts_are;
}

cut : (m : Manner) (s after : Live) (lines later texts : List (List ℕ)) → AreAnswered m s (lines ++ later) texts after → Cut m s lines texts
cut m s after [] later texts a = record { front = []; back = texts; between = s; are = refl; texts_are = refl }
cut m s after (line ∷ lines) later [] a = absurd a
cut m s after (line ∷ lines) later (t ∷ ts) (next, answered, rest) = cut_behind m s next line lines ts t answered (cut m next after lines later ts rest)

together_both : (front back : List (List ℕ)) → together (front ++ back) ≡ together front ++ together back
together_both [] back = refl
together_both (t ∷ ts) back = ap (λ rest. t ++ rest) (together_both ts back) ∙ sym (append_assoc t (together ts) (together back))

module _ (rules : RuleSet) (once : SayOneThing rules) where
  pub one_live_output : OneLiveOutput rules
  one_live_output site named input one other a b =
      let texts = (all_once (manner site rules named) first_state a.state b.state (lines_of input) a.texts b.texts once (at_opening limits) a.are b.are).0 in
      a.answers_are ∙ ap together texts ∙ sym b.answers_are

  pub fronts_begin : FrontsBeginIt rules
  fronts_begin site named input front whole a b =
      let m : Manner = manner site rules named in
      let c = cut m first_state b.state a.lines a.later b.texts (subst (λ lines. AreAnswered m first_state lines b.texts b.state) a.cut b.are) in
      let texts = (all_once m first_state c.between a.state a.lines c.front a.texts once (at_opening limits) c.are a.are).0 in
      let all : together b.texts ≡ together a.texts ++ together c.back = ap together c.texts_are ∙ together_both c.front c.back ∙ ap (λ x. together x ++ together c.back) texts in
      (a.rest ++ together c.back, b.answers_are ∙ all ∙ ap (λ x. x ++ together c.back) a.begin ∙ append_assoc front a.rest (together c.back))
