-- What runs that are cut short write of a script's output.
use Rattle.std.proofs.Common.{◌≡◌, ℕ, ◌⊎◌, inl, inr, List, [], ◌∷◌, ◌++◌, refl, sym, ap, subst, ◌∙◌}
use Rattle.std.proofs.lemmas.List.{append_assoc}
use Rattle.output_lines.specs.Telling.{Telling}
use Rattle.rules.specs.RuleSet.{RuleSet, SayOneThing}
use Rattle.manifest.specs.declared.command.Command.{Command}
use Rattle.session.specs.Answers.{State, opening, AllAnswered}
use Rattle.streams.specs.Greatest.{limits}
use Rattle.engine.specs.Laws.{Begins, FrontsBeginOutput, FrontsAgree}
use Rattle.cycle.proofs.OneCycle.{Agree}
use Rattle.engine.proofs.OneOutput.{all_one}
use Rattle.cycle.proofs.OwnNames.{at_opening}

-- a list goes on from another
abbrev pub GoesOn : {A : Type 0} → (front list : List A) → Type 0
GoesOn {A} front list = (rest : List A) × (list ≡ front ++ rest)

-- one more before both
one_more : {A : Type 0} (x y : A) (a b : List A) → x ≡ y → GoesOn a b → GoesOn (x ∷ a) (y ∷ b)
one_more x y a b same (rest, is) = (rest, λ i. sym same i ∷ is i)

-- of two beginnings of one list the longer goes on from the shorter
one_goes_on : {A : Type 0} (a b r s : List A) → a ++ r ≡ b ++ s → GoesOn a b ⊎ GoesOn b a
one_goes_on [] b r s e = inl (b, refl)
one_goes_on (x ∷ a) [] r s e = inr (x ∷ a, refl)
one_goes_on (x ∷ a) (y ∷ b) r s e =
    let head : x ≡ y = cc in
    let tail : a ++ r ≡ b ++ s = cc in
    elim (one_goes_on a b r s tail) [
      | inl on ↦ inl (one_more x y a b head on)
      | inr on ↦ inr (one_more y x b a (sym head) on)
    ]

module _ (rules : RuleSet) (telling : Telling) where
  -- what is asked first is answered, and then what is asked later
  parts : (s : State) (l later : List Command) (end : State) (text : List ℕ) → AllAnswered rules telling s (l ++ later) end text
      → (between : State) × (front rest : List ℕ) × AllAnswered rules telling s l between front × (text ≡ front ++ rest)
  parts s [] later end text all = (s, [], text, (refl, refl), refl)
  parts s (a ∷ l) later end text (between, answer, rest, now, then, is) =
      let on = parts between l later end rest then in
      (on.0, answer ++ on.1, on.2, (between, answer, on.1, now, on.3, refl), is ∙ (ap (λ t. answer ++ t) on.4 ∙ sym (append_assoc answer on.1 on.2)))

  -- the answers to more begin with those to less
  more_answers : (l later : List Command) (one other : State) (text text' : List ℕ) → SayOneThing rules
      → AllAnswered rules telling opening l one text → AllAnswered rules telling opening (l ++ later) other text' → Begins text text'
  more_answers l later one other text text' once less more =
      let on = parts opening l later other text' more in
      let same : Agree one on.0 text on.1 = all_one rules telling opening l one on.0 text on.1 once (at_opening limits) less on.3 in
      (on.2, on.4 ∙ ap (λ t. t ++ on.2) (sym same.1))

  -- a beginning of what begins a text begins it
  through : (front rest text whole : List ℕ) → text ≡ front ++ rest → Begins text whole → Begins front whole
  through front rest text whole is (more, on) = (rest ++ more, on ∙ (ap (λ t. t ++ more) is ∙ append_assoc front rest more))

-- what a run writes that is cut short begins the output
pub fronts_begin_output : (rules : RuleSet) → SayOneThing rules → FrontsBeginOutput rules
fronts_begin_output rules once telling script front text a whole =
    through rules telling front a.rest a.text text a.begins
    (more_answers rules telling a.asked a.later a.end whole.end a.text text once a.answered (subst (λ l. AllAnswered rules telling opening l whole.end text) a.cut whole.answered))

-- of two texts that begin one, one begins the other
both_begin : (one other whole : List ℕ) → Begins one whole → Begins other whole → Begins one other ⊎ Begins other one
both_begin one other whole (r, a) (s, b) = one_goes_on one other r s (sym a ∙ b)

-- of what two runs write that are cut short one begins the other
pub fronts_agree : (rules : RuleSet) → SayOneThing rules → FrontsAgree rules
fronts_agree rules once telling script one other a b = by (one_goes_on a.asked b.asked a.later b.later (sym a.cut ∙ b.cut))
  where
    -- the answers to what both were asked, and more, begin with what each wrote
    by : GoesOn a.asked b.asked ⊎ GoesOn b.asked a.asked → Begins one other ⊎ Begins other one
    by (inl (later, is)) =
        both_begin one other b.text
        (through rules telling one a.rest a.text b.text a.begins
        (more_answers rules telling a.asked later a.end b.end a.text b.text once a.answered (subst (λ l. AllAnswered rules telling opening l b.end b.text) is b.answered)))
        (b.rest, b.begins)
    by (inr (later, is)) =
        both_begin one other a.text (a.rest, a.begins)
        (through rules telling other b.rest b.text a.text b.begins
        (more_answers rules telling b.asked later b.end a.end b.text a.text once b.answered (subst (λ l. AllAnswered rules telling opening l a.end a.text) is a.answered)))
