-- What a step is answered, where it was done.
use Rattle.std.proofs.Common.{◌≡◌, ℕ, List, [], ◌++◌, Option, Some, Result, Ok, Err, OnOk, refl, sym, subst}
use Rattle.std.specs.Prelude.{false}
use Rattle.rules.specs.RuleSet.{RuleSet}
use Rattle.manifest.specs.declared.command.Command.{Command}
use Rattle.manifest.specs.declared.command.Command.TheVariants as commands
use Rattle.manifest.specs.declared.command.Question.{Question}
use Rattle.streams.specs.declared.text_builder.TextBuilder.{TextBuilder}
use Rattle.streams.specs.TextBuilder.{Adds, Holds}
use Rattle.streams.proofs.Built.{adds_all}
use Rattle.output_lines.specs.Telling.{Judges, Telling}
use Rattle.desk.specs.declared.step.Step.{Step}
use Rattle.desk.specs.Machine as machine
use Rattle.output_lines.specs.Replies.{reply_lines}
use Rattle.output_lines.proofs.Indented.{more_lines, no_lines}
use Rattle.output_lines.proofs.OutputLines.{replied_lines}
use Rattle.session.specs.Answers.{State, Answered, AnsweredBy, after, asked_of, look_lines, step_of, text_of}
use Rattle.output_lines.specs.Indented.{AreLines}

-- what is shown in front, and the answer
pub text_lines : (s : State) (step : Step) → AreLines false (look_lines s step) → AreLines false (text_of s step)
unfolding text_of
text_lines s step look = more_lines false (look_lines s step) (reply_lines (machine.reply s 0 step)) look (replied_lines (machine.reply s 0 step))

-- nothing is shown in front
pub plain_lines : (s : State) (step : Step) → look_lines s step ≡ [] → AreLines false (text_of s step)
plain_lines s step plain = text_lines s step (subst (AreLines false) (sym plain) (no_lines false))

-- ---- a command that was answered, where memory wasn't wanting

module _ {T E : Type 0} (rules : RuleSet) (telling : Telling) (s s' : State) (command : Command) (before now : TextBuilder) where
  -- by a step
  pub by_step : (r : Result T E) (step : Step) → step_of command ≡ Some step → OnOk r (s' ≡ after s step) → OnOk r (Adds before now (text_of s step)) → OnOk r (AreLines false (text_of s step))
      → OnOk r ((told : List ℕ) × Answered rules telling s command s' told × Adds before now told)
  by_step (Ok x) step is state adds lines =
      (text_of s step, subst (λ (o : Option Step). AnsweredBy rules telling s o (asked_of command) s' (text_of s step)) (sym is) (state, refl, lines), adds)
  by_step (Err e) step is state adds lines = tt

  -- as this one
  pub as_it : (r : Result T E) (which : Command) → command ≡ which → OnOk r ((told : List ℕ) × Answered rules telling s which s' told × Adds before now told)
      → OnOk r ((told : List ℕ) × Answered rules telling s command s' told × Adds before now told)
  as_it r which is told = subst (λ (c : Command). OnOk r ((told : List ℕ) × Answered rules telling s c s' told × Adds before now told)) (sym is) told

  -- by what the rules say
  pub by_rules : (r : Result T E) (question : Question) → command ≡ commands.Judge question → s' ≡ s → OnOk r ((told : List ℕ) × Judges rules telling.named s question told × Adds before now told)
      → OnOk r ((told : List ℕ) × Answered rules telling s command s' told × Adds before now told)
  by_rules (Ok x) question is stays told = as_it (Ok x) (commands.Judge question) is (told.0, (stays, told.1), told.2)
  by_rules (Err e) question is stays told = tt

-- what was added to an empty text, and then handed out whole
pub handed : {T E : Type 0} (Told : List ℕ → Type 0) (r : Result T E) (empty text : TextBuilder) (before now : List ℕ) → Holds empty [] → (told : List ℕ) × Told told × Adds empty text told
    → OnOk r ((whole : List ℕ) × Holds text whole × (now ≡ before ++ whole)) → OnOk r ((told : List ℕ) × Told told × (now ≡ before ++ told))
handed Told (Ok x) empty text before now none told whole =
    (told.0, told.1, subst (λ t. now ≡ before ++ t) (adds_all empty text told.0 whole.0 none told.2 whole.1) whole.2)
handed Told (Err e) empty text before now none told whole = tt
