-- What holds of every translation: it is a script.
use Rattle.std.specs.Prelude.{◌≡◌, ℕ, false, List, [], ◌∷◌, length, map, Option, Some, None}
use Rattle.quant.specs.declared.event.Event.{Event}
use Rattle.manifest.specs.declared.command.Command.TheVariants as commands
use Rattle.objects.specs.declared.translation.Translation.{Translation}
use Rattle.objects.specs.Told.{Told}
use Rattle.streams.specs.Lines.{lines_of}
use Rattle.streams.specs.Script.{asked_in}
use Rattle.streams.specs.Script.{first_fault, taken}
use Rattle.translator.specs.Translate.{Manner, AreTranslated, answers_text, next_version, told_under}

-- an event, where there is one, and later ones
abbrev pub event_then : Option Event → List Event → List Event
event_then None later = later
event_then (Some event) later = event ∷ later

-- the event that a line gives, and those that the lines behind it give under the next version;
-- none, where there is no going on
abbrev pub events_then : (version : ℕ) → Option Told → (later : ℕ → List Event) → List Event
events_then version None later = []
events_then version (Some told) later = event_then told.event (later (next_version version told.event))

-- the events that lines give, the first under this version, up to one that can't be counted
abbrev pub events_from : Manner → (version : ℕ) → (lines : List (List ℕ)) → List Event
events_from manner version [] = []
events_from manner version (line ∷ lines) = events_then version (told_under manner version line) (λ next. events_from manner next lines)

-- what is written of lines is a script without a faulty line, with as many lines, and what it asks
-- for is just the events that they give
pub record IsScriptOf (manner : Manner) (lines : List (List ℕ)) (text : List ℕ) : Type 0 where
  pub count : length (lines_of text) ≡ length lines
  pub faultless : first_fault text ≡ None
  pub asks : asked_in taken (lines_of text) ≡ map commands.Event (events_from manner 1 lines)

abbrev pub TranslationIsScript : Type 0
TranslationIsScript =
    (manner : Manner) (lines : List (List ℕ)) (translations : List Translation) (next : ℕ)
    → AreTranslated manner 1 lines translations next → IsScriptOf manner lines (answers_text false translations)

-- each line has one answer, on one line, also where it is an object that says what is left out
abbrev pub OneAnswerALine : Type 0
OneAnswerALine =
    (manner : Manner) (lines : List (List ℕ)) (translations : List Translation) (next : ℕ)
    → AreTranslated manner 1 lines translations next → length (lines_of (answers_text manner.answers translations)) ≡ length lines
