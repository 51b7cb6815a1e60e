-- What holds of every script.
use Rattle.std.specs.Prelude.{◌≡◌, ℕ, ◌⊎◌, true, false, List, [], ◌∷◌, ◌++◌, Option, Some, None}
use Rattle.std.specs.List.{All, flat_map}
use Rattle.output_lines.specs.declared.named_rule.NamedRule.{NamedRule}
use Rattle.output_lines.specs.Telling.{Telling, telling}
use Rattle.output_lines.specs.Indented.{AreLines, without_indented}
use Rattle.rules.specs.RuleSet.{RuleSet}
use Rattle.choose.specs.Kits.{JudgeAlike, RuleAlike}
use Rattle.quant.specs.declared.name.Name.{Name}
use Rattle.manifest.specs.declared.command.Command.{Command}
use Rattle.manifest.specs.declared.command.Question.{Question}
use Rattle.session.specs.Answers.{asked_of}
use Rattle.streams.specs.Lines.{lines_of}
use Rattle.streams.specs.Script.{asked_in}
use Rattle.output_lines.specs.Text.{judged_line}
use Rattle.streams.specs.Script.{taken}
use Rattle.engine.specs.Output.{IsOutput, BeginsOutput}

-- There is one output of a script: it depends on the script, the rules, their names and weights as
-- they are told, and whether verdicts are told alone.
abbrev pub OneOutput : RuleSet → Type 0
OneOutput rules = (telling : Telling) (script one other : List ℕ) → IsOutput rules telling script one → IsOutput rules telling script other → one ≡ other

-- a text begins another
abbrev pub Begins : (front text : List ℕ) → Type 0
Begins front text = (rest : List ℕ) × (text ≡ front ++ rest)

-- What a run writes that is cut short begins the output of the script.
abbrev pub FrontsBeginOutput : RuleSet → Type 0
FrontsBeginOutput rules = (telling : Telling) (script front text : List ℕ) → BeginsOutput rules telling script front → IsOutput rules telling script text → Begins front text

-- Of what two such runs write one begins the other.
abbrev pub FrontsAgree : RuleSet → Type 0
FrontsAgree rules =
    (telling : Telling) (script one other : List ℕ) → BeginsOutput rules telling script one → BeginsOutput rules telling script other → Begins one other ⊎ Begins other one

-- what a script asks for, up to its first faulty line
abbrev pub asked_of_all : (script : List ℕ) → List Command
asked_of_all script = asked_in taken (lines_of script)

-- a script asks nowhere what the rules alone say
abbrev pub AsksNothing : (script : List ℕ) → Type 0
AsksNothing script = All (λ command. asked_of command ≡ None) (asked_of_all script)

-- The output of a script by one kit is its output by another that judges alike and, where it asks
-- what the rules alone say, rules alike. A decider's kits do, so that how many they are changes
-- nothing.
abbrev pub SameOutput : {Kit : Type 0} → (answers : Kit → RuleSet) → (one other : Kit) → Type 0
SameOutput answers one other =
    (telling : Telling) (script text : List ℕ) → JudgeAlike answers (one ∷ other ∷ []) → RuleAlike answers (one ∷ other ∷ []) ⊎ AsksNothing script
    → IsOutput (answers one) telling script text → IsOutput (answers other) telling script text

-- A text is another, with something of this kind put in before parts of it: of each pair the first
-- is put in, and the second is of the other.
pub record IsWith (Kind : List ℕ → Type 0) (plain text : List ℕ) : Type 0 where
  pub parts : List (List ℕ × List ℕ)
  pub text_is : text ≡ flat_map (λ part. part.0 ++ part.1) parts
  pub plain_is : plain ≡ flat_map (λ part. part.1) parts
  pub put_in : All (λ part. Kind part.0) parts

-- with lines put in that begin with two spaces
abbrev pub IsWithLines : (plain text : List ℕ) → Type 0
IsWithLines plain text = IsWith (AreLines true) plain text

-- What explains a script's cycles is its output without explanations, with lines put in that begin
-- with two spaces.
abbrev pub ExplainedOutput : RuleSet → Type 0
ExplainedOutput rules =
    (named : List NamedRule) (script text : List ℕ) → IsOutput rules (telling named true) script text →
    (plain : List ℕ) × IsOutput rules (telling named false) script plain × IsWithLines plain text

-- Without its lines that begin with two spaces it is the output without these; and where nothing is
-- asked it is the output, of which no line begins so.
pub record PlainOutput (rules : RuleSet) : Type 0 where
  pub both : (named : List NamedRule) (script text plain : List ℕ) → IsOutput rules (telling named true) script text → IsOutput rules (telling named false) script plain → without_indented text ≡ without_indented plain
  pub unasked : (named : List NamedRule) (script text : List ℕ) → AsksNothing script → IsOutput rules (telling named true) script text → IsOutput rules (telling named false) script (without_indented text)

-- the answer to a question: lines that begin with two spaces, and the line that ends them
abbrev pub IsAnswer : List ℕ → Type 0
IsAnswer text = (told : List ℕ) × (uid : Name) × (nodes : ℕ) × AreLines true told × (text ≡ told ++ judged_line uid nodes)

-- what is asked for without the questions
abbrev pub unless_asked : Option Question → Command → List Command → List Command
unless_asked None command later = command ∷ later
unless_asked (Some question) command later = later

abbrev pub without_questions : List Command → List Command
without_questions [] = []
without_questions (first ∷ later) = unless_asked (asked_of first) first (without_questions later)

-- To ask changes nothing: the output of a script is that of each that asks for the same without the
-- questions, with their answers put in.
abbrev pub AskingChangesNothing : RuleSet → Type 0
AskingChangesNothing rules =
    (telling : Telling) (script bare text : List ℕ) → asked_of_all bare ≡ without_questions (asked_of_all script) → IsOutput rules telling script text
    → (plain : List ℕ) × IsOutput rules telling bare plain × IsWith (λ part. (part ≡ []) ⊎ IsAnswer part) plain text
