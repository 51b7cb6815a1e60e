-- What a translation writes is a script.
use Rattle.std.proofs.Common.{◌≡◌, ◌∙◌, ℕ, ◌+◌, suc, Bool, true, false, not, eqb, List, [], ◌∷◌, ◌++◌, length, map, codes, Option, Some, None, Ok, refl, sym, ap, append_assoc}
use Rattle.std.specs.Prelude.{◌&&◌}
use Rattle.std.proofs.lemmas.Bool.{ne_eqb}
use Rattle.std.proofs.lemmas.List.Elements.{All-cons, All-nil}
use Rattle.quant.specs.declared.event.Event.{Event}
use Rattle.manifest.specs.declared.command.Command.{Command}
use Rattle.manifest.specs.declared.command.Command.TheVariants as commands
use Rattle.objects.specs.declared.translation.Translation.{Translation}
use Rattle.objects.specs.Translation.{Spells, is_one_line}
use Rattle.streams.specs.Lines.{IsLine, is_newline, lines_of}
use Rattle.streams.specs.Script.{asked_by, asked_in, asked_then, fault_from, fault_or}
use Rattle.streams.specs.Script.{first_fault, taken}
use Rattle.streams.proofs.Taking.{lines_of-newline, lines_of-nil}
use Rattle.translator.specs.Translate.{Manner, AreTranslated, answer_text, answers_text, next_version}
use Rattle.translator.specs.Laws.{TranslationIsScript, event_then, events_from, events_then}
use Rattle.translator.proofs.Given.{no_meaning}

-- a line of which no byte ends a line is one
pub split_and : (a b : Bool) → (a && b) ≡ true → (a ≡ true) × (b ≡ true)
split_and true b e = (refl, e)
split_and false b e = cc

pub opposite : (b : Bool) → not b ≡ true → b ≡ false
opposite true e = cc
opposite false e = refl

pub one_line : (text : List ℕ) → is_one_line text ≡ true → IsLine text
one_line [] e = All-nil (λ b. is_newline b ≡ false)
one_line (b ∷ text) e =
    let parts = split_and (not (is_newline b)) (is_one_line text) e in
    All-cons (λ c. is_newline c ≡ false) b text (opposite (is_newline b) parts.0) (one_line text parts.1)

-- the line of an event, or the empty one, is one line
pub spelled_line : (event : Option Event) (line : List ℕ) → Spells event line → IsLine line
spelled_line None [] spells = All-nil (λ b. is_newline b ≡ false)
spelled_line None (x ∷ more) spells = cc
spelled_line (Some event) line spells = one_line line spells.1

-- and asks for that event, or for nothing
abbrev asked_of_event : Option Event → Option Command
asked_of_event None = None
asked_of_event (Some event) = Some (commands.Event event)

asked_spelled : (event : Option Event) (line : List ℕ) → Spells event line → asked_by taken line ≡ Ok (asked_of_event event)
unfolding asked_by
asked_spelled None line spells = ap (asked_by taken) spells
asked_spelled (Some event) [] spells = absurd (no_meaning _ spells.0)
asked_spelled (Some event) (x ∷ more) spells =
    let full : eqb (length (x ∷ more)) 0 ≡ false = ne_eqb (length (x ∷ more)) 0 (λ none. cc) in
    rw (full, spells.0) refl

asked_with : (event : Option Event) (asked : List Command) (later : List Event) → asked ≡ map commands.Event later
    → asked_then (Ok (asked_of_event event)) asked ≡ map commands.Event (event_then event later)
asked_with None asked later is = is
asked_with (Some event) asked later is = ap (λ l. commands.Event event ∷ l) is

-- an answer is its line, with a newline
lines_step : (translation : Translation) (rest : List ℕ) → IsLine translation.line.items
    → lines_of (answer_text false translation ++ rest) ≡ translation.line.items ∷ lines_of rest
unfolding answer_text
lines_step translation rest line =
    ap lines_of (append_assoc translation.line.items (codes "\n") rest) ∙ lines_of-newline translation.line.items rest line

-- the answers to lines that follow others
script_from : (manner : Manner) (version number : ℕ) (lines : List (List ℕ)) (translations : List Translation) (next : ℕ) → AreTranslated manner version lines translations next
    → (length (lines_of (answers_text false translations)) ≡ length lines) × (fault_from taken number (lines_of (answers_text false translations)) ≡ None)
    × (asked_in taken (lines_of (answers_text false translations)) ≡ map commands.Event (events_from manner version lines))
script_from manner version number [] [] next are = (ap length lines_of-nil, ap (fault_from taken number) lines_of-nil, ap (asked_in taken) lines_of-nil)
script_from manner version number [] (t ∷ ts) next are = absurd are
script_from manner version number (l ∷ lines) [] next are = absurd are
script_from manner version number (l ∷ lines) (t ∷ ts) next (told, gives, is, later) =
    let rest = answers_text false ts in
    let on = script_from manner (next_version version told.event) (number + 1) lines ts next later in
    let cut : lines_of (answer_text false t ++ rest) ≡ t.line.items ∷ lines_of rest = lines_step t rest (spelled_line told.event t.line.items is.line) in
    let says : asked_by taken t.line.items ≡ Ok (asked_of_event told.event) = asked_spelled told.event t.line.items is.line in
    let events : events_from manner version (l ∷ lines) ≡ event_then told.event (events_from manner (next_version version told.event) lines) =
    ap (λ g. events_then version g (λ n. events_from manner n lines)) gives in (
      ap length cut ∙ ap suc on.0,
      ap (fault_from taken number) cut ∙ (ap (λ r. fault_or number r (fault_from taken (number + 1) (lines_of rest))) says ∙ on.1),
      ap (asked_in taken) cut ∙ (ap (λ r. asked_then r (asked_in taken (lines_of rest))) says
          ∙ (asked_with told.event (asked_in taken (lines_of rest)) (events_from manner (next_version version told.event) lines) on.2 ∙ sym (ap (map commands.Event) events))),
    )

-- all of them are a script
pub is_script : TranslationIsScript
unfolding first_fault
is_script manner lines translations next are =
    let all = script_from manner 1 1 lines translations next are in record { count = all.0; faultless = all.1; asks = all.2 }
