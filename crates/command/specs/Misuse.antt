-- What is wrong with words that ask for nothing, told to whoever wrote them: the first word that
-- can't stand where it does.
use Rattle.std.specs.Prelude.{ℕ, ◌+◌, ◌-◌, ◌==◌, ◌&&◌, ◌||◌, not, Bool, true, false, List, [], ◌∷◌, take, drop, codes, bytes_eq, Option, Some, None, is_some, option_map, option_and_then, unwrap_or, length, nat_eq, if◌then◌else◌}
use Rattle.std.specs.Option.{option_map_or}
use Rattle.std.specs.List.{position, starts_with}
use Rattle.quant.specs.Name.{is_name}
use Rattle.quant.specs.declared.limits.TheConstants.{MAX_WEIGHT, MAX_FUEL}
use Rattle.command.specs.declared.misuse.Misuse.{Misuse}
use Rattle.command.specs.declared.misuse.Misuse.TheVariants.{Command, Number, Plugin, Scheduler, Unknown, Together}
use Rattle.command.specs.declared.misuse.Part.{Part}
use Rattle.command.specs.declared.misuse.Part.TheVariants.{Spec, Name, Weight, Fuel}
use Rattle.command.specs.declared.misuse.ReadAs.{ReadAs}
use Rattle.command.specs.declared.misuse.ReadAs.TheVariants.{Anything, Value, NoOption}
use Rattle.command.specs.declared.count.Count.{Count}
use Rattle.command.specs.Count.{number_for, number_up_to}
use Rattle.command.specs.declared.verb.Wanted.{Wanted}
use Rattle.command.specs.declared.verb.Wanted.TheVariants as wanted
use Rattle.command.specs.declared.verb.Verb.{Verb}
use Rattle.command.specs.Verb.{is_flag, takes_plugins, value_of, verb_of}
use Rattle.command.specs.Words.{cut}

-- the first of a plugin's parts that is wrong
abbrev pub part_of : (name weight fuel : List ℕ) → Option Part
part_of name weight fuel =
    if not (is_name name) then Some Name
    else if not (is_some (number_up_to MAX_WEIGHT weight)) then Some Weight
    else if not (is_some (number_up_to MAX_FUEL fuel)) then Some Fuel
    else None

-- what is wrong with a word as a plugin: it lacks one of its three colons, or a part is wrong
unfoldable pub wrong_part : List ℕ → Option Part
wrong_part word =
    unwrap_or (option_and_then (λ a. option_and_then (λ b. option_map (λ c. part_of a.0 b.0 c.0) (cut b.1)) (cut a.1)) (cut word)) (Some Spec)

-- what stands before a text's first `=` (61) and what behind it, where it has one
unfoldable pub at_equals : List ℕ → Option (List ℕ × List ℕ)
at_equals text = option_map (λ place. (take place text, drop (place + 1) text)) (position (λ b. b == 61) text)

-- a word is a command's option, whose value is the next word or which has none, or it ends the options
abbrev pub is_option : Verb → (word : List ℕ) → Bool
is_option verb word = is_some (value_of verb word) || is_flag verb word || bytes_eq word (codes "--")

-- an option's number, in the word of this number
abbrev pub wrong_count : (number : ℕ) → Count → (value : List ℕ) → Option Misuse
wrong_count number count value = if is_some (number_for count (Some value)) then None else Some (Number count number)

-- a word begins with a hyphen (45)
abbrev pub is_hyphened : (word : List ℕ) → Bool
is_hyphened word = starts_with nat_eq word (45 ∷ [])

-- a word that is to be an option's value: a name has no hyphen in front, or is one
abbrev pub wrong_value : (number : ℕ) → Wanted → (word : List ℕ) → Option Misuse
wrong_value number (wanted.Number count) word = wrong_count number count word
wrong_value number wanted.Name word = if not (is_hyphened word) || length word == 1 then None else Some (Scheduler number)

-- what stands behind an option and a `=`, where any text is a name
abbrev pub wrong_text : (number : ℕ) → Wanted → (text : List ℕ) → Option Misuse
wrong_text number (wanted.Number count) text = wrong_count number count text
wrong_text number wanted.Name text = None

-- a word that is no option is to be a plugin, or nothing can stand there
abbrev pub wrong_behind_end : Verb → (number : ℕ) → (word : List ℕ) → Option Misuse
wrong_behind_end verb number word =
    if takes_plugins verb then option_map (λ part. Plugin part number) (wrong_part word) else Some (Unknown number)

-- a word that is no option where one could stand: one with a hyphen in front is taken for an option
-- that isn't there
abbrev pub wrong_other : Verb → (number : ℕ) → (word : List ℕ) → Option Misuse
wrong_other verb number word =
    if takes_plugins verb && is_hyphened word then Some (Plugin Spec number) else wrong_behind_end verb number word

-- a word that begins with an option's name and a `=`, or with another text
abbrev pub wrong_named : Verb → (number : ℕ) → (word : List ℕ) → Option Wanted → (text : List ℕ) → Option Misuse
wrong_named verb number word None text = wrong_other verb number word
wrong_named verb number word (Some value) text = wrong_text number value text

-- a word with or without a `=` in it
abbrev pub wrong_at : Verb → (number : ℕ) → (word : List ℕ) → Option (List ℕ × List ℕ) → Option Misuse
wrong_at verb number word None = wrong_other verb number word
wrong_at verb number word (Some sides) = wrong_named verb number word (value_of verb sides.0) sides.1

-- a word where an option could stand
abbrev pub wrong_anything : Verb → (number : ℕ) → (word : List ℕ) → Option Misuse
wrong_anything verb number word = if is_option verb word then None else wrong_at verb number word (at_equals word)

-- what is wrong with the word of this number behind a command: one that may be anything, the value
-- of an option, or one behind the end of the options
abbrev pub wrong_word : Verb → (number : ℕ) → ReadAs → (word : List ℕ) → Option Misuse
wrong_word verb number Anything word = wrong_anything verb number word
wrong_word verb number (Value value) word = wrong_value number value word
wrong_word verb number NoOption word = wrong_behind_end verb number word

-- what the next word is read as: the value of an option that stands before it, no option behind a
-- `--`, and else anything
abbrev pub read_behind : Verb → ReadAs → (word : List ℕ) → ReadAs
read_behind verb Anything word =
    if bytes_eq word (codes "--") then NoOption else option_map_or Value (value_of verb word) Anything
read_behind verb (Value value) word = Anything
read_behind verb NoOption word = NoOption

-- behind the last word, which has this number: its value is missing, or each word may stand where
-- it does, but not all together
abbrev pub at_end : (number : ℕ) → ReadAs → Misuse
at_end number Anything = Together
at_end number (Value (wanted.Number count)) = Number count number
at_end number (Value wanted.Name) = Scheduler number
at_end number NoOption = Together

-- what is wrong with words behind a command, of which the first has this number: the first that is
-- wrong, or what is at their end
abbrev pub misuse_in : Verb → (number : ℕ) → ReadAs → List (List ℕ) → Misuse
misuse_in verb number read_as [] = at_end (number - 1) read_as
misuse_in verb number read_as (word ∷ rest) =
    unwrap_or (wrong_word verb number read_as word) (misuse_in verb (number + 1) (read_behind verb read_as word) rest)

-- what is wrong with words behind a command, where it is one with options
abbrev pub misuse_by : Option Verb → (command : List ℕ) → (rest : List (List ℕ)) → Misuse
misuse_by (Some verb) command rest = misuse_in verb 2 Anything rest
misuse_by None command rest =
    if bytes_eq command (codes "check") || bytes_eq command (codes "version") then Together else Command

-- what is wrong with the words behind the program's name, of which the first has the number 1
unfoldable pub misuse_of : List (List ℕ) → Misuse
misuse_of [] = Command
misuse_of (command ∷ rest) = misuse_by (verb_of command) command rest
