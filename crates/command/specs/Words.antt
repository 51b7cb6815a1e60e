-- What the program's words ask for: `run [--workers N] [SPEC]...`, `explain` with the same words
-- behind it, `storm [--cycles C] [--binders B] [--flaky] [SPEC]...`, where a SPEC is
-- `NAME:WEIGHT:FUEL:FILE`, `check MODULE`, `translate [--scheduler NAME] [--labels KEY,..]
-- [--by-uid] [--answers]`, `live [--scheduler NAME] [--labels KEY,..] [--workers N] [SPEC]...`, or
-- `version`.
use Rattle.std.specs.Prelude.{ℕ, ◌+◌, ◌==◌, ◌&&◌, nat_le, not, Bool, true, false, List, [], ◌∷◌, take, drop, length, map, codes, bytes_eq, Option, Some, None, option_map, option_and_then, unwrap_or, Result, Ok, Err, if◌then◌else◌}
use Rattle.std.specs.List.{list_any, position}
use Rattle.clap.specs.declared.builder.action.ArgAction.TheVariants.{Set, SetTrue, Append}
use Rattle.clap.specs.Simple.{App, on_top}
use Rattle.clap.specs.Words.{Row, Rule, Text, all_of, fault_of, first_of, new_app, new_rule, subcommand_of, with_rule, with_subcommand}
use Rattle.quant.specs.Name.{is_name}
use Rattle.quant.specs.declared.limits.TheConstants.{MAX_PLUGINS, MAX_WEIGHT, MAX_FUEL}
use Rattle.command.specs.declared.asked.LivePlan.{LivePlan}
use Rattle.command.specs.declared.asked.StormPlan.{StormPlan}
use Rattle.command.specs.declared.asked.TranslatePlan.{TranslatePlan}
use Rattle.command.specs.declared.asked.Spec.{Spec}
use Rattle.command.specs.declared.asked.Words.{Words}
use Rattle.command.specs.declared.asked.Words.TheVariants.{Run, Explain, Storm, Check, Translate, Live, Version}
use Rattle.command.specs.declared.count.Count.{Count}
use Rattle.command.specs.declared.count.Count.TheVariants.{Workers, Cycles, Binders}
use Rattle.command.specs.Count.{name_of, number_for, number_up_to}

-- a plugin, as words configure it: its name, how often its score counts, how much fuel its start
-- function and each of its calls have, and the file that its module is in
pub record SpecSyntax : Type 0 where
  pub name : List ℕ
  pub weight : ℕ
  pub fuel : ℕ
  pub file : List ℕ

-- what the program can be asked for: a run by so many workers with these plugins, or what explains
-- one, a storm of so many threads that run cycles and so many that bind pods, of which every third
-- bind fails or not, to check the module in the file of this name, or to translate objects for this
-- scheduler, with the labels of these keys first, with pods called by their uid or not, and with
-- answers that also say what is left out or not, or to decide of a cluster that is told, where this
-- scheduler's pods wait, with the labels of these keys first, by so many workers with these plugins,
-- or which program this is
pub data Asked : Type 0 where
  run : (workers : ℕ) → (specs : List SpecSyntax) → Asked
  explain : (workers : ℕ) → (specs : List SpecSyntax) → Asked
  storm : (cycles binders : ℕ) → (is_flaky : Bool) → (specs : List SpecSyntax) → Asked
  check : (file : List ℕ) → Asked
  translate : (scheduler labels : List ℕ) → (by_uid answers : Bool) → Asked
  live : (scheduler labels : List ℕ) → (workers : ℕ) → (specs : List SpecSyntax) → Asked
  version : Asked

-- the same, as the code has it
abbrev pub syntax_of : Spec → SpecSyntax
syntax_of spec = record { name = spec.name; weight = spec.weight; fuel = spec.fuel; file = spec.file.now }

abbrev pub storm_planned : StormPlan → Asked
storm_planned plan = storm plan.cycles plan.binders plan.is_flaky (map syntax_of plan.specs.items)

abbrev pub translate_planned : TranslatePlan → Asked
translate_planned plan = translate plan.scheduler.now plan.labels.now plan.by_uid plan.answers

abbrev pub live_planned : LivePlan → Asked
live_planned plan = live plan.scheduler.now plan.labels.now plan.plan.workers (map syntax_of plan.plan.specs.items)

abbrev pub asked_of : Words → Asked
asked_of (Run plan) = run plan.workers (map syntax_of plan.specs.items)
asked_of (Explain plan) = explain plan.workers (map syntax_of plan.specs.items)
asked_of (Storm plan) = storm_planned plan
asked_of (Check file) = check file.now
asked_of (Translate plan) = translate_planned plan
asked_of (Live plan) = live_planned plan
asked_of Version = version

-- ---- a plugin, as a word spells it

-- what stands before a text's first colon (58) and what behind it, where it has one
unfoldable pub cut : List ℕ → Option (List ℕ × List ℕ)
cut text = option_map (λ place. (take place text, drop (place + 1) text)) (position (λ b. b == 58) text)

-- the plugin of these parts
abbrev pub spec_from : (name weight fuel file : List ℕ) → Option SpecSyntax
spec_from name weight fuel file =
    if is_name name
    then option_and_then (λ w. option_map (λ f. record { name = name; weight = w; fuel = f; file = file })
    (number_up_to MAX_FUEL fuel)) (number_up_to MAX_WEIGHT weight)
    else None

-- the plugin that a word spells, which is cut at its first three colons
unfoldable pub spec_of : List ℕ → Option SpecSyntax
spec_of word =
    option_and_then (λ a. option_and_then (λ b. option_and_then (λ c. spec_from a.0 b.0 c.0 c.1) (cut b.1)) (cut a.1)) (cut word)

-- ---- what is found behind a command

-- what each of the words spells, where each spells something
abbrev pub each : (List ℕ → Option SpecSyntax) → List (List ℕ) → Option (List SpecSyntax)
each spelled [] = Some []
each spelled (word ∷ rest) = option_and_then (λ spec. option_map (λ specs. spec ∷ specs) (each spelled rest)) (spelled word)

-- one of the plugins has this name
abbrev pub is_named : List SpecSyntax → (name : List ℕ) → Bool
is_named specs name = list_any (λ spec. bytes_eq spec.name name) specs

-- no two plugins have one name
abbrev pub have_distinct_names : List SpecSyntax → Bool
have_distinct_names [] = true
have_distinct_names (spec ∷ rest) = not (is_named rest spec.name) && have_distinct_names rest

-- the plugins that the words spell: at most 16, of which no two have one name
abbrev pub specs_of : List (List ℕ) → Option (List SpecSyntax)
specs_of words =
    if nat_le (length words) MAX_PLUGINS
    then option_and_then (λ specs. if have_distinct_names specs then Some specs else None) (each spec_of words)
    else None

-- the plugins that are asked for by what `clap` found behind a command
abbrev pub specs_found : List Row → Option (List SpecSyntax)
specs_found rows = specs_of (unwrap_or (all_of (codes "SPEC") rows) [])

-- the number that an option asks for, or what it is without the option
abbrev pub number_found : Count → List Row → Option ℕ
number_found count rows = number_for count (first_of (name_of count) rows)

-- a flag is told: `clap` keeps this text for one that is, and another for one that isn't
abbrev pub is_told : Option Text → Bool
is_told None = false
is_told (Some text) = bytes_eq text (codes "true")

-- the number of workers and the plugins of a run
abbrev pub plan_found : List Row → Option (ℕ × List SpecSyntax)
plan_found rows = option_and_then (λ workers. option_map (λ specs. (workers, specs)) (specs_found rows)) (number_found Workers rows)

-- the storm that is asked for
abbrev pub storm_found : List Row → Option Asked
storm_found rows =
    option_and_then (λ cycles. option_and_then (λ binders. option_map (storm cycles binders (is_told (first_of (codes "flaky") rows)))
    (specs_found rows)) (number_found Binders rows)) (number_found Cycles rows)

-- the scheduler that is named, or the default one (Kubernetes, "Configure Multiple Schedulers")
abbrev pub scheduler_found : List Row → List ℕ
scheduler_found rows = unwrap_or (first_of (codes "scheduler") rows) (codes "default-scheduler")

-- the keys of the labels that a site's rules read, with commas between them, or none
abbrev pub labels_found : List Row → List ℕ
labels_found rows = unwrap_or (first_of (codes "labels") rows) []

-- the translation that is asked for
abbrev pub translate_found : List Row → Asked
translate_found rows =
    translate (scheduler_found rows) (labels_found rows) (is_told (first_of (codes "by-uid") rows)) (is_told (first_of (codes "answers") rows))

-- the cluster of which is to be decided
abbrev pub live_found : List Row → Option Asked
live_found rows = option_map (λ plan. live (scheduler_found rows) (labels_found rows) plan.0 plan.1) (plan_found rows)

-- what is asked for by the command that `clap` found, and what it found behind it
abbrev pub found : Option (Text × List Row) → Option Asked
found None = None
found (Some command) =
    if bytes_eq command.0 (codes "run") then option_map (λ plan. run plan.0 plan.1) (plan_found command.1)
    else if bytes_eq command.0 (codes "explain") then option_map (λ plan. explain plan.0 plan.1) (plan_found command.1)
    else if bytes_eq command.0 (codes "storm") then storm_found command.1
    else if bytes_eq command.0 (codes "translate") then Some (translate_found command.1)
    else if bytes_eq command.0 (codes "live") then live_found command.1
    else if bytes_eq command.0 (codes "version") then Some version
    else option_map check (first_of (codes "MODULE") command.1)

-- ---- the words

-- an option with one value, told once at most
abbrev pub option_rule : Text → Rule
option_rule name = record (new_rule name) { long = Some name; action = Some Set }

-- an option without a value, told once at most
abbrev pub flag_rule : Text → Rule
flag_rule name = record (new_rule name) { long = Some name; action = Some SetTrue }

-- any number of plugins
abbrev pub specs_rule : Rule
specs_rule = record (new_rule (codes "SPEC")) { action = Some Append }

-- the one argument of `check`, which is wanted
abbrev pub file_rule : Rule
file_rule = record (new_rule (codes "MODULE")) { required = true }

-- the commands
abbrev pub run_command : (name : Text) → App
run_command name = with_rule (with_rule (new_app name) (option_rule (codes "workers"))) specs_rule

abbrev pub storm_command : App
storm_command =
    with_rule (with_rule (with_rule (with_rule (new_app (codes "storm")) (option_rule (codes "cycles"))) (option_rule (codes "binders"))) (flag_rule (codes "flaky"))) specs_rule

abbrev pub check_command : App
check_command = with_rule (new_app (codes "check")) file_rule

abbrev pub translate_command : App
translate_command =
    with_rule (with_rule (with_rule (with_rule (new_app (codes "translate")) (option_rule (codes "scheduler"))) (option_rule (codes "labels")))
    (flag_rule (codes "by-uid"))) (flag_rule (codes "answers"))

abbrev pub live_command : App
live_command =
    with_rule (with_rule (with_rule (with_rule (new_app (codes "live")) (option_rule (codes "scheduler"))) (option_rule (codes "labels")))
    (option_rule (codes "workers"))) specs_rule

abbrev pub version_command : App
version_command = new_app (codes "version")

-- the program, of which a command is wanted and which answers no request for help
abbrev pub program : App
program = on_top (λ s. record s {
  no_binary_name = true;
  disable_help_flag = true;
  disable_help_subcommand = true;
  subcommand_required = true;
}) (new_app (codes "wsched"))

-- the commands that decide of a script
abbrev pub script_line : App
script_line = with_subcommand (with_subcommand (with_subcommand program (run_command (codes "run")).top) (run_command (codes "explain")).top) storm_command.top

-- the command line as `clap` sees it
abbrev pub command_line : App
command_line = with_subcommand (with_subcommand (with_subcommand (with_subcommand script_line check_command.top) translate_command.top) live_command.top) version_command.top

-- `clap` takes the words for the command line
abbrev pub are_taken : List (List ℕ) → Bool
are_taken words = length (fault_of command_line words) == 0

-- what the words behind the program's name ask for: what `clap` found, where it takes them
unfoldable pub meaning : List (List ℕ) → Option Asked
meaning words = if are_taken words then found (subcommand_of command_line words) else None

-- what words ask for that could perhaps not be read, where this gives their texts
abbrev pub asked_by : {V E : Type 0} → (V → List (List ℕ)) → Result V E → Option Asked
asked_by texts (Ok words) = meaning (texts words)
asked_by texts (Err fault) = None
