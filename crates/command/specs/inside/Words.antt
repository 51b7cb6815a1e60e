-- What a plan is in the words that were read, and what is asked for by a command's name and what was
-- found behind it.
use Rattle.std.specs.Prelude.{◌≡◌, ⊤, ℕ, List, map, codes, bytes_eq, Option, Some, None, option_map, Result, Ok, Err, if◌then◌else◌}
use Rattle.clap.specs.Words.{Row, Text, first_of}
use Rattle.command.specs.declared.asked.Plan.{Plan}
use Rattle.command.specs.declared.asked.Words.{Words}
use Rattle.command.specs.declared.command_line.CommandName.{CommandName}
use Rattle.command.specs.declared.command_line.CommandName.TheVariants.{Run, Explain, Storm, Translate, Live, Version, Check}
use Rattle.command.specs.declared.fault.WordFault.{WordFault}
use Rattle.command.specs.declared.fault.WordFault.TheVariants.{BadWords, NoMemory}
use Rattle.command.specs.Within.{IsWithin}
use Rattle.command.specs.Words.{Asked, SpecSyntax, asked_of, check, explain, live_found, plan_found, run, storm_found, syntax_of, translate_found, version}

abbrev pub planned : Plan → ℕ × List SpecSyntax
planned plan = (plan.workers, map syntax_of plan.specs.items)

-- which command a name names
abbrev pub named : Text → CommandName
named name =
    if bytes_eq name (codes "run") then Run
    else if bytes_eq name (codes "explain") then Explain
    else if bytes_eq name (codes "storm") then Storm
    else if bytes_eq name (codes "translate") then Translate
    else if bytes_eq name (codes "live") then Live
    else if bytes_eq name (codes "version") then Version
    else Check

-- what is asked for by a command, and what `clap` found behind it
abbrev pub found_behind : CommandName → List Row → Option Asked
found_behind Run rows = option_map (λ plan. run plan.0 plan.1) (plan_found rows)
found_behind Explain rows = option_map (λ plan. explain plan.0 plan.1) (plan_found rows)
found_behind Storm rows = storm_found rows
found_behind Translate rows = Some (translate_found rows)
found_behind Live rows = live_found rows
found_behind Version rows = Some version
found_behind Check rows = option_map check (first_of (codes "MODULE") rows)

-- what was read is what is meant, within its limits, or nothing is meant; want of memory says nothing
unfoldable pub Means : (meant : Option Asked) → Result Words WordFault → Type 0
Means meant (Ok words) = (meant ≡ Some (asked_of words)) × IsWithin words
Means meant (Err BadWords) = meant ≡ None
Means meant (Err NoMemory) = ⊤
