-- Which options, flags and further words each command takes.
use Rattle.std.specs.Prelude.{ℕ, ◌||◌, Bool, true, false, List, codes, bytes_eq, Option, Some, None, if◌then◌else◌}
use Rattle.command.specs.declared.count.Count.TheVariants.{Workers, Cycles, Binders}
use Rattle.command.specs.declared.verb.Wanted.{Wanted}
use Rattle.command.specs.declared.verb.Wanted.TheVariants.{Number, Name}
use Rattle.command.specs.declared.verb.Verb.{Verb}
use Rattle.command.specs.declared.verb.Verb.TheVariants.{Run, Storm, Translate, Live}

-- the command with options of this name
abbrev pub verb_of : (name : List ℕ) → Option Verb
verb_of name =
    if bytes_eq name (codes "run") || bytes_eq name (codes "explain") then Some Run
    else if bytes_eq name (codes "storm") then Some Storm
    else if bytes_eq name (codes "translate") then Some Translate
    else if bytes_eq name (codes "live") then Some Live
    else None

-- an option that asks for a name, or names
abbrev pub asks_name : (option : List ℕ) → Bool
asks_name option = bytes_eq option (codes "--scheduler") || bytes_eq option (codes "--labels")

-- what a command's option wants behind it
abbrev pub value_of : Verb → (option : List ℕ) → Option Wanted
value_of Run option = if bytes_eq option (codes "--workers") then Some (Number Workers) else None
value_of Storm option =
    if bytes_eq option (codes "--cycles") then Some (Number Cycles)
    else if bytes_eq option (codes "--binders") then Some (Number Binders)
    else None
value_of Translate option = if asks_name option then Some Name else None
value_of Live option =
    if bytes_eq option (codes "--workers") then Some (Number Workers)
    else if asks_name option then Some Name
    else None

-- a word is a flag of a command, which has no value
abbrev pub is_flag : Verb → (word : List ℕ) → Bool
is_flag Run word = false
is_flag Storm word = bytes_eq word (codes "--flaky")
is_flag Translate word = bytes_eq word (codes "--by-uid") || bytes_eq word (codes "--answers")
is_flag Live word = false

-- words that are no options are plugins. There are none else
abbrev pub takes_plugins : Verb → Bool
takes_plugins Run = true
takes_plugins Storm = true
takes_plugins Translate = false
takes_plugins Live = true
