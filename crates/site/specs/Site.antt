-- What a run of a site's script comes to, where this says which modules the plugins have.
use Rattle.std.specs.Prelude.{◌≡◌, ℕ, Bool, List, [], Option, Some, None, IfSome}
use Rattle.plugin.specs.Plugins.{Configured}
use Rattle.plugin.specs.Kit.{Ready, IsKitOf, rules_of}
use Rattle.manifest.specs.declared.fault.LineFault.{LineFault}
use Rattle.output_lines.specs.Telling.{Telling, telling}
use Rattle.streams.specs.Script.{first_fault}
use Rattle.engine.specs.Output.{IsOutput, BeginsOutput, WritesOutput, WritesFront}
use Rattle.streams.specs.declared.fault.RunFault.TheVariants as run_fault
use Rattle.command.specs.Words.{SpecSyntax}
use Rattle.fault_line.specs.declared.fault.Fault.{Fault}
use Rattle.fault_line.specs.declared.fault.Fault.TheVariants.{Run}
use Rattle.site_modules.specs.Modules.{ArePlugins, named_of}

-- what a run by them tells, which explains its cycles or not
abbrev pub told_by : (explains : Bool) → List SpecSyntax → Telling
told_by explains specs = telling (named_of specs) explains

-- a kit is one of the plugins that the words configure with these modules
pub record IsSiteKit (specs : List SpecSyntax) (modules : List (List ℕ)) (kit : List Ready) : Type 0 where
  pub plugins : List Configured
  pub are : ArePlugins specs modules plugins
  pub is : IsKitOf plugins kit

-- the output of a script, for a kit of these plugins
abbrev pub IsSiteOutput : (explains : Bool) → List SpecSyntax → (modules : List (List ℕ)) → (script text : List ℕ) → Type 0
IsSiteOutput explains specs modules script text = (kit : List Ready) × IsSiteKit specs modules kit × IsOutput (rules_of kit) (told_by explains specs) script text

-- a beginning of it
abbrev pub BeginsSiteOutput : (explains : Bool) → List SpecSyntax → (modules : List (List ℕ)) → (script front : List ℕ) → Type 0
BeginsSiteOutput explains specs modules script front = (kit : List Ready) × IsSiteKit specs modules kit × BeginsOutput (rules_of kit) (told_by explains specs) script front

-- the output of a script, for a kit of these plugins, is written
abbrev pub WritesSiteOutput : (explains : Bool) → List SpecSyntax → (modules : List (List ℕ)) → (script : List ℕ) → (old new : Option (List ℕ)) → Type 0
WritesSiteOutput explains specs modules script old new = (kit : List Ready) × IsSiteKit specs modules kit × WritesOutput (rules_of kit) (told_by explains specs) script old new

-- a beginning of it is written
abbrev pub WritesSiteFront : (explains : Bool) → List SpecSyntax → (modules : List (List ℕ)) → (script : List ℕ) → (old new : Option (List ℕ)) → Type 0
WritesSiteFront explains specs modules script old new = (kit : List Ready) × IsSiteKit specs modules kit × WritesFront (rules_of kit) (told_by explains specs) script old new

-- ---- a run, where this says which modules the plugins have

-- No line of the script is faulty, its output is written whole, and everything is read.
abbrev pub SiteDone : (explains : Bool) → (AreGiven : List (List ℕ) → Type 0) → List SpecSyntax → (script left old new : Option (List ℕ)) → Type 0
SiteDone explains AreGiven specs script left old new = (modules : List (List ℕ)) × AreGiven modules
    × IfSome script (λ text. (first_fault text ≡ None) × WritesSiteOutput explains specs modules text old new × (left ≡ Some []))

-- a line of the script is the first faulty one, and the output of those before it is written whole
abbrev pub SiteFaulty : (explains : Bool) → (AreGiven : List (List ℕ) → Type 0) → List SpecSyntax → Fault → (script old new : Option (List ℕ)) → Type 0
SiteFaulty explains AreGiven specs fault script old new = (modules : List (List ℕ)) × AreGiven modules
    × (number : ℕ) × (why : LineFault) × (fault ≡ Run (run_fault.Line number why))
    × IfSome script (λ text. (first_fault text ≡ Some (number, why)) × WritesSiteOutput explains specs modules text old new)

-- a beginning of the output is written
abbrev pub SiteFront : (explains : Bool) → (AreGiven : List (List ℕ) → Type 0) → List SpecSyntax → (script old new : Option (List ℕ)) → Type 0
SiteFront explains AreGiven specs script old new = (modules : List (List ℕ)) × AreGiven modules
    × IfSome script (λ text. WritesSiteFront explains specs modules text old new)
