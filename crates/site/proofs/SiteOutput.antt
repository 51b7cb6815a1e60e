-- What is written for a site is written by one of its kits.
use Rattle.std.proofs.Common.{◌≡◌, ℕ, Bool, ◌≤◌, List, [], ◌∷◌, Option, Some, None, IfSome, refl, ◌∙◌, arith}
use Rattle.std.proofs.lemmas.List.Elements.{All-head}
use Rattle.manifest.specs.declared.fault.LineFault.{LineFault}
use Rattle.plugin.specs.Kit.{Ready, IsKitOf, rules_of}
use Rattle.choose.specs.Kits as choosing
use Rattle.output_lines.specs.declared.named_rule.NamedRule.{NamedRule}
use Rattle.output_lines.specs.Telling.{telling}
use Rattle.streams.specs.Script.{first_fault}
use Rattle.engine.specs.Output.{WritesOutput, WritesFront}
use Rattle.command.specs.Words.{SpecSyntax}
use Rattle.site.specs.Site.{IsSiteKit, WritesSiteOutput, WritesSiteFront, told_by}
use Rattle.site_modules.specs.Modules.{AreSiteKits, named_of}
use Rattle.site.proofs.Quiet.{output_front}

-- the first of a site's kits is one, and its rules are the run's
abbrev IsFirst : List SpecSyntax → List (List ℕ) → List (List Ready) → Type 1
IsFirst specs modules kits = (kit : List Ready) × IsSiteKit specs modules kit × (choosing.rules_of rules_of kits ≡ rules_of kit)

first_kit : (specs : List SpecSyntax) (modules : List (List ℕ)) (workers : ℕ) (kits : List (List Ready)) → 1 ≤ workers → AreSiteKits specs modules workers kits → IsFirst specs modules kits
first_kit specs modules workers [] some are = absurd (omega (arith, some, are.count))
first_kit specs modules workers (kit ∷ kits) some are = (kit, record { plugins = are.plugins; are = are.are; is = All-head (IsKitOf are.plugins) kit kits are.all }, refl)

pub site_output : (explains : Bool) (specs : List SpecSyntax) (modules : List (List ℕ)) (workers : ℕ) (kits : List (List Ready)) (named : List NamedRule) → 1 ≤ workers → AreSiteKits specs modules workers kits
    → named ≡ named_of specs → (script : List ℕ) (old new : Option (List ℕ)) → WritesOutput (choosing.rules_of rules_of kits) (telling named explains) script old new
    → WritesSiteOutput explains specs modules script old new
site_output explains specs modules workers kits named some are are_named script old new writes =
    let first = first_kit specs modules workers kits some are in
    (first.0, first.1, rw (first.2, are_named) at writes)

pub site_front : (explains : Bool) (specs : List SpecSyntax) (modules : List (List ℕ)) (workers : ℕ) (kits : List (List Ready)) (named : List NamedRule) → 1 ≤ workers → AreSiteKits specs modules workers kits
    → named ≡ named_of specs → (known old new : Option (List ℕ)) → IfSome known (λ script. WritesFront (choosing.rules_of rules_of kits) (telling named explains) script old new)
    → IfSome known (λ script. WritesSiteFront explains specs modules script old new)
site_front explains specs modules workers kits named some are are_named None old new writes = tt
site_front explains specs modules workers kits named some are are_named (Some script) old new writes =
    let first = first_kit specs modules workers kits some are in
    (first.0, first.1, rw (first.2, are_named) at writes)

-- no line is faulty
pub site_done : (explains : Bool) (specs : List SpecSyntax) (modules : List (List ℕ)) (workers : ℕ) (kits : List (List Ready)) (named : List NamedRule) → 1 ≤ workers → AreSiteKits specs modules workers kits
    → named ≡ named_of specs → (known left old new : Option (List ℕ))
    → IfSome known (λ script. (first_fault script ≡ None) × WritesOutput (choosing.rules_of rules_of kits) (telling named explains) script old new × (left ≡ Some []))
    → IfSome known (λ script. (first_fault script ≡ None) × WritesSiteOutput explains specs modules script old new × (left ≡ Some []))
site_done explains specs modules workers kits named some are are_named None left old new done = tt
site_done explains specs modules workers kits named some are are_named (Some script) left old new (fine, writes, read) =
    (fine, site_output explains specs modules workers kits named some are are_named script old new writes, read)

-- the whole output is a beginning of it
pub done_front : (explains : Bool) (specs : List SpecSyntax) (modules : List (List ℕ)) (known left old new : Option (List ℕ))
    → IfSome known (λ script. (first_fault script ≡ None) × WritesSiteOutput explains specs modules script old new × (left ≡ Some []))
    → IfSome known (λ script. WritesSiteFront explains specs modules script old new)
done_front explains specs modules None left old new done = tt
done_front explains specs modules (Some script) left old new (fine, (kit, is, writes), read) =
    (kit, is, output_front (rules_of kit) (told_by explains specs) script old new writes)

-- a line is faulty
pub site_line : (explains : Bool) (specs : List SpecSyntax) (modules : List (List ℕ)) (workers : ℕ) (kits : List (List Ready)) (named : List NamedRule) → 1 ≤ workers → AreSiteKits specs modules workers kits
    → named ≡ named_of specs → (known old new : Option (List ℕ)) (number : ℕ) (fault : LineFault)
    → IfSome known (λ script. (first_fault script ≡ Some (number, fault)) × WritesOutput (choosing.rules_of rules_of kits) (telling named explains) script old new)
    → IfSome known (λ script. (first_fault script ≡ Some (number, fault)) × WritesSiteOutput explains specs modules script old new)
site_line explains specs modules workers kits named some are are_named None old new number fault line = tt
site_line explains specs modules workers kits named some are are_named (Some script) old new number fault (first, writes) =
    (first, site_output explains specs modules workers kits named some are are_named script old new writes)

-- ---- what words ask for
