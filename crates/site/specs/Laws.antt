-- What holds of every script of a site.
use Rattle.std.specs.Prelude.{◌≡◌, ◌⊎◌, ℕ, Bool, true, false, List, [], Option, Some}
use Rattle.std.specs.List.{All}
use Rattle.output_lines.specs.Indented.{without_indented}
use Rattle.engine.specs.Laws.{AsksNothing, Begins, IsAnswer, IsWith, IsWithLines, asked_of_all, without_questions}
use Rattle.command.specs.Words.{SpecSyntax}
use Rattle.site.specs.Site.{BeginsSiteOutput, IsSiteOutput}
use Rattle.site_modules.specs.Modules.{AreFromFiles}

-- By plugins of these names, weights and fuels, with these bytes of their modules, a script has one
-- output.
abbrev pub OneSiteOutput : Type 0
OneSiteOutput =
    (explains : Bool) (specs : List SpecSyntax) (modules : List (List ℕ)) (script one other : List ℕ) → IsSiteOutput explains specs modules script one → IsSiteOutput explains specs modules script other → one ≡ other

-- What a run writes that is cut short begins it.
abbrev pub SiteFrontsBeginOutput : Type 0
SiteFrontsBeginOutput =
    (explains : Bool) (specs : List SpecSyntax) (modules : List (List ℕ)) (script front text : List ℕ) → BeginsSiteOutput explains specs modules script front → IsSiteOutput explains specs modules script text → Begins front text

-- Of what two such runs write one begins the other.
abbrev pub SiteFrontsAgree : Type 0
SiteFrontsAgree =
    (explains : Bool) (specs : List SpecSyntax) (modules : List (List ℕ)) (script one other : List ℕ) → BeginsSiteOutput explains specs modules script one → BeginsSiteOutput explains specs modules script other
    → Begins one other ⊎ Begins other one

-- The same files give the same modules, where it is known what they have.
abbrev pub FilesGiveModules : Type 0
FilesGiveModules =
    (contents : List ℕ → Option (List ℕ)) (specs : List SpecSyntax) (one other : List (List ℕ)) → All (λ s. (whole : List ℕ) × (contents s.file ≡ Some whole)) specs
    → AreFromFiles contents specs one → AreFromFiles contents specs other → one ≡ other

-- What explains a site's script is its output, with lines put in that begin with two spaces.
abbrev pub SiteExplainedOutput : Type 0
SiteExplainedOutput =
    (specs : List SpecSyntax) (modules : List (List ℕ)) (script text : List ℕ) → IsSiteOutput true specs modules script text
    → (plain : List ℕ) × IsSiteOutput false specs modules script plain × IsWithLines plain text

-- Without its lines that begin with two spaces it is the output without these, and where nothing is
-- asked of the rules alone it is the output.
pub record SitePlainOutput : Type 0 where
  pub both : (specs : List SpecSyntax) (modules : List (List ℕ)) (script text plain : List ℕ) → IsSiteOutput true specs modules script text → IsSiteOutput false specs modules script plain
      → without_indented text ≡ without_indented plain
  pub unasked : (specs : List SpecSyntax) (modules : List (List ℕ)) (script text : List ℕ) → AsksNothing script → IsSiteOutput true specs modules script text
      → IsSiteOutput false specs modules script (without_indented text)

-- To ask what the rules alone say changes nothing: the output of a site's script is that of each
-- that asks for the same without the questions, with their answers put in.
abbrev pub SiteAskingChangesNothing : Type 0
SiteAskingChangesNothing =
    (explains : Bool) (specs : List SpecSyntax) (modules : List (List ℕ)) (script bare text : List ℕ) → asked_of_all bare ≡ without_questions (asked_of_all script) → IsSiteOutput explains specs modules script text
    → (plain : List ℕ) × IsSiteOutput explains specs modules bare plain × IsWith (λ part. (part ≡ []) ⊎ IsAnswer part) plain text
