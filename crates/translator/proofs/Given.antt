-- What one line gives, and which version is the next behind it.
use Rattle.std.proofs.Common.{◌≡◌, ◌∙◌, ℕ, ◌<◌, ◌≤◌, cond, ◌&&◌, not, true, false, List, [], ◌∷◌, length, Option, Some, None, Ok, Err, refl, ap, sym}
use Rattle.std.proofs.lemmas.Bool.{le-leb, lt-leb}
use Rattle.std.specs.Str.{chars, is_utf8}
use Rattle.json.specs.Json.{value}
use Rattle.json.specs.Lex.{lex, punctuate}
use Rattle.quant.specs.declared.limits.TheConstants.{MAX_VERSION}
use Rattle.quant.specs.declared.event.Event.{Event}
use Rattle.manifest.specs.Line.{meaning}
use Rattle.manifest.specs.Reading.{parsed}
use Rattle.manifest.specs.declared.command.Command.{Command}
use Rattle.manifest.specs.declared.fault.LineFault.TheVariants.{NotJson}
use Rattle.objects.specs.declared.translation.Translation.{Translation}
use Rattle.objects.specs.Told.{Told, told}
use Rattle.objects.specs.Translation.{IsTranslation, Spells}
use Rattle.translator.specs.Translate.{Manner, next_version, told_under, unless_uncounted}
use Rattle.translator.specs.inside.Translate.{TranslatesTo}

-- ---- what is given

-- under a version that there is a line gives what is told of it
pub under : (manner : Manner) (version : ℕ) (line : List ℕ) → version ≤ MAX_VERSION
    → told_under manner version line ≡ unless_uncounted manner.answers (told manner.site manner.by_uid (record { 0 = version }) line)
unfolding told_under
under manner version line within =
    ap (λ b. cond b (unless_uncounted manner.answers (told manner.site manner.by_uid (record { 0 = version }) line)) None) (le-leb version MAX_VERSION within)

-- behind the last version it gives nothing
pub no_version : (manner : Manner) (version : ℕ) (line : List ℕ) → MAX_VERSION < version → told_under manner version line ≡ None
unfolding told_under
no_version manner version line past =
    ap (λ b. cond b (unless_uncounted manner.answers (told manner.site manner.by_uid (record { 0 = version }) line)) None) (lt-leb version MAX_VERSION past)

-- what may be a pod on a node that can't be counted gives nothing, unless the answer says it;
-- anything else is what is told
pub given : (manner : Manner) (version : ℕ) (line : List ℕ) (translation : Translation) → version ≤ MAX_VERSION
    → IsTranslation (told manner.site manner.by_uid (record { 0 = version }) line) translation
    → (translation.uncounted && not manner.answers) ≡ false → TranslatesTo (told_under manner version line) translation
given manner version line translation within is counted =
    let meant = told manner.site manner.by_uid (record { 0 = version }) line in (
      meant,
      under manner version line within ∙ ap (λ b. cond (b && not manner.answers) None (Some meant)) (sym is.uncounted)
          ∙ ap (λ b. cond b None (Some meant)) counted,
      is,
    )

pub not_given : (manner : Manner) (version : ℕ) (line : List ℕ) (translation : Translation) → version ≤ MAX_VERSION
    → IsTranslation (told manner.site manner.by_uid (record { 0 = version }) line) translation
    → (translation.uncounted && not manner.answers) ≡ true → told_under manner version line ≡ None
not_given manner version line translation within is uncounted =
    let meant = told manner.site manner.by_uid (record { 0 = version }) line in
    under manner version line within ∙ ap (λ b. cond (b && not manner.answers) None (Some meant)) (sym is.uncounted)
    ∙ ap (λ b. cond b None (Some meant)) uncounted

-- ---- the next version

-- the empty line asks for nothing
pub no_meaning : (command : Command) → meaning [] ≡ Ok command → ⊥
unfolding meaning parsed value is_utf8 chars punctuate lex
no_meaning command is =
    let none : meaning [] ≡ Err NotJson = refl in
    let apart : Err NotJson ≡ Ok command = sym none ∙ is in
    cc apart

-- an empty line is that of no event
empty_version : (version : ℕ) (event : Option Event) (line : List ℕ) → Spells event line → line ≡ [] → next_version version event ≡ version
empty_version version None line spells none = refl
empty_version version (Some event) line spells none = absurd (no_meaning _ (ap meaning (sym none) ∙ spells.0))

pub version_of_none : (version : ℕ) (given : Told) (translation : Translation) → length translation.line.items ≡ 0 → IsTranslation given translation
    → version ≡ next_version version given.event
version_of_none version given translation none is = by translation.line.items refl none
  where
    by : (line : List ℕ) → translation.line.items ≡ line → length translation.line.items ≡ 0 → version ≡ next_version version given.event
    by [] same none = sym (empty_version version given.event translation.line.items is.line same)
    by (x ∷ more) same none = let some : length (x ∷ more) ≡ 0 = ap length (sym same) ∙ none in cc
