-- A site's script has one output: what its plugins say depends on the modules that their bytes
-- spell, their images and their fuels.
use Rattle.std.proofs.Common.{◌≡◌, ◌∙◌, ℕ, zero, suc, Bool, true, List, [], ◌∷◌, map, Option, Some, None, IfSome, slice_get, inl, inr, refl, sym, subst, ap, arith}
use Rattle.std.proofs.lemmas.Option.{none-some, same_Some}
use Rattle.wmodule.specs.Syntax.{ModuleSyntax, module_of}
use Rattle.wmodule.specs.Grammar.{Spells}
use Rattle.wmach.specs.declared.export.Export.{Export}
use Rattle.wmach.specs.declared.export.Export.TheVariants as export
use Rattle.wmach.specs.declared.outcome.Outcome.{Outcome}
use Rattle.wmach.specs.Call.{called_function}
use Rattle.wmach.specs.Outcome.{HasOutcome}
use Rattle.wstore.specs.Store.{Store}
use Rattle.whost.specs.declared.records.Records.{Records}
use Rattle.whost.specs.Handed.{record_of}
use Rattle.whost.specs.Image.{IsImage}
use Rattle.whost.specs.Refused.{OneImage}
use Rattle.rules.specs.declared.verdict.FilterVerdict.TheVariants as filter
use Rattle.rules.specs.declared.verdict.ScoreVerdict.TheVariants as score
use Rattle.plugin.specs.Verdict.{filter_said, score_said}
use Rattle.plugin.specs.Plugins.{Configured}
use Rattle.plugin.specs.Kit.{Ready, Ends, Says, IsKitOf, IsReadyOf, records_of, rules_of}
use Rattle.plugin.specs.inside.OneAnswer.{one_answer}
use Rattle.streams.specs.Script.{asked_in}
use Rattle.streams.specs.Script.{taken}
use Rattle.engine.specs.Output.{IsOutput, BeginsOutput}
use Rattle.streams.specs.Lines.{lines_of}
use Rattle.session.specs.Answers.{State, opening, AllAnswered}
use Rattle.output_lines.specs.Telling.{Telling}
use Rattle.manifest.specs.declared.command.Command.{Command}
use Rattle.engine.proofs.OneOutput.{one_output}
use Rattle.engine.proofs.Fronts.{fronts_agree, fronts_begin_output}
use Rattle.engine.proofs.SameOutput.{all_answered}
use Rattle.command.specs.Words.{SpecSyntax}
use Rattle.engine.proofs.Explained.{asking_changes_nothing, explained_output, plain_output}
use Rattle.site.specs.Laws.{FilesGiveModules, OneSiteOutput, SiteAskingChangesNothing, SiteExplainedOutput, SiteFrontsAgree, SiteFrontsBeginOutput, SitePlainOutput}
use Rattle.site.specs.Site.{IsSiteKit, told_by}
use Rattle.site_modules.specs.Modules.{ArePlugins, IsPlugin, named_of}
use Rattle.site_modules.specs.Verdict.{front_of}
use Rattle.site.proofs.Agreeing.{Agree, verdict_by, ruling_by}

-- bytes spell one module
abbrev pub OneModule : Type 0
OneModule = (bytes : List ℕ) (m n : ModuleSyntax) → Spells bytes m → Spells bytes n → m ≡ n

-- ---- kits of a site

-- plugins that are ready alike: their modules are one, and so are the images, whatever the code
-- keeps of them
record Alike (one other : Ready) : Type 0 where
  weight : one.weight ≡ other.weight
  fuel : one.fuel ≡ other.fuel
  content : module_of one.content ≡ module_of other.content
  image : one.image ≡ other.image

-- a call with these records ends so, from this image of a module
abbrev Ended : (told : Records) → Outcome → (after : Store) → ModuleSyntax → (image : Store) → (function fuel : ℕ) → Type 0
Ended told outcome after m image function fuel = HasOutcome (record { module_syntax = m; records = record_of told }) image function fuel outcome after

-- end alike
ends_alike : (one other : Ready) (e : Export) (told : Records) (outcome : Outcome) → Alike one other → Ends one e told outcome → Ends other e told outcome
ends_alike one other e told outcome alike ends = record {
  after = ends.after;
  calls = record {
    function = ends.calls.function;
    function_is = subst (λ m. called_function m e ≡ Some ends.calls.function) alike.content ends.calls.function_is;
    ends = subst (λ m. Ended told outcome ends.after.store m other.image ends.calls.function other.fuel) alike.content
        (subst (λ image. Ended told outcome ends.after.store (module_of one.content) image ends.calls.function other.fuel) alike.image
        (subst (λ fuel. Ended told outcome ends.after.store (module_of one.content) one.image ends.calls.function fuel) alike.fuel ends.calls.ends));
  };
}

-- and so say the same
say_alike : {V : Type 0} (one other : Ready) (e : Export) (without : V) (said : Outcome → V) (told : Records) (v : V) → Alike one other → Says one e without said told v → Says other e without said told v
say_alike one other e without said told v alike (inl (none, is)) = inl (subst (λ m. called_function m e ≡ None) alike.content none, is)
say_alike one other e without said told v alike (inr (outcome, ends, is)) = inr (outcome, ends_alike one other e told outcome alike ends, is)

-- kits whose plugins are alike, each at its place
abbrev AllAlike : List Ready → List Ready → Type 0
AllAlike [] [] = Unit {0}
AllAlike (x ∷ xs) (y ∷ ys) = Alike x y × AllAlike xs ys
AllAlike _ _ = ⊥

alike_at : (one other : List Ready) (place : ℕ) (p : Ready) → AllAlike one other → slice_get one place ≡ Some p → (q : Ready) × (slice_get other place ≡ Some q) × Alike p q
alike_at [] [] place p all there = absurd (none-some p there)
alike_at [] (y ∷ ys) place p all there = absurd all
alike_at (x ∷ xs) [] place p all there = absurd all
alike_at (x ∷ xs) (y ∷ ys) zero p all there =
    (y, refl, subst (λ r. Alike r y) (same_Some x p there) all.0)
alike_at (x ∷ xs) (y ∷ ys) (suc place) p all there = alike_at xs ys place p all.1 there

weights_alike : (one other : List Ready) → AllAlike one other → map (λ (p : Ready). p.weight) one ≡ map (λ (p : Ready). p.weight) other
weights_alike [] [] all = refl
weights_alike [] (y ∷ ys) all = absurd all
weights_alike (x ∷ xs) [] all = absurd all
weights_alike (x ∷ xs) (y ∷ ys) all = λ j. all.0.weight j ∷ weights_alike xs ys all.1 j

agree_alike : (one other : List Ready) → AllAlike one other → Agree (rules_of one) (rules_of other)
agree_alike one other all = record {
  weights = weights_alike one other all;
  filters = λ place told verdict said.
      let at = alike_at one other place said.0 all said.1 in
      (at.0, at.1, say_alike said.0 at.0 export.Filter filter.Passes filter_said (records_of told) verdict at.2 said.2);
  scores = λ place told verdict said.
      let at = alike_at one other place said.0 all said.1 in
      (at.0, at.1, say_alike said.0 at.0 export.Score (score.Good 0) score_said (records_of told) verdict at.2 said.2);
}

module _ (one_module : OneModule) (one_image : OneImage) where
  -- kits of plugins that the same words configure with the same bytes are alike
  ready_alike : (spec : SpecSyntax) (bytes : List ℕ) (p q : Configured) (x y : Ready) → IsPlugin spec bytes p → IsPlugin spec bytes q → IsReadyOf p x → IsReadyOf q y → Alike x y
  ready_alike spec bytes p q x y is also ready too =
      let content : module_of p.content ≡ module_of q.content = one_module bytes (module_of p.content) (module_of q.content) is.spells also.spells in
      let fuel : p.fuel ≡ q.fuel = is.fuel ∙ sym also.fuel in
      record {
        weight = ready.weight ∙ is.weight ∙ sym (too.weight ∙ also.weight);
        fuel = ready.fuel ∙ fuel ∙ sym too.fuel;
        content = ap module_of ready.content ∙ content ∙ sym (ap module_of too.content);
        image = one_image.same (module_of q.content) q.fuel x.image y.image
            (subst (λ f. IsImage (module_of q.content) f x.image) fuel (subst (λ m. IsImage m p.fuel x.image) content ready.image)) too.image;
      }

  kits_alike : (specs : List SpecSyntax) (modules : List (List ℕ)) (ps qs : List Configured) (one other : List Ready) → ArePlugins specs modules ps → ArePlugins specs modules qs
      → IsKitOf ps one → IsKitOf qs other → AllAlike one other
  kits_alike [] [] [] [] [] [] are also ready too = tt
  kits_alike [] [] [] [] [] (y ∷ ys) are also ready too = absurd too
  kits_alike [] [] [] [] (x ∷ xs) other are also ready too = absurd ready
  kits_alike [] [] [] (q ∷ qs) one other are also ready too = absurd also
  kits_alike [] [] (p ∷ ps) qs one other are also ready too = absurd are
  kits_alike [] (b ∷ modules) ps qs one other are also ready too = absurd are
  kits_alike (s ∷ specs) [] ps qs one other are also ready too = absurd are
  kits_alike (s ∷ specs) (b ∷ modules) [] qs one other are also ready too = absurd are
  kits_alike (s ∷ specs) (b ∷ modules) (p ∷ ps) [] one other are also ready too = absurd also
  kits_alike (s ∷ specs) (b ∷ modules) (p ∷ ps) (q ∷ qs) [] other are also ready too = absurd ready
  kits_alike (s ∷ specs) (b ∷ modules) (p ∷ ps) (q ∷ qs) (x ∷ xs) [] are also ready too = absurd too
  kits_alike (s ∷ specs) (b ∷ modules) (p ∷ ps) (q ∷ qs) (x ∷ xs) (y ∷ ys) are also ready too =
      (ready_alike s b p q x y are.0 also.0 ready.0 too.0, kits_alike specs modules ps qs xs ys are.1 also.1 ready.1 too.1)

  site_alike : (specs : List SpecSyntax) (modules : List (List ℕ)) (one other : List Ready) → IsSiteKit specs modules one → IsSiteKit specs modules other → Agree (rules_of one) (rules_of other)
  site_alike specs modules one other a b = agree_alike one other (kits_alike specs modules a.plugins b.plugins one other a.are b.are a.is b.is)

  -- ---- what is written

  all_alike : (specs : List SpecSyntax) (modules : List (List ℕ)) (one other : List Ready) → IsSiteKit specs modules one → IsSiteKit specs modules other
      → (told : Telling) (s : State) (l : List Command) (s' : State) (text : List ℕ) → AllAnswered (rules_of one) told s l s' text → AllAnswered (rules_of other) told s l s' text
  all_alike specs modules one other a b told s l s' text answered =
      let agree = site_alike specs modules one other a b in
      all_answered (rules_of one) (rules_of other) (verdict_by (rules_of one) (rules_of other) agree) told s l s' text (inl (ruling_by (rules_of one) (rules_of other) agree)) answered

  output_alike : (explains : Bool) (specs : List SpecSyntax) (modules : List (List ℕ)) (script text : List ℕ) (one other : List Ready) → IsSiteKit specs modules one → IsSiteKit specs modules other
      → IsOutput (rules_of one) (told_by explains specs) script text → IsOutput (rules_of other) (told_by explains specs) script text
  output_alike explains specs modules script text one other a b output = record {
    end = output.end;
    answered = all_alike specs modules one other a b (told_by explains specs) opening (asked_in taken (lines_of script)) output.end text output.answered;
  }

  front_alike : (explains : Bool) (specs : List SpecSyntax) (modules : List (List ℕ)) (script front : List ℕ) (one other : List Ready) → IsSiteKit specs modules one → IsSiteKit specs modules other
      → BeginsOutput (rules_of one) (told_by explains specs) script front → BeginsOutput (rules_of other) (told_by explains specs) script front
  front_alike explains specs modules script front one other a b begins = record {
    asked = begins.asked;
    later = begins.later;
    cut = begins.cut;
    end = begins.end;
    text = begins.text;
    answered = all_alike specs modules one other a b (told_by explains specs) opening begins.asked begins.end begins.text begins.answered;
    rest = begins.rest;
    begins = begins.begins;
  }

  pub one_site_output : OneSiteOutput
  one_site_output explains specs modules script one other (kit, is, output) (kit', is', output') =
      one_output (rules_of kit') (one_answer kit') (told_by explains specs) script one other (output_alike explains specs modules script one kit kit' is is' output) output'

  pub site_fronts_begin : SiteFrontsBeginOutput
  site_fronts_begin explains specs modules script front text (kit, is, begins) (kit', is', output) =
      fronts_begin_output (rules_of kit') (one_answer kit') (told_by explains specs) script front text (front_alike explains specs modules script front kit kit' is is' begins) output

  pub site_fronts_agree : SiteFrontsAgree
  site_fronts_agree explains specs modules script one other (kit, is, begins) (kit', is', begins') =
      fronts_agree (rules_of kit') (one_answer kit') (told_by explains specs) script one other (front_alike explains specs modules script one kit kit' is is' begins) begins'

  -- without the lines that are put in
  pub site_plain : SitePlainOutput
  site_plain = record {
    both = λ specs modules script text plain (kit, is, output) (kit', is', output').
        (plain_output (rules_of kit') (one_answer kit')).both (named_of specs) script text plain (output_alike true specs modules script text kit kit' is is' output) output';
    unasked = λ specs modules script text none (kit, is, output).
        (kit, is, (plain_output (rules_of kit) (one_answer kit)).unasked (named_of specs) script text none output);
  }

-- ---- an explained output

pub site_explained : SiteExplainedOutput
site_explained specs modules script text (kit, is, output) =
    let explained = explained_output (rules_of kit) (named_of specs) script text output in
    (explained.0, (kit, is, explained.1), explained.2)

-- to ask changes nothing
pub site_asking : SiteAskingChangesNothing
site_asking explains specs modules script bare text same (kit, is, output) =
    let found = asking_changes_nothing (rules_of kit) (told_by explains specs) script bare text same output in
    (found.0, (kit, is, found.1), found.2)

-- ---- files

same_front : (o : Option (List ℕ)) (whole one other : List ℕ) → o ≡ Some whole → IfSome o (λ w. one ≡ front_of w) → IfSome o (λ w. other ≡ front_of w) → one ≡ other
same_front None whole one other is a b = cc
same_front (Some w) whole one other is a b = a ∙ sym b

pub files_give_modules : FilesGiveModules
files_give_modules contents [] [] [] known a b = refl
files_give_modules contents [] [] (y ∷ ys) known a b = absurd b
files_give_modules contents [] (x ∷ xs) other known a b = absurd a
files_give_modules contents (s ∷ specs) [] other known a b = absurd a
files_give_modules contents (s ∷ specs) (x ∷ xs) [] known a b = absurd b
files_give_modules contents (s ∷ specs) (x ∷ xs) (y ∷ ys) known a b =
    let first : (whole : List ℕ) × (contents s.file ≡ Some whole) = known 0 s (omega arith) in
    let here : x ≡ y = same_front (contents s.file) first.0 x y first.1 a.0 b.0 in
    let rest : xs ≡ ys = files_give_modules contents specs xs ys (λ k d below. known (suc k) d (omega (arith, below))) a.1 b.1 in
    λ j. here j ∷ rest j
