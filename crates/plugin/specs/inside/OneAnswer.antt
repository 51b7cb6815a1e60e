-- That a kit's plugins say one thing, each of the same pod and node: this is proved, and nothing to
-- be believed. It stands here since the kit's code names it.
use Rattle.std.proofs.Common.{◌≡◌, List, Option, Some, None, slice_get, refl, sym, ap, ◌∙◌, subst, inl, inr}
use Rattle.wmach.specs.declared.export.Export.{Export}
use Rattle.wmach.specs.declared.export.Export.TheVariants as export
use Rattle.wmach.specs.declared.outcome.Outcome.{Outcome}
use Rattle.wmach.proofs.OneEnd.{one_outcome_is}
use Rattle.whost.specs.Calls.{CallsAgree}
use Rattle.whost.proofs.InstanceLemmas.{agreement}
use Rattle.whost.specs.declared.records.Records.{Records}
use Rattle.rules.specs.declared.verdict.FilterVerdict.TheVariants as filter
use Rattle.rules.specs.declared.verdict.ScoreVerdict.TheVariants as score
use Rattle.rules.specs.RuleSet.{SayOneThing}
use Rattle.plugin.specs.Verdict.{filter_said, score_said}
use Rattle.plugin.specs.Kit.{Ready, at_image, called, Ends, Says, FilterSays, ScoreSays, records_of, rules_of}

-- two calls of a plugin with the same records end alike
one_end : (p : Ready) (export : Export) (told : Records) (one other : Outcome) → Ends p export told one → Ends p export told other → one ≡ other
one_end p export told one other a b =
    let agree : CallsAgree = agreement one_outcome_is in
    (agree (at_image p) (at_image p) a.after b.after export told p.fuel one other refl refl a.calls b.calls).0

-- a plugin has something to be called, or it doesn't
not_both : (p : Ready) (export : Export) (told : Records) (outcome : Outcome) → called p export ≡ None → Ends p export told outcome → ⊥
not_both p export told outcome lacks ends =
    let there : called p export ≡ Some ends.calls.function = ends.calls.function_is in
    cc

one_said : {V : Type 0} (p : Ready) (export : Export) (without : V) (said : Outcome → V) (told : Records) (one other : V) → Says p export without said told one → Says p export without said told other → one ≡ other
one_said p export without said told one other (inl a) (inl b) = a.1 ∙ sym b.1
one_said p export without said told one other (inl a) (inr b) = absurd (not_both p export told b.0 a.0 b.1)
one_said p export without said told one other (inr a) (inl b) = absurd (not_both p export told a.0 b.0 a.1)
one_said p export without said told one other (inr a) (inr b) = a.2 ∙ ap said (one_end p export told a.0 b.0 a.1 b.1) ∙ sym b.2

-- the plugin at a place is one
one_there : {A : Type 0} (o : Option A) (a b : A) → o ≡ Some a → o ≡ Some b → b ≡ a
one_there o a b p q = cc

-- what the plugins of a kit say is one thing
pub one_answer : (kit : List Ready) → SayOneThing (rules_of kit)
one_answer kit = record {
  filter = λ place told one other (p, there, says) (q, at, also).
      let also' = subst (λ x. FilterSays x (records_of told) other) (one_there (slice_get kit place) p q there at) also in
      one_said p export.Filter filter.Passes filter_said (records_of told) one other says also';
  score = λ place told one other (p, there, says) (q, at, also).
      let also' = subst (λ x. ScoreSays x (records_of told) other) (one_there (slice_get kit place) p q there at) also in
      one_said p export.Score (score.Good 0) score_said (records_of told) one other says also';
}
