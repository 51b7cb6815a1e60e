-- How far what a plugin says reaches.
use Rattle.std.proofs.Common.{◌≡◌, ℕ, zero, suc, ◌<◌, true, false, IsTrue, IsSome, ◌↔◌, List, length, Option, Some, IfSome, slice_get, refl, sym, ap, ◌∙◌, subst, inl}
use Rattle.wmach.proofs.OverBr.{slice_get_some}
use Rattle.wmach.specs.declared.export.Export.TheVariants as export
use Rattle.whost.specs.declared.records.Records.{Records}
use Rattle.whost.specs.declared.sight.Shows.TheVariants.{Class, ClassAndRow, ClassAndNode}
use Rattle.whost.specs.Handed.{record_of, gives}
use Rattle.plugin.specs.declared.asked.Reach.TheVariants as reach
use Rattle.plugin.specs.inside.Asked.{Reaches}
use Rattle.plugin.specs.declared.asked.Reach.{Reach}
use Rattle.rules.specs.declared.verdict.FilterVerdict.{FilterVerdict}
use Rattle.rules.specs.declared.verdict.FilterVerdict.TheVariants as filter
use Rattle.rules.specs.declared.verdict.ScoreVerdict.{ScoreVerdict}
use Rattle.rules.specs.declared.verdict.ScoreVerdict.TheVariants as score
use Rattle.plugin.specs.declared.answers.Heard.TheVariants as heard
use Rattle.plugin.specs.Kit.{Ready, InstanceState, ready_parts, called, FilterSays, ScoreSays}
use Rattle.quant.specs.declared.amount.Res.{Res}
use Rattle.quant.specs.declared.objects.Node.{Node}
use Rattle.whost.specs.Handed.{node_records}
use Rattle.plugin.specs.declared.answers.Heard.{Heard}
use Rattle.plugin.specs.inside.Kept.{Hear, NewlyHeard}
use Rattle.plugin.specs.inside.Shown.{HeardOf}
use Rattle.plugin.proofs.KitLemmas.{nothing_called, plugin_at, said_at}

-- records with the same pod's of version 3 look alike where this one alone is shown
pub by_class : (records told : Records) → Reaches reach.Class records told → (import : ℕ) → gives Class import ≡ true → record_of records import ≡ record_of told import
by_class records told same zero e = absurd (cc e)
by_class records told same (suc zero) e = absurd (cc e)
by_class records told same (suc (suc zero)) e = absurd (cc e)
by_class records told same (suc (suc (suc zero))) e = absurd (cc e)
by_class records told same (suc (suc (suc (suc zero)))) e = ap Some (sym same)
by_class records told same (suc (suc (suc (suc (suc n))))) e = absurd (cc e)

-- records with the same of version 3 look alike where these alone are shown
pub by_row : (records told : Records) → Reaches reach.Row records told → (import : ℕ) → gives ClassAndRow import ≡ true → record_of records import ≡ record_of told import
by_row records told same zero e = absurd (cc e)
by_row records told same (suc zero) e = absurd (cc e)
by_row records told same (suc (suc zero)) e = absurd (cc e)
by_row records told same (suc (suc (suc zero))) e = absurd (cc e)
by_row records told same (suc (suc (suc (suc zero)))) e = ap Some (sym same.0)
by_row records told same (suc (suc (suc (suc (suc zero))))) e = ap Some (sym same.1)
by_row records told same (suc (suc (suc (suc (suc (suc n)))))) e = refl

-- and so do records of one node where the pod's of version 3 are the same
pub by_node : (records told : Records) → Reaches reach.Node records told → (import : ℕ) → gives ClassAndNode import ≡ true → record_of records import ≡ record_of told import
by_node records told same zero e = absurd (cc e)
by_node records told same (suc zero) e = ap (λ v. Some v.first) (sym same.1)
by_node records told same (suc (suc zero)) e = absurd (cc e)
by_node records told same (suc (suc (suc zero))) e = ap (λ v. Some v.second) (sym same.1)
by_node records told same (suc (suc (suc (suc zero)))) e = ap Some (sym same.0)
by_node records told same (suc (suc (suc (suc (suc zero))))) e = ap (λ v. Some v.third) (sym same.1)
by_node records told same (suc (suc (suc (suc (suc (suc n)))))) e = refl

-- what is said by some records reaches these at least
pub reaches_itself : (reach : Reach) (records told : Records) → told ≡ records → Reaches reach records told
reaches_itself reach.Class records told same = ap (λ r. r.pod.third) same
reaches_itself reach.Row records told same = (ap (λ r. r.pod.third) same, ap (λ r. r.node.third) same)
reaches_itself reach.Node records told same = (ap (λ r. r.pod.third) same, ap (λ r. r.node) same)
reaches_itself reach.Here records told same = same

-- the plugin at a place is one
one_there : {A : Type 0} (o : Option A) (a b : A) → o ≡ Some a → o ≡ Some b → a ≡ b
one_there o a b p q = cc

module _ (kit : List InstanceState) (place : ℕ) (below : place < length kit) where
  -- what a plugin says that is there
  said_there : (P : Ready → Type 0) → ((p : Ready) → slice_get (ready_parts kit) place ≡ Some p → P p) → (p : Ready) × (slice_get (ready_parts kit) place ≡ Some p) × P p
  said_there P says =
      let there = slice_get_some kit place below in
      let at = plugin_at kit place there.0 there.1 in
      (there.0.ready, at, says there.0.ready at)

  -- and what each plugin says that is there
  said_of_each : (P : Ready → Type 0) → IfSome (slice_get kit place) (λ i. P i.ready) → (p : Ready) → slice_get (ready_parts kit) place ≡ Some p → P p
  said_of_each P says p there =
      let at = said_at kit place P below says in
      subst P (one_there (slice_get (ready_parts kit) place) at.0 p at.1 there) at.2

  pub filter_there : (records : Records) (said : FilterVerdict) → Hear (ready_parts kit) records place (heard.Filter said)
      → (p : Ready) × (slice_get (ready_parts kit) place ≡ Some p) × FilterSays p records said
  filter_there records said hear = said_there (λ p. FilterSays p records said) hear

  pub score_there : (records : Records) (said : ScoreVerdict) → Hear (ready_parts kit) records place (heard.Score said)
      → (p : Ready) × (slice_get (ready_parts kit) place ≡ Some p) × ScoreSays p records said
  score_there records said hear = said_there (λ p. ScoreSays p records said) hear

  -- a plugin without a filter
  pub lacks_filter : (records : Records) → IfSome (slice_get kit place) (λ i. IsTrue false ↔ IsSome (called i.ready export.Filter))
      → (p : Ready) × (slice_get (ready_parts kit) place ≡ Some p) × FilterSays p records filter.Passes
  lacks_filter records lacks =
      let at = said_at kit place (λ p. IsTrue false ↔ IsSome (called p export.Filter)) below lacks in
      (at.0, at.1, inl (nothing_called (called at.0 export.Filter) at.2, refl))

  pub lacks_score : (records : Records) → IfSome (slice_get kit place) (λ i. IsTrue false ↔ IsSome (called i.ready export.Score))
      → (p : Ready) × (slice_get (ready_parts kit) place ≡ Some p) × ScoreSays p records (score.Good 0)
  lacks_score records lacks =
      let at = said_at kit place (λ p. IsTrue false ↔ IsSome (called p export.Score)) below lacks in
      (at.0, at.1, inl (nothing_called (called at.0 export.Score) at.2, refl))

  -- what is heard of a plugin that was asked, and how far it reaches
  pub filter_heard : (reach : Reach) (records now : Records) (said : FilterVerdict) → records ≡ now
      → IfSome (slice_get kit place) (λ i. (told : Records) → Reaches reach records told → FilterSays i.ready told said)
      → HeardOf (ready_parts kit) now place (heard.Filter said) reach
  filter_heard reach records now said same says = λ told reaches p there.
      said_of_each (λ p. (r : Records) → Reaches reach records r → FilterSays p r said) says p there told (subst (λ r. Reaches reach r told) (sym same) reaches)

  pub score_heard : (reach : Reach) (records now : Records) (said : ScoreVerdict) → records ≡ now
      → IfSome (slice_get kit place) (λ i. (told : Records) → Reaches reach records told → ScoreSays i.ready told said)
      → HeardOf (ready_parts kit) now place (heard.Score said) reach
  score_heard reach records now said same says = λ told reaches p there.
      said_of_each (λ p. (r : Records) → Reaches reach records r → ScoreSays p r said) says p there told (subst (λ r. Reaches reach r told) (sym same) reaches)

-- what is heard of the records that are shown is heard of the class and the node's row
pub newly_heard : (plugins : List Ready) (records : Records) (pod : List ℕ) (node : Node) (used : Res) (place : ℕ) (said : Heard) (far : Reach) → records.node ≡ node_records node used
    → records.pod.third ≡ pod → HeardOf plugins records place said far → NewlyHeard plugins pod node used place said far
newly_heard plugins records pod node used place said reach.Class of_node of_pod heard = λ told its_pod. heard told (its_pod ∙ sym of_pod)
newly_heard plugins records pod node used place said reach.Row of_node of_pod heard = λ told its_pod its_node. heard told (its_pod ∙ sym of_pod, its_node ∙ sym (ap (λ n. n.third) of_node))
newly_heard plugins records pod node used place said reach.Node of_node of_pod heard = λ told its_pod its_node. heard told (its_pod ∙ sym of_pod, its_node ∙ sym of_node)
newly_heard plugins records pod node used place said reach.Here of_node of_pod heard = tt
