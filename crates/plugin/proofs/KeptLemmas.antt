-- What is kept of what rules said is what they say.
use Rattle.std.proofs.Common.{◌≡◌, ℕ, zero, suc, ◌<◌, Bool, true, false, List, [], ◌∷◌, ◌++◌, length, take, drop, replicate, get_or, Option, Some, None, IfSome, slice_get, slice_set, refl, sym, ap, ◌∙◌, subst, arith, inl, inr}
use Rattle.std.specs.Prelude.{◌⊎◌, option_and_then, nat_le, if◌then◌else◌}
use Rattle.std.specs.List.{AllByRecursion}
use Rattle.std.proofs.lemmas.Option.{slice_get_read}
use Rattle.quant.specs.declared.amount.Res.{Res}
use Rattle.quant.specs.declared.objects.Node.{Node}
use Rattle.whost.specs.declared.records.Records.{Records}
use Rattle.whost.specs.Handed.{node_records}
use Rattle.rules.specs.declared.verdict.FilterVerdict.{FilterVerdict}
use Rattle.rules.specs.declared.verdict.FilterVerdict.TheVariants as filter
use Rattle.rules.specs.declared.verdict.Rejection.TheVariants.{Unschedulable, UnschedulableAndUnresolvable}
use Rattle.rules.specs.declared.verdict.ScoreVerdict.{ScoreVerdict}
use Rattle.rules.specs.declared.verdict.ScoreVerdict.TheVariants as score
use Rattle.plugin.specs.declared.answers.Answers.{Answers}
use Rattle.plugin.specs.declared.answers.Heard.{Heard}
use Rattle.plugin.specs.declared.answers.Heard.TheVariants as heard
use Rattle.plugin.specs.declared.answers.Known.{Known}
use Rattle.plugin.specs.declared.asked.Reach.{Reach}
use Rattle.plugin.specs.declared.kept.Line.{Line}
use Rattle.plugin.specs.declared.kept.Class.{Class}
use Rattle.plugin.specs.Kit.{Ready}
use Rattle.plugin.specs.inside.Answers.{filter_of, filter_byte, score_of, score_byte, noted, KnowsFilter, KnowsScore, AnswersHold}
use Rattle.plugin.specs.inside.Kept.{Hear, HearOfAll, HearAlways, HearNow, NewlyHeard, Holds, LineHolds, ClassHolds}
use Rattle.plugin.specs.inside.Shown.{IsKnown}

-- amounts of the same numbers are the same
pub amounts_are : (a b : Res) → a.cpu.0 ≡ b.cpu.0 → a.mem.0 ≡ b.mem.0 → a.pods ≡ b.pods → a ≡ b
amounts_are a b cpu mem pods = λ j. record { cpu = record { 0 = cpu j }; mem = record { 0 = mem j }; pods = pods j }

-- ---- lists of which each element is so

pub all_insert : {A : Type 0} (P : A → Type 0) (xs : List A) (i : ℕ) (x : A) → AllByRecursion P xs → P x → AllByRecursion P (take i xs ++ x ∷ drop i xs)
all_insert P [] zero x all is = (is, tt)
all_insert P [] (suc i) x all is = (is, tt)
all_insert P (y ∷ ys) zero x all is = (is, all)
all_insert P (y ∷ ys) (suc i) x all is = (all.0, all_insert P ys i x all.1 is)

pub all_inserted : {A : Type 0} (P : A → Type 0) (xs : List A) (i : ℕ) (x : A) (there : Bool) → AllByRecursion P xs → P x
    → AllByRecursion P (if there then take i xs ++ x ∷ drop i xs else xs)
all_inserted P xs i x true all is = all_insert P xs i x all is
all_inserted P xs i x false all is = all

all_more : {A : Type 0} (P : A → Type 0) (xs : List A) (x : A) → AllByRecursion P xs → P x → AllByRecursion P (xs ++ x ∷ [])
all_more P [] x all is = (is, tt)
all_more P (y ∷ ys) x all is = (all.0, all_more P ys x all.1 is)

-- one more behind them, where there is room for it
pub all_pushed : {A : Type 0} (P : A → Type 0) (xs : List A) (x : A) (there : Bool) → AllByRecursion P xs → P x → AllByRecursion P (if there then xs ++ x ∷ [] else xs)
all_pushed P xs x true all is = all_more P xs x all is
all_pushed P xs x false all is = all

pub all_set : {A : Type 0} (P : A → Type 0) (xs : List A) (i : ℕ) (x : A) → AllByRecursion P xs → P x → AllByRecursion P (slice_set xs i x)
all_set P [] i x all is = tt
all_set P (y ∷ ys) zero x all is = (is, all.1)
all_set P (y ∷ ys) (suc i) x all is = (all.0, all_set P ys i x all.1 is)

pub all_at : {A : Type 0} (P : A → Type 0) (xs : List A) (i : ℕ) (d : A) → AllByRecursion P xs → i < length xs → P (get_or xs i d)
all_at P [] i d all below = absurd (omega (arith, below))
all_at P (y ∷ ys) zero d all below = all.0
all_at P (y ∷ ys) (suc i) d all below = all_at P ys i d all.1 (omega (arith, below))

-- ---- answers

-- an element of a list that was set is what it was, or it is what was set
at_set : {A : Type 0} (xs : List A) (place : ℕ) (b : A) (k : ℕ) → (slice_get (slice_set xs place b) k ≡ slice_get xs k) ⊎ ((k ≡ place) × (slice_get (slice_set xs place b) k ≡ Some b))
at_set [] place b k = inl refl
at_set (x ∷ xs) zero b zero = inr (refl, refl)
at_set (x ∷ xs) zero b (suc k) = inl refl
at_set (x ∷ xs) (suc place) b zero = inl refl
at_set (x ∷ xs) (suc place) b (suc k) =
    elim (at_set xs place b k) [
      | inl same ↦ inl same
      | inr h ↦ inr (ap suc h.0, h.1)
    ]

-- what is read of a byte is what it was written for
filter_read : (said : FilterVerdict) → IfSome (filter_of (filter_byte said)) (λ v. v ≡ said)
filter_read filter.Passes = refl
filter_read (filter.Rejects Unschedulable) = refl
filter_read (filter.Rejects UnschedulableAndUnresolvable) = refl
filter_read (filter.Errs why) = tt

score_read : (said : ScoreVerdict) → IfSome (score_of (score_byte said)) (λ v. v ≡ said)
score_read (score.Good n) =
    elim (nat_le n 100) as (λ (b : Bool). IfSome (if b then Some (score.Good n) else None) (λ v. v ≡ score.Good n)) [
      | true ↦ refl
      | false ↦ tt
    ]
score_read (score.Errs why) = tt

-- what stands at a place, where one answer was noted
read_noted : {V : Type 0} (of : ℕ → Option V) (Says : ℕ → V → Type 0) (bytes : List ℕ) (place b : ℕ) (v : V) → IfSome (of b) (λ w. w ≡ v)
    → ((k : ℕ) (w : V) → option_and_then of (slice_get bytes k) ≡ Some w → Says k w) → Says place v
    → (k : ℕ) (w : V) → option_and_then of (slice_get (slice_set bytes place b) k) ≡ Some w → Says k w
read_noted of Says bytes place b v is hold says k w e =
    elim (at_set bytes place b k) [
      | inl same ↦ hold k w (ap (λ o. option_and_then of o) (sym same) ∙ e)
      | inr h ↦
          let there : of b ≡ Some w = ap (λ o. option_and_then of o) (sym h.1) ∙ e in
          let same : w ≡ v = subst (λ (o : Option _). IfSome o (λ x. x ≡ v)) there is in
          subst (λ n. Says n w) (sym h.0) (subst (λ x. Says place x) (sym same) says)
    ]

-- answers with one that is noted
pub noted_hold : (Says : ℕ → Heard → Type 0) (answers : Answers) (place : ℕ) (said : Heard) → AnswersHold Says answers → Says place said → AnswersHold Says (noted answers place said)
noted_hold Says answers place (heard.Filter said) hold says = record {
  filters = read_noted filter_of (λ k v. Says k (heard.Filter v)) answers.filters place (filter_byte said) said (filter_read said) hold.filters says;
  scores = hold.scores;
}
noted_hold Says answers place (heard.Score said) hold says = record {
  filters = hold.filters;
  scores = read_noted score_of (λ k v. Says k (heard.Score v)) answers.scores place (score_byte said) said (score_read said) hold.scores says;
}

-- nothing is read of bytes that are nothing's
none_of : {V : Type 0} (of : ℕ → Option V) (n x k : ℕ) → of x ≡ None → option_and_then of (slice_get (replicate n x) k) ≡ None
none_of of zero x k none = refl
none_of of (suc n) x zero none = none
none_of of (suc n) x (suc k) none = none_of of n x k none

-- ---- what is known of a node

pub note_known : (plugins : List Ready) (pod : List ℕ) (node : Node) (used : Res) (known : Known) (place : ℕ) (said : Heard) → Holds plugins pod node used known
    → HearAlways plugins pod node place said → Holds plugins pod node used (record known { always = noted known.always place said })
note_known plugins pod node used known place said hold says =
    record { always = noted_hold (HearAlways plugins pod node) known.always place said hold.always says; by_used = hold.by_used }

pub note_now : (plugins : List Ready) (pod : List ℕ) (node : Node) (used : Res) (known : Known) (place : ℕ) (said : Heard) → Holds plugins pod node used known
    → HearNow plugins pod node used place said → Holds plugins pod node used (record known { by_used = noted known.by_used place said })
note_now plugins pod node used known place said hold says =
    record { always = hold.always; by_used = noted_hold (HearNow plugins pod node used) known.by_used place said hold.by_used says }

-- what is known of a node's row is known by the records that are shown
hold_more : (Says Other : ℕ → Heard → Type 0) (answers : Answers) → ((place : ℕ) (said : Heard) → Says place said → Other place said) → AnswersHold Says answers → AnswersHold Other answers
hold_more Says Other answers more hold = record {
  filters = λ place said e. more place (heard.Filter said) (hold.filters place said e);
  scores = λ place said e. more place (heard.Score said) (hold.scores place said e);
}

-- a class of which its lines alone changed
pub lines_changed : (plugins : List Ready) (before after : Class) → after.pod.items ≡ before.pod.items → after.of_all ≡ before.of_all → ClassHolds plugins before
    → AllByRecursion (LineHolds plugins before.pod.items) after.lines.items → ClassHolds plugins after
lines_changed plugins before after pod of_all hold lines = record {
  of_all = subst (λ (p : List ℕ). AnswersHold (HearOfAll plugins p) after.of_all) (sym pod)
      (subst (λ (a : Answers). AnswersHold (HearOfAll plugins before.pod.items) a) (sym of_all) hold.of_all);
  lines = subst (λ (p : List ℕ). AllByRecursion (LineHolds plugins p) after.lines.items) (sym pod) lines;
}

-- what is known of all nodes, for a class, is known by the records of a pod of it
pub of_all_known : (plugins : List Ready) (records : Records) (pod : List ℕ) (of_all : Answers) → pod ≡ records.pod.third → AnswersHold (HearOfAll plugins pod) of_all → AnswersHold (Hear plugins records) of_all
of_all_known plugins records pod of_all same hold =
    hold_more (HearOfAll plugins pod) (Hear plugins records) of_all (λ place said says. says records (sym same)) hold

-- a class of which one answer of all nodes was noted
pub noted_of_all : (plugins : List Ready) (class : Class) (place : ℕ) (said : Heard) → ClassHolds plugins class → HearOfAll plugins class.pod.items place said
    → ClassHolds plugins (record class { of_all = noted class.of_all place said })
noted_of_all plugins class place said hold says =
    record { of_all = noted_hold (HearOfAll plugins class.pod.items) class.of_all place said hold.of_all says; lines = hold.lines }

pub known_of : (plugins : List Ready) (records : Records) (node : Node) (used : Res) (known : Known) (pod : List ℕ) → records.node ≡ node_records node used
    → pod ≡ records.pod.third → Holds plugins pod node used known → IsKnown plugins records known
known_of plugins records node used known pod is same hold = record {
  always = hold_more (HearAlways plugins pod node) (Hear plugins records) known.always
      (λ place said says. says records (sym same) (ap (λ n. n.third) is)) hold.always;
  by_used = hold_more (HearNow plugins pod node used) (Hear plugins records) known.by_used
      (λ place said says. says records (sym same) is) hold.by_used;
}

-- and so an answer that is known is given
pub filter_known : (plugins : List Ready) (records : Records) (known : Known) (place : ℕ) (said : FilterVerdict) → IsKnown plugins records known → KnowsFilter known place said → Hear plugins records place (heard.Filter said)
filter_known plugins records known place said is (inl e) = is.always.filters place said e
filter_known plugins records known place said is (inr e) = is.by_used.filters place said e

pub score_known : (plugins : List Ready) (records : Records) (known : Known) (place : ℕ) (said : ScoreVerdict) → IsKnown plugins records known → KnowsScore known place said → Hear plugins records place (heard.Score said)
score_known plugins records known place said is (inl e) = is.always.scores place said e
score_known plugins records known place said is (inr e) = is.by_used.scores place said e

-- ---- lines and classes

-- a line of the row that a rule was asked of, with what it said
pub heard_of_row : (plugins : List Ready) (pod : List ℕ) (line : Line) (node : Node) (used : Res) (place : ℕ) (said : Heard) (far : Reach) → line.node ≡ node → line.used ≡ used
    → NewlyHeard plugins pod node used place said far → NewlyHeard plugins pod line.node line.used place said far
heard_of_row plugins pod line node used place said far of_node so_much says =
    subst (λ (n : Node). NewlyHeard plugins pod n line.used place said far) (sym of_node) (subst (λ (u : Res). NewlyHeard plugins pod node u place said far) (sym so_much) says)

-- a class of which one line has changed
pub line_set : (plugins : List Ready) (pod : List ℕ) (lines : List Line) (at : ℕ) (before after : Line) → at < length lines → before ≡ get_or lines at before
    → (LineHolds plugins pod before → LineHolds plugins pod after) → AllByRecursion (LineHolds plugins pod) lines → AllByRecursion (LineHolds plugins pod) (slice_set lines at after)
line_set plugins pod lines at before after below is keeps hold =
    all_set (LineHolds plugins pod) lines at after hold (keeps (subst (LineHolds plugins pod) (sym is) (all_at (LineHolds plugins pod) lines at before hold below)))

-- a line of a class
pub line_at : (plugins : List Ready) (pod : List ℕ) (lines : List Line) (at : ℕ) (line : Line) → at < length lines → line ≡ get_or lines at line
    → AllByRecursion (LineHolds plugins pod) lines → LineHolds plugins pod line
line_at plugins pod lines at line below is hold = subst (LineHolds plugins pod) (sym is) (all_at (LineHolds plugins pod) lines at line hold below)

-- the same of classes
pub class_set : (plugins : List Ready) (classes : List Class) (at : ℕ) (before after : Class) → at < length classes → before ≡ get_or classes at before
    → (ClassHolds plugins before → ClassHolds plugins after) → AllByRecursion (ClassHolds plugins) classes → AllByRecursion (ClassHolds plugins) (slice_set classes at after)
class_set plugins classes at before after below is keeps hold =
    all_set (ClassHolds plugins) classes at after hold (keeps (subst (ClassHolds plugins) (sym is) (all_at (ClassHolds plugins) classes at before hold below)))

pub class_at : (plugins : List Ready) (classes : List Class) (at : ℕ) (class : Class) → at < length classes → class ≡ get_or classes at class
    → AllByRecursion (ClassHolds plugins) classes → ClassHolds plugins class
class_at plugins classes at class below is hold = subst (ClassHolds plugins) (sym is) (all_at (ClassHolds plugins) classes at class hold below)

-- a class that is there and has this record
pub pod_is : (classes : List Class) (at : ℕ) (class : Class) (pod : List ℕ) → at < length classes → class ≡ get_or classes at class → class.pod.items ≡ pod
    → IfSome (slice_get classes at) (λ c. c.pod.items ≡ pod)
pod_is classes at class pod below is same =
    subst (λ (o : Option Class). IfSome o (λ c. c.pod.items ≡ pod)) (sym (slice_get_read classes (length classes) at class refl below is)) same

pub pod_of : (classes : List Class) (at : ℕ) (class : Class) (pod : List ℕ) → at < length classes → class ≡ get_or classes at class
    → IfSome (slice_get classes at) (λ c. c.pod.items ≡ pod) → class.pod.items ≡ pod
pod_of classes at class pod below is same =
    subst (λ (o : Option Class). IfSome o (λ c. c.pod.items ≡ pod)) (slice_get_read classes (length classes) at class refl below is) same
