-- Each event has one answer.
use Rattle.std.proofs.Common.{◌≡◌, ◌⊎◌, inl, inr, ℕ, List, refl, sym, ap, ◌∙◌, arith}
use Rattle.std.specs.FinMap.{FinMap, get, len, same_map}
use Rattle.std.specs.Cmp.Lexicographic.{nat_list_cmp_total}
use Rattle.book.specs.Cluster.{name_cmp, Cluster}
use Rattle.ledger.specs.declared.event.Answer.{Answer}
use Rattle.ledger.specs.declared.event.Answer.TheVariants as answers
use Rattle.ledger.specs.declared.event.Event.TheVariants as events
use Rattle.ledger.specs.declared.event.Kind.{Kind}
use Rattle.ledger.specs.declared.event.Kind.TheVariants as kinds
use Rattle.ledger.specs.Hearing.{NodesEnd, PodsEnd, HasEnded, EndsList, NoneEnds, NoneLeft, IsListEnd}
use Rattle.ledger.specs.Laws.{OneAnswer}
use Rattle.ledger.specs.Lists.{Side, IsSwept}
use Rattle.ledger.specs.State.{State}
use Rattle.ledger.specs.Telling.{Became, became}
use Rattle.ledger.proofs.Places.{names_apart}

-- maps that answer alike are one
one_map : {X : Type 0} (m n : FinMap name_cmp X) → ((name : List ℕ) → get m name ≡ get n name) → m ≡ n
one_map m n alike = same_map nat_list_cmp_total names_apart m n alike

cluster_is : (c d : Cluster) → c.limits ≡ d.limits → c.version ≡ d.version → c.nodes ≡ d.nodes → c.places ≡ d.places → c.ticket ≡ d.ticket → c ≡ d
cluster_is c d limits version nodes places ticket i = record { limits = limits i; version = version i; nodes = nodes i; places = places i; ticket = ticket i }

state_is : (s t : State) → s.cluster ≡ t.cluster → s.room ≡ t.room → s.pods ≡ t.pods → s.nodes ≡ t.nodes → s.of_nodes ≡ t.of_nodes → s.of_pods ≡ t.of_pods → s.rested ≡ t.rested → s.left_out ≡ t.left_out → s ≡ t
state_is s t cluster room pods nodes of_nodes of_pods rested left_out i =
    record { cluster = cluster i; room = room i; pods = pods i; nodes = nodes i; of_nodes = of_nodes i; of_pods = of_pods i; rested = rested i; left_out = left_out i }

module _ {X Y R : Type 0} (side : Side X Y R) (lists : ℕ) (old one other : FinMap name_cmp X) (book left also : Cluster) (a : IsSwept side lists old one book left) (b : IsSwept side lists old other book also) where
  pub one_known : one ≡ other
  one_known = one_map one other (λ name. a.known name ∙ sym (b.known name))

  pub one_table : side.table left ≡ side.table also
  one_table = one_map (side.table left) (side.table also) (λ name. a.standing name ∙ sym (b.standing name))

  pub one_version : left.version ≡ also.version
  one_version = let tables : len (side.table left) ≡ len (side.table also) = ap len one_table in let first = a.version in let second = b.version in omega (arith, tables, first, second)

  pub one_rest : side.rest left ≡ side.rest also
  one_rest = a.rest ∙ sym b.rest

module _ (s one other : State) where
  nodes_once : NodesEnd s one → NodesEnd s other → one ≡ other
  nodes_once a b =
      let rest = one_rest _ _ _ _ _ _ _ _ a.swept b.swept in
      state_is one other
      (cluster_is one.cluster other.cluster (ap (λ r. r.1) rest) (one_version _ _ _ _ _ _ _ _ a.swept b.swept) (one_table _ _ _ _ _ _ _ _ a.swept b.swept) (ap (λ r. r.0) rest) (ap (λ r. r.2) rest))
      (a.room ∙ sym b.room) (a.pods ∙ sym b.pods) (one_known _ _ _ _ _ _ _ _ a.swept b.swept) (a.of_nodes ∙ sym b.of_nodes) (a.of_pods ∙ sym b.of_pods) (a.rested ∙ sym b.rested) (a.left_out ∙ sym b.left_out)

  pods_once : PodsEnd s one → PodsEnd s other → one ≡ other
  pods_once a b =
      let rest = one_rest _ _ _ _ _ _ _ _ a.swept b.swept in
      state_is one other
      (cluster_is one.cluster other.cluster (ap (λ r. r.1) rest) (one_version _ _ _ _ _ _ _ _ a.swept b.swept) (ap (λ r. r.0) rest) (one_table _ _ _ _ _ _ _ _ a.swept b.swept) (ap (λ r. r.2) rest))
      (a.room ∙ sym b.room) (one_known _ _ _ _ _ _ _ _ a.swept b.swept) (a.nodes ∙ sym b.nodes) (a.of_nodes ∙ sym b.of_nodes) (a.of_pods ∙ sym b.of_pods) (a.rested ∙ sym b.rested) (a.left_out ∙ sym b.left_out)

  ended_once : (kind : Kind) → HasEnded kind s one → HasEnded kind s other → one ≡ other
  ended_once kinds.Nodes a b = nodes_once a b
  ended_once kinds.Pods a b = pods_once a b

  -- in which of three ways a list ends
  abbrev Way : Kind → Answer → State → Type 0
  Way kind answer new = ((answer ≡ answers.Told) × EndsList kind s new) ⊎ (((answer ≡ answers.Old) × NoneEnds kind s new) ⊎ ((answer ≡ answers.Full) × NoneLeft kind s new))

  way : (kind : Kind) (answer : Answer) (new : State) → IsListEnd kind s answer new → Way kind answer new
  way kind answers.Told new end = inl (refl, end)
  way kind answers.Old new end = inr (inl (refl, end))
  way kind answers.Full new end = inr (inr (refl, end))
  way kind (answers.Granted ticket) new end = absurd (end)
  way kind answers.Shut new end = absurd (end)
  way kind answers.NotWaiting new end = absurd (end)
  way kind (answers.Refused why) new end = absurd (end)
  way kind answers.Read new end = absurd (end)

  one_way : (kind : Kind) (answer also : Answer) → Way kind answer one → Way kind also other → (answer ≡ also) × (one ≡ other)
  one_way kind answer also (inl a) (inl b) = (a.0 ∙ sym b.0, ended_once kind a.1.ended b.1.ended)
  one_way kind answer also (inl a) (inr (inl b)) = absurd (let on = a.1.listing in let off = b.1.none in cc)
  one_way kind answer also (inl a) (inr (inr b)) = absurd (let early = a.1.early in let late = b.1.late in omega (arith, early, late))
  one_way kind answer also (inr (inl a)) (inl b) = absurd (let on = b.1.listing in let off = a.1.none in cc)
  one_way kind answer also (inr (inl a)) (inr (inl b)) = (a.0 ∙ sym b.0, a.1.same ∙ sym b.1.same)
  one_way kind answer also (inr (inl a)) (inr (inr b)) = absurd (let on = b.1.listing in let off = a.1.none in cc)
  one_way kind answer also (inr (inr a)) (inl b) = absurd (let early = b.1.early in let late = a.1.late in omega (arith, early, late))
  one_way kind answer also (inr (inr a)) (inr (inl b)) = absurd (let on = a.1.listing in let off = b.1.none in cc)
  one_way kind answer also (inr (inr a)) (inr (inr b)) = (a.0 ∙ sym b.0, a.1.same ∙ sym b.1.same)

  -- what both are told to have become is one
  one_became : (answer also : Answer) (b : Became) → became answer one ≡ b → became also other ≡ b → (answer ≡ also) × (one ≡ other)
  one_became answer also b first second = (ap (λ b. b.answer) (first ∙ sym second), ap (λ b. b.state) (first ∙ sym second))

pub one_answer : OneAnswer
one_answer s one other (events.ListBegins kind) answer also a b = one_became s one other answer also _ a b
one_answer s one other (events.ListEnds kind) answer also a b = one_way s one other kind answer also (way s one other kind answer one a) (way s one other kind also other b)
one_answer s one other (events.Deaf kind) answer also a b = one_became s one other answer also _ a b
one_answer s one other (events.Hears kind) answer also a b = one_became s one other answer also _ a b
one_answer s one other (events.Node version node) answer also a b = one_became s one other answer also _ a b
one_answer s one other (events.NodeGone name) answer also a b = one_became s one other answer also _ a b
one_answer s one other (events.Waits version uid request) answer also a b = one_became s one other answer also _ a b
one_answer s one other (events.Withheld version uid) answer also a b = one_became s one other answer also _ a b
one_answer s one other (events.Stands version uid node request) answer also a b = one_became s one other answer also _ a b
one_answer s one other events.Unread answer also a b = one_became s one other answer also _ a b
one_answer s one other (events.Gone uid) answer also a b = one_became s one other answer also _ a b
one_answer s one other events.Rested answer also a b = one_became s one other answer also _ a b
one_answer s one other (events.Bind uid node) answer also a b = one_became s one other answer also _ a b
one_answer s one other (events.Answered uid ticket outcome) answer also a b = one_became s one other answer also _ a b
one_answer s one other (events.Read uid ticket said) answer also a b = one_became s one other answer also _ a b
