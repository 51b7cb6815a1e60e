-- What a ledger has of a world, and how it stays so.
use Rattle.std.proofs.Common.{◌≡◌, inl, inr, ℕ, true, false, List, None, Some, sym, ap, subst, ◌∙◌}
use Rattle.std.specs.Str.{bytes_eq}
use Rattle.std.specs.FinMap.{get, insert, remove}
use Rattle.quant.specs.declared.amount.Res.{Res}
use Rattle.quant.specs.declared.objects.Node.{Node}
use Rattle.book.specs.Cluster.{Places}
use Rattle.book.specs.Totals.{IsWithin}
use Rattle.book.specs.declared.place.Place.{Place}
use Rattle.ledger.specs.declared.known.Known.{Known}
use Rattle.ledger.specs.Lists.{has_place}
use Rattle.ledger.specs.State.{State}
use Rattle.ledger.proofs.Included.{cases_name, put_here, put_away, out_away, IsSamePlace, same_itself}

-- a pod counts somewhere
abbrev pub Counts : State → List ℕ → Type 0
Counts s uid = (q : Place) × (get s.cluster.places uid ≡ Some q)

-- what the ledger has of what stands or may come to stand, and of what nodes have
pub record Holds (s : State) (expected : Places) (room : List ℕ → Res) : Type 0 where
  pub rows : (name : List ℕ) (row : Node) → get s.cluster.nodes name ≡ Some row → IsWithin row.allocatable (room name)
  pub same : (uid : List ℕ) (p q : Place) → get expected uid ≡ Some p → get s.cluster.places uid ≡ Some q → IsSamePlace p q
  pub covered : s.of_pods.listed ≡ true → s.left_out.any ≡ false → (uid : List ℕ) (p : Place) → get expected uid ≡ Some p → Counts s uid
  pub placed : (uid : List ℕ) (k : Known) → get s.pods uid ≡ Some k → has_place k.stage ≡ true → Counts s uid

-- nothing becomes surer than it was
abbrev pub IsNoSurer : State → State → Type 0
IsNoSurer s s' = s'.of_pods.listed ≡ true → s'.left_out.any ≡ false → (s.of_pods.listed ≡ true) × (s.left_out.any ≡ false)

-- some place, at another name for the same map
moved : (m n : Places) (uid : List ℕ) → n ≡ m → (q : Place) × (get m uid ≡ Some q) → (q : Place) × (get n uid ≡ Some q)
moved m n uid e there = (there.0, ap (λ p. get p uid) e ∙ there.1)

module _ (s s' : State) (expected : Places) (room : List ℕ → Res) (h : Holds s expected room) (rows : s'.cluster.nodes ≡ s.cluster.nodes) (surer : IsNoSurer s s') where
  rows_stay : (name : List ℕ) (row : Node) → get s'.cluster.nodes name ≡ Some row → IsWithin row.allocatable (room name)
  rows_stay name row is = h.rows name row (sym (ap (λ m. get m name) rows) ∙ is)

  -- what counts stays
  pub kept : s'.cluster.places ≡ s.cluster.places → ((uid : List ℕ) (k : Known) → get s'.pods uid ≡ Some k → has_place k.stage ≡ true → Counts s uid) → Holds s' expected room
  kept places still = record {
    rows = rows_stay;
    same = λ uid p q there is. h.same uid p q there (sym (ap (λ m. get m uid) places) ∙ is);
    covered = λ listed whole uid p there. let before = surer listed whole in moved s.cluster.places s'.cluster.places uid places (h.covered before.0 before.1 uid p there);
    placed = λ uid k is has. moved s.cluster.places s'.cluster.places uid places (still uid k is has);
  }

  module _ (uid : List ℕ) (place : Place) (k : Known) (places : s'.cluster.places ≡ insert s.cluster.places uid place) (pods : s'.pods ≡ insert s.pods uid k) where
    place_here : get s'.cluster.places uid ≡ Some place
    place_here = ap (λ m. get m uid) places ∙ put_here s.cluster.places uid place

    place_away : (q : List ℕ) → bytes_eq q uid ≡ false → get s'.cluster.places q ≡ get s.cluster.places q
    place_away q other = ap (λ m. get m q) places ∙ put_away s.cluster.places uid place q other

    -- a pod counts where it is
    pub put : ((p : Place) → get expected uid ≡ Some p → IsSamePlace p place) → Holds s' expected room
    put right = record {
      rows = rows_stay;
      same = λ v p q there is.
          elim (cases_name v uid) [
            | inl here ↦
                let q_is : place ≡ q = let both : Some place ≡ Some q = sym place_here ∙ ap (get s'.cluster.places) (sym here) ∙ is in cc in
                subst (IsSamePlace p) q_is (right p (ap (get expected) (sym here) ∙ there))
            | inr other ↦ h.same v p q there (sym (place_away v other.1) ∙ is)
          ];
      covered = λ listed whole v p there.
          elim (cases_name v uid) [
            | inl here ↦ (place, ap (get s'.cluster.places) here ∙ place_here)
            | inr other ↦ let before = surer listed whole in let at = h.covered before.0 before.1 v p there in (at.0, place_away v other.1 ∙ at.1)
          ];
      placed = λ v l is has.
          elim (cases_name v uid) [
            | inl here ↦ (place, ap (get s'.cluster.places) here ∙ place_here)
            | inr other ↦ let at = h.placed v l (sym (ap (λ m. get m v) pods ∙ put_away s.pods uid k v other.1) ∙ is) has in (at.0, place_away v other.1 ∙ at.1)
          ];
    }

    -- and where a bind was asked for, it is expected there
    pub grant : Holds s' (insert expected uid place) room
    grant = record {
      rows = rows_stay;
      same = λ v p q there is.
          elim (cases_name v uid) [
            | inl here ↦
                let q_is : place ≡ q = let both : Some place ≡ Some q = sym place_here ∙ ap (get s'.cluster.places) (sym here) ∙ is in cc in
                let p_is : place ≡ p = let both : Some place ≡ Some p = sym (put_here expected uid place) ∙ ap (get (insert expected uid place)) (sym here) ∙ there in cc in
                subst (IsSamePlace p) (sym p_is ∙ q_is) (same_itself p)
            | inr other ↦ h.same v p q (sym (put_away expected uid place v other.1) ∙ there) (sym (place_away v other.1) ∙ is)
          ];
      covered = λ listed whole v p there.
          elim (cases_name v uid) [
            | inl here ↦ (place, ap (get s'.cluster.places) here ∙ place_here)
            | inr other ↦ let before = surer listed whole in let at = h.covered before.0 before.1 v p (sym (put_away expected uid place v other.1) ∙ there) in (at.0, place_away v other.1 ∙ at.1)
          ];
      placed = λ v l is has.
          elim (cases_name v uid) [
            | inl here ↦ (place, ap (get s'.cluster.places) here ∙ place_here)
            | inr other ↦ let at = h.placed v l (sym (ap (λ m. get m v) pods ∙ put_away s.pods uid k v other.1) ∙ is) has in (at.0, place_away v other.1 ∙ at.1)
          ];
    }

  -- a pod that counts nowhere any more
  pub out : (uid : List ℕ) → s'.cluster.places ≡ remove s.cluster.places uid → ((v : List ℕ) → bytes_eq v uid ≡ false → get s'.pods v ≡ get s.pods v) → ((k : Known) → get s'.pods uid ≡ Some k → has_place k.stage ≡ true → ⊥) → get expected uid ≡ None → Holds s' expected room
  out uid places others waits off = record {
    rows = rows_stay;
    same = λ v p q there is.
        elim (cases_name v uid) [
          | inl here ↦ absurd (let both : Some p ≡ None = sym there ∙ ap (get expected) here ∙ off in cc)
          | inr other ↦ h.same v p q there (sym (away v other.1) ∙ is)
        ];
    covered = λ listed whole v p there.
        elim (cases_name v uid) [
          | inl here ↦ absurd (let both : Some p ≡ None = sym there ∙ ap (get expected) here ∙ off in cc)
          | inr other ↦ let before = surer listed whole in let at = h.covered before.0 before.1 v p there in (at.0, away v other.1 ∙ at.1)
        ];
    placed = λ v l is has.
        elim (cases_name v uid) [
          | inl here ↦ absurd (waits l (ap (get s'.pods) (sym here) ∙ is) has)
          | inr other ↦ let at = h.placed v l (sym (others v other.1) ∙ is) has in (at.0, away v other.1 ∙ at.1)
        ];
  }
    where
      away : (v : List ℕ) → bytes_eq v uid ≡ false → get s'.cluster.places v ≡ get s.cluster.places v
      away v other = ap (λ m. get m v) places ∙ out_away s.cluster.places uid v other
