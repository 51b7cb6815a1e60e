-- What a ledger has of a world stays so by the end of a list, and by a bind.
use Rattle.std.proofs.Common.{◌≡◌, ℕ, Bool, true, false, not, ◌&&◌, ◌||◌, List, Option, None, Some, refl, sym, ap, ◌∙◌, arith}
use Rattle.std.specs.Prelude.{if◌then◌else◌, ◌==◌}
use Rattle.std.specs.FinMap.{get}
use Rattle.std.proofs.lemmas.Bool.Decides.{nat_tests}
use Rattle.quant.specs.declared.amount.Res.{Res}
use Rattle.book.specs.Cluster.{Places}
use Rattle.book.specs.declared.place.Place.{Place}
use Rattle.ledger.specs.declared.known.Known.{Known}
use Rattle.ledger.specs.Lists.{has_place, of_pods, is_named, is_left}
use Rattle.ledger.specs.Hearing.{NodesEnd, PodsEnd}
use Rattle.ledger.specs.State.{State}
use Rattle.ledger.proofs.Holding.{Counts, Holds}

-- what is there behind a test was there before
if_there : {X : Type 0} (b : Bool) (o : Option X) (x : X) → (if b then o else None) ≡ Some x → (b ≡ true) × (o ≡ Some x)
if_there true o x is = (refl, is)
if_there false o x is = cc

module _ (expected : Places) (room : List ℕ → Res) (s s' : State) (h : Holds s expected room) where
  -- a list of nodes ends
  pub by_nodes_end : NodesEnd s s' → Holds s' expected room
  by_nodes_end e =
      let places : s'.cluster.places ≡ s.cluster.places = ap (λ r. r.0) e.swept.rest in
      record {
        rows = λ name row is. h.rows name row (if_there _ _ row (sym (e.swept.standing name) ∙ is)).1;
        same = λ uid p q there is. h.same uid p q there (sym (ap (λ m. get m uid) places) ∙ is);
        covered = λ listed whole uid p there.
            let at = h.covered (sym (ap (λ h. h.listed) e.of_pods) ∙ listed) (sym (ap (λ l. l.any) e.left_out) ∙ whole) uid p there in
            (at.0, ap (λ m. get m uid) places ∙ at.1);
        placed = λ uid k is has. let at = h.placed uid k (sym (ap (λ m. get m uid) e.pods) ∙ is) has in (at.0, ap (λ m. get m uid) places ∙ at.1);
      }

  module _ (e : PodsEnd s s') (named : (uid : List ℕ) (p : Place) → get expected uid ≡ Some p → (k : Known) → get s.pods uid ≡ Some k → k.list ≡ s.of_pods.lists) (placed : s.of_pods.fresh ≡ true → (s.left_out.any && (s.left_out.list == s.of_pods.lists)) ≡ false → (uid : List ℕ) (p : Place) → get expected uid ≡ Some p → (k : Known) × (get s.pods uid ≡ Some k) × (has_place k.stage ≡ true)) where
    -- what is expected is left
    left_there : (uid : List ℕ) (o : Option Known) → get s.pods uid ≡ o → ((k : Known) → o ≡ Some k → k.list ≡ s.of_pods.lists) → is_left of_pods s.of_pods.lists o ≡ true
    left_there uid None is all = refl
    left_there uid (Some k) is all = grind (arith, nat_tests, all k refl)

    stays : (uid : List ℕ) (p : Place) → get expected uid ≡ Some p → Counts s uid → Counts s' uid
    stays uid p there at =
        let left : is_left of_pods s.of_pods.lists (get s.pods uid) ≡ true = left_there uid (get s.pods uid) refl (named uid p there) in
        (at.0, e.swept.standing uid ∙ ap (λ b. if b then get s.cluster.places uid else None) left ∙ at.1)

    -- a list that shows all: each pod has its place
    by_fresh : (fresh : Bool) → s.of_pods.fresh ≡ fresh → (s.of_pods.listed || fresh) ≡ true → (s.left_out.any && (not fresh || (s.left_out.list == s.of_pods.lists))) ≡ false → (uid : List ℕ) (p : Place) → get expected uid ≡ Some p → Counts s uid
    by_fresh true is listed whole uid p there = let at = placed is whole uid p there in h.placed uid at.0 at.1 at.2
    by_fresh false is listed whole uid p there = h.covered (grind (arith, listed)) (grind (arith, whole)) uid p there

    known_left : (uid : List ℕ) (k : Known) → (o : Option Known) → get s.pods uid ≡ o → (if is_named of_pods.list s.of_pods.lists o then o else None) ≡ Some k → (get s.pods uid ≡ Some k) × (is_left of_pods s.of_pods.lists (get s.pods uid) ≡ true)
    known_left uid k None is there = cc
    known_left uid k (Some l) is there =
        let both = if_there (is_named of_pods.list s.of_pods.lists (Some l)) (Some l) k there in
        (is ∙ both.1, grind (arith, is, both.0))

    -- a list of pods ends
    pub by_pods_end : Holds s' expected room
    by_pods_end = record {
      rows = λ name row is. h.rows name row (sym (ap (λ (r : _). get r.0 name) e.swept.rest) ∙ is);
      same = λ uid p q there is. h.same uid p q there (if_there _ _ q (sym (e.swept.standing uid) ∙ is)).1;
      covered = λ listed whole uid p there. stays uid p there (by_fresh s.of_pods.fresh refl (sym (ap (λ h. h.listed) e.of_pods) ∙ listed) (sym (ap (λ l. l.any) e.left_out) ∙ whole) uid p there);
      placed = λ uid k is has.
          let was = known_left uid k (get s.pods uid) refl (sym (e.swept.known uid) ∙ is) in
          let at = h.placed uid k was.0 has in
          (at.0, e.swept.standing uid ∙ ap (λ b. if b then get s.cluster.places uid else None) was.1 ∙ at.1);
    }
