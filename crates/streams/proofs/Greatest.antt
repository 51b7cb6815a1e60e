-- Limits are told by their numbers.
use Rattle.std.proofs.Common.{◌≡◌, ℕ, ◌≤◌, ap, subst, ◌∙◌, lit≤}
use Rattle.std.proofs.Math.Bridge.{le_prop}
use Rattle.quant.specs.declared.limits.TheConstants.{MAX_NODES, MAX_PLACED, MAX_QUEUED}
use Rattle.book.specs.declared.limits.Limits.{Limits}
use Rattle.streams.specs.Greatest.{limits}

-- the limits of these numbers
limited : (a b c : ℕ) → a ≤ MAX_NODES → b ≤ MAX_PLACED → c ≤ MAX_QUEUED → Limits
limited a b c p q r = record { nodes = a; placed = b; queued = c; few_nodes = p; few_placed = q; few_queued = r }

-- limits of equal numbers are equal
limited-same : (a b c x y z : ℕ) (p : a ≤ MAX_NODES) (q : b ≤ MAX_PLACED) (r : c ≤ MAX_QUEUED) (p' : x ≤ MAX_NODES) (q' : y ≤ MAX_PLACED) (r' : z ≤ MAX_QUEUED) → a ≡ x → b ≡ y → c ≡ z → limited a b c p q r ≡ limited x y z p' q' r'
limited-same a b c x y z p q r p' q' r' e f g =
    subst (λ v. (h : v ≤ MAX_NODES) → limited a b c p q r ≡ limited v y z h q' r') e
    (λ h. subst (λ v. (k : v ≤ MAX_PLACED) → limited a b c p q r ≡ limited a v z h k r') f
    (λ k. subst (λ v. (j : v ≤ MAX_QUEUED) → limited a b c p q r ≡ limited a b v h k j) g
    (λ j. ap (λ s. limited a b c s q r) (le_prop p h) ∙ ap (λ s. limited a b c h s r) (le_prop q k) ∙ ap (λ s. limited a b c h k s) (le_prop r j))
    r') q')
    p'

-- limits with the greatest numbers are the greatest
pub limits_same : (l : Limits) → l.nodes ≡ MAX_NODES → l.placed ≡ MAX_PLACED → l.queued ≡ MAX_QUEUED → l ≡ limits
unfolding limited
limits_same l a b c = limited-same l.nodes l.placed l.queued MAX_NODES MAX_PLACED MAX_QUEUED l.few_nodes l.few_placed l.few_queued (lit≤ tt) (lit≤ tt) (lit≤ tt) a b c
