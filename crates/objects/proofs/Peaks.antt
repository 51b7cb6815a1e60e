-- What runs beside an init container, container by container.
use Rattle.std.proofs.Common.{◌≡◌, ℕ, suc, ◌+◌, ◌<◌, max, true, false, cond, List, ◌∷◌, length, get_or, drop, refl, arith, sym, ◌∙◌, ap, add-one}
use Rattle.std.proofs.Math.Seq.{drop-cons}
use Rattle.objects.specs.declared.containers.Container.{Container}
use Rattle.objects.specs.declared.resource.Resource.{Resource}
use Rattle.objects.specs.Containers.{of, beside_others, peak}

-- a list from one place on is the element there and what stands behind it
rest_of : (cs : List Container) (i : ℕ) (c : Container) → i < length cs → c ≡ get_or cs i c → drop i cs ≡ c ∷ drop (i + 1) cs
rest_of cs i c h is =
    drop-cons cs i c h ∙ ap (λ x. x ∷ drop (suc i) cs) (sym is) ∙ ap (λ n. c ∷ drop n cs) (sym (add-one i))

-- one more init container has started: the most that was needed, or is to be
pub peak_started : (resource : Resource) (beside most : ℕ) (cs : List Container) (i : ℕ) (c : Container)
    → i < length cs → c ≡ get_or cs i c
    → max (cond c.goes_on most (max (beside + of resource c.request) most)) (peak resource (beside + beside_others resource c) (drop (i + 1) cs))
    ≡ max most (peak resource beside (drop i cs))
peak_started resource beside most cs i c h is =
    let rest = drop (i + 1) cs in
    let a = of resource c.request in
    (elim c.goes_on as (λ b. max (cond b most (max (beside + a) most)) (peak resource (beside + cond b a 0) rest)
    ≡ max most (cond b (peak resource (beside + a) rest) (max (beside + a) (peak resource beside rest)))) [
      | true ↦ refl
      | false ↦
          let none : beside + 0 ≡ beside = omega arith in
          ap (λ n. max (max (beside + a) most) (peak resource n rest)) none ∙ omega arith
    ]) ∙ sym (ap (λ t. max most (peak resource beside t)) (rest_of cs i c h is))
