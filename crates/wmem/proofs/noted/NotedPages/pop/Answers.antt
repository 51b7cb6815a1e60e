use Rattle.std.proofs.Common.{ℕ, List, false, arith, subst, length-set}
use Rattle.std.specs.Prelude.{vec_capacity}
use Rattle.wmem.specs.inside.Noted.{IsListed}
use Rattle.wmem.proofs.NotedLemmas.{take_listed}
use Rattle.wmem.proofs.noted.NotedPages.pop.Goals as goal

pub invariant_of-self-2 : goal.invariant_of-self-2
invariant_of-self-2 c =
    let noted = c.self.inside in
    let a = c.in_ok-page in
    let listed = subst (λ (l : List ℕ). IsListed (record { flags = noted.is_noted.items; order = l; room = vec_capacity noted.order })) a.ensures.items c.self.invariant.0 in (
      take_listed noted.is_noted.items c.pop.new.self.items _ _ a.page listed,
      omega (arith, length-set noted.is_noted.items a.page false, c.self.invariant.1, a.ensures.capacity),
      omega (arith, c.self.invariant.2, a.ensures.capacity),
    )
