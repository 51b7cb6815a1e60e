use Rattle.std.proofs.Common.{sym, subst, ◌∙◌}
use Rattle.quant.specs.declared.amount.Res.{Res}
use Rattle.std.specs.Prelude.{ℕ, List}
use Rattle.book.specs.inside.Tables.{IsShown}
use Rattle.book.proofs.book.Book.finish.Goals as goal

-- as much is used of each node as before
pub invariant_of-self : goal.invariant_of-self
invariant_of-self c = (
  c.self.invariant.0,
  c.finish.ensures.room ∙ c.self.invariant.1,
  subst (λ (f : List ℕ → Res). IsShown f c.self.inside.nodes) (sym c.finish.ensures.alike) c.self.invariant.2,
)
