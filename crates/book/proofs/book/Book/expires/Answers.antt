use Rattle.std.proofs.Common.{◌≡◌, ℕ, List, true, subst}
use Rattle.std.specs.Bool.{IsTrue}
use Rattle.book.specs.Cluster.{Cluster}
use Rattle.book.specs.Expiry.{is_expired}
use Rattle.book.proofs.book.Book.expires.Goals as goal

pub returns-clause-some : goal.returns-clause-some
returns-clause-some c = subst (λ (b : Cluster). IsTrue c.expires.result → (uid : List ℕ) × (is_expired b.places c.args.now uid ≡ true)) c.self.view_is c.expires.ensures.some
