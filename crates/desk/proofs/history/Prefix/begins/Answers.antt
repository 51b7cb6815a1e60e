use Rattle.std.proofs.Common.{◌≤◌, ap, subst, arith, length, List}
use Rattle.std.proofs.lemmas.Bool.Decides.{nat_tests}
use mathlib.Core.List.{IsPrefix}
use Rattle.desk.specs.History.{Call}
use Rattle.desk.specs.inside.Shared.{Prefix}
use Rattle.desk.proofs.Beginnings.{prefix_shorter}
use Rattle.desk.proofs.history.Prefix.begins.Goals as goal

-- of two beginnings of one history the shorter begins the longer
pub returns : goal.returns
returns c less =
    let both = c.learn.new.self.log in
    let this : IsPrefix c.self.inside.seen.log both = subst (λ (l : List Call). IsPrefix l both) (ap (λ s. s.log) c.again-both.ensures) c.learn.ensures.2 in
    let short : c.self.inside.calls ≤ c.other.inside.calls = grind (arith, nat_tests, less) in
    let le : length c.self.inside.seen.log ≤ length c.other.inside.seen.log = omega (arith, c.self.invariant.0, c.other.invariant.0, short) in
    rw (← ap (λ (k : Prefix). k.list) c.self.view_is, ← ap (λ (k : Prefix). k.list) c.other.view_is) (prefix_shorter c.self.inside.seen.log c.other.inside.seen.log both this c.learn.ensures.3 le)
