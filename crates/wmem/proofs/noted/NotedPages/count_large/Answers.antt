use Rattle.std.proofs.Common.{◌≡◌, ◌≤◌, ◌+◌, ◌*◌, ℕ, true, false, length, subst, sym, ap, arith}
use Rattle.std.proofs.lemmas.Grind.{div_ceil_times}
use Rattle.wmem.specs.inside.Noted.{Noted}
use Rattle.wmem.proofs.NotedLemmas.{AreMarked, none_yet, one_more, all_marked}
use Rattle.wmem.proofs.noted.NotedPages.count_large.Goals as goal
use Rattle.wmem.proofs.noted.NotedPages.count_large.Goals.{then-has_noted, else-has_noted}

pub loop-large-init : goal.loop-large-init
loop-large-init c = (none_yet c.args.self.now.flags, omega arith)

pub loop-large-preserved : goal.loop-large-preserved
loop-large-preserved c =
    let flags = c.args.self.now.flags in
    let many = λ (n : ℕ). AreMarked flags (c.loop-large.large + 1) n in
    elim c.if-has_noted.branch [
      | then-has_noted w ↦ (
        subst many (sym w.count-is) (one_more flags c.loop-large.large c.loop-large.count true c.loop-large.invariant.0 (λ e. absurd (cc e))),
        omega (arith, w.count-is, c.loop-large.invariant.1),
      )
      | else-has_noted w ↦ (
        subst many (omega (arith, w.count-is)) (one_more flags c.loop-large.large c.loop-large.count false c.loop-large.invariant.0 w.if-has_noted.ensures),
        omega (arith, w.count-is, c.loop-large.invariant.1),
      )
    ]

pub returns : goal.returns
returns c =
    let same : length c.self.inside.is_noted.items ≡ length c.args.self.now.flags = ap (λ (n : Noted). length n.flags) c.self.view_is in
    let long : length c.args.self.now.flags ≡ c.len.result = omega (arith, c.len.ensures, c.self.inside.is_noted.ok.0, same) in
    let enough = (div_ceil_times c.len.result 16 (omega arith)).0 in
    let all : length c.args.self.now.flags ≤ c.loop-large.large * 16 = omega (arith, long, enough, c.div_ceil-large-end.ensures, c.loop-large-test.false) in
    all_marked c.args.self.now.flags c.loop-large.large c.loop-large.count all c.loop-large.invariant.0
