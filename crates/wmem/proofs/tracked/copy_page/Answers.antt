use Rattle.std.proofs.Common.{◌≡◌, ℕ, ◌+◌, ◌-◌, take, drop, ap, ◌∙◌, arith}
use Rattle.wmem.specs.Access.{with_bytes}
use Rattle.wmem.proofs.tracked.copy_page.Goals as goal

pub returns : goal.returns
returns c =
    let count : (c.args.at + 256) - c.args.at ≡ 256 = omega arith in
    c.copy_at.ensures ∙ ap (λ (n : ℕ). with_bytes c.args.to.now c.args.at (take n (drop c.args.at c.args.from.now))) count
