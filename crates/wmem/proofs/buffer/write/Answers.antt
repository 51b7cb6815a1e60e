use Rattle.std.proofs.Common.{◌+◌, ◌≤◌, ℕ, [], ◌∷◌, length, arith, ◌∙◌, ap}
use Rattle.std.proofs.lemmas.Nat.{and_mask}
use Rattle.wmem.specs.Access.{with_bytes}
use Rattle.wmem.proofs.Buffers.{set-with_bytes}
use Rattle.wmem.proofs.buffer.write.Goals as goal

pub returns-in-One : goal.returns-in-One
returns-in-One c =
    let within : c.args.at + 1 ≤ length c.args.bytes.now = rw c.in-One.is at c.requires in
    rw c.in-One.is
    (set-with_bytes c.args.bytes.now c.args.at _ (omega arith)
    ∙ ap (λ (byte : ℕ). with_bytes c.args.bytes.now c.args.at (byte ∷ [])) (and_mask c.args.value 8))
