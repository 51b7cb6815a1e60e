use Rattle.std.proofs.Common.{◌≡◌, ℕ, ◌+◌, ◌-◌, ◌≤◌, arith}
use Rattle.pieces.specs.Pieces.{begins, ArePieces}
use Rattle.pieces.proofs.Cutting.{begins_rise}
use Rattle.pool.proofs.lent_kit.places_of.Goals as goal

-- a piece ends where the next one begins, and not before it begins
ends : (nodes pieces piece one next : ℕ) → piece + 1 ≤ pieces → one ≡ begins nodes pieces piece → next ≡ begins nodes pieces (piece + 1) → one ≤ next
ends nodes pieces piece one next there here behind =
    omega (arith, here, behind, begins_rise nodes pieces piece (piece + 1) (omega (arith, there)) (omega arith))

has : (nodes pieces piece one next : ℕ) → pieces ≤ 64 → piece + 1 ≤ pieces → one ≡ begins nodes pieces piece → next ≡ begins nodes pieces (piece + 1)
    → ArePieces nodes pieces piece 1 (next - one)
has nodes pieces piece one next few there here behind = record {
  some = omega arith;
  few = few;
  there = there;
  all = omega (arith, here, behind);
}

pub overflow_sub-result : goal.overflow_sub-result
overflow_sub-result g c = ends _ _ _ _ _ c.requires.there c.begin-2.ensures.place c.begin.ensures.place

pub returns : goal.returns
returns g c = has _ _ _ _ _ c.requires.few c.requires.there c.begin-2.ensures.place c.begin.ensures.place
