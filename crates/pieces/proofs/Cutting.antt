-- Where pieces begin, and what they are together.
use Rattle.std.proofs.Common.{◌≡◌, ℕ, zero, suc, ◌+◌, ◌-◌, ◌*◌, ◌/◌, ◌%◌, ◌<◌, ◌≤◌, List, ◌++◌, length, take, drop, ap, refl, sym, ◌∙◌, add-one, zero-add, arith}
use Rattle.std.proofs.Math.Nat.{mul_assoc, mul_comm, mul-add, mul-add-div_right, mul-div_right, mul-le-mul_right, div-mul-le_self, div-le_self}
use Rattle.std.proofs.Math.Seq.{take-add}
use Rattle.std.proofs.lemmas.Nat.{div-add-mod', le-div}
use Rattle.std.proofs.lemmas.List.{take_all, drop-drop}
use Rattle.pieces.specs.Pieces.{begins, places_of, nodes_of, first_pieces, ArePieces}

-- the place is reckoned without a product of all nodes
pub begins_by_parts : (nodes pieces piece : ℕ) → 0 < pieces → nodes / pieces * piece + nodes % pieces * piece / pieces ≡ begins nodes pieces piece
begins_by_parts nodes pieces piece some =
    let q : ℕ = nodes / pieces in
    let r : ℕ = nodes % pieces in
    let whole : q * pieces + r ≡ nodes = div-add-mod' nodes pieces in
    let far : piece * (q * pieces) ≡ q * piece * pieces = sym (mul_assoc piece q pieces) ∙ ap (λ n. n * pieces) (mul_comm piece q) in
    let product : piece * nodes ≡ q * piece * pieces + r * piece =
    ap (λ n. piece * n) (sym whole) ∙ (mul-add piece (q * pieces) r ∙ (ap (λ n. n + piece * r) far ∙ ap (λ n. q * piece * pieces + n) (mul_comm piece r))) in
    sym (ap (λ n. n / pieces) product ∙ mul-add-div_right some (q * piece) (r * piece))

-- no piece begins before an earlier one
pub begins_rise : (nodes pieces one later : ℕ) → 0 < pieces → one ≤ later → begins nodes pieces one ≤ begins nodes pieces later
begins_rise nodes pieces one later some after =
    let less : one * nodes ≤ later * nodes = mul-le-mul_right nodes after in
    let part : one * nodes / pieces * pieces ≤ one * nodes = div-mul-le_self (one * nodes) pieces in
    le-div (one * nodes / pieces) (later * nodes) pieces some (omega (arith, less, part))

-- behind the last piece there is no node
pub begins_last : (nodes pieces : ℕ) → 0 < pieces → begins nodes pieces pieces ≡ nodes
begins_last nodes pieces some = mul-div_right nodes some

-- no piece begins behind the last node
pub begins_within : (nodes pieces piece : ℕ) → 0 < pieces → piece ≤ pieces → begins nodes pieces piece ≤ nodes
begins_within nodes pieces piece some there = omega (arith, begins_rise nodes pieces piece pieces some there, begins_last nodes pieces some)

-- the first piece begins at the first node
pub begins_first : (nodes pieces : ℕ) → 0 < pieces → begins nodes pieces 0 ≡ 0
begins_first nodes pieces some = omega (arith, div-le_self (0 * nodes) pieces)

-- the first pieces are the first nodes
first_pieces_are : {N : Type 0} (nodes : List N) (pieces many : ℕ) → 0 < pieces → first_pieces nodes pieces many ≡ take (begins (length nodes) pieces many) nodes
first_pieces_are nodes pieces zero some = sym (ap (λ k. take k nodes) (begins_first (length nodes) pieces some))
first_pieces_are nodes pieces (suc many) some =
    let n : ℕ = length nodes in
    let next : begins n pieces (many + 1) ≡ begins n pieces (suc many) = ap (λ k. begins n pieces k) (add-one many) in
    let rise : begins n pieces many ≤ begins n pieces (many + 1) = begins_rise n pieces many (many + 1) some (omega arith) in
    ap (λ xs. xs ++ nodes_of nodes pieces many 1) (first_pieces_are nodes pieces many some)
    ∙ (sym (take-add (begins n pieces many) (places_of n pieces many 1) nodes) ∙ ap (λ k. take k nodes) (omega (arith, rise, next)))

-- all pieces, put together in order, are the nodes
pub pieces_are_all : {N : Type 0} (nodes : List N) (pieces : ℕ) → 0 < pieces → first_pieces nodes pieces pieces ≡ nodes
pieces_are_all nodes pieces some =
    first_pieces_are nodes pieces pieces some ∙ take_all (begins (length nodes) pieces pieces) nodes (omega (arith, begins_last (length nodes) pieces some))

-- of some pieces, the first ones end where the others begin
between : (nodes pieces first many half : ℕ) → 0 < pieces → half ≤ many → (begins nodes pieces first ≤ begins nodes pieces (first + half)) × (begins nodes pieces (first + half) ≤ begins nodes pieces (first + many))
between nodes pieces first many half some within =
    (begins_rise nodes pieces first (first + half) some (omega arith), begins_rise nodes pieces (first + half) (first + many) some (omega (arith, within)))

-- the first of some pieces
pub front_pieces : (nodes pieces first many half places : ℕ) → 0 < half → half ≤ many → ArePieces nodes pieces first many places →
    ArePieces nodes pieces first half (places_of nodes pieces first half)
front_pieces nodes pieces first many half places some within are = record {
  some = some;
  few = are.few;
  there = omega (arith, are.there, within);
  all = refl;
}

-- the pieces behind the first ones
pub behind : (nodes pieces first many half : ℕ) → half ≤ many → begins nodes pieces (first + half + (many - half)) ≡ begins nodes pieces (first + many)
behind nodes pieces first many half within = ap (begins nodes pieces) (omega (arith, within))

pub back_pieces : (nodes pieces first many half places : ℕ) → half < many → ArePieces nodes pieces first many places →
    ArePieces nodes pieces (first + half) (many - half) (places - places_of nodes pieces first half)
back_pieces nodes pieces first many half places within are =
    let rise = between nodes pieces first many half (omega (arith, are.there, are.some)) (omega (arith, within)) in
    let last = behind nodes pieces first many half (omega (arith, within)) in
    record {
      some = omega (arith, within);
      few = are.few;
      there = omega (arith, are.there, within);
      all = omega (arith, are.all, rise.0, rise.1, last);
    }

-- the nodes of some pieces are those of the first of them and then those of the others
pub nodes_of_both : {N : Type 0} (nodes : List N) (pieces first many half : ℕ) → 0 < pieces → half ≤ many →
    nodes_of nodes pieces first half ++ nodes_of nodes pieces (first + half) (many - half) ≡ nodes_of nodes pieces first many
nodes_of_both nodes pieces first many half some within =
    let n : ℕ = length nodes in
    let rise = between n pieces first many half some within in
    let last = behind n pieces first many half within in
    let from : drop (places_of n pieces first half) (drop (begins n pieces first) nodes) ≡ drop (begins n pieces (first + half)) nodes =
    drop-drop (places_of n pieces first half) (begins n pieces first) nodes ∙ ap (λ k. drop k nodes) (omega (arith, rise.0)) in
    sym (ap (λ k. take k (drop (begins n pieces first) nodes)) (omega (arith, rise.0, rise.1, last))
    ∙ (take-add (places_of n pieces first half) (places_of n pieces (first + half) (many - half)) (drop (begins n pieces first) nodes)
    ∙ ap (λ xs. take (places_of n pieces first half) (drop (begins n pieces first) nodes) ++ take (places_of n pieces (first + half) (many - half)) xs) from))

-- all pieces together are the nodes
pub nodes_of_all : {N : Type 0} (nodes : List N) (pieces : ℕ) → 0 < pieces → nodes_of nodes pieces 0 pieces ≡ nodes
nodes_of_all nodes pieces some =
    let n : ℕ = length nodes in
    let all : places_of n pieces 0 pieces ≡ n = ap (λ k. begins n pieces k - begins n pieces 0) (zero-add pieces) ∙ omega (arith, begins_first n pieces some, begins_last n pieces some) in
    ap (λ k. take (places_of n pieces 0 pieces) (drop k nodes)) (begins_first n pieces some) ∙ take_all (places_of n pieces 0 pieces) nodes (omega (arith, all))

-- the first of some pieces have no more places than all of them
pub front_within : (nodes pieces first many half places : ℕ) → half ≤ many → ArePieces nodes pieces first many places → places_of nodes pieces first half ≤ places
front_within nodes pieces first many half places within are =
    let rise = between nodes pieces first many half (omega (arith, are.there, are.some)) within in
    omega (arith, are.all, rise.0, rise.1)

-- all pieces have all places
pub all_pieces : (nodes pieces : ℕ) → 0 < pieces → pieces ≤ 64 → ArePieces nodes pieces 0 pieces nodes
all_pieces nodes pieces some few = record {
  some = some;
  few = few;
  there = omega arith;
  all = omega (arith, begins_first nodes pieces some, begins_last nodes pieces some, ap (begins nodes pieces) (zero-add pieces));
}
