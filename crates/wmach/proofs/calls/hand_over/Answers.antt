use Rattle.std.proofs.Common.{rules, ◌≡◌, ℕ, ◌+◌, ◌-◌, ◌^◌, ◌<◌, ◌≤◌, List, [], ◌∷◌, ◌++◌, length, take, sym, ap, ◌∙◌, subst, arith}
use Rattle.std.proofs.lemmas.List.{length-append, length-take-le, same_from_push}
use Rattle.wmach.proofs.calls.hand_over.Goals as goal

-- there are two operands
two_there : (n : ℕ) (slots below : List ℕ) (address limit : ℕ) → take n slots ≡ (below ++ address ∷ []) ++ limit ∷ [] → n ≤ length slots → 2 ≤ n
two_there n slots below address limit e within =
    let long = ap length e in
    let more = length-append (below ++ address ∷ []) (limit ∷ []) in
    let below_more = length-append below (address ∷ []) in
    let taken = length-take-le n slots within in
    omega (arith, long, more, below_more, taken)

pub topmost-limit-requires-clause-some : goal.topmost-limit-requires-clause-some
topmost-limit-requires-clause-some g c =
    let o = c.requires.operands in
    let two = two_there c.args.state.top c.args.slots.now o.0 o.1 o.2 o.3 c.requires.within in
    omega (arith, two)

pub topmost-limit-requires-clause-within : goal.topmost-limit-requires-clause-within
topmost-limit-requires-clause-within g c = c.requires.within

pub overflow_sub-state : goal.overflow_sub-state
overflow_sub-state g c =
    let o = c.requires.operands in
    let two = two_there c.args.state.top c.args.slots.now o.0 o.1 o.2 o.3 c.requires.within in
    omega (arith, two)

pub topmost-address-requires-clause-some : goal.topmost-address-requires-clause-some
topmost-address-requires-clause-some g c =
    let o = c.requires.operands in
    let two = two_there c.args.state.top c.args.slots.now o.0 o.1 o.2 o.3 c.requires.within in
    omega (arith, two)

pub topmost-address-requires-clause-within : goal.topmost-address-requires-clause-within
topmost-address-requires-clause-within g c = omega (arith, c.requires.within)

pub overflow_sub-state-2 : goal.overflow_sub-state-2
overflow_sub-state-2 g c =
    let o = c.requires.operands in
    two_there c.args.state.top c.args.slots.now o.0 o.1 o.2 o.3 c.requires.within

-- each is a number of 32 bits
pub overflow_cast-limit : goal.overflow_cast-limit
overflow_cast-limit g c =
    let o = c.requires.operands in
    let s = c.args.state in
    let slots = c.args.slots.now in
    let last = same_from_push (take (s.top - 1) slots) (o.0 ++ o.1 ∷ []) c.topmost-limit.result o.2 (sym c.topmost-limit.ensures ∙ o.3) in
    record { fits = subst (λ n. n < 2 ^ 32) (sym last.1) o.5 }

pub overflow_cast-address : goal.overflow_cast-address
overflow_cast-address g c =
    let o = c.requires.operands in
    let s = c.args.state in
    let slots = c.args.slots.now in
    let last = same_from_push (take (s.top - 1) slots) (o.0 ++ o.1 ∷ []) c.topmost-limit.result o.2 (sym c.topmost-limit.ensures ∙ o.3) in
    let first = same_from_push (take (s.top - 1 - 1) slots) o.0 c.topmost-address.result o.1 (sym c.topmost-address.ensures ∙ last.0) in
    record { fits = subst (λ n. n < 2 ^ 32) (sym first.1) o.4 }

-- the slot of the one below the topmost operand
second_below : (n m : ℕ) → 2 ≤ n → n ≤ m → n - 2 < m
second_below n m two within = omega arith

pub push-top-requires : goal.push-top-requires
push-top-requires g c =
    let o = c.requires.operands in
    second_below c.args.state.top (length c.args.slots.now) (two_there c.args.state.top c.args.slots.now o.0 o.1 o.2 o.3 c.requires.within) c.requires.within

-- `search rules` is found without this file too: with it, a wrong body that is tried here is
-- refused without a second run
pub returns : goal.returns
returns g c = search rules
