-- A function whose body is so many blocks, one in the other, round a call of itself: the rules are
-- followed through as many frames as there may be, by induction, since its call is too long to be
-- computed.
use Rattle.std.proofs.Common.{◌≡◌, ℕ, suc, zero, ◌+◌, ◌*◌, ◌<◌, ◌≤◌, List, [], ◌∷◌, Bool, true, false, Option, None, refl, ap, subst, arith}
use Rattle.std.specs.Prelude.{nat_lt}
use Rattle.std.proofs.lemmas.Bool.{lt-ltb}
use Rattle.wcode.specs.declared.value.Value.{Value}
use Rattle.wcode.specs.declared.value.BlockType.TheVariants.{Empty}
use Rattle.wcode.specs.declared.instruction.Plain.TheVariants.{Call}
use Rattle.wcode.specs.Syntax.{Body, done, plain, block}
use Rattle.rules.specs.declared.trap.Trap.{Trap}
use Rattle.rules.specs.declared.trap.Trap.TheVariants.{CallDepth}
use Rattle.wmach.specs.declared.outcome.Outcome.TheVariants as outcome
use Rattle.wmach.specs.Configuration.{Store, Setting, Execution, instructions, label, frame, invoke, trap, Configuration, Reduction, leads_to}
use Rattle.wmach.specs.Reduction.{reduce, most_frames}
use Rattle.wmach.specs.Outcome.{call_of, HasOutcome}
use Rattle.wmach.proofs.Going.{at, Quiet, Leads, stays, first_then, and_then, leads_label, leads_frame, chain_of}

-- so many blocks round a call of the module's first function
abbrev pub blocks_round_a_call : ℕ → Body
blocks_round_a_call zero = plain (Call 0) done
blocks_round_a_call (suc n) = block Empty (blocks_round_a_call n) done

-- a module of that function alone, which takes nothing and gives nothing
abbrev pub calls_itself_in : ℕ → Setting
calls_itself_in n = record {
  module_syntax = record {
    types = record { parameters = []; result = None } ∷ [];
    imports = [];
    functions = record { signature = 0; locals = []; body = blocks_round_a_call n } ∷ [];
    tables = [];
    memories = [];
    globals = [];
    exports = [];
    start = None;
    element_segments = [];
    data_segments = [];
  };
  records = λ import. None;
}

module _ (setting : Setting) (frames : ℕ) (store : Store) (locals : List Value) where
  -- a reduction to these, where nothing has ended and no branch or return comes next
  abbrev pub reduction_to : (cost : ℕ) → Execution → Reduction
  reduction_to cost e = record { cost = cost; to = at store locals e }

  -- one reduction, and then others
  pub one_then : (e f : Execution) (cost others : ℕ) (to : Configuration) → Quiet setting frames (at store locals e) (reduction_to cost f) → Leads setting frames (at store locals f) others to → Leads setting frames (at store locals e) (cost + others) to
  one_then e f cost others to q l = first_then setting frames (at store locals e) to (reduction_to cost f) others q l

  -- what is cut off inside a label is cut off at the same cost
  pub cut_off_in_label : (e : Execution) (t : Trap) (cost : ℕ) → Leads setting frames (at store locals e) cost (at store locals (trap t)) → Leads setting frames (at store locals (label [] 0 done e done)) cost (at store locals (trap t))
  cut_off_in_label e t cost l =
      let inside = leads_label setting frames [] 0 done done (at store locals e) (at store locals (trap t)) cost l in
      let out : Quiet setting frames (at store locals (label [] 0 done (trap t) done)) (reduction_to 0 (trap t)) = record { reduces = refl; unended = λ end. end; no_branch = λ depth. refl; no_return = refl } in
      let last = one_then (label [] 0 done (trap t) done) (trap t) 0 0 (at store locals (trap t)) out (stays setting frames (at store locals (trap t))) in
      let sum : cost + (0 + 0) ≡ cost = omega arith in
      subst (λ k. Leads setting frames (at store locals (label [] 0 done e done)) k (at store locals (trap t))) sum
      (and_then setting frames (at store locals (label [] 0 done e done)) (at store locals (label [] 0 done (trap t) done)) (at store locals (trap t)) cost (0 + 0) inside last)

  -- and so is what is cut off inside a frame
  pub cut_off_in_frame : (e : Execution) (t : Trap) (cost : ℕ) → Leads setting (frames + 1) (at store [] e) cost (at store [] (trap t)) → Leads setting frames (at store locals (frame [] 0 [] e done)) cost (at store locals (trap t))
  cut_off_in_frame e t cost l =
      let inside = leads_frame setting frames locals [] 0 done (at store [] e) (at store [] (trap t)) cost l in
      let out : Quiet setting frames (at store locals (frame [] 0 [] (trap t) done)) (reduction_to 0 (trap t)) = record { reduces = refl; unended = λ end. end; no_branch = λ depth. refl; no_return = refl } in
      let last = one_then (frame [] 0 [] (trap t) done) (trap t) 0 0 (at store locals (trap t)) out (stays setting frames (at store locals (trap t))) in
      let sum : cost + (0 + 0) ≡ cost = omega arith in
      subst (λ k. Leads setting frames (at store locals (frame [] 0 [] e done)) k (at store locals (trap t))) sum
      (and_then setting frames (at store locals (frame [] 0 [] e done)) (at store locals (frame [] 0 [] (trap t) done)) (at store locals (trap t)) cost (0 + 0) inside last)

  -- through so many blocks to the call, at a cost of one each
  pub blocks_to_the_call : (n : ℕ) (t : Trap) (cost : ℕ) → Leads setting frames (at store locals (invoke [] 0 done)) cost (at store locals (trap t)) → Leads setting frames (at store locals (instructions [] (blocks_round_a_call n))) (n + 1 + cost) (at store locals (trap t))
  blocks_to_the_call zero t cost l =
      let called : Quiet setting frames (at store locals (instructions [] (plain (Call 0) done))) (reduction_to 1 (invoke [] 0 done)) = record { reduces = refl; unended = λ end. absurd (cc); no_branch = λ depth. refl; no_return = refl } in
      one_then (instructions [] (plain (Call 0) done)) (invoke [] 0 done) 1 cost (at store locals (trap t)) called l
  blocks_to_the_call (suc n) t cost l =
      let entered : Quiet setting frames (at store locals (instructions [] (block Empty (blocks_round_a_call n) done))) (reduction_to 1 (label [] 0 done (instructions [] (blocks_round_a_call n)) done)) = record { reduces = refl; unended = λ end. absurd (cc); no_branch = λ depth. refl; no_return = refl } in
      let sum : 1 + (n + 1 + cost) ≡ suc n + 1 + cost = omega arith in
      subst (λ k. Leads setting frames (at store locals (instructions [] (block Empty (blocks_round_a_call n) done))) k (at store locals (trap t))) sum
      (one_then (instructions [] (block Empty (blocks_round_a_call n) done)) (label [] 0 done (instructions [] (blocks_round_a_call n)) done) 1 (n + 1 + cost) (at store locals (trap t)) entered
      (cut_off_in_label (instructions [] (blocks_round_a_call n)) t (n + 1 + cost) (blocks_to_the_call n t cost l)))

module _ (n : ℕ) (store : Store) where
  abbrev setting : Setting
  setting = calls_itself_in n

  -- a call where there is room for one frame more
  abbrev entered : Execution
  entered = frame [] 0 [] (label [] 0 done (instructions [] (blocks_round_a_call n)) done) done

  abbrev called_where : (room : Bool) → List Value → Option Reduction
  called_where true locals = leads_to 0 store locals entered
  called_where false locals = leads_to 0 store locals (trap CallDepth)

  call_reduces : (frames : ℕ) (locals : List Value) (room : Bool) → nat_lt frames most_frames ≡ room → reduce setting frames store locals (invoke [] 0 done) ≡ called_where room locals
  call_reduces frames locals true e = rw e refl
  call_reduces frames locals false e = rw e refl

  -- with room for so many frames more, a call is cut off at a cost of all their blocks and calls
  pub cut_off_by_depth : (room frames : ℕ) (locals : List Value) → frames + room ≡ 256 → Leads setting frames (at store locals (invoke [] 0 done)) (room * (n + 1)) (at store locals (trap CallDepth))
  cut_off_by_depth zero frames locals e =
      let full : frames ≡ 256 = omega (arith, e) in
      let stopped : Quiet setting frames (at store locals (invoke [] 0 done)) (reduction_to setting frames store locals 0 (trap CallDepth)) = record { reduces = call_reduces frames locals false (ap (λ k. nat_lt k 256) full); unended = λ end. end; no_branch = λ depth. refl; no_return = refl } in
      let sum : 0 + 0 ≡ 0 * (n + 1) = omega arith in
      subst (λ k. Leads setting frames (at store locals (invoke [] 0 done)) k (at store locals (trap CallDepth))) sum
      (one_then setting frames store locals (invoke [] 0 done) (trap CallDepth) 0 0 (at store locals (trap CallDepth)) stopped (stays setting frames (at store locals (trap CallDepth))))
  cut_off_by_depth (suc room) frames locals e =
      let below : frames < 256 = omega (arith, e) in
      let more : frames + 1 + room ≡ 256 = omega (arith, e) in
      let goes : Quiet setting frames (at store locals (invoke [] 0 done)) (reduction_to setting frames store locals 0 entered) = record { reduces = call_reduces frames locals true (lt-ltb frames 256 below); unended = λ end. end; no_branch = λ depth. refl; no_return = refl } in
      let deeper = cut_off_by_depth room (frames + 1) [] more in
      let body = cut_off_in_label setting (frames + 1) store [] (instructions [] (blocks_round_a_call n)) CallDepth (n + 1 + room * (n + 1)) (blocks_to_the_call setting (frames + 1) store [] n CallDepth (room * (n + 1)) deeper) in
      let sum : 0 + (n + 1 + room * (n + 1)) ≡ suc room * (n + 1) = omega arith in
      subst (λ k. Leads setting frames (at store locals (invoke [] 0 done)) k (at store locals (trap CallDepth))) sum
      (one_then setting frames store locals (invoke [] 0 done) entered 0 (n + 1 + room * (n + 1)) (at store locals (trap CallDepth)) goes
      (cut_off_in_frame setting frames store locals (label [] 0 done (instructions [] (blocks_round_a_call n)) done) CallDepth (n + 1 + room * (n + 1)) body))

  -- so a call ends there, with fuel enough
  pub too_deep_in_blocks : (fuel : ℕ) → 256 * (n + 1) ≤ fuel → HasOutcome setting store 0 fuel (outcome.Trap CallDepth (256 * (n + 1))) store
  too_deep_in_blocks fuel enough =
      let l = cut_off_by_depth 256 0 [] refl in
      (l.count, enough, chain_of setting l.count (call_of store 0) (at store [] (trap CallDepth)) (256 * (n + 1)) l.goes)
