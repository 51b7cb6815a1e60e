-- A call that is given fewer records, and isn't cut off for want of one, ends as it does with all:
-- what isn't asked for doesn't matter.
use Rattle.std.proofs.Common.{◌≡◌, ℕ, zero, suc, ◌+◌, Bool, true, false, List, [], ◌∷◌, Option, Some, None, refl, sym, ap, ◌∙◌, subst, arith, inl, inr}
use Rattle.std.specs.Prelude.{◌⊎◌, option_and_then, option_map, slice_get, nat_lt}
use Rattle.std.specs.Option.{option_map_or}
use Rattle.wcode.specs.declared.value.ValueType.{ValueType}
use Rattle.wcode.specs.declared.value.ValueType.TheVariants.{I32}
use Rattle.wcode.specs.declared.value.Value.{Value}
use Rattle.wcode.specs.declared.instruction.Plain.{Plain}
use Rattle.wcode.specs.declared.instruction.Plain.TheVariants as instruction
use Rattle.wcode.specs.Syntax.{Body, done, plain, block, loop, if_else, br_table}
use Rattle.wmodule.specs.Syntax.{ModuleSyntax}
use Rattle.wtype.specs.Accepted.{host_number}
use Rattle.rules.specs.declared.trap.Trap.TheVariants.{NoRecord}
use Rattle.wmach.specs.declared.outcome.Outcome.{Outcome}
use Rattle.wmach.specs.declared.outcome.Outcome.TheVariants as outcome
use Rattle.wmach.specs.Configuration.{Store, Setting, Execution, instructions, label, frame, invoke, trap, Configuration, Reduction}
use Rattle.wmach.specs.Operands.{number_of, with_any, with_one, with_two}
use Rattle.wmach.specs.Host.{imported_names, hand_over_given, reduce_host, reduce_import}
use Rattle.wmach.specs.Plain.{reduce_plain}
use Rattle.wmach.specs.Reduction.{reduce_instructions, branching, returning, inside_label, inside_frame, branch, return_from, reduce_label, reduce_frame, imported_count, reduce_invoke, reduce}
use Rattle.wmach.specs.Outcome.{next, Chain, call_of, HasOutcome}

-- cut off for want of a record, however many labels and frames are around it
abbrev CutOff : Execution → Type 0
CutOff (instructions values rest) = ⊥
CutOff (label below arity continuation inside rest) = CutOff inside
CutOff (frame below arity locals inside rest) = CutOff inside
CutOff (invoke below function rest) = ⊥
CutOff (trap t) = t ≡ NoRecord

-- a reduction at no cost to what is cut off
abbrev Cuts : Option Reduction → Type 0
Cuts on = (r : Reduction) × (on ≡ Some r) × (r.cost ≡ 0) × CutOff r.to.execution

-- two reductions are one, or the first cuts off
abbrev Alike : (one other : Option Reduction) → Type 0
Alike one other = (one ≡ other) ⊎ Cuts one

and_then_alike : {A : Type 0} (o : Option A) (f g : A → Option Reduction) → ((a : A) → Alike (f a) (g a)) → Alike (option_and_then f o) (option_and_then g o)
and_then_alike None f g h = inl refl
and_then_alike (Some a) f g h = h a

with_any_alike : (values : List Value) (f g : Value → List Value → Option Reduction) → ((v : Value) (below : List Value) → Alike (f v below) (g v below)) → Alike (with_any values f) (with_any values g)
with_any_alike [] f g h = inl refl
with_any_alike (v ∷ below) f g h = h v below

with_one_alike : (t : ValueType) (values : List Value) (f g : ℕ → List Value → Option Reduction) → ((n : ℕ) (below : List Value) → Alike (f n below) (g n below)) → Alike (with_one t values f) (with_one t values g)
with_one_alike t values f g h =
    with_any_alike values _ _ (λ v below. and_then_alike (number_of t v) (λ n. f n below) (λ n. g n below) (λ n. h n below))

with_two_alike : (t : ValueType) (values : List Value) (f g : ℕ → ℕ → List Value → Option Reduction) → ((a b : ℕ) (below : List Value) → Alike (f a b below) (g a b below)) → Alike (with_two t values f) (with_two t values g)
with_two_alike t values f g h =
    with_one_alike t values _ _ (λ second others. with_one_alike t others (λ first below. f first second below) (λ first below. g first second below) (λ first below. h first second below))

-- inside a label or a frame, where nothing else comes next
map_alike : (one other : Option Reduction) (f : Reduction → Reduction) → ((r : Reduction) → (f r).cost ≡ r.cost) → ((r : Reduction) → CutOff r.to.execution → CutOff (f r).to.execution)
    → Alike one other → Alike (option_map f one) (option_map f other)
map_alike one other f cost cut (inl e) = inl (ap (λ (o : Option Reduction). option_map f o) e)
map_alike one other f cost cut (inr c) = inr (f c.0, ap (λ (o : Option Reduction). option_map f o) c.1, cost c.0 ∙ c.2, cut c.0 c.3)

map_or_alike : {A : Type 0} (o : Option A) (g : A → Option Reduction) (one other : Option Reduction) → Alike one other → Alike (option_map_or g o one) (option_map_or g o other)
map_or_alike None g one other h = h
map_or_alike (Some a) g one other h = inl refl

label_alike : (store : Store) (locals below : List Value) (arity : ℕ) (continuation : Body) (inside : Execution) (rest : Body) (one other : Option Reduction)
    → Alike one other → Alike (reduce_label store locals below arity continuation inside rest one) (reduce_label store locals below arity continuation inside rest other)
label_alike store locals below arity continuation inside rest one other h =
    let on : Alike (option_map (inside_label below arity continuation rest) one) (option_map (inside_label below arity continuation rest) other) =
    map_alike one other (inside_label below arity continuation rest) (λ r. refl) (λ r cut. cut) h in
    let goes : Alike (option_map_or (branch store locals below arity continuation rest) (branching 0 inside) (option_map (inside_label below arity continuation rest) one))
    (option_map_or (branch store locals below arity continuation rest) (branching 0 inside) (option_map (inside_label below arity continuation rest) other)) =
    map_or_alike (branching 0 inside) (branch store locals below arity continuation rest) _ _ on in
    elim inside as (λ (i : Execution).
    Alike (option_map_or (branch store locals below arity continuation rest) (branching 0 i) (option_map (inside_label below arity continuation rest) one))
    (option_map_or (branch store locals below arity continuation rest) (branching 0 i) (option_map (inside_label below arity continuation rest) other))
    → Alike (reduce_label store locals below arity continuation i rest one) (reduce_label store locals below arity continuation i rest other)) [
      | instructions values done ↦ λ g. inl refl
      | instructions values (plain p more) ↦ λ g. g
      | instructions values (block t inner more) ↦ λ g. g
      | instructions values (loop t inner more) ↦ λ g. g
      | instructions values (if_else t a b more) ↦ λ g. g
      | instructions values (br_table labels default more) ↦ λ g. g
      | label b a c i r ↦ λ g. g
      | frame b a l i r ↦ λ g. g
      | invoke b f r ↦ λ g. g
      | trap t ↦ λ g. inl refl
    ] goes

frame_alike : (store : Store) (outer below : List Value) (arity : ℕ) (inside : Execution) (rest : Body) (one other : Option Reduction)
    → Alike one other → Alike (reduce_frame store outer below arity inside rest one) (reduce_frame store outer below arity inside rest other)
frame_alike store outer below arity inside rest one other h =
    let on : Alike (option_map (inside_frame outer below arity rest) one) (option_map (inside_frame outer below arity rest) other) =
    map_alike one other (inside_frame outer below arity rest) (λ r. refl) (λ r cut. cut) h in
    let goes : Alike (option_map_or (return_from store outer below arity rest) (returning inside) (option_map (inside_frame outer below arity rest) one))
    (option_map_or (return_from store outer below arity rest) (returning inside) (option_map (inside_frame outer below arity rest) other)) =
    map_or_alike (returning inside) (return_from store outer below arity rest) _ _ on in
    elim inside as (λ (i : Execution).
    Alike (option_map_or (return_from store outer below arity rest) (returning i) (option_map (inside_frame outer below arity rest) one))
    (option_map_or (return_from store outer below arity rest) (returning i) (option_map (inside_frame outer below arity rest) other))
    → Alike (reduce_frame store outer below arity i rest one) (reduce_frame store outer below arity i rest other)) [
      | instructions values done ↦ λ g. inl refl
      | instructions values (plain p more) ↦ λ g. g
      | instructions values (block t inner more) ↦ λ g. g
      | instructions values (loop t inner more) ↦ λ g. g
      | instructions values (if_else t a b more) ↦ λ g. g
      | instructions values (br_table labels default more) ↦ λ g. g
      | label b a c i r ↦ λ g. g
      | frame b a l i r ↦ λ g. g
      | invoke b f r ↦ λ g. g
      | trap t ↦ λ g. inl refl
    ] goes

-- what is cut off leaves by no branch and no return
no_branch : (depth : ℕ) (e : Execution) → CutOff e → branching depth e ≡ None
no_branch depth (instructions values rest) cut = absurd cut
no_branch depth (label below arity continuation inside rest) cut = no_branch (depth + 1) inside cut
no_branch depth (frame below arity locals inside rest) cut = refl
no_branch depth (invoke below function rest) cut = absurd cut
no_branch depth (trap t) cut = refl

no_return : (e : Execution) → CutOff e → returning e ≡ None
no_return (instructions values rest) cut = absurd cut
no_return (label below arity continuation inside rest) cut = no_return inside cut
no_return (frame below arity locals inside rest) cut = refl
no_return (invoke below function rest) cut = absurd cut
no_return (trap t) cut = refl

-- nothing comes next, or what does costs nothing and is cut off
abbrev Stays : Option Reduction → Type 0
Stays on = (on ≡ None) ⊎ Cuts on

map_stays : (on : Option Reduction) (f : Reduction → Reduction) → ((r : Reduction) → (f r).cost ≡ r.cost) → ((r : Reduction) → CutOff r.to.execution → CutOff (f r).to.execution)
    → Stays on → Stays (option_map f on)
map_stays on f cost cut (inl none) = inl (ap (λ (o : Option Reduction). option_map f o) none)
map_stays on f cost cut (inr c) = inr (f c.0, ap (λ (o : Option Reduction). option_map f o) c.1, cost c.0 ∙ c.2, cut c.0 c.3)

map_or_stays : {A : Type 0} (o : Option A) (g : A → Option Reduction) (on : Option Reduction) → o ≡ None → Stays on → Stays (option_map_or g o on)
map_or_stays o g on none h = rw none h

label_stays : (store : Store) (locals below : List Value) (arity : ℕ) (continuation : Body) (inside : Execution) (rest : Body) (on : Option Reduction)
    → CutOff inside → Stays on → Stays (reduce_label store locals below arity continuation inside rest on)
label_stays store locals below arity continuation (instructions values more) rest on cut h = absurd cut
label_stays store locals below arity continuation (label b a c i r) rest on cut h =
    map_or_stays (branching 0 (label b a c i r)) (branch store locals below arity continuation rest) _ (no_branch 0 (label b a c i r) cut)
    (map_stays on (inside_label below arity continuation rest) (λ r. refl) (λ r cut. cut) h)
label_stays store locals below arity continuation (frame b a l i r) rest on cut h =
    map_or_stays (branching 0 (frame b a l i r)) (branch store locals below arity continuation rest) _ (no_branch 0 (frame b a l i r) cut)
    (map_stays on (inside_label below arity continuation rest) (λ r. refl) (λ r cut. cut) h)
label_stays store locals below arity continuation (invoke b f r) rest on cut h = absurd cut
label_stays store locals below arity continuation (trap t) rest on cut h = inr (_, refl, refl, cut)

frame_stays : (store : Store) (outer below : List Value) (arity : ℕ) (inside : Execution) (rest : Body) (on : Option Reduction)
    → CutOff inside → Stays on → Stays (reduce_frame store outer below arity inside rest on)
frame_stays store outer below arity (instructions values more) rest on cut h = absurd cut
frame_stays store outer below arity (label b a c i r) rest on cut h =
    map_or_stays (returning (label b a c i r)) (return_from store outer below arity rest) _ (no_return (label b a c i r) cut)
    (map_stays on (inside_frame outer below arity rest) (λ r. refl) (λ r cut. cut) h)
frame_stays store outer below arity (frame b a l i r) rest on cut h =
    map_or_stays (returning (frame b a l i r)) (return_from store outer below arity rest) _ (no_return (frame b a l i r) cut)
    (map_stays on (inside_frame outer below arity rest) (λ r. refl) (λ r cut. cut) h)
frame_stays store outer below arity (invoke b f r) rest on cut h = absurd cut
frame_stays store outer below arity (trap t) rest on cut h = inr (_, refl, refl, cut)

module _ (m : ModuleSyntax) (fewer all : ℕ → Option (List ℕ)) (given : (import : ℕ) → (fewer import ≡ None) ⊎ (fewer import ≡ all import)) where
  abbrev pub less : Setting
  less = record { module_syntax = m; records = fewer }

  abbrev pub full : Setting
  full = record { module_syntax = m; records = all }

  plain_alike : (store : Store) (locals values : List Value) (p : Plain) (rest : Body) → reduce_plain less store locals values p rest ≡ reduce_plain full store locals values p rest
  plain_alike store locals values instruction.Unreachable rest = refl
  plain_alike store locals values instruction.Nop rest = refl
  plain_alike store locals values (instruction.Br l) rest = refl
  plain_alike store locals values instruction.Return rest = refl
  plain_alike store locals values (instruction.BrIf l) rest = refl
  plain_alike store locals values (instruction.Call function) rest = refl
  plain_alike store locals values (instruction.CallIndirect x) rest = refl
  plain_alike store locals values instruction.Drop rest = refl
  plain_alike store locals values instruction.Select rest = refl
  plain_alike store locals values (instruction.LocalGet x) rest = refl
  plain_alike store locals values (instruction.LocalSet x) rest = refl
  plain_alike store locals values (instruction.LocalTee x) rest = refl
  plain_alike store locals values (instruction.GlobalGet x) rest = refl
  plain_alike store locals values (instruction.GlobalSet x) rest = refl
  plain_alike store locals values (instruction.Load op arg) rest = refl
  plain_alike store locals values (instruction.Store op arg) rest = refl
  plain_alike store locals values instruction.MemorySize rest = refl
  plain_alike store locals values instruction.MemoryGrow rest = refl
  plain_alike store locals values (instruction.Const v) rest = refl
  plain_alike store locals values (instruction.Unary t op) rest = refl
  plain_alike store locals values (instruction.Binary t op) rest = refl
  plain_alike store locals values (instruction.Test t op) rest = refl
  plain_alike store locals values (instruction.Relation t op) rest = refl
  plain_alike store locals values (instruction.Convert op) rest = refl

  instructions_alike : (store : Store) (locals values : List Value) (rest : Body) → reduce_instructions less store locals values rest ≡ reduce_instructions full store locals values rest
  instructions_alike store locals values done = refl
  instructions_alike store locals values (plain p rest) = plain_alike store locals values p rest
  instructions_alike store locals values (block t inside rest) = refl
  instructions_alike store locals values (loop t inside rest) = refl
  instructions_alike store locals values (if_else t a b rest) = refl
  instructions_alike store locals values (br_table labels default rest) = refl

  host_alike : (store : Store) (locals values : List Value) (import : ℕ) (rest : Body) → Alike (reduce_host less store locals values import rest) (reduce_host full store locals values import rest)
  host_alike store locals values import rest =
      with_two_alike I32 values _ _ (λ address limit below. elim (given import) [
        | inl none ↦ inr (record { cost = 0; to = record { store = store; locals = locals; execution = trap NoRecord } }, ap (λ (r : Option (List ℕ)). hand_over_given m store locals below address limit r rest) none, refl, refl)
        | inr same ↦ inl (ap (λ (r : Option (List ℕ)). hand_over_given m store locals below address limit r rest) same)
      ])

  invoke_alike : (frames : ℕ) (store : Store) (locals values : List Value) (function : ℕ) (rest : Body)
      → Alike (reduce_invoke less frames store locals values function rest) (reduce_invoke full frames store locals values function rest)
  invoke_alike frames store locals values function rest =
      let hosts : Alike (reduce_import less store locals values function rest) (reduce_import full store locals values function rest) =
      and_then_alike (slice_get (imported_names m.imports) function) _ _ (λ name.
      and_then_alike (host_number name) _ _ (λ import. host_alike store locals values import rest)) in
      elim (nat_lt function (imported_count m)) as (λ (b : Bool).
      (b ≡ nat_lt function (imported_count m)) → Alike (reduce_invoke less frames store locals values function rest) (reduce_invoke full frames store locals values function rest)) [
        | true ↦ λ e. rw (← e) hosts
        | false ↦ λ e. rw (← e) (inl refl)
      ] refl

  -- the next reduction is the same, or it cuts off
  alike : (frames : ℕ) (store : Store) (locals : List Value) (e : Execution) → Alike (reduce less frames store locals e) (reduce full frames store locals e)
  alike frames store locals (instructions values rest) = inl (instructions_alike store locals values rest)
  alike frames store locals (label below arity continuation inside rest) =
      label_alike store locals below arity continuation inside rest _ _ (alike frames store locals inside)
  alike frames store outer (frame below arity locals inside rest) =
      frame_alike store outer below arity inside rest _ _ (alike (frames + 1) store locals inside)
  alike frames store locals (invoke values function rest) = invoke_alike frames store locals values function rest
  alike frames store locals (trap t) = inl refl

  -- what is cut off stays so, at no cost
  stays : (frames : ℕ) (store : Store) (locals : List Value) (e : Execution) → CutOff e → Stays (reduce less frames store locals e)
  stays frames store locals (instructions values rest) cut = absurd cut
  stays frames store locals (label below arity continuation inside rest) cut =
      label_stays store locals below arity continuation inside rest _ cut (stays frames store locals inside cut)
  stays frames store outer (frame below arity locals inside rest) cut =
      frame_stays store outer below arity inside rest _ cut (stays (frames + 1) store locals inside cut)
  stays frames store locals (invoke values function rest) cut = absurd cut
  stays frames store locals (trap t) cut = inl refl

  one_step : (on : Option Reduction) (r : Reduction) → on ≡ Some r → Stays on → (r.cost ≡ 0) × CutOff r.to.execution
  one_step on r is (inl none) = absurd (cc (is, none))
  one_step on r is (inr c) =
      let same : c.0 ≡ r = let it = c.1 in cc in
      (subst (λ (s : Reduction). s.cost ≡ 0) same c.2, subst (λ (s : Reduction). CutOff s.to.execution) same c.3)

  chain_stays : (n : ℕ) (from : Configuration) (cost : ℕ) (to : Configuration) → CutOff from.execution → Chain less n from cost to → CutOff to.execution
  chain_stays zero from cost to cut chain = subst (λ (c : Configuration). CutOff c.execution) chain.0 cut
  chain_stays (suc n) from cost to cut chain =
      let next_cut = one_step (next less from) chain.0 chain.1 (stays 0 from.store from.locals from.execution cut) in
      chain_stays n chain.0.to chain.2.0 to next_cut.1 chain.2.2

  -- a chain whose end isn't cut off is one with all records too
  chain_alike : (n : ℕ) (from : Configuration) (cost : ℕ) (to : Configuration) → ¬ (CutOff to.execution) → Chain less n from cost to → Chain full n from cost to
  chain_alike zero from cost to whole chain = chain
  chain_alike (suc n) from cost to whole chain =
      elim (alike 0 from.store from.locals from.execution) [
        | inl same ↦ (chain.0, sym same ∙ chain.1, (chain.2.0, chain.2.1, chain_alike n chain.0.to chain.2.0 to whole chain.2.2))
        | inr cuts ↦
            let cut = one_step (next less from) chain.0 chain.1 (inr cuts) in
            absurd (whole (chain_stays n chain.0.to chain.2.0 to cut.1 chain.2.2))
      ]

  -- a call that isn't cut off for want of a record ends as with all of them
  pub ends_alike : (before : Store) (function fuel : ℕ) (how : Outcome) (after : Store) → ((cost : ℕ) → ¬ (how ≡ outcome.Trap NoRecord cost))
      → HasOutcome less before function fuel how after → HasOutcome full before function fuel how after
  ends_alike before function fuel (outcome.Value result cost) after whole ends =
      (ends.0, ends.1, chain_alike ends.0 (call_of before function) cost _ (λ cut. cut) ends.2)
  ends_alike before function fuel (outcome.Trap name cost) after whole ends =
      (ends.0, ends.1, chain_alike ends.0 (call_of before function) cost _ (λ cut. whole cost (ap (λ t. outcome.Trap t cost) cut)) ends.2)
  ends_alike before function fuel (outcome.Exhausted cost) after whole (n, c, r, within, chain, is, over, there) =
      let uncut : ¬ (CutOff c.execution) = λ cut.
      let free = (one_step (next less c) r is (stays 0 c.store c.locals c.execution cut)).0 in omega (arith, free, over, within) in
      elim (alike 0 c.store c.locals c.execution) [
        | inl same ↦ (n, c, r, within, chain_alike n (call_of before function) cost c uncut chain, sym same ∙ is, over, there)
        | inr cuts ↦ let free = (one_step (next less c) r is (inr cuts)).0 in absurd (omega (arith, free, over, within))
      ]
