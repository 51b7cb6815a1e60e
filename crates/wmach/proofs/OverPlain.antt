-- How a machine's call goes over an instruction without others inside it that isn't a branch.
use Rattle.std.proofs.Common.{◌≡◌, ℕ, ◌+◌, ◌≤◌, List, [], ◌++◌, Some, None, length, drop, sym, ap, ◌∙◌, subst, arith}
use Rattle.std.specs.List.{AllByRecursion}
use Rattle.wcode.specs.declared.value.Value.{Value}
use Rattle.wcode.specs.declared.instruction.Plain.{Plain}
use Rattle.wcode.specs.Syntax.{Body, plain}
use Rattle.wcode.specs.Grammar.{one, SpellsWord}
use Rattle.wbody.specs.Context.{Operands, Context}
use Rattle.wbody.specs.Typing.{PlainType, plain_type, TypeAllows, Weakened, Typed}
use Rattle.wbody.specs.Heights.{height_by}
use Rattle.wbody.specs.Branches.{plain_branches}
use Rattle.wtype.specs.CheckedModule.{CheckedModule}
use Rattle.wmach.specs.declared.activation.Activation.{Activation}
use Rattle.rules.specs.declared.trap.Trap.{Trap}
use Rattle.wmach.specs.Configuration.{Store, Setting, instructions, trap, Configuration, Reduction, leads_to}
use Rattle.wmach.specs.Operands.{InRange}
use Rattle.wmach.specs.Fits.{types_of, StoreFits}
use Rattle.wmach.specs.Plain.{reduce_plain}
use Rattle.wmach.specs.Outcome.{Chain}
use Rattle.wmach.specs.Reduction.{branching, returning}
use Rattle.wmach.specs.inside.OpenLabels.{nest, calling}
use Rattle.wmach.specs.inside.InPlace.{Stands, Moves, place_of, context_in, floor_in, labels_in}
use Rattle.wmach.specs.inside.Machine.{frame_words, belows, arity_of, On, Spent, Trapped}
use Rattle.wmach.proofs.Going.{at, Quiet, and_then}
use Rattle.wmach.proofs.Nested.{one_step, trap_calling}
use Rattle.wmach.proofs.StandsOn.{height_is, stands_plain, IsLeft}
use Rattle.wmach.proofs.MachineSteps.{went, here_at, on_goes, cursor_moves, chain_leads}
use Rattle.wmach.proofs.OverWords.{stands_as, leads_here, spends_here}

-- it is no branch and no return, and has no note
pub record Staying (p : Plain) : Type 0 where
  pub no_branch : (depth : ℕ) (values : List Value) (rest : Body) → branching depth (instructions values (plain p rest)) ≡ None
  pub no_return : (values : List Value) (rest : Body) → returning (instructions values (plain p rest)) ≡ None

-- what it takes and leaves, where it stands in a body that goes on
pub record Typing (c : Context) (p : Plain) (rest : Body) (before leaves : Operands) : Type 0 where
  pub type : PlainType
  pub type_is : plain_type c p ≡ type
  pub left : IsLeft type
  pub between : Operands
  pub first : Weakened (TypeAllows type) before between
  pub others : Typed c rest between leaves

module _ (setting : Setting) (bytes : List ℕ) (checked : CheckedModule) (start : Configuration) (spent : ℕ) (a : Activation) (waiting : List Activation) (slots : List ℕ) (store : Store) (o : On setting bytes checked start spent a waiting slots store) where
  -- one reduction of it
  quiet_plain : (frames : ℕ) (p : Plain) (rest : Body) (r : Reduction) → Staying p → reduce_plain setting store o.locals o.values p rest ≡ Some r → Quiet setting frames (at store o.locals (instructions o.values (plain p rest))) r
  quiet_plain frames p rest r staying e =
      record { reduces = e; unended = λ end. cc; no_branch = λ depth. staying.no_branch depth o.values rest; no_return = staying.no_return o.values rest }

  pub plain_spent : (p : Plain) (rest : Body) (r : Reduction) → o.body ≡ plain p rest → Staying p → reduce_plain setting store o.locals o.values p rest ≡ Some r → r.cost ≡ 1 → Spent setting start spent store
  plain_spent p rest r is staying e cost =
      spends_here setting bytes checked start spent a waiting slots store o (plain p rest) is (record { reduction = r; quiet = quiet_plain (length o.callers + 1) p rest r staying e; one = cost })

  -- Over it, to what it leaves.
  pub over_plain : (p : Plain) (rest : Body) (is : o.body ≡ plain p rest) (place cost : ℕ) (slots_next : List ℕ) (store_next : Store) (locals values : List Value)
      (t : Typing (context_in o.whole o.labels) p rest (types_of o.values) (stands_as setting bytes checked start spent a waiting slots store o (plain p rest) is).leaves)
      → place ≤ length bytes → SpellsWord (drop a.at bytes) (one p) (drop place bytes) → Staying p
      → length (plain_branches (labels_in o.whole o.labels) (place_of o.whole (drop a.at bytes)) p) ≡ 0
      → reduce_plain setting store o.locals o.values p rest ≡ leads_to cost store_next locals (instructions values rest)
      → types_of values ≡ t.between → types_of locals ≡ types_of o.locals → slots_next ≡ frame_words o.under locals (values ++ belows o.labels)
      → AllByRecursion InRange locals → AllByRecursion InRange (values ++ belows o.labels) → StoreFits setting.module_syntax store_next
      → On setting bytes checked start (spent + cost) (went a place a.cursor) waiting slots_next store_next
  over_plain p rest is place cost slots_next store_next locals values t within read staying no_note reduces types local_types slots_are locals_fit values_fit fits =
      let s = stands_as setting bytes checked start spent a waiting slots store o (plain p rest) is in
      let floor = floor_in o.labels in
      let height = ap (λ y. height_by y floor (floor + length (types_of o.values))) t.type_is ∙ height_is t.type floor (types_of o.values) t.between t.left t.first in
      let m = stands_plain o.whole o.all o.labels p rest (types_of o.values) t.between (drop a.at bytes) (drop place bytes) s read t.others height in
      let moved = subst (λ n. Moves o.whole o.all o.labels rest t.between (drop a.at bytes) (drop place bytes) n) no_note m in
      let cursor = cursor_moves setting bytes checked start spent a waiting slots store o place 0 within o.labels rest t.between moved in
      let r : Reduction = record { cost = cost; to = at store_next locals (instructions values rest) } in
      let step = one_step setting (length o.callers + 1) (at store o.locals (instructions o.values (plain p rest))) r (quiet_plain (length o.callers + 1) p rest r staying reduces) in
      on_goes setting bytes checked start spent a waiting slots store o place a.cursor cost slots_next store_next rest values o.labels locals
      (subst (λ ts. Stands o.whole o.all o.labels rest ts (drop place bytes)) (sym types) moved.stands) within (omega (arith, cursor)) local_types slots_are locals_fit values_fit fits
      (leads_here setting bytes checked start spent a waiting slots store o (plain p rest) store_next locals (instructions values rest) cost is step)

  -- Over it, where it cuts the call off.
  pub over_trap : (p : Plain) (rest : Body) (cost : ℕ) (store_next : Store) (name : Trap) → o.body ≡ plain p rest → Staying p → reduce_plain setting store o.locals o.values p rest ≡ leads_to cost store_next o.locals (trap name) → Trapped setting start (spent + cost) name store_next
  over_trap p rest cost store_next name is staying reduces =
      let r : Reduction = record { cost = cost; to = at store_next o.locals (trap name) } in
      let step = one_step setting (length o.callers + 1) (at store o.locals (instructions o.values (plain p rest))) r (quiet_plain (length o.callers + 1) p rest r staying reduces) in
      let inner = leads_here setting bytes checked start spent a waiting slots store o (plain p rest) store_next o.locals (trap name) cost is step in
      let out = trap_calling setting o.callers store_next (arity_of o.type) o.locals o.labels name in
      let whole = and_then setting 0 (here_at setting bytes checked start spent a waiting slots store o) (calling o.callers store_next (arity_of o.type) o.locals (nest o.labels (trap name))) (at store_next [] (trap name)) cost 0 inner out in
      let total : spent + (cost + 0) ≡ spent + cost = omega arith in
      let ch = chain_leads setting o.steps start (here_at setting bytes checked start spent a waiting slots store o) (at store_next [] (trap name)) spent (cost + 0) o.chain whole in
      record { steps = ch.0; chain = subst (λ n. Chain setting ch.0 start n (at store_next [] (trap name))) total ch.1 }
