-- How a machine's call goes over a call of a function.
use Rattle.std.proofs.Common.{◌≡◌, ℕ, ◌+◌, ◌-◌, ◌≤◌, List, [], ◌∷◌, ◌++◌, Option, Some, None, length, reverse, drop, refl, sym, ap, ◌∙◌, subst, arith}
use Rattle.std.specs.Prelude.{slice_get, option_and_then, nat_lt, if◌then◌else◌}
use Rattle.std.specs.List.{AllByRecursion}
use Rattle.std.proofs.lemmas.Bool.{le-ltb}
use Rattle.wcode.specs.declared.value.Value.{Value}
use Rattle.wcode.specs.declared.instruction.Plain.TheVariants as plains
use Rattle.wcode.specs.Syntax.{Body, plain}
use Rattle.wcode.specs.Grammar.{one, SpellsWord}
use Rattle.wmodule.specs.Syntax.{Signature, FunctionSyntax}
use Rattle.wbody.specs.Context.{Operands, Context, at_most_one, function_types}
use Rattle.wbody.specs.Typing.{takes_gives, call_type, function_at, of_found, plain_type, Typed}
use Rattle.wbody.specs.Heights.{height_by}
use Rattle.wtype.specs.CheckedModule.{CheckedModule}
use Rattle.wmach.specs.declared.activation.Activation.{Activation}
use Rattle.rules.specs.declared.trap.Trap.TheVariants.{CallDepth}
use Rattle.wmach.specs.Configuration.{Store, Setting, instructions, invoke, trap, Configuration, leads_to}
use Rattle.wmach.specs.Operands.{InRange}
use Rattle.wmach.specs.Fits.{types_of}
use Rattle.wmach.specs.Outcome.{Chain}
use Rattle.wmach.specs.Host.{reduce_import}
use Rattle.wmach.specs.Reduction.{most_frames, reduce_invoke, imported_count}
use Rattle.wmach.specs.inside.OpenLabels.{Open, nest, calling}
use Rattle.wmach.specs.inside.InPlace.{Whole, Moves, context_in, floor_in, before_place}
use Rattle.wmach.specs.inside.Machine.{frame_words, belows, arity_of, On, Spent, Trapped}
use Rattle.wmach.proofs.Going.{at, Quiet, Leads, and_then}
use Rattle.wmach.proofs.Nested.{one_step, leads_nest, leads_calling, trap_calling}
use Rattle.wmach.proofs.Sound.{found}
use Rattle.wmach.proofs.Callable.{FunctionsRight, OwnFunction, Callable}
use Rattle.wmach.proofs.StandsOn.{height_is, stands_plain}
use Rattle.wmach.proofs.MachineSteps.{here_at, cursor_moves, chain_leads}
use Rattle.wmach.proofs.OverWords.{stands_as, spends_here}
use Rattle.wmach.proofs.OverLeaves.{plain_here}
use Rattle.wmach.proofs.OverCalls.{CallNext}

-- the context inside labels has the module's functions
pub functions_in : (w : Whole) (os : List Open) → (context_in w os).functions ≡ w.context.functions
functions_in w [] = refl
functions_in w (o ∷ os) = functions_in w os

some_inside : (o : Option (Option Signature)) (type : Signature) → option_and_then (λ t. t) o ≡ Some type → o ≡ Some (Some type)
some_inside None type e = absurd (cc)
some_inside (Some None) type e = absurd (cc)
some_inside (Some (Some t)) type e = ap (λ x. Some x) e

module _ (setting : Setting) (bytes : List ℕ) (checked : CheckedModule) (start : Configuration) (spent : ℕ) (a : Activation) (waiting : List Activation) (slots : List ℕ) (store : Store) (o : On setting bytes checked start spent a waiting slots store) where
  -- A function that is called next, once so much was paid.
  pub record Called (paid function place : ℕ) (slots_here : List ℕ) : Type 0 where
    pub rest : Body
    pub values : List Value
    pub type : Signature
    pub below : Operands
    pub callable : Callable setting.module_syntax function type
    pub types_are : types_of values ≡ reverse type.parameters ++ below
    pub paying : (frames : ℕ) → Leads setting frames (at store o.locals (instructions o.values o.body)) paid (at store o.locals (invoke values function rest))
    pub slots_are : slots_here ≡ frame_words o.under o.locals (values ++ belows o.labels)
    pub in_range : AllByRecursion InRange (values ++ belows o.labels)
    pub moves : Moves o.whole o.all o.labels rest (at_most_one type.result ++ below) (drop a.at bytes) (drop place bytes) 0
    pub within : place ≤ length bytes

  call_quiet : (frames f : ℕ) (rest : Body) → Quiet setting frames (at store o.locals (instructions o.values (plain (plains.Call f) rest))) (record { cost = 1; to = at store o.locals (invoke o.values f rest) })
  call_quiet frames f rest = record { reduces = refl; unended = λ end. cc; no_branch = λ depth. refl; no_return = refl }

  -- no more fuel for a call
  pub call_spent : (f : ℕ) (more : List ℕ) → SpellsWord (drop a.at bytes) (one (plains.Call f)) more → Spent setting start spent store
  call_spent f more read =
      let p = plain_here setting bytes checked start spent a waiting slots store o (plains.Call f) more read in
      spends_here setting bytes checked start spent a waiting slots store o (plain (plains.Call f) p.rest) p.is (record { reduction = record { cost = 1; to = at store o.locals (invoke o.values f p.rest) }; quiet = call_quiet (length o.callers + 1) f p.rest; one = refl })

  -- a call
  pub over_call_word : FunctionsRight setting.module_syntax → (f place : ℕ) → place ≤ length bytes → SpellsWord (drop a.at bytes) (one (plains.Call f)) (drop place bytes) → Called 1 f place slots
  over_call_word right f place within read =
      let p = plain_here setting bytes checked start spent a waiting slots store o (plains.Call f) (drop place bytes) read in
      let s = stands_as setting bytes checked start spent a waiting slots store o (plain (plains.Call f) p.rest) p.is in
      let c = context_in o.whole o.labels in
      let t = found (call_type []) (function_at c f) (Typed c p.rest) (types_of o.values) s.leaves s.typed in
      let w = t.typed.first in
      let type = t.item in
      let functions : c.functions ≡ function_types setting.module_syntax = functions_in o.whole o.labels ∙ ap (λ (k : Context). k.functions) o.code.context_is in
      let there : slice_get (function_types setting.module_syntax) f ≡ Some (Some type) = ap (λ fs. slice_get fs f) (sym functions) ∙ some_inside (slice_get c.functions f) type t.is in
      let takes = reverse type.parameters in
      let gives = at_most_one type.result in
      let before_is : types_of o.values ≡ takes ++ w.below = w.before_is ∙ ap (λ g. g ++ w.below) w.rule.0 in
      let between_is : t.typed.between ≡ gives ++ w.below = w.after_is ∙ ap (λ g. g ++ w.below) w.rule.1 in
      let type_is : plain_type c (plains.Call f) ≡ takes_gives takes gives = ap (of_found (call_type [])) t.is in
      let floor = floor_in o.labels in
      let height = ap (λ y. height_by y floor (floor + length (types_of o.values))) type_is ∙ height_is (takes_gives takes gives) floor (types_of o.values) t.typed.between tt w in
      let m = stands_plain o.whole o.all o.labels (plains.Call f) p.rest (types_of o.values) t.typed.between (drop a.at bytes) (drop place bytes) s read t.typed.others height in
      let paying : (frames : ℕ) → Leads setting frames (at store o.locals (instructions o.values o.body)) 1 (at store o.locals (invoke o.values f p.rest)) = λ frames.
      let step = one_step setting frames (at store o.locals (instructions o.values (plain (plains.Call f) p.rest))) (record { cost = 1; to = at store o.locals (invoke o.values f p.rest) }) (call_quiet frames f p.rest) in
      subst (λ b. Leads setting frames (at store o.locals (instructions o.values b)) 1 (at store o.locals (invoke o.values f p.rest))) (sym p.is) step in
      record {
        rest = p.rest;
        values = o.values;
        type = type;
        below = w.below;
        callable = right.callable f type there;
        types_are = before_is;
        paying = paying;
        slots_are = o.slots_are;
        in_range = o.values_in_range;
        moves = subst (λ ts. Moves o.whole o.all o.labels p.rest ts (drop a.at bytes) (drop place bytes) 0) between_is m;
        within = within;
      }

  -- a function of the module that is called
  abbrev pub own_called : (paid f place : ℕ) (slots_here : List ℕ) (h : Called paid f place slots_here) (g : OwnFunction setting.module_syntax f h.type) → CallNext setting bytes checked start spent a waiting slots store o paid f place slots_here
  own_called paid f place slots_here h g = record {
    rest = h.rest;
    values = h.values;
    type = h.type;
    below = h.below;
    own = g;
    types_are = h.types_are;
    leads = h.paying (length o.callers + 1);
    slots_are = h.slots_are;
    in_range = h.in_range;
    stands = h.moves.stands;
    within = h.within;
  }

  pub call_cursor : (paid f place : ℕ) (slots_here : List ℕ) (h : Called paid f place slots_here) → a.cursor ≡ before_place place o.all
  call_cursor paid f place slots_here h =
      let c = cursor_moves setting bytes checked start spent a waiting slots store o place 0 h.within o.labels h.rest (at_most_one h.type.result ++ h.below) h.moves in omega (arith, c)

  -- where there is no room for another frame the call is cut off
  pub over_deep : (paid f place : ℕ) (slots_here : List ℕ) (h : Called paid f place slots_here) → OwnFunction setting.module_syntax f h.type → most_frames ≤ length o.callers + 1 → Trapped setting start (spent + paid) CallDepth store
  over_deep paid f place slots_here h g deep =
      let m = setting.module_syntax in
      let frames = length o.callers + 1 in
      let by_index = option_and_then (λ (x : FunctionSyntax). option_and_then (λ t. Rattle.wmach.specs.Reduction.enter store o.locals h.values x t h.rest) (slice_get m.types x.signature)) (slice_get m.functions (f - imported_count m)) in
      let by_room = if nat_lt frames most_frames then by_index else leads_to 0 store o.locals (trap CallDepth) in
      let mine = ap (λ b. if b then reduce_import setting store o.locals h.values f h.rest else by_room) (le-ltb f (imported_count m) g.past) in
      let full = ap (λ b. if b then by_index else leads_to 0 store o.locals (trap CallDepth)) (le-ltb frames most_frames deep) in
      let q : Quiet setting frames (at store o.locals (invoke h.values f h.rest)) (record { cost = 0; to = at store o.locals (trap CallDepth) }) = record { reduces = mine ∙ full; unended = λ end. end; no_branch = λ depth. refl; no_return = refl } in
      let step = one_step setting frames (at store o.locals (invoke h.values f h.rest)) (record { cost = 0; to = at store o.locals (trap CallDepth) }) q in
      let both = and_then setting frames (at store o.locals (instructions o.values o.body)) (at store o.locals (invoke h.values f h.rest)) (at store o.locals (trap CallDepth)) paid 0 (h.paying frames) step in
      let inner = leads_nest setting frames o.labels store store o.locals o.locals (instructions o.values o.body) (trap CallDepth) (paid + 0) both in
      let whole = leads_calling setting o.callers store store (arity_of o.type) o.locals o.locals (nest o.labels (instructions o.values o.body)) (nest o.labels (trap CallDepth)) (paid + 0) inner in
      let out = and_then setting 0 (here_at setting bytes checked start spent a waiting slots store o) (calling o.callers store (arity_of o.type) o.locals (nest o.labels (trap CallDepth))) (at store [] (trap CallDepth)) (paid + 0) 0 whole (trap_calling setting o.callers store (arity_of o.type) o.locals o.labels CallDepth) in
      let ch = chain_leads setting o.steps start (here_at setting bytes checked start spent a waiting slots store o) (at store [] (trap CallDepth)) spent (paid + 0 + 0) o.chain out in
      let total : spent + (paid + 0 + 0) ≡ spent + paid = omega arith in
      record { steps = ch.0; chain = subst (λ n. Chain setting ch.0 start n (at store [] (trap CallDepth))) total ch.1 }
