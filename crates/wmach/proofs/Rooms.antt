-- How many slots a call takes.
use Rattle.std.proofs.Common.{◌≡◌, ℕ, suc, ◌+◌, ◌*◌, ◌≤◌, List, [], ◌∷◌, ◌++◌, Some, length, drop, refl, sym, ap, ◌∙◌, subst, arith}
use Rattle.std.specs.Prelude.{slice_get}
use Rattle.std.proofs.Math.Nat.{suc-mul, mul-le-mul_right}
use Rattle.std.proofs.lemmas.List.{length-append, length-map}
use Rattle.std.proofs.lemmas.Option.{slice_get_within}
use Rattle.wcode.specs.Operators.{type_of}
use Rattle.wcode.specs.declared.value.Value.{Value}
use Rattle.wcode.specs.declared.value.ValueType.{ValueType}
use Rattle.wcode.specs.Syntax.{Body}
use Rattle.wmodule.specs.Syntax.{Signature, FunctionSyntax, ModuleSyntax, module_of}
use Rattle.wbody.specs.Context.{Operands, at_most_one}
use Rattle.wbody.specs.declared.trail.Branch.{Branch}
use Rattle.wtype.specs.CheckedModule.{CheckedModule, NotesAgree}
use Rattle.wmach.specs.declared.activation.Activation.{Activation}
use Rattle.wmach.specs.Configuration.{Store}
use Rattle.wmach.specs.Fits.{types_of}
use Rattle.wmach.specs.Reduction.{most_frames}
use Rattle.wmach.specs.inside.OpenLabels.{Open, Caller}
use Rattle.wmach.specs.inside.InPlace.{Whole, Stands, context_in, floor_in}
use Rattle.wmach.specs.inside.Machine.{belows, IsCode, Waiting, On}
use Rattle.wmach.specs.inside.Running.{Run, Widest, bytes_of}
use Rattle.wmach.proofs.LowHeights.{height_least}
use Rattle.wmach.proofs.OverBranches.{floor_is}
use Rattle.wmach.proofs.OverBr.{slice_get_some}
use Rattle.wmach.proofs.SlotLemmas.{frame_long}

-- as many locals as the function's type and its body say
pub locals_long : (locals : List Value) (parameters more : List ValueType) → types_of locals ≡ parameters ++ more → length locals ≡ length parameters + length more
locals_long locals parameters more e = sym (length-map locals type_of) ∙ ap length e ∙ length-append parameters more

-- at a place in a body there are no more operands than its most
pub stands_room : (w : Whole) (all : List Branch) (os : List Open) (b : Body) (types : Operands) (front : List ℕ) → Stands w all os b types front → floor_in os + length types ≤ w.most
stands_room w all os b types front s =
    let least = height_least (context_in w os) b (floor_in os) (floor_in os + length types) in
    omega (arith, least, s.low)

module _ (m : ModuleSyntax) (checked : CheckedModule) (widest : ℕ) (module_is : m ≡ module_of checked.content) (agree : NotesAgree checked.content checked.notes) (wide : Widest checked widest) where
  -- a function of the module takes no more than the widest
  pub code_room : (bytes : List ℕ) (function : ℕ) (w : Whole) (all : List Branch) (f : FunctionSyntax) (type : Signature) → IsCode m bytes checked function w all f type → length type.parameters + length f.locals + w.most ≤ widest
  code_room bytes function w all f type c =
      let there : slice_get (module_of checked.content).functions function ≡ Some f = subst (λ (x : ModuleSyntax). slice_get x.functions function ≡ Some f) module_is c.function_is in
      let type_there : slice_get (module_of checked.content).types f.signature ≡ Some type = subst (λ (x : ModuleSyntax). slice_get x.types f.signature ≡ Some type) module_is c.type_is in
      let within = slice_get_within (module_of checked.content).functions function f there in
      let n = slice_get_some checked.notes function (omega (arith, within, agree.count)) in
      let known = wide function f type n.0 there type_there n.1 in
      let same = (c.noted n.0 n.1).1 in
      omega (arith, known, same)

  -- those that wait hold so many slots
  pub waiting_room : (bytes : List ℕ) (ws : List Activation) (ks : List Caller) (result : Operands) (slots : List ℕ) → Waiting m bytes checked ws ks result slots → length slots ≤ length ks * widest
  waiting_room bytes [] [] result slots h = let none : length slots ≡ 0 = ap length h in omega (arith, none)
  waiting_room bytes [] (k ∷ ks) result slots h = absurd h
  waiting_room bytes (a ∷ ws) [] result slots h = absurd h
  waiting_room bytes (a ∷ ws) (k ∷ ks) result slots h =
      let g = h.2 in
      let rest = waiting_room bytes ws ks (at_most_one g.type.result) h.0 h.5 in
      let long = ap length h.1 ∙ frame_long h.0 k.locals (k.below ++ belows k.labels) in
      let operands = length-append k.below (belows k.labels) in
      let locals = locals_long k.locals g.type.parameters g.function.locals g.typed in
      let heights = stands_room g.whole g.all k.labels k.rest (result ++ types_of k.below) (drop a.at bytes) g.stands in
      let types = length-append result (types_of k.below) in
      let below = length-map k.below type_of in
      let floor = floor_is k.labels in
      let room = code_room bytes a.function g.whole g.all g.function g.type g.code in
      let more = suc-mul (length ks) widest in
      omega (arith, rest, long, operands, locals, heights, types, below, floor, room, more)

-- as many wait as there are callers
pub waiting_many : (m : ModuleSyntax) (bytes : List ℕ) (checked : CheckedModule) (ws : List Activation) (ks : List Caller) (result : Operands) (slots : List ℕ) → Waiting m bytes checked ws ks result slots → length ws ≡ length ks
waiting_many m bytes checked [] [] result slots h = refl
waiting_many m bytes checked [] (k ∷ ks) result slots h = absurd h
waiting_many m bytes checked (a ∷ ws) [] result slots h = absurd h
waiting_many m bytes checked (a ∷ ws) (k ∷ ks) result slots h =
    let rest = waiting_many m bytes checked ws ks (at_most_one h.2.type.result) h.0 h.5 in
    omega (arith, rest)

-- Where a call is, its slots are no more than a machine has.
pub on_room : (r : Run) (spent : ℕ) (a : Activation) (waiting : List Activation) (slots : List ℕ) (store : Store) → On r.setting (bytes_of r) r.checked r.start spent a waiting slots store → length slots ≤ most_frames * r.widest
on_room r spent a waiting slots store o =
    let m = r.setting.module_syntax in
    let rest = waiting_room m r.checked r.widest r.module_is r.agree r.wide (bytes_of r) waiting o.callers (at_most_one o.type.result) o.under o.waits in
    let long = ap length o.slots_are ∙ frame_long o.under o.locals (o.values ++ belows o.labels) in
    let operands = length-append o.values (belows o.labels) in
    let locals = locals_long o.locals o.type.parameters o.function.locals o.typed in
    let heights = stands_room o.whole o.all o.labels o.body (types_of o.values) (drop a.at (bytes_of r)) o.stands in
    let types = length-map o.values type_of in
    let floor = floor_is o.labels in
    let room = code_room m r.checked r.widest r.module_is r.agree r.wide (bytes_of r) a.function o.whole o.all o.function o.type o.code in
    let frames : length o.callers + 1 ≤ most_frames = omega (arith, o.few) in
    let more = suc-mul (length o.callers) r.widest in
    let most = mul-le-mul_right {m = length o.callers + 1} {n = most_frames} r.widest frames in
    let next : length o.callers + 1 ≡ suc (length o.callers) = omega arith in
    let one_more : (length o.callers + 1) * r.widest ≡ length o.callers * r.widest + r.widest = ap (λ n. n * r.widest) next ∙ more in
    omega (arith, rest, long, operands, locals, heights, types, floor, room, one_more, most)
