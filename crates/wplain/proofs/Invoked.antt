-- A call of an imported function, and one of a module's own function, where there is room for a
-- frame.
use Rattle.std.proofs.Common.{◌≡◌, ℕ, ◌-◌, ◌<◌, ◌≤◌, List, true, false, Option, ap, ◌∙◌, arith}
use Rattle.std.specs.Prelude.{slice_get, option_and_then, nat_lt, if◌then◌else◌}
use Rattle.std.proofs.lemmas.Bool.{lt-ltb, le-ltb}
use Rattle.wcode.specs.declared.value.Value.{Value}
use Rattle.wcode.specs.Syntax.{Body}
use Rattle.wmodule.specs.Syntax.{FunctionSyntax, Signature}
use Rattle.rules.specs.declared.trap.Trap.TheVariants.{CallDepth}
use Rattle.wmach.specs.Configuration.{Store, Setting, Reduction, trap, leads_to}
use Rattle.wmach.specs.Host.{reduce_import}
use Rattle.wmach.specs.Reduction.{imported_count, most_frames, enter, reduce_invoke}

module _ (setting : Setting) (store : Store) (locals values : List Value) (rest : Body) where
  -- what the function at this place gives
  abbrev pub own_at : ℕ → Option Reduction
  own_at place = option_and_then (λ (f : FunctionSyntax). option_and_then (λ (t : Signature). enter store locals values f t rest) (slice_get setting.module_syntax.types f.signature)) (slice_get setting.module_syntax.functions place)

  pub invoked_own : (frames function n : ℕ) → imported_count setting.module_syntax ≡ n → n ≤ function → frames < 256 → reduce_invoke setting frames store locals values function rest ≡ own_at (function - n)
  invoked_own frames function n count past room =
      let mine : nat_lt function (imported_count setting.module_syntax) ≡ false = le-ltb function (imported_count setting.module_syntax) (omega (arith, count, past)) in
      let by_room = if nat_lt frames most_frames then own_at (function - imported_count setting.module_syntax) else leads_to 0 store locals (trap CallDepth) in
      let roomy : nat_lt frames most_frames ≡ true = lt-ltb frames 256 room in
      let first : reduce_invoke setting frames store locals values function rest ≡ by_room = ap (λ b. if b then reduce_import setting store locals values function rest else by_room) mine in
      let second : by_room ≡ own_at (function - imported_count setting.module_syntax) = ap (λ b. if b then own_at (function - imported_count setting.module_syntax) else leads_to 0 store locals (trap CallDepth)) roomy in
      first ∙ second ∙ ap (λ k. own_at (function - k)) count

  pub invoked_import : (frames function n : ℕ) → imported_count setting.module_syntax ≡ n → function < n → reduce_invoke setting frames store locals values function rest ≡ reduce_import setting store locals values function rest
  invoked_import frames function n count before =
      let imported : nat_lt function (imported_count setting.module_syntax) ≡ true = lt-ltb function (imported_count setting.module_syntax) (omega (arith, count, before)) in
      let by_room = if nat_lt frames most_frames then own_at (function - imported_count setting.module_syntax) else leads_to 0 store locals (trap CallDepth) in
      ap (λ b. if b then reduce_import setting store locals values function rest else by_room) imported
