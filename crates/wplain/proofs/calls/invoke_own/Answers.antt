use Rattle.std.proofs.Common.{Option, IfOk, subst, sym}
use Rattle.std.specs.Prelude.{slice_get, option_and_then}
use Rattle.wmodule.specs.Syntax.{FunctionSyntax, Signature}
use Rattle.wmach.specs.Reduction.{enter}
use Rattle.wplain.specs.Seen.{syntax_of, function_of, body_of_code}
use Rattle.wplain.specs.inside.Done.{WentAs}
use Rattle.wplain.proofs.calls.invoke_own.Goals as goal

pub returns : goal.returns
returns c = λ store locals left.
    let m = syntax_of c.args.program.now in
    let values = c.args.values.now.items in
    let rest = body_of_code c.args.rest.now in
    let own = function_of c.in_ok-own.own.now in
    let typed = subst (λ (t : Option Signature). IfOk c.enter.result (WentAs (option_and_then (λ type. enter store locals values own type rest) t) store locals left)) (sym c.in_ok-t.ensures) (c.enter.ensures store locals left) in
    subst (λ (f : Option FunctionSyntax). IfOk c.enter.result (WentAs (option_and_then (λ f. option_and_then (λ type. enter store locals values f type rest) (slice_get m.types f.signature)) f) store locals left)) (sym c.in_ok-own.ensures) typed
