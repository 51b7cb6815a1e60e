use Rattle.std.proofs.Common.{◌≡◌, ◌<◌, ℕ, Some, length, get_or, arith, below_more}
use Rattle.std.specs.Prelude.{slice_get}
use Rattle.std.proofs.lemmas.Option.{slice_get-get_or, slice_get_within}
use Rattle.wmodule.specs.Syntax.{FunctionSyntax, module_of}
use Rattle.wtype.specs.Accepted.{FunctionSmall}
use Rattle.wtype.proofs.Each.{all_from, at_place}
use Rattle.wtype.proofs.Kept.{on_true, on_false}
use Rattle.wtype.proofs.Sized.{some_at, size_tested}
use Rattle.wtype.proofs.sizes.functions_small.Goals as goal

pub returns-then-not-function_small : goal.returns-then-not-function_small
returns-then-not-function_small c all =
    let m = module_of c.args.decoded.now in
    let k = c.functions.place in
    let a = some_at m.functions k (omega (arith, c.requires.agree.count)) in
    on_false _ c.function_small.result c.if-not-function_small.true (size_tested c.args.decoded.now k (get_or c.args.notes.now k _) c.function_small.result (c.requires.agree.each k (get_or c.args.notes.now k _) (slice_get-get_or c.args.notes.now k _ c.functions-test.true)) c.function_small.ensures a.element a.is) (at_place (FunctionSmall m) m.functions k a.element a.is all)

pub functions-preserved : goal.functions-preserved
functions-preserved c k f k_below is =
    let m = module_of c.args.decoded.now in
    let i = c.functions.place in
    let P : ℕ → Type 0 = λ j. (g : FunctionSyntax) → slice_get m.functions j ≡ Some g → FunctionSmall m g in
    below_more P i (λ j h g e. c.functions.invariant j g h e) (λ g e. on_true _ c.function_small.result c.if-not-function_small.false (size_tested c.args.decoded.now i (get_or c.args.notes.now i _) c.function_small.result (c.requires.agree.each i (get_or c.args.notes.now i _) (slice_get-get_or c.args.notes.now i _ c.functions-test.true)) c.function_small.ensures g e)) k k_below f is

pub returns : goal.returns
returns c =
    let m = module_of c.args.decoded.now in
    all_from (FunctionSmall m) m.functions (λ k f is. (let within : k < length m.functions = slice_get_within m.functions k f is in c.functions.invariant k f (omega (arith, c.requires.agree.count, c.functions-test.false)) is))
