use Rattle.std.proofs.Common.{◌≡◌, ◌+◌, ◌-◌, ◌<◌, ◌≤◌, ℕ, length, subst, arith}
use Rattle.std.specs.Prelude.{nat_lt}
use Rattle.std.proofs.lemmas.Bool.Decides.{nat_tests}
use Rattle.wmodule.specs.Placed.{Stands}
use Rattle.wtype.proofs.FunctionTypes.{types_length}
use Rattle.wtype.proofs.function_types.is_function.Goals as goal

below : (index n k : ℕ) → index < n → n ≤ k → nat_lt index n ≡ nat_lt index k
below index n k h more = grind (arith, nat_tests)

behind : (index front n k : ℕ) → front ≤ index → k ≡ front + n → nat_lt (index - front) n ≡ nat_lt index k
behind index front n k h are = grind (arith, nat_tests)

pub returns-then-place-len : goal.returns-then-place-len
returns-then-place-len c =
    let p = c.args.decoded.now in
    let stands = subst (Stands p.bytes) c.tables-tables.ensures.tables c.tables-tables.ensures.stands in
    let count = types_length p c.requires stands.places.as_many in
    let imports : c.len.result ≡ length p.tables.imports.items = subst (λ t. c.len.result ≡ length t.imports.items) c.tables-tables.ensures.tables (omega (arith, c.tables-tables.result.now.imports.ok.0)) in
    below c.args.index c.len.result _ c.if-place-len.true (omega arith)

pub returns-else-place-len : goal.returns-else-place-len
returns-else-place-len c =
    let p = c.args.decoded.now in
    let stands = subst (Stands p.bytes) c.tables-tables.ensures.tables c.tables-tables.ensures.stands in
    let count = types_length p c.requires stands.places.as_many in
    let imports : c.len-else-place-len.result ≡ length p.tables.imports.items = subst (λ t. c.len-else-place-len.result ≡ length t.imports.items) c.tables-tables.ensures.tables (omega (arith, c.tables-tables.result.now.imports.ok.0)) in
    let first : c.len.result ≡ length p.tables.imports.items = subst (λ t. c.len.result ≡ length t.imports.items) c.tables-tables.ensures.tables (omega (arith, c.tables-tables.result.now.imports.ok.0)) in
    let own : c.len-else-place-len-2.result ≡ length p.tables.signatures.items = subst (λ t. c.len-else-place-len-2.result ≡ length t.signatures.items) c.tables-tables.ensures.tables (omega (arith, c.tables-tables.result.now.signatures.ok.0)) in
    behind c.args.index c.len-else-place-len.result c.len-else-place-len-2.result _ (omega (arith, c.if-place-len.false)) (omega arith)
