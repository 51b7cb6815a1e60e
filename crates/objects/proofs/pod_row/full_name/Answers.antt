use Rattle.std.proofs.Common.{◌<◌, [], ◌∷◌, ◌++◌, length, arith}
use Rattle.std.proofs.lemmas.Grind.{common_steps}
use Rattle.objects.proofs.Names.{no_name}
use Rattle.objects.proofs.pod_row.full_name.Goals as goal

pub returns-in_err-put_behind : goal.returns-in_err-put_behind
returns-in_err-put_behind c =
    let long : 63 < length (c.args.namespace.now ++ 47 ∷ [] ++ c.args.name.now) = grind (arith, common_steps) in
    no_name _ _ long c.from_residual.ensures

pub returns-in_err-put_behind-2 : goal.returns-in_err-put_behind-2
returns-in_err-put_behind-2 c =
    let long : 63 < length (c.args.namespace.now ++ 47 ∷ [] ++ c.args.name.now) = grind (arith, common_steps) in
    no_name _ _ long c.from_residual-in_err-put_behind-2.ensures

pub returns-in_err-put_behind-3 : goal.returns-in_err-put_behind-3
returns-in_err-put_behind-3 c =
    let long : 63 < length (c.args.namespace.now ++ 47 ∷ [] ++ c.args.name.now) = grind (arith, common_steps) in
    no_name _ _ long c.from_residual-in_err-put_behind-3.ensures
