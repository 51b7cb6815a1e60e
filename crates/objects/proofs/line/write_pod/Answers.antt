use Rattle.std.proofs.Common.{refl, rules, SFits, w32}
use Rattle.std.proofs.lemmas.Int.{to_z-of_z}
use Rattle.objects.specs.inside.Line.{line_json}
use Rattle.objects.proofs.Added.{with_last}
use Rattle.objects.proofs.line.write_pod.Goals as goal

pub returns : goal.returns
unfolding line_json
returns c =
    let priority = c.args.pod.now.priority in
    let narrow : SFits w32 priority = search rules in
    with_last c.put_object.result _ _ c.put_object.ensures (λ told. (
      rw (told.0, c.as_str.ensures, c.as_slice.ensures.value, c.as_slice-2.ensures.value, to_z-of_z w32 priority narrow) refl,
      told.1,
    ))
