use Rattle.std.proofs.Common.{◌+◌, ◌≤◌, List, [], ◌∷◌, ◌++◌, vec_len, sym, ap, ◌∙◌, subst, arith}
use Rattle.std.specs.Vec.{vec_capacity}
use Rattle.wmodule.specs.Syntax.{module_of}
use Rattle.wtype.specs.declared.checked.Checked.{Checked}
use Rattle.whost.specs.Image.{IsImage}
use Rattle.plugin.specs.Plugins.{IsWeight}
use Rattle.plugin.specs.inside.Entries.{configured}
use Rattle.plugin.specs.Kit.{InstanceState, IsReadyOf}
use Rattle.plugin.proofs.EntryLemmas.{where_ok}
use Rattle.plugin.proofs.plugins.made.Goals as goal

pub returns-in-Ok-new-clause-joined : goal.returns-in-Ok-new-clause-joined
returns-in-Ok-new-clause-joined c =
    let member = c.in-Ok-new.member in
    let same = c.in-Ok.ensures.cases in
    λ name.
    let is : IsReadyOf (configured (name, c.args.entry.now)) member.ready = record {
      weight = c.in-Ok-new.ensures.weight;
      fuel = c.in-Ok-new.ensures.fuel;
      content = c.in-Ok-new.ensures.content ∙ ap (λ (x : Checked). x.content) same;
      image = subst (λ (x : Checked). IsImage (module_of x.content) c.args.entry.now.fuel member.ready.image) same c.in-Ok-new.ensures.image;
    } in
    record {
      instance = member;
      joined = c.push_reserved.ensures.items ∙ ap (λ (items : List InstanceState). items ++ member ∷ []) c.reserve.ensures.items;
      is = is;
      at_image = c.in-Ok-new.ensures.at_image;
      weight = subst IsWeight (sym c.in-Ok-new.ensures.weight) c.requires;
    }

pub push_reserved-requires : goal.push_reserved-requires
push_reserved-requires c =
    let room : vec_len c.reserve.new.self + 1 ≤ vec_capacity c.reserve.new.self = where_ok c.reserve.result _ (sym c.is_err.ensures.value ∙ c.if-is_err.false) c.reserve.ensures.ok in
    omega (arith, room)
