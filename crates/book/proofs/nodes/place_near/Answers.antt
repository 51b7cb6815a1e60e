use Rattle.std.proofs.Common.{◌≡◌, ap, sym, ◌∙◌}
use Rattle.std.proofs.lemmas.List.{get_or_read}
use Rattle.std.specs.Cmp.{tied_itself}
use Rattle.std.specs.Cmp.Lexicographic.{nat_list_cmp_total, bytes_decides}
use Rattle.quant.specs.declared.objects.Node.{Node}
use Rattle.book.specs.Cluster.{name_cmp}
use Rattle.book.proofs.nodes.place_near.Goals as goal

-- the row of the guess has the name
pub returns-then-eq-clause-found : goal.returns-then-eq-clause-found
returns-then-eq-clause-found c =
    let row = c.index-rows-guess.result in
    let has : row.name ≡ c.args.name.now = ap (λ (r : Node). r.name) (sym c.deref.ensures) ∙ (bytes_decides c.deref.result.now.name c.args.name.now).0 (sym c.eq.ensures ∙ c.if-eq.true) in
    record {
      in_range = c.if-guess-rows.true;
      same = λ d. ap (λ (r : Node). name_cmp r.name c.args.name.now) (sym (get_or_read c.args.rows.now c.args.guess row c.if-guess-rows.true c.index-rows-guess.is d)) ∙ ap (λ n. name_cmp n c.args.name.now) has ∙ tied_itself nat_list_cmp_total c.args.name.now;
    }
