use Rattle.std.proofs.Common.{length, arith, sym, ap, ◌∙◌, subst}
use Rattle.name_table.specs.Slots.{NamesOnce}
use Rattle.queue.specs.inside.Heap.{Pods}
use Rattle.queue.specs.inside.Index.{IsIndex}
use Rattle.queue.specs.inside.Slots.{OwnUids, state_of}
use Rattle.queue.proofs.States.{once_free, own_free, free_state, length_free}
use Rattle.queue.proofs.queue.Queue.new.Goals as goal

pub invariant_of-result : goal.invariant_of-result
invariant_of-result c = record {
  index = subst (λ (p : Pods). IsIndex p c.in-Ok-new.index) (sym c.in-Ok.ensures) c.in-Ok-new.ensures;
  once = subst (λ (p : Pods). NamesOnce p) (sym c.in-Ok.ensures) (once_free c.args.limit);
  own_uid = subst (λ (p : Pods). OwnUids p) (sym c.in-Ok.ensures) (own_free c.args.limit);
  limited = omega (arith, ap (λ (p : Pods). length p) c.in-Ok.ensures, length_free c.args.limit, c.requires);
  few = omega arith;
}

pub returns : goal.returns
returns c = ap (λ (p : Pods). state_of p) c.in-Ok.ensures ∙ free_state c.args.limit
