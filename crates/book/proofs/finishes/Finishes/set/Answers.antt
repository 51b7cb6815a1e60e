use Rattle.std.proofs.Common.{◌≡◌, ◌∙◌, ◌<◌, ◌*◌, ◌/◌, length, ap, sym, subst, arith}
use Rattle.std.proofs.Math.ListN.{length-set}
use Rattle.book.specs.inside.Finishes.{IsEarliest}
use Rattle.book.proofs.Earliest.{restored, put_back}
use Rattle.book.proofs.finishes.Finishes.set.Goals as goal

-- before this one was set, all were kept
pub keep_earliest-requires-clause-kept : goal.keep_earliest-requires-clause-kept
keep_earliest-requires-clause-kept c =
    let f = c.self.inside in
    subst (λ l. IsEarliest l f.earliest.items) (sym (restored f.each.items c.deref.result.now c.args.slot c.index-before.result.now c.args.at c.deref.ensures.value c.index-before.ensures)) c.self.invariant.0

pub keep_earliest-requires-2-clause-kept : goal.keep_earliest-requires-2-clause-kept
keep_earliest-requires-2-clause-kept c =
    let f = c.self.inside in
    let many : length f.each.items < length f.earliest.items * 64 = c.self.invariant.0.many in
    let lt : c.args.slot / 64 < length f.earliest.items = omega (arith, ap length c.self.view_is, c.requires) in
    subst (λ l. IsEarliest l f.first.items)
    (sym (put_back f.earliest.items c.keep_earliest.new.earliest.items c.deref-2.result.now (c.args.slot / 64) c.index-earliest.result.now c.deref-2.ensures.value c.keep_earliest.ensures.block lt c.index-earliest.ensures))
    c.self.invariant.1

pub invariant_of-self : goal.invariant_of-self
invariant_of-self c = (
  subst (λ l. IsEarliest l c.keep_earliest.new.earliest.items) c.deref.ensures.value c.keep_earliest.ensures.kept,
  subst (λ l. IsEarliest l c.keep_earliest-2.new.earliest.items) c.deref-2.ensures.value c.keep_earliest-2.ensures.kept,
)

-- as many are kept as before
pub keep_earliest-requires-clause-here : goal.keep_earliest-requires-clause-here
keep_earliest-requires-clause-here c = omega (arith, ap length c.deref.ensures.value, length-set c.self.inside.each.items c.args.slot c.args.at, ap length c.self.view_is, c.requires)

pub keep_earliest-requires-2-clause-here : goal.keep_earliest-requires-2-clause-here
keep_earliest-requires-2-clause-here c =
    let f = c.self.inside in
    let same : length c.keep_earliest.new.earliest.items ≡ length f.earliest.items = sym (length-set c.keep_earliest.new.earliest.items (c.args.slot / 64) _) ∙ ap length c.keep_earliest.ensures.block in
    omega (arith, ap length c.deref-2.ensures.value, same, c.self.invariant.0.many, ap length c.self.view_is, c.requires)
