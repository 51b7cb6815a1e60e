use Rattle.std.proofs.Common.{◌-◌, ◌<◌, ◌∷◌, ◌++◌, [], Some, None, inl, inr, drop, subst, sym, refl, ap, ◌∙◌, arith, append_assoc}
use Rattle.std.proofs.lemmas.List.{append-nil}
use Rattle.std.proofs.lemmas.Result.{err_from_is_err_and}
use Rattle.wcode.specs.declared.blocks.Block.{Block}
use Rattle.wcode.specs.Syntax.{done, plain, block, loop, if_else, br_table}
use Rattle.wcode.specs.declared.instruction.Op.TheVariants as ops
use Rattle.wcode.specs.Grammar.{one, end}
use Rattle.wcode.specs.inside.Ended.{closing}
use Rattle.wcode.specs.Blocks.{SpellsBlocks}
use Rattle.wcode.specs.inside.Skipped.{SkipsBody, SkipsItem, SkipsNested, SkipsArms}
use Rattle.wcode.proofs.Items.{no_body}
use Rattle.wcode.proofs.Readers.{block_missing, loop_missing, if_missing, nested_after, arms_after, else_is_no_end, no_end, no_first_arm, no_second_arm, true_of}
use Rattle.wcode.proofs.BlockLists.{blocks_spell, arms_spell, passed_begins, passed_more, passed_ends, closed}
use Rattle.wcode.proofs.Passing.{false_of, plain_passes, table_passes, block_passes, loop_passes, if_passes}
use Rattle.wcode.proofs.skipping.+skipped.Goals as goal

pub skip_arms-returns-in_err-first : goal.skip_arms-returns-in_err-first
unfolding SkipsArms SkipsBody
skip_arms-returns-in_err-first t c =
    let p = err_from_is_err_and c.from_residual.result c.from_residual.ensures.1 in
    rw (p.1, p.2) (λ m r. no_first_arm (c.args.room - 1) (drop c.args.next c.args.bytes.now) (c.in_err-first.ensures m))

pub skip_arms-returns-then-not-first : goal.skip_arms-returns-then-not-first
unfolding SkipsArms SkipsBody
skip_arms-returns-then-not-first t c =
    let a = c.in_ok-first in
    let here : Block = record { else_arm = None; after = a.first.next } in
    let r : 0 < c.args.room = omega arith in (
      a.ensures.0,
      r,
      a.ensures.1,
      done,
      here,
      a.ensures.2,
      closed c.args.blocks.now.items c.open.new.blocks.items a.ensures.2 c.skip_body.new.blocks.items c.close.new.blocks.items c.in-Ok.ensures.more.0 here c.in-Ok.index
          c.in-Ok.ensures.index c.in-Ok.ensures.more.1 a.ensures.3 c.close.ensures,
      inl (
        refl,
        (refl, (a.ensures.0, refl)),
        subst (λ e. SpellsBlocks c.args.bytes.now (c.args.room - 1) (closing e) (drop c.args.next c.args.bytes.now) a.ensures.1 (drop a.first.next c.args.bytes.now) a.ensures.2)
            (false_of a.first.by_else c.if-not-first.true) a.ensures.4,
      ),
    )

pub skip_arms-returns-in_err-second : goal.skip_arms-returns-in_err-second
unfolding SkipsArms SkipsBody
skip_arms-returns-in_err-second t c =
    let a = c.in_ok-first in
    let p = err_from_is_err_and c.from_residual-in_err-second.result c.from_residual-in_err-second.ensures.1 in
    rw (p.1, p.2) (λ m r. no_second_arm (c.args.room - 1) (drop c.args.next c.args.bytes.now) a.first.by_else a.ensures.1 (drop a.first.next c.args.bytes.now) c.if-not-first.false
    (blocks_spell c.args.bytes.now (c.args.room - 1) (closing a.first.by_else) (drop c.args.next c.args.bytes.now) a.ensures.1 (drop a.first.next c.args.bytes.now) a.ensures.2 a.ensures.4)
    (no_end (c.args.room - 1) (drop a.first.next c.args.bytes.now) (c.in_err-second.ensures m)))

pub skip_arms-returns-then-second : goal.skip_arms-returns-then-second
unfolding SkipsArms SkipsBody
skip_arms-returns-then-second t c =
    let a = c.in_ok-first in
    let b = c.in_ok-second in
    λ m r. no_second_arm (c.args.room - 1) (drop c.args.next c.args.bytes.now) a.first.by_else a.ensures.1 (drop a.first.next c.args.bytes.now) c.if-not-first.false
    (blocks_spell c.args.bytes.now (c.args.room - 1) (closing a.first.by_else) (drop c.args.next c.args.bytes.now) a.ensures.1 (drop a.first.next c.args.bytes.now) a.ensures.2 a.ensures.4)
    (else_is_no_end (c.args.room - 1) (drop a.first.next c.args.bytes.now) b.second.by_else b.ensures.1 (drop b.second.next c.args.bytes.now) c.if-second.true
    (blocks_spell c.args.bytes.now (c.args.room - 1) (closing b.second.by_else) (drop a.first.next c.args.bytes.now) b.ensures.1 (drop b.second.next c.args.bytes.now) b.ensures.2 b.ensures.4))

pub skip_arms-returns : goal.skip_arms-returns
unfolding SkipsArms SkipsBody
skip_arms-returns t c =
    let a = c.in_ok-first in
    let b = c.in_ok-second in
    let bytes = c.args.bytes.now in
    let here : Block = record { else_arm = Some a.first.next; after = b.second.next } in
    let r : 0 < c.args.room = omega arith in (
      b.ensures.0,
      r,
      a.ensures.1,
      b.ensures.1,
      here,
      a.ensures.2 ++ b.ensures.2,
      closed c.args.blocks.now.items c.open.new.blocks.items (a.ensures.2 ++ b.ensures.2) c.skip_body-2.new.blocks.items c.close-2.new.blocks.items c.in-Ok.ensures.more.0 here c.in-Ok.index
          c.in-Ok.ensures.index c.in-Ok.ensures.more.1 (b.ensures.3 ∙ ap (λ x. x ++ b.ensures.2) a.ensures.3 ∙ append_assoc c.open.new.blocks.items a.ensures.2 b.ensures.2) c.close-2.ensures,
      inr (
        drop a.first.next bytes,
        a.first.next,
        a.ensures.2,
        b.ensures.2,
        refl,
        (a.ensures.0, refl),
        (b.ensures.0, refl),
        refl,
        subst (λ e. SpellsBlocks bytes (c.args.room - 1) (closing e) (drop c.args.next bytes) a.ensures.1 (drop a.first.next bytes) a.ensures.2) (true_of a.first.by_else c.if-not-first.false) a.ensures.4,
        subst (λ e. SpellsBlocks bytes (c.args.room - 1) (closing e) (drop a.first.next bytes) b.ensures.1 (drop b.second.next bytes) b.ensures.2) c.if-second.false b.ensures.4,
      ),
    )

pub skip_nested-returns-in_err-inner : goal.skip_nested-returns-in_err-inner
unfolding SkipsNested SkipsBody
skip_nested-returns-in_err-inner t c =
    let p = err_from_is_err_and c.from_residual.result c.from_residual.ensures.1 in
    rw (p.1, p.2) (λ m r. no_end (c.args.room - 1) (drop c.args.next c.args.bytes.now) (c.in_err-inner.ensures m))

pub skip_nested-returns-then-inner : goal.skip_nested-returns-then-inner
unfolding SkipsNested SkipsBody
skip_nested-returns-then-inner t c =
    let a = c.in_ok-inner in
    λ m r. else_is_no_end (c.args.room - 1) (drop c.args.next c.args.bytes.now) a.inner.by_else a.ensures.1 (drop a.inner.next c.args.bytes.now) c.if-inner.true
    (blocks_spell c.args.bytes.now (c.args.room - 1) (closing a.inner.by_else) (drop c.args.next c.args.bytes.now) a.ensures.1 (drop a.inner.next c.args.bytes.now) a.ensures.2 a.ensures.4)

pub skip_nested-returns : goal.skip_nested-returns
unfolding SkipsNested SkipsBody
skip_nested-returns t c =
    let a = c.in_ok-inner in
    let here : Block = record { else_arm = None; after = a.inner.next } in
    let r : 0 < c.args.room = omega arith in (
      a.ensures.0,
      r,
      a.ensures.1,
      here,
      a.ensures.2,
      closed c.args.blocks.now.items c.open.new.blocks.items a.ensures.2 c.skip_body.new.blocks.items c.close.new.blocks.items c.in-Ok.ensures.more.0 here c.in-Ok.index
          c.in-Ok.ensures.index c.in-Ok.ensures.more.1 a.ensures.3 c.close.ensures,
      (refl, (a.ensures.0, refl)),
      subst (λ e. SpellsBlocks c.args.bytes.now (c.args.room - 1) (closing e) (drop c.args.next c.args.bytes.now) a.ensures.1 (drop a.inner.next c.args.bytes.now) a.ensures.2)
          c.if-inner.false a.ensures.4,
    )

pub skip_body-items-init : goal.skip_body-items-init
skip_body-items-init t c = passed_begins c.args.bytes.now c.args.room c.args.at c.args.blocks.now.items c.requires

pub skip_body-items-preserved : goal.skip_body-items-preserved
unfolding SkipsItem
skip_body-items-preserved t c =
    let g = rw c.in-Passes.is at c.in_ok-next.ensures in
    passed_more c.args.bytes.now c.args.room c.args.at c.args.blocks.now.items c.items.place c.items.blocks.items c.in-Passes.next c.skip_item.new.blocks.items g.2 g.3 c.items.invariant g.0 g.4 g.5

pub skip_body-returns-in-Ends : goal.skip_body-returns-in-Ends
unfolding SkipsBody SkipsItem
skip_body-returns-in-Ends t c =
    let a = c.in-Ends in
    let g = rw a.is at c.in_ok-next.ensures in
    let h = c.items.invariant in
    (g.0, h.made done, h.inside, g.2 ∙ h.grown, passed_ends c.args.bytes.now c.args.room c.args.at c.args.blocks.now.items c.items.place c.items.blocks.items a.by_else a.next h g.1)

pub skip_item-returns-in-Some : goal.skip_item-returns-in-Some
unfolding SkipsItem
skip_item-returns-in-Some t c =
    let a = c.in-Some in
    let x = a.ensures in (
      x.1,
      x.0,
      plain x.2,
      [],
      sym (append-nil c.args.blocks.now.items),
      plain_passes c.args.bytes.now c.args.room c.args.at a.next (ops.Plain x.2) x.2 refl (one x.2, refl, x.3),
    )

pub skip_item-returns-then-stands_end : goal.skip_item-returns-then-stands_end
unfolding SkipsItem
skip_item-returns-then-stands_end t c =
    let within = c.stands_end.ensures.within c.if-stands_end.true in
    (omega (arith, within), c.stands_end.ensures.word c.if-stands_end.true, refl)

pub skip_item-returns-in-Plain : goal.skip_item-returns-in-Plain
unfolding SkipsItem
skip_item-returns-in-Plain t c =
    let a = c.in_ok-op in
    let p = c.in-Plain in (
      a.ensures.end.1,
      a.ensures.end.0,
      plain p.field-0,
      [],
      sym (append-nil c.args.blocks.now.items),
      plain_passes c.args.bytes.now c.args.room c.args.at a.next a.op p.field-0 p.is a.ensures.found,
    )

pub skip_item-returns-in-BrTable : goal.skip_item-returns-in-BrTable
unfolding SkipsItem
skip_item-returns-in-BrTable t c =
    let a = c.in_ok-op in
    let p = table_passes c.args.bytes.now c.args.room c.args.at a.next a.op _ _ c.in-BrTable.is a.ensures.found in
    (a.ensures.end.1, a.ensures.end.0, br_table p.0 p.1, [], sym (append-nil c.args.blocks.now.items), p.2)

pub skip_item-returns-in_ok-end-in-Block : goal.skip_item-returns-in_ok-end-in-Block
unfolding SkipsItem SkipsNested
skip_item-returns-in_ok-end-in-Block t c =
    let a = c.in_ok-op in
    let p = c.in-Block in
    let b = c.in_ok-end-in-Block in
    let g = b.ensures in (
      g.0,
      nested_after c.args.bytes.now (c.args.room - 1) c.args.at a.next b.end g.2 a.ensures.end.0 g.0
          (blocks_spell c.args.bytes.now (c.args.room - 1) end (drop a.next c.args.bytes.now) g.2 (drop b.end c.args.bytes.now) g.4 g.7),
      block p.field-0 g.2,
      g.3 ∷ g.4,
      g.5,
      block_passes c.args.bytes.now c.args.room c.args.at a.next a.op p.field-0 g.2 b.end g.3 g.4 p.is a.ensures.found g.1 g.6 g.7,
    )

pub skip_item-returns-in_err-end-in-Block : goal.skip_item-returns-in_err-end-in-Block
unfolding SkipsItem SkipsNested
skip_item-returns-in_err-end-in-Block t c =
    let a = c.in_ok-op in
    let p = err_from_is_err_and c.from_residual-in_err-end-in-Block.result c.from_residual-in_err-end-in-Block.ensures.1 in
    rw (p.1, p.2) (λ m. block_missing c.args.bytes.now c.args.room c.args.at a.next a.op (λ b. b) c.in-Block.field-0 c.in-Block.is a.ensures.found (c.in_err-end-in-Block.ensures m))

pub skip_item-returns-in_ok-end-in-Loop : goal.skip_item-returns-in_ok-end-in-Loop
unfolding SkipsItem SkipsNested
skip_item-returns-in_ok-end-in-Loop t c =
    let a = c.in_ok-op in
    let p = c.in-Loop in
    let b = c.in_ok-end-in-Loop in
    let g = b.ensures in (
      g.0,
      nested_after c.args.bytes.now (c.args.room - 1) c.args.at a.next b.end g.2 a.ensures.end.0 g.0
          (blocks_spell c.args.bytes.now (c.args.room - 1) end (drop a.next c.args.bytes.now) g.2 (drop b.end c.args.bytes.now) g.4 g.7),
      loop p.field-0 g.2,
      g.3 ∷ g.4,
      g.5,
      loop_passes c.args.bytes.now c.args.room c.args.at a.next a.op p.field-0 g.2 b.end g.3 g.4 p.is a.ensures.found g.1 g.6 g.7,
    )

pub skip_item-returns-in_err-end-in-Loop : goal.skip_item-returns-in_err-end-in-Loop
unfolding SkipsItem SkipsNested
skip_item-returns-in_err-end-in-Loop t c =
    let a = c.in_ok-op in
    let p = err_from_is_err_and c.from_residual-in_err-end-in-Loop.result c.from_residual-in_err-end-in-Loop.ensures.1 in
    rw (p.1, p.2) (λ m. loop_missing c.args.bytes.now c.args.room c.args.at a.next a.op (λ b. b) c.in-Loop.field-0 c.in-Loop.is a.ensures.found (c.in_err-end-in-Loop.ensures m))

pub skip_item-returns-in_ok-end-in-If : goal.skip_item-returns-in_ok-end-in-If
unfolding SkipsItem SkipsArms
skip_item-returns-in_ok-end-in-If t c =
    let a = c.in_ok-op in
    let p = c.in-If in
    let b = c.in_ok-end-in-If in
    let g = b.ensures in (
      g.0,
      arms_after c.args.bytes.now (c.args.room - 1) c.args.at a.next b.end g.2 g.3 a.ensures.end.0 g.0
          (arms_spell c.args.bytes.now (c.args.room - 1) g.4 (drop a.next c.args.bytes.now) g.2 g.3 (drop b.end c.args.bytes.now) g.5 g.7),
      if_else p.field-0 g.2 g.3,
      g.4 ∷ g.5,
      g.6,
      if_passes c.args.bytes.now c.args.room c.args.at a.next a.op p.field-0 g.2 g.3 b.end g.4 g.5 p.is a.ensures.found g.1 g.7,
    )

pub skip_item-returns-in_err-end-in-If : goal.skip_item-returns-in_err-end-in-If
unfolding SkipsItem SkipsArms
skip_item-returns-in_err-end-in-If t c =
    let a = c.in_ok-op in
    let p = err_from_is_err_and c.from_residual-in_err-end-in-If.result c.from_residual-in_err-end-in-If.ensures.1 in
    rw (p.1, p.2) (λ m. if_missing c.args.bytes.now c.args.room c.args.at a.next a.op (λ b. b) c.in-If.field-0 c.in-If.is a.ensures.found (c.in_err-end-in-If.ensures m))

pub skip_item-returns-in_err-op : goal.skip_item-returns-in_err-op
unfolding SkipsItem
skip_item-returns-in_err-op t c =
    let p = err_from_is_err_and c.from_residual.result c.from_residual.ensures.1 in
    rw (p.1) (λ m. no_body c.args.room (drop c.args.at c.args.bytes.now) c.in_err-op.ensures.none)
