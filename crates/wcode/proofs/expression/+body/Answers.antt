use Rattle.std.proofs.Common.{◌-◌, drop, subst, sym}
use Rattle.std.proofs.lemmas.Result.{err_from_is_err_and}
use Rattle.wcode.specs.Syntax.{with_instr, body_of}
use Rattle.wcode.specs.inside.Ended.{GivesBody, GivesItem}
use Rattle.wcode.proofs.Items.{no_body}
use Rattle.wcode.proofs.Lists.{HasItems, more_items, items_end}
use Rattle.wcode.proofs.Readers.{plain_stands, block_stands, loop_stands, if_stands, table_stands, block_missing, loop_missing, if_missing, nested_after, arms_after, else_is_no_end, no_end, no_first_arm, no_second_arm}
use Rattle.wcode.proofs.expression.+body.Goals as goal

pub read_item-returns-in-Plain : goal.read_item-returns-in-Plain
unfolding GivesItem
read_item-returns-in-Plain t c =
    let a = c.in_ok-op in
    let p = c.in-Plain in (
      a.ensures.end.1,
      a.ensures.end.0,
      plain_stands c.args.bytes.now c.args.room c.args.at a.next a.op (with_instr c.plain_of.result) p.p p.is a.ensures.found c.plain_of.ensures,
    )

pub read_item-returns-in_ok-inner-in-Block : goal.read_item-returns-in_ok-inner-in-Block
unfolding GivesItem
read_item-returns-in_ok-inner-in-Block t c =
    let a = c.in_ok-op in
    let p = c.in-Block in
    let b = c.in_ok-inner-in-Block in (
      b.ensures.end,
      nested_after c.args.bytes.now (c.args.room - 1) c.args.at a.next b.end (body_of b.inner.items) a.ensures.end.0 b.ensures.end b.ensures.found.1,
      block_stands c.args.bytes.now c.args.room c.args.at a.next a.op (with_instr c.block_of.result) p.t (body_of b.inner.items) b.end p.is a.ensures.found b.ensures.found c.block_of.ensures,
    )

pub read_item-returns-in_err-inner-in-Block : goal.read_item-returns-in_err-inner-in-Block
unfolding GivesItem
read_item-returns-in_err-inner-in-Block t c =
    let a = c.in_ok-op in
    let p = err_from_is_err_and c.from_residual-in_err-inner-in-Block.result c.from_residual-in_err-inner-in-Block.ensures.1 in
    rw (p.1, p.2) (λ m. block_missing c.args.bytes.now c.args.room c.args.at a.next a.op (λ b. b) c.in-Block.t c.in-Block.is a.ensures.found (c.in_err-inner-in-Block.ensures.none m))

pub read_item-returns-in_ok-inner-in-Loop : goal.read_item-returns-in_ok-inner-in-Loop
unfolding GivesItem
read_item-returns-in_ok-inner-in-Loop t c =
    let a = c.in_ok-op in
    let p = c.in-Loop in
    let b = c.in_ok-inner-in-Loop in (
      b.ensures.end,
      nested_after c.args.bytes.now (c.args.room - 1) c.args.at a.next b.end (body_of b.inner.items) a.ensures.end.0 b.ensures.end b.ensures.found.1,
      loop_stands c.args.bytes.now c.args.room c.args.at a.next a.op (with_instr c.loop_of.result) p.t (body_of b.inner.items) b.end p.is a.ensures.found b.ensures.found c.loop_of.ensures,
    )

pub read_item-returns-in_err-inner-in-Loop : goal.read_item-returns-in_err-inner-in-Loop
unfolding GivesItem
read_item-returns-in_err-inner-in-Loop t c =
    let a = c.in_ok-op in
    let p = err_from_is_err_and c.from_residual-in_err-inner-in-Loop.result c.from_residual-in_err-inner-in-Loop.ensures.1 in
    rw (p.1, p.2) (λ m. loop_missing c.args.bytes.now c.args.room c.args.at a.next a.op (λ b. b) c.in-Loop.t c.in-Loop.is a.ensures.found (c.in_err-inner-in-Loop.ensures.none m))

pub read_item-returns-in_ok-yes_arm-in-If : goal.read_item-returns-in_ok-yes_arm-in-If
unfolding GivesItem
read_item-returns-in_ok-yes_arm-in-If t c =
    let a = c.in_ok-op in
    let p = c.in-If in
    let b = c.in_ok-yes_arm-in-If in (
      b.ensures.end,
      arms_after c.args.bytes.now (c.args.room - 1) c.args.at a.next b.end (body_of b.yes_arm.items) (body_of b.no_arm.items) a.ensures.end.0 b.ensures.end b.ensures.found.1,
      if_stands c.args.bytes.now c.args.room c.args.at a.next a.op (with_instr c.if_of.result) p.t (body_of b.yes_arm.items) (body_of b.no_arm.items) b.end
          p.is a.ensures.found b.ensures.found c.if_of.ensures,
    )

pub read_item-returns-in_err-yes_arm-in-If : goal.read_item-returns-in_err-yes_arm-in-If
unfolding GivesItem
read_item-returns-in_err-yes_arm-in-If t c =
    let a = c.in_ok-op in
    let p = err_from_is_err_and c.from_residual-in_err-yes_arm-in-If.result c.from_residual-in_err-yes_arm-in-If.ensures.1 in
    rw (p.1, p.2) (λ m. if_missing c.args.bytes.now c.args.room c.args.at a.next a.op (λ b. b) c.in-If.t c.in-If.is a.ensures.found (c.in_err-yes_arm-in-If.ensures.none m))

pub read_item-returns-in-Ok : goal.read_item-returns-in-Ok
unfolding GivesItem
read_item-returns-in-Ok t c =
    let a = c.in_ok-op in
    let p = c.in-BrTable in
    let b = c.in-Ok in (
      a.ensures.end.1,
      a.ensures.end.0,
      table_stands c.args.bytes.now c.args.room c.args.at a.next a.op (with_instr c.table_of.result) p.count p.labels_at b.labels.items b.default
          p.is a.ensures.found b.ensures c.table_of.ensures,
    )

pub read_item-returns-in_err-op : goal.read_item-returns-in_err-op
unfolding GivesItem
read_item-returns-in_err-op t c =
    let p = err_from_is_err_and c.from_residual.result c.from_residual.ensures.1 in
    rw (p.1) (λ m. no_body c.args.room (drop c.args.at c.args.bytes.now) c.in_err-op.ensures.none)

pub read_body-items-preserved : goal.read_body-items-preserved
unfolding GivesItem
read_body-items-preserved t c =
    let a = c.in-One in
    let g = rw a.is at c.in_ok-instr.ensures in
    subst (λ l. HasItems c.args.bytes.now c.args.room c.args.at l a.next) (sym c.in-Ok.ensures)
    (more_items c.args.bytes.now c.args.room c.args.at c.items.body.items c.items.place a.instr a.next c.items.invariant g.0 g.2)

pub read_body-returns-in-Ends : goal.read_body-returns-in-Ends
unfolding GivesBody GivesItem
read_body-returns-in-Ends t c =
    let a = c.in-Ends in
    let g = rw a.is at c.in_ok-instr.ensures in
    (g.0, items_end c.args.bytes.now c.args.room c.args.at c.items.body.items c.items.place a.by_else a.next c.items.invariant g.1)

pub read_nested-returns-then-inner-clause-none : goal.read_nested-returns-then-inner-clause-none
unfolding GivesBody
read_nested-returns-then-inner-clause-none t c =
    let a = c.in_ok-inner in
    λ m r. else_is_no_end (c.args.room - 1) (drop c.args.next c.args.bytes.now) a.inner.by_else (body_of a.inner.body.items) (drop a.inner.next c.args.bytes.now) c.if-inner.true a.ensures.1

pub read_nested-returns-in_err-inner-clause-none : goal.read_nested-returns-in_err-inner-clause-none
unfolding GivesBody
read_nested-returns-in_err-inner-clause-none t c =
    let p = err_from_is_err_and c.from_residual.result c.from_residual.ensures.1 in
    rw (p.1, p.2) (λ m r. no_end (c.args.room - 1) (drop c.args.next c.args.bytes.now) (c.in_err-inner.ensures m))

pub read_arms-returns-in_err-second-clause-none : goal.read_arms-returns-in_err-second-clause-none
unfolding GivesBody
read_arms-returns-in_err-second-clause-none t c =
    let a = c.in_ok-first in
    let p = err_from_is_err_and c.from_residual-in_err-second.result c.from_residual-in_err-second.ensures.1 in
    rw (p.1, p.2)
    (λ m r. no_second_arm (c.args.room - 1) (drop c.args.next c.args.bytes.now) a.first.by_else (body_of a.first.body.items) (drop a.first.next c.args.bytes.now)
    c.if-not-first.false a.ensures.1 (c.in_err-second.ensures.none m r))

pub read_arms-returns-in_err-first-clause-none : goal.read_arms-returns-in_err-first-clause-none
unfolding GivesBody
read_arms-returns-in_err-first-clause-none t c =
    let p = err_from_is_err_and c.from_residual.result c.from_residual.ensures.1 in
    rw (p.1, p.2) (λ m r. no_first_arm (c.args.room - 1) (drop c.args.next c.args.bytes.now) (c.in_err-first.ensures m))
