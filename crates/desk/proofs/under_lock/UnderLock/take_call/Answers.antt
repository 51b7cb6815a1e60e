use Rattle.std.proofs.Common.{◌≡◌, ◌+◌, sym, ap, ◌∙◌, subst, drop, fold, slice_index}
use Rattle.std.specs.Prelude.{IfSome}
use Rattle.desk.specs.declared.board.Order.{Order}
use Rattle.desk.specs.inside.Board.{IsChange, Writes, board_after, board_of}
use Rattle.desk.specs.inside.Caller.{Core, with_state}
use Rattle.desk.specs.Machine.{after}
use Rattle.desk.specs.inside.Shared.{Held, Stands, held_after}
use Rattle.desk.proofs.LastLook.{writes}
use Rattle.desk.proofs.Sharing.{published_more, is_board}
use Rattle.desk.proofs.under_lock.UnderLock.take_call.Goals as goal

-- what is published with the call is that of what is held after it
pub publish_orders-writer-requires : goal.publish_orders-writer-requires
publish_orders-writer-requires g c =
    let p = c.args.pass.now.caller in
    let e = c.args.step in
    let x : Held = record { desk = c.self.inside.core.value; prefix = c.self.inside.prefix } in
    let w = c.self.inside.writer in
    let order : Order = record { change = c.take_noted-said.result.1; pass = c.number-2.result; calls = c.calls.result + 1; prefix = c.again.result } in
    let opened = c.deref_mut.ensures.value in
    let new = ap (λ (d : Core). d.state.cluster) c.take_noted-said.ensures.after_is ∙ (λ i. (after (opened i).state (c.number.ensures i) e).cluster) in
    let changed = subst (λ (d : Core). IsChange d.state.cluster order.change (after x.desk.state p.number e).cluster) opened (subst (IsChange c.deref_mut.result.now.state.cluster order.change) new c.take_noted-said.ensures.changed) in
    let counted = ap (λ n. n + 1) (ap (λ (y : Held). slice_index y.desk.state.calls p.number) c.self.view_is ∙ c.requires.calls ∙ sym c.calls.ensures) in
    is_board g.J.Naming.book g.J.Naming.limits (held_after c.args.self p.number e c.args.prefix) _ c.requires.stands
    (published_more x c.args.self c.self.view_is w.desk.shown.value (drop w.behind w.log.items) c.self.invariant.idle c.self.invariant.shown _ _ order c.add_order-writer.ensures.0 c.add_order-writer.ensures.1
    p.number e c.args.prefix c.number-2.ensures c.again.ensures changed counted)

-- and nothing waits then
pub invariant_of-held : goal.invariant_of-held
invariant_of-held g c =
    let p = c.args.pass.now.caller in
    let e = c.args.step in
    let x : Held = record { desk = c.self.inside.core.value; prefix = c.self.inside.prefix } in
    let w = c.self.inside.writer in
    let order : Order = record { change = c.take_noted-said.result.1; pass = c.number-2.result; calls = c.calls.result + 1; prefix = c.again.result } in
    let opened = c.deref_mut.ensures.value in
    let new = ap (λ (d : Core). d.state.cluster) c.take_noted-said.ensures.after_is ∙ (λ i. (after (opened i).state (c.number.ensures i) e).cluster) in
    let changed = subst (λ (d : Core). IsChange d.state.cluster order.change (after x.desk.state p.number e).cluster) opened (subst (IsChange c.deref_mut.result.now.state.cluster order.change) new c.take_noted-said.ensures.changed) in
    let counted = ap (λ n. n + 1) (ap (λ (y : Held). slice_index y.desk.state.calls p.number) c.self.view_is ∙ c.requires.calls ∙ sym c.calls.ensures) in
    let inside = opened ∙ ap (λ (y : Held). y.desk) c.self.view_is in
    let desk = c.take_noted-said.ensures.after_is ∙ λ i. with_state (inside i) (after (inside i).state (c.number.ensures i) e) in
    let held : record { desk = c.take_noted-said.new.self; prefix = c.args.prefix } ≡ held_after c.args.self p.number e c.args.prefix = λ i. record { desk = desk i; prefix = c.args.prefix } in
    record {
      stands = subst (Stands g.J.Naming.book g.J.Naming.limits) (sym held) c.requires.stands;
      shown =
          c.publish_orders-writer.ensures.0
          ∙ published_more x c.args.self c.self.view_is w.desk.shown.value (drop w.behind w.log.items) c.self.invariant.idle c.self.invariant.shown _ _ order c.add_order-writer.ensures.0 c.add_order-writer.ensures.1
          p.number e c.args.prefix c.number-2.ensures c.again.ensures changed counted
          ∙ ap board_of (sym held);
      idle = ap (fold board_after c.publish_orders-writer.result.desk.shown.value) c.publish_orders-writer.ensures.1;
    }

-- what the change writes
pub returns-clause-totals : goal.returns-clause-totals
returns-clause-totals g c =
    let p = c.args.pass.now.caller in
    let e = c.args.step in
    let x : Held = record { desk = c.self.inside.core.value; prefix = c.self.inside.prefix } in
    let change = c.take_noted-said.result.1 in
    let opened = c.deref_mut.ensures.value in
    let new = ap (λ (d : Core). d.state.cluster) c.take_noted-said.ensures.after_is ∙ (λ i. (after (opened i).state (c.number.ensures i) e).cluster) in
    let changed = subst (λ (d : Core). IsChange d.state.cluster change (after x.desk.state p.number e).cluster) opened (subst (IsChange c.deref_mut.result.now.state.cluster change) new c.take_noted-said.ensures.changed) in
    subst (λ (y : Held). IfSome c.totals-totals.result (λ totals. Writes y.desk.state.cluster totals (after y.desk.state p.number e).cluster)) c.self.view_is
    (writes x.desk.state.cluster (after x.desk.state p.number e).cluster change c.totals-totals.result changed c.totals-totals.ensures)

-- it is what was held, with the call
pub returns-clause-held : goal.returns-clause-held
returns-clause-held g c =
    let inside = c.deref_mut.ensures.value ∙ ap (λ (y : Held). y.desk) c.self.view_is in
    let desk = c.take_noted-said.ensures.after_is ∙ λ i. with_state (inside i) (after (inside i).state (c.number.ensures i) c.args.step) in
    λ i. record { desk = desk i; prefix = c.args.prefix }
