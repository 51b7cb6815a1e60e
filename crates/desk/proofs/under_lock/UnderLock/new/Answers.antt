use Rattle.std.proofs.Common.{◌≡◌, sym, ap, ◌∙◌, subst, fold}
use Rattle.desk.specs.inside.Board.{board_of, board_after}
use Rattle.desk.specs.inside.Caller.{new_core}
use Rattle.desk.specs.inside.Shared.{Held, Stands, first_held}
use Rattle.desk.proofs.Sharing.{stands_first}
use Rattle.desk.proofs.under_lock.UnderLock.new.Goals as goal

-- nothing was done, that is published, and nothing waits
pub invariant_of-made : goal.invariant_of-made
invariant_of-made g c =
    let book = g.J.Naming.book in
    let limits = g.J.Naming.limits in
    let w = c.in-Ok-new_writer.writer in
    let x : Held = record { desk = c.in-Ok.core.value; prefix = c.again.result } in
    let is : x ≡ first_held book limits = λ i. record { desk = (c.in-Ok.ensures ∙ ap new_core c.requires.limits) i; prefix = (c.again.ensures ∙ c.requires.nothing) i } in
    record {
      stands = subst (Stands book limits) (sym is) (stands_first book limits);
      shown = c.in-Ok-new_writer.ensures.shown ∙ ap board_of (sym is);
      idle = ap (fold board_after w.desk.shown.value) c.in-Ok-new_writer.ensures.idle;
    }
