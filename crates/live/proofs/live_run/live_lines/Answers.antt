use Rattle.std.proofs.Common.{◌∙◌, refl, ap}
use Rattle.live_desk.specs.State.{opening}
use Rattle.live.specs.declared.live_run.TheConstants.{MAX_KNOWN}
use Rattle.live.proofs.Lived.{front_of_nothing, not_begun}
use Rattle.live.proofs.live_run.live_lines.Goals as goal

-- nothing was begun
pub returns-in-Err : goal.returns-in-Err
returns-in-Err g c =
    not_begun _ _ _ _ _ refl c.in-Err.ensures.faults refl refl (front_of_nothing _ _ _)

pub lines_with_room-done-requires-clause-first : goal.lines_with_room-done-requires-clause-first
lines_with_room-done-requires-clause-first g c κs within = c.in-Ok.ensures.opening ∙ ap (λ l. opening l MAX_KNOWN) c.requires.greatest
