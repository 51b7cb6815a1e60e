use Rattle.std.proofs.Common.{refl}
use Rattle.live.proofs.Lived.{front_of_nothing, wanting_room}
use Rattle.live.proofs.live_run.lines_with_room.Goals as goal

-- memory was wanting before a line was read

pub returns-in_default : goal.returns-in_default
returns-in_default g c =
    wanting_room _ _ _ _ _ refl refl refl refl (front_of_nothing _ _ _)

pub returns-in_default-new : goal.returns-in_default-new
returns-in_default-new g c =
    wanting_room _ _ _ _ _ refl refl refl refl (front_of_nothing _ _ _)
