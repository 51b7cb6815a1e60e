-- What a step leaves.
use Rattle.std.proofs.Common.{◌≡◌, Result, Ok, Err}
use Rattle.book.specs.Cluster.{Cluster}
use Rattle.book.specs.Step.{IsTaken, refusal, effect, after}
use Rattle.book.specs.declared.refusal.Refusal.{Refusal}
use Rattle.book.specs.declared.step.ClusterStep.{ClusterStep}

-- what takes a step, or refuses it, leaves what is left after it
pub taken_after : {X : Type 0} (old : Cluster) (step : ClusterStep) (result : Result X Refusal) (new : Cluster) → IsTaken old step result new → new ≡ after old step
taken_after old step (Ok said) new taken = rw (taken.0, after) taken.1
taken_after old step (Err why) new taken = rw (taken.0, after) taken.1
