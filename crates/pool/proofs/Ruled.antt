-- A rule that asks the same of each message that a channel holds, whoever sends and receives.
use Rattle.std.proofs.Common.{ℕ, List, [], ◌∷◌, ◌++◌}
use Rattle.std.specs.Bool.{⊤}
use Rattle.std.specs.List.{AllByRecursion}
use Rattle.crossbeam_channel.specs.Fifo.{Pushes, Pops, Learns}

pushed : {T : Type 0} (P : T → Type 0) (xs : List T) (x : T) → AllByRecursion P xs → P x → AllByRecursion P (xs ++ x ∷ [])
pushed P [] x all is = (is, tt)
pushed P (y ∷ ys) x all is = (all.0, pushed P ys x all.1 is)

module _ {T : Type 0} (P : T → Type 0) where
  -- each message is so
  abbrev pub EachIs : List T → List (Unit {0}) → Type 0
  EachIs items views = AllByRecursion P items

  -- a message that is so may be sent
  pub may_be_sent : (few pass : ℕ) (x : T) → P x → Pushes EachIs few pass tt x (λ w. P x)
  may_be_sent few pass x is = λ items views below all at. (tt, pushed P items x all is, is)

  -- and one that is received is so
  pub may_be_received : (pass : ℕ) → Pops EachIs pass tt (λ x w. P x)
  may_be_received pass = λ x items views all at. (tt, all.1, all.0)

  -- nothing is learned
  pub nothing_learned : (pass : ℕ) → Learns EachIs pass tt (λ items. ⊤)
  nothing_learned pass = λ items views all at. tt
