-- What is answered to a line, by what it means.
use Rattle.std.proofs.Common.{◌≡◌, ℕ, List, Result, Ok, Err, IfOk, sym, subst}
use Rattle.std.specs.Global.{Vec}
use Rattle.book.specs.declared.NoMemory.{NoMemory}
use Rattle.live_desk.specs.State.{Live}
use Rattle.live_line.specs.declared.meaning.Meaning.{Meaning}
use Rattle.live.specs.Live.{IsAnswered, Manner}

-- this text answers what is meant
pub answered_by : (m : Manner) (meaning meant : Meaning) (reasons : List ℕ) (s after : Live) (t : List ℕ) (r : Result (Vec ℕ) NoMemory) → meaning ≡ meant
    → IsAnswered m meant reasons s t after → IfOk r (λ text. text.items ≡ t) → IfOk r (λ text. IsAnswered m meaning reasons s text.items after)
answered_by m meaning meant reasons s after t (Ok text) means answered is =
    subst (λ u. IsAnswered m u reasons s text.items after) (sym means) (subst (λ u. IsAnswered m meant reasons s u after) (sym is) answered)
answered_by m meaning meant reasons s after t (Err e) means answered is = tt
