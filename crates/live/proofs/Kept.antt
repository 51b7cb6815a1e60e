-- All lines that were answered are one history.
use Rattle.std.proofs.Common.{◌≡◌, ℕ, List, [], ◌∷◌, ◌++◌, sym, subst, refl}
use Rattle.rules.specs.RuleSet.{RuleSet}
use Rattle.desk.specs.declared.step.Step.TheVariants.{Count, Tick}
use Rattle.ledger.specs.Laws.{Follows, Line}
use Rattle.ledger.specs.State.{State}
use Rattle.ledger.proofs.Counting.{always_once}
use Rattle.live_desk.specs.State.{Live}
use Rattle.live_desk.proofs.History.{Goes, only_desk, pending_goes, taken_goes, the_same, turn_goes}
use Rattle.live_desk.proofs.OnlyDesk.{OnlyDesk, a_step, an_aside}
use Rattle.live.specs.Laws.{LinesAreKept}
use Rattle.live.specs.Live.{AreAnswered, IsAnswered, Manner, first_state, manner}
use Rattle.live_line.specs.Meaning.{meaning, reasons}
use Rattle.live_line.specs.declared.meaning.Meaning.{Meaning}
use Rattle.live_line.specs.declared.meaning.Meaning.TheVariants as means

-- what one line tells the ledger, and that each node of the desk keeps its name
pub answered_goes : (m : Manner) (what : Meaning) (reasons : List ℕ) (s next : Live) (text : List ℕ) → IsAnswered m what reasons s text next → Goes s next
answered_goes m (means.Tells event) reasons s next text (answer, taken, spelled) = taken_goes s next event answer taken
answered_goes m (means.Pending version pod) reasons s next text (taken, is, spelled) = pending_goes s next version pod taken is
answered_goes m (means.Aside uid) reasons s next text (spelled, is) = only_desk s next (subst (λ x. OnlyDesk s x) (sym is) (an_aside s uid))
answered_goes m (means.Tick now) reasons s next text (spelled, is) = only_desk s next (subst (λ x. OnlyDesk s x) (sym is) (a_step s (Tick now)))
answered_goes m means.Cycle reasons s next text (turn, is, spelled) = turn_goes m.rules s next turn is
answered_goes m (means.Explain uid) reasons s next text (told, is) = the_same s next is
answered_goes m means.Dump reasons s next text (spelled, is) = only_desk s next (subst (λ x. OnlyDesk s x) (sym is) (a_step s Count))
answered_goes m means.Nothing reasons s next text (spelled, is) = the_same s next is
answered_goes m (means.Faulty field) reasons s next text (spelled, is) = the_same s next is

-- one history behind another
both : (a b c : State) (first second : List Line) → Follows a first b → Follows b second c → Follows a (first ++ second) c
both a b c [] second one two = subst (λ s. Follows s second c) (sym one) two
both a b c (line ∷ first) second (next, told, one) two = (next, told, both next b c first second one two)

told_in : (m : Manner) (s : Live) (lines texts : List (List ℕ)) (state : Live) → AreAnswered m s lines texts state
    → (told : List Line) × Follows s.ledger told state.ledger
told_in m s [] [] state are = ([], subst (λ x. s.ledger ≡ x.ledger) are refl)
told_in m s [] (text ∷ texts) state are = absurd are
told_in m s (line ∷ lines) [] state are = absurd are
told_in m s (line ∷ lines) (text ∷ texts) state (next, answered, later) =
    let here = answered_goes m (meaning m.site line) (reasons m.site line) s next text answered in
    let behind = told_in m next lines texts state later in
    (here.lines ++ behind.0, both s.ledger next.ledger state.ledger here.lines behind.0 here.follows behind.1)

pub lines_are_kept : (rules : RuleSet) → LinesAreKept rules
lines_are_kept rules site named lines texts state are =
    let told = told_in (manner site rules named) first_state lines texts state are in record {
      history = record { told = told.0; follows = told.1 };
      once = always_once _ _ told.0 state.ledger told.1;
    }
