-- What is said of pieces, put together, and what that makes of the verdicts of one kit.
use Rattle.std.proofs.Common.{◌≡◌, ℕ, ◌+◌, ◌-◌, ◌<◌, ◌≤◌, List, [], ◌∷◌, ◌++◌, map, subst}
use Rattle.quant.specs.declared.objects.Pod.{Pod}
use Rattle.desk.specs.Shown.{Shown, shown}
use Rattle.desk.specs.declared.snapshot.Row.{Row}
use Rattle.rules.specs.RuleSet.{RuleSet}
use Rattle.choose.specs.declared.decision.Verdict.{Verdict}
use Rattle.choose.specs.declared.decision.Decision.{Decision}
use Rattle.choose.specs.Choice.{judged, IsChoice, Choice, AreVerdicts}
use Rattle.choose.proofs.Verdicts.{all_zip_append}
use Rattle.pieces.specs.Pieces.{nodes_of}
use Rattle.pool.specs.Speaking.{SpeaksFor}
use Rattle.pool.specs.inside.Speaking.{AreSaid}
use Rattle.pieces.proofs.Cutting.{nodes_of_both, nodes_of_all}

-- a kit's verdicts are said
pub are_said : (Says : Pod → Shown → Verdict → Type 0) (rules : RuleSet) (pod : Pod) → SpeaksFor Says rules → (nodes : List Shown) (verdicts : List Verdict) → AreVerdicts rules pod nodes verdicts → AreSaid Says pod nodes verdicts
are_said Says rules pod speaks [] [] are = tt
are_said Says rules pod speaks [] (v ∷ vs) are = absurd are
are_said Says rules pod speaks (x ∷ xs) [] are = absurd are
are_said Says rules pod speaks (x ∷ xs) (v ∷ vs) are = (speaks.says pod x v are.0, are_said Says rules pod speaks xs vs are.1)

-- and what is said are the kit's verdicts
pub said_are : (Says : Pod → Shown → Verdict → Type 0) (rules : RuleSet) (pod : Pod) → SpeaksFor Says rules → (nodes : List Shown) (verdicts : List Verdict) → AreSaid Says pod nodes verdicts → AreVerdicts rules pod nodes verdicts
said_are Says rules pod speaks [] [] are = tt
said_are Says rules pod speaks [] (v ∷ vs) are = absurd are
said_are Says rules pod speaks (x ∷ xs) [] are = absurd are
said_are Says rules pod speaks (x ∷ xs) (v ∷ vs) are = (speaks.has pod x v are.0, said_are Says rules pod speaks xs vs are.1)

-- what is said of the first piece and of those behind it is said of all of them
pub said_of_both : (Says : Pod → Shown → Verdict → Type 0) (pod : Pod) (nodes : List Shown) (pieces first many : ℕ) (vs ws : List Verdict) → 0 < pieces → 1 ≤ many →
    AreSaid Says pod (nodes_of nodes pieces first 1) vs → AreSaid Says pod (nodes_of nodes pieces (first + 1) (many - 1)) ws → AreSaid Says pod (nodes_of nodes pieces first many) (vs ++ ws)
said_of_both Says pod nodes pieces first many vs ws some within here there =
    subst (λ ns. AreSaid Says pod ns (vs ++ ws)) (nodes_of_both nodes pieces first many 1 some within)
    (all_zip_append (Says pod) (nodes_of nodes pieces first 1) vs (nodes_of nodes pieces (first + 1) (many - 1)) ws here there)

-- what is said of all pieces is said of all nodes
pub said_of_all : (Says : Pod → Shown → Verdict → Type 0) (pod : Pod) (nodes : List Shown) (pieces : ℕ) (vs : List Verdict) → 0 < pieces →
    AreSaid Says pod (nodes_of nodes pieces 0 pieces) vs → AreSaid Says pod nodes vs
said_of_all Says pod nodes pieces vs some are = subst (λ ns. AreSaid Says pod ns vs) (nodes_of_all nodes pieces some) are

-- the verdicts on the rows decide
pub choice_is : (rules : RuleSet) (rows : List Row) (nodes : List Shown) (pod : Pod) (verdicts : List Verdict) (decision : Decision) → map shown rows ≡ nodes →
    AreVerdicts rules pod nodes verdicts → IsChoice (judged (map shown rows) verdicts) decision → Choice rules nodes pod decision
choice_is rules rows nodes pod verdicts decision is are chosen = record {
  verdicts = verdicts;
  are = are;
  is = subst (λ ns. IsChoice (judged ns verdicts) decision) is chosen;
}
