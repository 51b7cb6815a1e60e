use Rattle.std.proofs.Common.{◌≡◌, ℕ, ◌==◌, true, false, List, [], ◌∷◌, length, Ok, codes, refl, sym, ◌∙◌, arith, rules}
use Rattle.std.proofs.lemmas.Bool.Decides.{nat_tests}
use Rattle.serde_json.specs.Data.{Data}
use Rattle.serde_json.specs.View.{view}
use Rattle.objects.specs.Reading.{part_of}
use Rattle.objects.specs.Site.{Telling}
use Rattle.objects.specs.Told.{pod_told, node_name, by_node, waiting_told, bound_told}
use Rattle.objects.proofs.Faults.{refusal_first}
use Rattle.objects.proofs.told.pod_told.Goals as goal

-- a pod without a node waits, and one with a node stands there
waits : (how : Telling) (spec pod : Data) (node : List ℕ) → (length node == 0) ≡ true → by_node how spec pod node ≡ Ok (waiting_told how spec pod)
waits how spec pod [] e = refl
waits how spec pod (x ∷ more) e = absurd (grind (arith, nat_tests, e))

stands : (how : Telling) (spec pod : Data) (node : List ℕ) → (length node == 0) ≡ false → by_node how spec pod node ≡ bound_told how node spec pod
stands how spec pod [] e = absurd (grind (arith, nat_tests, e))
stands how spec pod (x ∷ more) e = refl

pub returns-then-has_ended : goal.returns-then-has_ended
unfolding pod_told
returns-then-has_ended c = λ whole. (whole, rw (← c.has_ended.ensures, c.if-has_ended.true, c.requires, c.gone_if.ensures) refl)

pub returns-in_err-spec : goal.returns-in_err-spec
unfolding pod_told
returns-in_err-spec c = λ whole. (
  whole,
  rw (← c.has_ended.ensures, c.if-has_ended.false)
      (refusal_first _ c.from_residual.result c.in_err-spec.field-0.0 (part_of (codes "spec") (view c.args.json.now)) _ (search rules) c.in_err-spec.ensures),
)

pub returns-in_err-node : goal.returns-in_err-node
unfolding pod_told
returns-in_err-node c = λ whole. (
  whole,
  rw (← c.has_ended.ensures, c.if-has_ended.false, c.in_ok-spec.ensures)
      (refusal_first _ c.from_residual-in_err-node.result c.in_err-node.field-0.0 (node_name (view c.in_ok-spec.spec.now)) _ (search rules) c.in_err-node.ensures),
)

pub returns-then-is_empty : goal.returns-then-is_empty
unfolding pod_told
returns-then-is_empty c =
    rw (← c.has_ended.ensures, c.if-has_ended.false, c.in_ok-spec.ensures, c.in_ok-node.ensures, waits _ _ _ c.in_ok-node.node.now (sym c.is_empty.ensures ∙ c.if-is_empty.true))
    c.waiting_told.ensures

pub returns-else-is_empty : goal.returns-else-is_empty
unfolding pod_told
returns-else-is_empty c =
    rw (← c.has_ended.ensures, c.if-has_ended.false, c.in_ok-spec.ensures, c.in_ok-node.ensures, stands _ _ _ c.in_ok-node.node.now (sym c.is_empty.ensures ∙ c.if-is_empty.false))
    c.bound_told.ensures
