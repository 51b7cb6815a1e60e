use Rattle.std.proofs.Common.{◌≡◌, ℕ, ◌<◌, ◌≤◌, List, length, map, get_or, sym, ◌∙◌, ap, subst}
use Rattle.std.proofs.lemmas.List.{with_items_is}
use Rattle.quant.specs.declared.objects.Pod.{Pod}
use Rattle.desk.specs.Shown.{Shown, shown}
use Rattle.desk.specs.declared.snapshot.Row.{Row}
use Rattle.rules.specs.RuleSet.{RuleSet}
use Rattle.choose.specs.declared.decision.Verdict.{Verdict}
use Rattle.choose.specs.Choice.{AreVerdicts}
use Rattle.choose.specs.Kits.{JudgeAlike}
use Rattle.pieces.specs.Pieces.{nodes_of, ArePieces}
use Rattle.pieces.proofs.Cutting.{all_pieces, nodes_of_all}
use Rattle.pool.proofs.Collecting.{choice_is}
use Rattle.fleet.proofs.fleet.Fleet.decide.Goals as goal

-- as many pieces as there are kits have all the places
all_of : (nodes pieces kits places : ℕ) → pieces ≡ kits → places ≡ nodes → 0 < kits → kits ≤ 64 → ArePieces nodes pieces 0 kits places
all_of nodes pieces kits places each all some few =
    subst (λ p. ArePieces nodes p 0 kits places) (sym each) (subst (λ w. ArePieces nodes kits 0 kits w) (sym all) (all_pieces nodes kits some few))

-- what is so of the pieces by each of the kits is so of all nodes
by_each : {Kit : Type 0} (answers : Kit → RuleSet) (kits mine : List Kit) (rows : List Row) (nodes : List Shown) (pod : Pod) (pieces : ℕ) (made kept : List Verdict)
    → mine ≡ kits → map shown rows ≡ nodes → pieces ≡ length mine → 0 < length mine → kept ≡ made
    → ((k : ℕ) (d : Kit) → k < length mine → AreVerdicts (answers (get_or mine k d)) pod (map shown (nodes_of rows pieces 0 (length mine))) made)
    → (k : ℕ) (d : Kit) → k < length kits → AreVerdicts (answers (get_or kits k d)) pod nodes kept
by_each answers kits mine rows nodes pod pieces made kept same seen each some whole are k d below =
    let there : k < length mine = subst (λ ks. k < length ks) (sym same) below in
    let all : nodes_of rows pieces 0 (length mine) ≡ rows = subst (λ n. nodes_of rows n 0 (length mine) ≡ rows) (sym each) (nodes_of_all rows (length mine) some) in
    subst (λ vs. AreVerdicts (answers (get_or kits k d)) pod nodes vs) (sym whole)
    (subst (λ ns. AreVerdicts (answers (get_or kits k d)) pod ns made) seen
    (subst (λ ks. AreVerdicts (answers (get_or ks k d)) pod (map shown rows) made) same
    (subst (λ ns. AreVerdicts (answers (get_or mine k d)) pod (map shown ns) made) all (are k d there))))

pub judge_pieces-requires-clause-pieces : goal.judge_pieces-requires-clause-pieces
judge_pieces-requires-clause-pieces g c κs _ =
    all_of _ _ _ _ (c.len.ensures ∙ sym c.as_mut_slice.ensures.len) (c.as_mut_slice-2.ensures.len ∙ c.in_ok-resize.ensures.len)
    (subst (λ ks. 0 < length ks) (sym c.as_mut_slice.ensures.value) c.self.invariant.0)
    (subst (λ ks. length ks ≤ 64) (sym c.as_mut_slice.ensures.value) c.self.invariant.1)

pub judge_pieces-requires-clause-alike : goal.judge_pieces-requires-clause-alike
judge_pieces-requires-clause-alike g c κs _ = subst (JudgeAlike g.K.Rules.answers) (sym c.as_mut_slice.ensures.value) c.self.invariant.2

-- the kits are those that were there
pub invariant_of-self-2 : goal.invariant_of-self-2
invariant_of-self-2 g c =
    let stay = c.judge_pieces.ensures.stay in
    subst (λ ks. (0 < length ks) × (length ks ≤ 64) × JudgeAlike g.K.Rules.answers ks)
    (sym (with_items_is c.self.inside.kits c.judge_pieces.new.kits (ap length stay ∙ c.as_mut_slice.ensures.len) ∙ stay ∙ c.as_mut_slice.ensures.value))
    c.self.invariant

pub returns-clause-kits : goal.returns-clause-kits
returns-clause-kits g c =
    let stay = c.judge_pieces.ensures.stay in
    with_items_is c.self.inside.kits c.judge_pieces.new.kits (ap length stay ∙ c.as_mut_slice.ensures.len) ∙ stay ∙ c.as_mut_slice.ensures.value ∙ ap (λ t. t.kits) c.self.view_is

pub returns-clause-chosen : goal.returns-clause-chosen
returns-clause-chosen g c = λ k d below.
    let pieces : c.len.result ≡ length c.as_mut_slice.result.now = c.len.ensures ∙ sym c.as_mut_slice.ensures.len in
    let whole = c.as_slice.ensures.value ∙ with_items_is c.resize.new.self c.judge_pieces.new.verdicts (c.judge_pieces.auto.verdicts ∙ c.as_mut_slice-2.ensures.len) in
    choice_is _ c.rows-rows.result.now c.args.snapshot.now c.args.pod.now c.as_slice.result.now _ c.rows-rows.ensures
    (by_each g.K.Rules.answers c.args.self.now.kits c.as_mut_slice.result.now c.rows-rows.result.now c.args.snapshot.now c.args.pod.now c.len.result c.judge_pieces.new.verdicts c.as_slice.result.now
    (c.as_mut_slice.ensures.value ∙ ap (λ t. t.kits) c.self.view_is) c.rows-rows.ensures pieces (subst (λ ks. 0 < length ks) (sym c.as_mut_slice.ensures.value) c.self.invariant.0) whole c.judge_pieces.ensures.are k d below)
    c.decide.ensures

pub returns-clause-judged : goal.returns-clause-judged
returns-clause-judged g c =
    let pieces : c.len.result ≡ length c.as_mut_slice.result.now = c.len.ensures ∙ sym c.as_mut_slice.ensures.len in
    by_each g.K.Rules.answers c.args.self.now.kits c.as_mut_slice.result.now c.rows-rows.result.now c.args.snapshot.now c.args.pod.now c.len.result c.judge_pieces.new.verdicts _
    (c.as_mut_slice.ensures.value ∙ ap (λ t. t.kits) c.self.view_is) c.rows-rows.ensures pieces (subst (λ ks. 0 < length ks) (sym c.as_mut_slice.ensures.value) c.self.invariant.0)
    (with_items_is c.resize.new.self c.judge_pieces.new.verdicts (c.judge_pieces.auto.verdicts ∙ c.as_mut_slice-2.ensures.len)) c.judge_pieces.ensures.are
